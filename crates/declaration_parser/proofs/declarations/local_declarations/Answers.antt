use Rattle.ada_syntax.specs.declared.declaration.Declaration.{Declaration}
use Rattle.declaration_parser.specs.DeclarationReading as read
use Rattle.expression_parser.specs.Shows.{More, next_is}
use Rattle.std.proofs.Common.{◌≡◌, true, List, subst, rules, arith}
use Rattle.declaration_parser.proofs.DeclarationCode.{declarations_step, declarations_rules}
use Rattle.declaration_parser.proofs.declarations.local_declarations.Goals as goal

pub rest-preserved : goal.rest-preserved
rest-preserved c =
    let x = c.args.parser.extent in
    let b : next_is read.begins_declaration c.rest.rest.now ≡ true = search rules in
    record {
      reads = λ q f.
          c.rest.invariant.reads q
          (declarations_step x c.rest.rest.now c.in_ok-declaration.next.now c.rest.declarations.items c.in_ok-declaration.declaration b c.in_ok-declaration.ensures.reads c.in_ok-declaration.ensures.shorter q
          (subst (λ (z : List Declaration). More (read.declarations_turn x) c.in_ok-declaration.next.now z q) c.in_ok-push.ensures.items f));
      shorter = omega (arith, c.rest.invariant.shorter, c.in_ok-declaration.ensures.shorter);
    }

pub returns-clause-reads : goal.returns-clause-reads
returns-clause-reads c = grind (arith, declarations_rules)

pub returns-in_err-declaration-clause-reads : goal.returns-in_err-declaration-clause-reads
returns-in_err-declaration-clause-reads c = grind (arith, declarations_rules)

pub rest-init : goal.rest-init
rest-init c = grind (arith, declarations_rules)

pub rest-smaller : goal.rest-smaller
rest-smaller c = omega (arith, c.in_ok-declaration.ensures.shorter)
