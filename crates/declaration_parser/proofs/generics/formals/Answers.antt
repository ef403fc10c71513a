use Rattle.ada_syntax.specs.declared.unit.Formal.{Formal}
use Rattle.declaration_parser.specs.FormalReading as read
use Rattle.expression_parser.specs.Shows.{More, next_is}
use Rattle.std.proofs.Common.{◌≡◌, true, List, subst, rules, arith}
use Rattle.declaration_parser.proofs.FormalCode.{formals_step, formals_rules}
use Rattle.declaration_parser.proofs.generics.formals.Goals as goal

pub returns-in_err-formal-clause-reads : goal.returns-in_err-formal-clause-reads
returns-in_err-formal-clause-reads c = grind (arith, formals_rules)

pub rest-preserved : goal.rest-preserved
rest-preserved c =
    let x = c.args.parser.extent in
    let b : next_is read.begins_formal c.rest.rest.now ≡ true = search rules in
    record {
      reads = λ q f.
          c.rest.invariant.reads q
          (formals_step x c.rest.rest.now c.in_ok-formal.next.now c.rest.formals.items c.in_ok-formal.formal b c.in_ok-formal.ensures.reads c.in_ok-formal.ensures.shorter q
          (subst (λ (z : List Formal). More (read.formals_turn x) c.in_ok-formal.next.now z q) c.in_ok-push.ensures.items f));
      shorter = omega (arith, c.rest.invariant.shorter, c.in_ok-formal.ensures.shorter);
    }

pub rest-init : goal.rest-init
rest-init c = grind (arith, formals_rules)

pub returns-clause-reads : goal.returns-clause-reads
returns-clause-reads c = grind (arith, formals_rules)

pub rest-smaller : goal.rest-smaller
rest-smaller c = omega (arith, c.in_ok-formal.ensures.shorter)
