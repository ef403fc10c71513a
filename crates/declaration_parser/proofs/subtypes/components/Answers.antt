use Rattle.expression_parser.specs.declared.symbol.Symbol.TheVariants as symbol
use Rattle.expression_parser.specs.Symbols.{same}
use Rattle.ada_syntax.specs.declared.declaration.Component.{Component}
use Rattle.declaration_parser.specs.SubtypeReading as read
use Rattle.expression_parser.specs.Shows.{More, next_is}
use Rattle.std.proofs.Common.{◌≡◌, true, List, subst, rules, arith}
use Rattle.declaration_parser.proofs.SubtypeCode.{components_step, components_rules}
use Rattle.declaration_parser.proofs.subtypes.components.Goals as goal

pub rest-init : goal.rest-init
rest-init c = grind (arith, components_rules)

pub rest-preserved : goal.rest-preserved
rest-preserved c =
    let x = c.args.parser.extent in
    let b : next_is (λ s. same s symbol.Identifier) c.rest.rest.now ≡ true = search rules in
    record {
      reads = λ q f.
          c.rest.invariant.reads q
          (components_step x c.rest.rest.now c.in_ok-component.next.now c.rest.components.items c.in_ok-component.component b c.in_ok-component.ensures.reads c.in_ok-component.ensures.shorter q
          (subst (λ (z : List Component). More (read.components_turn x) c.in_ok-component.next.now z q) c.in_ok-push-2.ensures.items f));
      shorter = omega (arith, c.rest.invariant.shorter, c.in_ok-component.ensures.shorter);
    }

pub rest-smaller : goal.rest-smaller
rest-smaller c = omega (arith, c.in_ok-component.ensures.shorter)

pub returns-clause-reads : goal.returns-clause-reads
returns-clause-reads c = grind (arith, components_rules)

pub returns-clause-shorter : goal.returns-clause-shorter
returns-clause-shorter c = grind (arith, components_rules)

pub returns-in_err-component-clause-reads : goal.returns-in_err-component-clause-reads
returns-in_err-component-clause-reads c = grind (arith, components_rules)

pub returns-in_err-component-clause-shorter : goal.returns-in_err-component-clause-shorter
returns-in_err-component-clause-shorter c = grind (arith, components_rules)

pub returns-in_err-first-clause-reads : goal.returns-in_err-first-clause-reads
returns-in_err-first-clause-reads c = grind (arith, components_rules)

pub returns-in_err-push-2-clause-reads : goal.returns-in_err-push-2-clause-reads
returns-in_err-push-2-clause-reads c = grind (arith, components_rules)

pub returns-in_err-push-2-clause-shorter : goal.returns-in_err-push-2-clause-shorter
returns-in_err-push-2-clause-shorter c = grind (arith, components_rules)

pub returns-in_err-push-clause-reads : goal.returns-in_err-push-clause-reads
returns-in_err-push-clause-reads c = grind (arith, components_rules)
