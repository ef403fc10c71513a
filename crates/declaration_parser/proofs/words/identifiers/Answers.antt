use Rattle.expression_parser.specs.Reading.{Got}
use Rattle.std.proofs.Common.{List, length, ap, sym, subst, arith}
use Rattle.ada_syntax.specs.declared.name.Identifier.{Identifier}
use Rattle.expression_parser.specs.declared.symbol.Symbol.TheVariants as symbol
use Rattle.declaration_parser.specs.Identifiers as read
use Rattle.expression_parser.specs.Shows.{More}
use Rattle.expression_parser.proofs.NameCode.{after_some}
use Rattle.declaration_parser.proofs.WordCode.{identifiers_step, identifiers_end, identifiers_rules}
use Rattle.declaration_parser.proofs.words.identifiers.Goals as goal

pub loop-after-preserved : goal.loop-after-preserved
loop-after-preserved c = record {
  reads = λ q f.
      c.loop-after.invariant.reads q
      (identifiers_step c.loop-after.rest.now c.in-Some.after.now c.in_ok-identifier.next.now c.loop-after.identifiers.items c.in_ok-identifier.identifier (sym c.in-Some.ensures) c.in_ok-identifier.ensures q
      (subst (λ (z : List Identifier). More read.identifiers_turns c.in_ok-identifier.next.now z q) c.in_ok-push-2.ensures.items f));
  shorter = omega (arith, c.loop-after.invariant.shorter, c.in_ok-identifier.ensures.shorter, ap length (after_some symbol.Comma c.loop-after.rest.now c.in-Some.after.now (sym c.in-Some.ensures)).here);
}

pub loop-after-init : goal.loop-after-init
loop-after-init c = grind (arith, identifiers_rules)

pub loop-after-smaller : goal.loop-after-smaller
loop-after-smaller c = omega (arith, c.in_ok-identifier.ensures.shorter, ap length (after_some symbol.Comma c.loop-after.rest.now c.in-Some.after.now (sym c.in-Some.ensures)).here)

pub returns-clause-reads : goal.returns-clause-reads
returns-clause-reads c =
    let is = c.loop-after.identifiers.items in
    let rest = c.loop-after.rest.now in
    c.loop-after.invariant.reads (Got is rest) (identifiers_end rest is (sym c.in_default.ensures))

pub returns-clause-shorter : goal.returns-clause-shorter
returns-clause-shorter c = grind (arith, identifiers_rules)

pub returns-in_err-first-clause-reads : goal.returns-in_err-first-clause-reads
returns-in_err-first-clause-reads c = grind (arith, identifiers_rules)

pub returns-in_err-identifier-clause-reads : goal.returns-in_err-identifier-clause-reads
returns-in_err-identifier-clause-reads c = grind (arith, identifiers_rules)

pub returns-in_err-identifier-clause-shorter : goal.returns-in_err-identifier-clause-shorter
returns-in_err-identifier-clause-shorter c = grind (arith, identifiers_rules)

pub returns-in_err-push-2-clause-reads : goal.returns-in_err-push-2-clause-reads
returns-in_err-push-2-clause-reads c = grind (arith, identifiers_rules)

pub returns-in_err-push-2-clause-shorter : goal.returns-in_err-push-2-clause-shorter
returns-in_err-push-2-clause-shorter c = grind (arith, identifiers_rules)

pub returns-in_err-push-clause-reads : goal.returns-in_err-push-clause-reads
returns-in_err-push-clause-reads c = grind (arith, identifiers_rules)
