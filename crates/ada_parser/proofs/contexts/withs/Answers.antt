use Rattle.ada_parser.specs.UnitReading as read
use Rattle.ada_parser.proofs.Parts.{part_fails}
use Rattle.expression_parser.specs.Reading.{Got, Stuck}
use Rattle.std.proofs.lemmas.Result.{err_from_is_err_and}
use Rattle.std.proofs.Common.{List, length, ap, sym, subst, arith}
use Rattle.ada_syntax.specs.declared.unit.WithClause.{WithClause}
use Rattle.expression_parser.specs.declared.symbol.Symbol.TheVariants as symbol
use Rattle.expression_parser.specs.Shows.{More, Reads}
use Rattle.expression_parser.proofs.NameCode.{after_some}
use Rattle.ada_parser.proofs.ContextCode.{with_turns, withs_step, withs_rules, withs_step_fail, withs_end}
use Rattle.ada_parser.proofs.contexts.withs.Goals as goal

pub loop-after-preserved : goal.loop-after-preserved
loop-after-preserved c = record {
  reads = λ q f.
      c.loop-after.invariant.reads q
      (withs_step c.loop-after.rest.now c.in-Some.after.now c.in_ok-clause.next.now c.loop-after.withs.items c.in_ok-clause.clause (sym c.in-Some.ensures) c.in_ok-clause.ensures.reads c.in_ok-clause.ensures.shorter q
      (subst (λ (z : List WithClause). More with_turns c.in_ok-clause.next.now z q) c.in_ok-push.ensures.items f));
  shorter = omega (arith, c.loop-after.invariant.shorter, c.in_ok-clause.ensures.shorter, ap length (after_some symbol.With c.loop-after.rest.now c.in-Some.after.now (sym c.in-Some.ensures)).here);
}

pub loop-after-init : goal.loop-after-init
loop-after-init c = grind (arith, withs_rules)

pub returns-clause-reads : goal.returns-clause-reads
returns-clause-reads c =
    let ws = c.loop-after.withs.items in
    let rest = c.loop-after.rest.now in
    c.loop-after.invariant.reads (Got ws rest) (withs_end rest ws (sym c.in_default.ensures))

pub returns-in_err-clause-clause-reads : goal.returns-in_err-clause-clause-reads
returns-in_err-clause-clause-reads c =
    let us = c.in-Some.after.now in
    let p = err_from_is_err_and c.from_residual.result c.from_residual.ensures.1 in
    rw (p.1, p.2) (part_fails (Reads read.with_by us) (Reads read.withs_by c.args.tokens.now) c.in_err-clause.field-0.0 c.in_err-clause.ensures.reads
    (λ rest h. c.loop-after.invariant.reads (Stuck rest) (withs_step_fail c.loop-after.rest.now us rest c.loop-after.withs.items (sym c.in-Some.ensures) h)))

pub loop-after-smaller : goal.loop-after-smaller
loop-after-smaller c = omega (arith, c.in_ok-clause.ensures.shorter, ap length (after_some symbol.With c.loop-after.rest.now c.in-Some.after.now (sym c.in-Some.ensures)).here)
