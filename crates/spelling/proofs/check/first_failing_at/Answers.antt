use Rattle.std.proofs.Common.{None, sym, ◌∙◌}
use Rattle.spelling.specs.Checks.{first_failing}
use Rattle.spelling.proofs.Failing.{fails_here, goes_by}
use Rattle.spelling.proofs.check.first_failing_at.Goals as goal

pub returns-then-not-passes-clause-first : goal.returns-then-not-passes-clause-first
returns-then-not-passes-clause-first g c = sym (fails_here g.C.Check.passes c.loop-at.before c.args.entries.now c.loop-at.at c.get-entry.result (first_failing g.C.Check.passes None 0 c.args.entries.now) c.get-entry.ensures (sym c.passes.ensures ∙ c.if-not-passes.true) c.loop-at.invariant)

pub loop-at-preserved : goal.loop-at-preserved
loop-at-preserved g c = goes_by g.C.Check.passes c.loop-at.before c.args.entries.now c.loop-at.at c.get-entry.result (first_failing g.C.Check.passes None 0 c.args.entries.now) c.get-entry.ensures (sym c.passes.ensures ∙ c.if-not-passes.false) c.loop-at.invariant
