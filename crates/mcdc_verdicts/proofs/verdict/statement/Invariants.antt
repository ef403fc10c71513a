use Rattle.std.proofs.Common.{◌↔◌, drop}
use Rattle.decision_meaning.specs.Verdict.{IsStarted}
use Rattle.mcdc_verdicts.proofs.verdict.statement.Given as goal

-- the statement is among those that are left exactly where it is among all
abbrev pub invariant-loop-s : goal.invariant-loop-s
invariant-loop-s l = IsStarted (drop l.s-index l.started) l.stmt ↔ IsStarted l.fn.started l.fn.stmt
