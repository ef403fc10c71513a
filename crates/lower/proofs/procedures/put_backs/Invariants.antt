-- what is left to put, behind what was put, is the whole
use Rattle.std.proofs.Common.{◌≡◌, ◌+◌, drop}
use Rattle.ada_tree.specs.Programs.{target_of}
use Rattle.ada_tree.specs.View.{actuals_of}
use Rattle.kernel_ir.specs.Sequence.{joined}
use Rattle.lower.specs.Context.{parameters_for}
use Rattle.lower.specs.Procedures.{backs_for}
use Rattle.lower.proofs.procedures.put_backs.Given as goal

abbrev pub invariant-loop-place : goal.invariant-loop-place
invariant-loop-place l =
    (joined l.code (backs_for l.context l.at l.place (drop l.place (parameters_for l.context (target_of l.fn.target))) (actuals_of (drop l.place l.actuals)))
    ≡ joined l.fn.code (backs_for l.fn.context l.fn.slot 0 (parameters_for l.fn.context (target_of l.fn.target)) (actuals_of l.fn.actuals)))
    × (l.from ≡ l.context.width + l.place)
