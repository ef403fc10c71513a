-- what is left to put, behind what was put, is the whole
use Rattle.std.proofs.Common.{◌≡◌, ◌+◌, drop}
use Rattle.ada_tree.specs.View.{actuals_of}
use Rattle.kernel_ir.specs.Sequence.{joined}
use Rattle.statement_code.specs.Values.{moves_code}
use Rattle.lower.proofs.calls.put_moves.Given as goal

abbrev pub invariant-loop-actual : goal.invariant-loop-actual
invariant-loop-actual l =
    (joined l.code (moves_code l.width l.behind l.actual-index (actuals_of (drop l.actual-index l.actuals))) ≡ joined l.fn.code (moves_code l.fn.width l.fn.from 0 (actuals_of l.fn.actuals)))
    × (l.to ≡ l.width + l.actual-index)
