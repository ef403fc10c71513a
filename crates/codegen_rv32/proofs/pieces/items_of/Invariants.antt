use Rattle.std.proofs.Common.{◌≡◌, ◌++◌, drop}
use Rattle.kernel_code.specs.Line.{items_of}
use Rattle.kernel_code.specs.View.{lines_of}
use Rattle.codegen_rv32.proofs.pieces.items_of.Given as goal

-- the items so far and those to come are all
abbrev pub invariant-loop-line : goal.invariant-loop-line
invariant-loop-line l = l.items.items ++ items_of (lines_of (drop l.line-index l.lines)) ≡ items_of (lines_of l.fn.lines)
