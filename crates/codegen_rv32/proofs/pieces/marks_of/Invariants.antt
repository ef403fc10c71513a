use Rattle.std.proofs.Common.{◌≡◌, ◌++◌, drop}
use Rattle.kernel_code.specs.Line.{marks_from}
use Rattle.kernel_code.specs.View.{lines_of}
use Rattle.codegen_rv32.proofs.pieces.marks_of.Given as goal

-- the marks so far and those to come are all
abbrev pub invariant-loop-line : goal.invariant-loop-line
invariant-loop-line l = l.marks.items ++ marks_from l.place (lines_of (drop l.line-index l.lines)) ≡ marks_from 0 (lines_of l.fn.lines)
