use Rattle.std.proofs.Common.{◌≡◌, ◌++◌, map, drop}
use Rattle.kernel_code.specs.Line.{plain}
use Rattle.kernel_code.proofs.emitter.Emitter.straight.Given as goal

-- the lines so far and those to come are all
abbrev pub invariant-loop-instr : goal.invariant-loop-instr
invariant-loop-instr l = l.self ++ map plain (drop l.instr-index l.instrs) ≡ l.fn.self ++ map plain l.instrs
