use Rattle.std.proofs.Common.{◌≡◌, take}
use Rattle.condition_graph.specs.Reading.{state_of, started, read_down}
use Rattle.condition_graph.proofs.reading.Reading.of.Given as goal

-- the bytes before `at` are still to be read
abbrev pub invariant-loop-at : goal.invariant-loop-at
invariant-loop-at l = read_down (take l.at l.bytes) (state_of l.reading) ≡ read_down l.bytes started
