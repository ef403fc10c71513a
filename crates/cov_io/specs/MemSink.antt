-- What a sink in memory has taken, and what it was made with.
use Rattle.std.specs.Prelude.{ℕ, List, vec_capacity}
use Rattle.cov_io.specs.declared.mem_sink.MemSink.{MemSink}

-- all that the sink has taken
abbrev pub taken_by : MemSink → List ℕ
taken_by sink = sink.bytes.items

-- how many bytes the sink takes in all
abbrev pub room_of : MemSink → ℕ
room_of sink = vec_capacity sink.bytes

-- the numbers of the puts that are to fail
abbrev pub failing_puts : MemSink → List ℕ
failing_puts sink = sink.plan.failing.items
