use Rattle.std.proofs.Common.{rules}
use Rattle.cov_io.proofs.mem_sink.MemSinkSink.put.Goals as goal

pub returns-then-fails_next : goal.returns-then-fails_next
returns-then-fails_next c = search rules

pub returns-then-fitting-bytes : goal.returns-then-fitting-bytes
returns-then-fitting-bytes c = search rules
