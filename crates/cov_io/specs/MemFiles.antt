-- What files in memory hold, and which of their calls are to fail.
use Rattle.std.specs.Prelude.{ℕ, List}
use Rattle.cov_io.specs.declared.mem_files.MemFiles.{MemFiles}
use Rattle.cov_io.specs.Outside.{Held}

-- all that the files hold
abbrev pub held_by : MemFiles → Held
held_by files = files.contents

-- the numbers of the reads and writes that are to fail
abbrev pub failing_calls : MemFiles → List ℕ
failing_calls files = files.plan.failing.items
