use Rattle.std.proofs.Common.{rules}
use Rattle.cov_io.proofs.mem_files.MemFilesFiles.write.Goals as goal

pub returns-then-fails_next : goal.returns-then-fails_next
returns-then-fails_next c = search rules

pub returns : goal.returns
returns c = search rules
