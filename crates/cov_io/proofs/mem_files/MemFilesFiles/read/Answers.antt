use Rattle.std.proofs.Common.{rules}
use Rattle.cov_io.proofs.mem_files.MemFilesFiles.read.Goals as goal

pub returns-in_default : goal.returns-in_default
returns-in_default c = search rules

pub returns-then-fails : goal.returns-then-fails
returns-then-fails c = search rules

pub returns : goal.returns
returns c = search rules
