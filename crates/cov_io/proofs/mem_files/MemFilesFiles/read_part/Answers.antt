use Rattle.std.proofs.Common.{rules}
use Rattle.cov_io.proofs.mem_files.MemFilesFiles.read_part.Goals as goal

pub returns-in_default : goal.returns-in_default
returns-in_default c = search rules

pub returns-then-fails : goal.returns-then-fails
returns-then-fails c = search rules

pub returns-in_err-extend_from_slice : goal.returns-in_err-extend_from_slice
returns-in_err-extend_from_slice c = search rules

pub returns : goal.returns
returns c = search rules
