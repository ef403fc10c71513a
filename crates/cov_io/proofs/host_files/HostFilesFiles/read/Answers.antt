use Rattle.std.proofs.Common.{rules}
use Rattle.cov_io.proofs.host_files.HostFilesFiles.read.Goals as goal

pub returns : goal.returns
returns g c = search rules
