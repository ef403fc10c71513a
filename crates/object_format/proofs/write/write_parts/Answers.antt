use Rattle.std.proofs.Common.{rules}
use Rattle.object_format.proofs.write.write_parts.Goals as goal

pub returns : goal.returns
returns c = search rules
