use Rattle.object_format.proofs.WriteLaws.{can_be_written}
use Rattle.object_format.proofs.write.what_is_read_can_be_written.Goals as goal

pub returns : goal.returns
returns c = can_be_written
