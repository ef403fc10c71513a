use Rattle.object_format.proofs.FileLaws.{one_object}
use Rattle.object_format.proofs.structure.one_object.Goals as goal

pub returns : goal.returns
returns c = one_object
