use Rattle.std.proofs.Common.{rules}
use Rattle.ada_entities.proofs.routines.Routines.add.Goals as goal

pub returns : goal.returns
returns c = search rules
