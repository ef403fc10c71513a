use Rattle.std.proofs.Common.{rules}
use Rattle.ada_entities.proofs.regions.Regions.redefine.Goals as goal

pub returns : goal.returns
returns c = search rules
