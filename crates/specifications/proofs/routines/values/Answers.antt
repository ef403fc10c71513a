use Rattle.std.proofs.Common.{ap}
use Rattle.ada_rules.specs.Types.{range_in}
use Rattle.ada_rules.specs.Statics.{within}
use Rattle.specifications.proofs.routines.values.Goals as goal

pub returns-in-None : goal.returns-in-None
returns-in-None c k = rw c.in-None.is (ap (λ t. within (range_in t)) (c.integer.ensures k.types))
