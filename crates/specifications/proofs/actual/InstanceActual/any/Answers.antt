use Rattle.std.proofs.Common.{ap}
use Rattle.ada_rules.specs.Types.{integer, integer_type, of_type, range_in}
use Rattle.ada_rules.specs.Entities.{type_actual}
use Rattle.specifications.proofs.actual.InstanceActual.any.Goals as goal

pub returns : goal.returns
returns c k = ap (λ r. type_actual (of_type (integer_type integer) r)) (ap range_in (c.integer.ensures k.types))
