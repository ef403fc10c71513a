use Rattle.std.proofs.Common.{ap}
use Rattle.cov_base.specs.declared.obligations.Obligations.{Obligations}
use Rattle.program_objects.proofs.building.all_obligations.Goals as goal

pub returns : goal.returns
returns c = ap (λ (ob : Obligations). record ob { regions = c.args.regions }) c.in_ok-obligations.ensures
