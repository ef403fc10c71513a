use Rattle.program_objects.proofs.UnitLaws.{no_units}
use Rattle.program_objects.proofs.units.refused_sources_have_no_units.Goals as goal

pub returns : goal.returns
returns c = no_units
