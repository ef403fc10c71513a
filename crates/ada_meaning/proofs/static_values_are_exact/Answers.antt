use Rattle.ada_meaning.proofs.StaticValues.{value_exact, bounds_exact}
use Rattle.ada_meaning.proofs.static_values_are_exact.Goals as goal

pub returns : goal.returns
returns c = record { values = value_exact; bounds = bounds_exact }
