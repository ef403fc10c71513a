use Rattle.spelling.specs.Laws.{one_value}
use Rattle.spelling.proofs.format.one_value.Goals as goal

pub returns : goal.returns
returns g c = one_value g.T.Formatted.format g.T.Formatted.is_format
