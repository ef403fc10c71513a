use Rattle.spelling.specs.Laws.{one_spelling}
use Rattle.spelling.proofs.format.one_spelling.Goals as goal

pub returns : goal.returns
returns g c = one_spelling g.T.Formatted.format g.T.Formatted.is_format
