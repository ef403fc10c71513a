use Rattle.statement_code.proofs.Once.{rows_once, conditions_once, nodes_once, nodes_weigh}
use Rattle.statement_code.proofs.Places.{body_at_place, place_is}
use Rattle.statement_code.proofs.laws.bodies_are_listed_once.Goals as goal

pub returns : goal.returns
returns c = record { found = body_at_place; only = place_is; rows = rows_once; conditions = conditions_once; nodes = nodes_once; weights = nodes_weigh }
