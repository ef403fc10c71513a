use Rattle.unit_walk.proofs.EnteringLaws.{left}
use Rattle.unit_walk.proofs.entering.leave_unit.Goals as goal

pub returns-clause-left : goal.returns-clause-left
returns-clause-left c = left c.args.symbols.now c.close-text.new.self c.close.new.self c.close-text.ensures.closed c.close.ensures.closed
