use Rattle.program_walk.proofs.ChangeLaws.{on_ok}
use Rattle.unit_walk.proofs.EnteringLaws.{entered}
use Rattle.unit_walk.proofs.entering.enter_unit.Goals as goal

pub returns : goal.returns
returns c =
    on_ok c.reopen-2.result _ _
    (entered c.args.walk.now c.reopen.new.self c.reopen-2.new.self c.args.seen c.args.text c.new.result c.new.ensures.items
    c.in_ok-reopen.ensures)
    c.reopen-2.ensures
