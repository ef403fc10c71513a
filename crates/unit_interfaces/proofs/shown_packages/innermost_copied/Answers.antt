use Rattle.unit_walk.proofs.BetweenLaws.{reopened_innermost}
use Rattle.unit_interfaces.proofs.shown_packages.innermost_copied.Goals as goal

pub returns-clause-kept : goal.returns-clause-kept
returns-clause-kept c known =
    reopened_innermost c.args.symbols.now c.close-region.new.self c.reopen.new.self c.close-region.result known c.close-region.ensures.region c.close-region.ensures.closed
    c.in_ok-reopen.ensures
