use Rattle.program_walk.proofs.ChangeLaws.{fresh}
use Rattle.program_walk.proofs.symbols.Symbols.new.Goals as goal

pub returns : goal.returns
returns c = fresh _ c.args.units c.in_ok-types.ensures c.in_ok-routines.ensures c.new-5.ensures c.in_ok-units.ensures c.in_ok-extent.ensures
