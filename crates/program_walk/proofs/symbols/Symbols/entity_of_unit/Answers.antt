use Rattle.program_walk.proofs.symbols.Symbols.entity_of_unit.Goals as goal

pub returns : goal.returns
returns c k w h = c.entity.ensures k h.actuals w h.interfaces
