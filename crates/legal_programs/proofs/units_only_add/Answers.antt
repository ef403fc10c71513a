use Rattle.legal_programs.proofs.ExtendingUnits.{interfaces_add, all_bodies_add}
use Rattle.legal_programs.proofs.units_only_add.Goals as goal

pub returns-clause-interfaces : goal.returns-clause-interfaces
returns-clause-interfaces c = λ step l x ns. interfaces_add step l x ns

pub returns-clause-bodies : goal.returns-clause-bodies
returns-clause-bodies c = λ step l w s n us h. all_bodies_add step l w s n us h
