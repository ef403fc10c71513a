use Rattle.legal_programs.proofs.MadeUnits.{all_bodies_in_turn}
use Rattle.legal_programs.proofs.units_make_subprograms_in_turn.Goals as goal

pub returns : goal.returns
returns c = λ l w s n us. all_bodies_in_turn l w s n us
