use Rattle.legal_programs.proofs.PlacedUnits.{labels_placed}
use Rattle.legal_programs.proofs.obligations_stand_in_the_text.Goals as goal

pub returns : goal.returns
returns c = λ l main p is. labels_placed l main p is
