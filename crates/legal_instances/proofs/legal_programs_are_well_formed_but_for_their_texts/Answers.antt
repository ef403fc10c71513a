use Rattle.legal_instances.proofs.WellFormedTexts.{legal_formed}
use Rattle.legal_instances.proofs.legal_programs_are_well_formed_but_for_their_texts.Goals as goal

pub returns : goal.returns
returns c = λ units main p h rise statements decisions formed. legal_formed units main p h rise statements decisions formed
