use Rattle.legal_texts.proofs.BodyNumbers.{bodies_numbered}
use Rattle.legal_texts.proofs.bodies_have_numbers_of_their_own.Goals as goal

pub returns : goal.returns
returns c = λ l main p is. bodies_numbered l main p is
