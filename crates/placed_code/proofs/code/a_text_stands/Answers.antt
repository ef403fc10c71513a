use Rattle.placed_code.proofs.CodeLaws.{text_stands}
use Rattle.placed_code.proofs.code.a_text_stands.Goals as goal

pub returns : goal.returns
returns c = text_stands
