use Rattle.parsed_texts.proofs.Texts.{texts_of}
use Rattle.parsed_texts.proofs.laws.files_have_texts.Goals as goal

pub returns : goal.returns
returns c = texts_of
