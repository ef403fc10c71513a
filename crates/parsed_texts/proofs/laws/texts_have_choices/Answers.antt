use Rattle.parsed_texts.proofs.Choices.{texts_have_choices}
use Rattle.parsed_texts.proofs.laws.texts_have_choices.Goals as goal

pub returns : goal.returns
returns c = texts_have_choices
