use Rattle.parsed_texts.proofs.Conditions.{conditions_within}
use Rattle.parsed_texts.proofs.laws.conditions_of_files_stand_in_them.Goals as goal

pub returns : goal.returns
returns c = conditions_within
