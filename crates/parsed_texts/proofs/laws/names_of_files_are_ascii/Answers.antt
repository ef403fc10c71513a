use Rattle.parsed_texts.proofs.Spelling.{spelled_of}
use Rattle.parsed_texts.proofs.laws.names_of_files_are_ascii.Goals as goal

pub returns : goal.returns
returns c = spelled_of
