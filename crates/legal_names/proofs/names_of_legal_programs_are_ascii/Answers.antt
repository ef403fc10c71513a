use Rattle.legal_names.proofs.Programs.{names_of}
use Rattle.legal_names.proofs.names_of_legal_programs_are_ascii.Goals as goal

pub returns : goal.returns
returns c = names_of
