use Rattle.legal_programs.proofs.KeptNames.{declared_has}
use Rattle.legal_programs.proofs.declarations_keep_names.Goals as goal

pub returns : goal.returns
returns c = λ name x env s d h. declared_has name x env s d h
