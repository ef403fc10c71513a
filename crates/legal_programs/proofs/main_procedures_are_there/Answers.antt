use Rattle.legal_programs.proofs.Worlds.{has_main_sub}
use Rattle.legal_programs.proofs.main_procedures_are_there.Goals as goal

pub returns : goal.returns
returns c = λ l main p is. has_main_sub l main p is
