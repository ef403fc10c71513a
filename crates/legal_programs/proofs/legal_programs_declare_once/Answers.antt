use Rattle.legal_programs.proofs.QuietInterfaces.{declared_once}
use Rattle.legal_programs.proofs.legal_programs_declare_once.Goals as goal

pub returns : goal.returns
returns c = λ l main p is. declared_once l main p is
