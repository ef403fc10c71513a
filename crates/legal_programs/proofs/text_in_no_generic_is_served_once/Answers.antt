use Rattle.legal_programs.proofs.WithoutInstances.{served_once}
use Rattle.legal_programs.proofs.text_in_no_generic_is_served_once.Goals as goal

pub returns : goal.returns
returns c = λ l main p is s more. served_once l main p is s more
