use Rattle.legal_programs.proofs.Finals.{final_served}
use Rattle.legal_programs.proofs.legal_programs_serve_each_state.Goals as goal

pub returns : goal.returns
returns c = λ l main p is o inst looked stands values s more. final_served l main p is o inst looked stands values s more
