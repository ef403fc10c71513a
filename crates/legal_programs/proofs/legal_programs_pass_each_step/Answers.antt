use Rattle.legal_programs.proofs.Passed.{is_legal}
use Rattle.legal_programs.proofs.legal_programs_pass_each_step.Goals as goal

pub returns : goal.returns
returns c = λ l main p h. is_legal l main p h
