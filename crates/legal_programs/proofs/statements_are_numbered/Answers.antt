use Rattle.legal_programs.proofs.LabelledStatements.{all_labelled}
use Rattle.legal_programs.proofs.statements_are_numbered.Goals as goal

pub returns : goal.returns
returns c = λ env s q ss step. all_labelled env s q ss step
