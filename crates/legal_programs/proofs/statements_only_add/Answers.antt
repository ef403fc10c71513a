use Rattle.legal_programs.proofs.AddingStatements.{all_add}
use Rattle.legal_programs.proofs.statements_only_add.Goals as goal

pub returns : goal.returns
returns c = λ env s q ss. all_add env s q ss
