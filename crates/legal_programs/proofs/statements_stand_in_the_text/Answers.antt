use Rattle.legal_programs.proofs.PlacedStatements.{all_placed}
use Rattle.legal_programs.proofs.statements_stand_in_the_text.Goals as goal

pub returns : goal.returns
returns c = λ env s q ss step. all_placed env s q ss step
