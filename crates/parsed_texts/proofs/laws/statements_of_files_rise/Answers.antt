use Rattle.parsed_texts.proofs.Statements.{statements_rise, statements_rise_weakly, statements_within}
use Rattle.parsed_texts.proofs.laws.statements_of_files_rise.Goals as goal

pub returns-clause-strictly : goal.returns-clause-strictly
returns-clause-strictly c = statements_rise

pub returns-clause-weakly : goal.returns-clause-weakly
returns-clause-weakly c = statements_rise_weakly

pub returns-clause-in_files : goal.returns-clause-in_files
returns-clause-in_files c = statements_within
