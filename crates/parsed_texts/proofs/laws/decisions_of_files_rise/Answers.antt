use Rattle.parsed_texts.proofs.Decisions.{decisions_rise, decisions_within}
use Rattle.parsed_texts.proofs.laws.decisions_of_files_rise.Goals as goal

pub returns-clause-rise : goal.returns-clause-rise
returns-clause-rise c = decisions_rise

pub returns-clause-in_files : goal.returns-clause-in_files
returns-clause-in_files c = decisions_within
