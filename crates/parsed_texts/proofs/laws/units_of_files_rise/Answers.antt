use Rattle.parsed_texts.proofs.Statements.{units_rise, units_within}
use Rattle.parsed_texts.proofs.laws.units_of_files_rise.Goals as goal

pub returns-clause-rise : goal.returns-clause-rise
returns-clause-rise c = units_rise

pub returns-clause-in_files : goal.returns-clause-in_files
returns-clause-in_files c = units_within
