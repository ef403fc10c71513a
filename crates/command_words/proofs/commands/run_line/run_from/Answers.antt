use Rattle.std.proofs.Common.{rules}
use Rattle.command_words.proofs.commands.run_line.run_from.Goals as goal

pub returns-then-budget-lt-LEAST_BUDGET : goal.returns-then-budget-lt-LEAST_BUDGET
returns-then-budget-lt-LEAST_BUDGET c = search rules

pub returns : goal.returns
returns c = search rules
