use Rattle.std.proofs.Common.{rules}
use Rattle.command_words.proofs.commands.coverage_line.coverage_from.Goals as goal

pub returns : goal.returns
returns c = search rules

pub returns-then-not-are_few : goal.returns-then-not-are_few
returns-then-not-are_few c = search rules
