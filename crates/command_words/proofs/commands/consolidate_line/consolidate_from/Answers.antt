use Rattle.std.proofs.Common.{rules}
use Rattle.command_words.proofs.commands.consolidate_line.consolidate_from.Goals as goal

pub returns-then-not-are_few : goal.returns-then-not-are_few
returns-then-not-are_few c = search rules

pub returns : goal.returns
returns c = search rules
