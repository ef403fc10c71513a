use Rattle.std.proofs.Common.{rules}
use Rattle.command_words.proofs.commands.compile_line.compile_from.Goals as goal

pub returns-then-not-are_sources : goal.returns-then-not-are_sources
returns-then-not-are_sources c = search rules

pub returns : goal.returns
returns c = search rules
