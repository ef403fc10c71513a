use Rattle.command_words.proofs.ExampleLaws.{compiles, compiles_several, consolidates, covers, covers_in_each_form, runs}
use Rattle.command_words.proofs.examples.accepted.Goals as goal

pub returns : goal.returns
returns c = record { compile = compiles; several = compiles_several; run = runs; coverage = covers; forms = covers_in_each_form; consolidate = consolidates }
