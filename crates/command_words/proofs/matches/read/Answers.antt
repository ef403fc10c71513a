use Rattle.std.proofs.Common.{◌∙◌, ap, inl, inr}
use Rattle.clap.proofs.WalkLemmas.{both}
use Rattle.clap.specs.Words.{found_of, rows_of}
use Rattle.clap.specs.declared.parser.matches.ArgMatches.{ArgMatches}
use Rattle.command_words.specs.Gives.{failure_of}
use Rattle.command_words.proofs.FoundLaws.{fault-gives, memory-gives, given-none, given-rows}
use Rattle.command_words.proofs.matches.read.Goals as goal

pub returns-in-Ok : goal.returns-in-Ok
returns-in-Ok c = given-rows _ _ _ (c.in-Ok.ensures.kinds c.requires) (c.in-Ok.ensures.matches (both _ _ c.requires).0).0

pub returns-in-Err : goal.returns-in-Err
returns-in-Err c = elim (c.in-Err.ensures.kinds c.requires) [
  | inl memory ↦ memory-gives {A = ArgMatches} (λ found. rows_of (found_of found)) _ c.failure_of.result (c.failure_of.ensures ∙ ap failure_of (c.kind.ensures ∙ memory))
  | inr among ↦ fault-gives {A = ArgMatches} (λ found. rows_of (found_of found)) _ c.failure_of.result (given-none _ _ _ among)
]
