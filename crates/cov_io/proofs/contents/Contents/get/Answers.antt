use Rattle.std.proofs.Common.{rules}
use Rattle.cov_io.proofs.EntryLemmas.{get-held_of-None, get-held_of-Some}
use Rattle.cov_io.proofs.contents.Contents.get.Goals as goal

pub returns-in_err-place : goal.returns-in_err-place
returns-in_err-place c = search (rules, get-held_of-None)

pub returns : goal.returns
returns c = search (rules, get-held_of-Some)
