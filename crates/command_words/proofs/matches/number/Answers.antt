use Rattle.std.proofs.Common.{◌∙◌, ap, ℕ}
use Rattle.std.specs.Prelude.{option_and_then}
use Rattle.std.specs.Str.Parse.{ExplainsUnsignedError, HasUnsignedDigitsIfOk, ParsesUnsigned}
use Rattle.clap.specs.Words.{found_of, one_text}
use Rattle.clap.proofs.WalkLemmas.{one_text-rows}
use Rattle.command_words.specs.Lines.{number_of}
use Rattle.command_words.proofs.FoundLaws.{gives-ok_or, number_of-read}
use Rattle.command_words.proofs.matches.number.Goals as goal

pub returns : goal.returns
returns c =
    let found = found_of c.args.matches.now in
    let id = c.args.id.now in
    let read = number_of-read _ (λ bs r. ParsesUnsigned 32 10 bs r × ExplainsUnsignedError 10 bs r × HasUnsignedDigitsIfOk bs r) (λ text r g. g.0) (one_text found id)
    c.get_one.result c.get_one.ensures.none c.get_one.ensures.value in
    rw c.ok_or.ensures.value (gives-ok_or (λ (value : ℕ). value) _ c.get_one.result _ (read ∙ ap (option_and_then number_of) (one_text-rows found id)))
