use Rattle.std.proofs.Common.{◌∙◌}
use Rattle.clap.specs.Words.{found_of}
use Rattle.clap.proofs.WalkLemmas.{first_value-rows}
use Rattle.command_words.proofs.FoundLaws.{gives-ok_or}
use Rattle.command_words.proofs.matches.text.Goals as goal

pub returns : goal.returns
returns c =
    rw c.ok_or.ensures.value
    (gives-ok_or (λ value. value.now) _ c.get_str.result _ (c.get_str.ensures ∙ first_value-rows (found_of c.args.matches.now) c.args.id.now))
