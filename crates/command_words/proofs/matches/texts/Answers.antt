use Rattle.std.proofs.Common.{◌∙◌, [], ap, map}
use Rattle.std.specs.Prelude.{unwrap_or}
use Rattle.std.proofs.lemmas.Result.{IfOk-weaker}
use Rattle.clap.specs.Words.{found_of}
use Rattle.clap.proofs.WalkLemmas.{raw_values-rows}
use Rattle.command_words.proofs.matches.texts.Goals as goal

pub returns-in-Some : goal.returns-in-Some
returns-in-Some c =
    let all = c.in-Some.ensures ∙ raw_values-rows (found_of c.args.matches.now) c.args.id.now in
    IfOk-weaker c.from_slice.result _ _ (λ v h. ap (map (λ value. value.now)) h ∙ ap (λ found. unwrap_or found []) all) c.from_slice.ensures.items

pub returns-in-None : goal.returns-in-None
returns-in-None c =
    let all = c.in-None.ensures ∙ raw_values-rows (found_of c.args.matches.now) c.args.id.now in
    ap (map (λ value. value.now)) c.new.ensures.items ∙ ap (λ found. unwrap_or found []) all
