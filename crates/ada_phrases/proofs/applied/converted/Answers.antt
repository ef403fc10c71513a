use Rattle.std.proofs.Common.{sym, ap, ◌∙◌, option_map}
use Rattle.ada_rules.specs.Denoted.{a_value, conversion_of}
use Rattle.ada_entities.specs.Views.{subtype_of}
use Rattle.ada_judged.specs.JudgedView.{judged_of}
use Rattle.ada_phrases.specs.Applied.{where_single}
use Rattle.ada_phrases.proofs.Local.{conversion_is}
use Rattle.ada_phrases.proofs.applied.converted.Goals as goal

pub returns-in_ok-converted-in-Some : goal.returns-in_ok-converted-in-Some
returns-in_ok-converted-in-Some c k =
    let t = subtype_of k.types c.args.subtype in
    c.as_value.ensures k
    ∙ (ap (option_map a_value) (c.in_ok-converted-in-Some.ensures k)
    ∙ (conversion_is t (judged_of k c.in-Some.value) ∙ ap (λ o. where_single (conversion_of t) (option_map (judged_of k) o)) (sym c.in-Some.is)))
