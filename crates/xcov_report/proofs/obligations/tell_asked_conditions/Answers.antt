use Rattle.std.proofs.Common.{◌≡◌, ◌++◌, List, true, sym, ap, subst, ◌∙◌, []}
use Rattle.std.proofs.lemmas.Bool.{cond-true}
use Rattle.std.proofs.lemmas.Result.{on_ok_weaker}
use Rattle.cov_base.specs.declared.event.Vector.{Vector}
use Rattle.cov_base.specs.Lists.{Everywhere}
use Rattle.cov_base.specs.Path.{IsPathVector}
use Rattle.annotated_report.specs.Findings.{asks_pairs}
use Rattle.annotated_report.specs.Members.{AreAlike}
use Rattle.annotated_report.proofs.Alike.{everywhere_within}
use Rattle.xcov_report.specs.declared.told.Stretch.{Stretch}
use Rattle.xcov_report.specs.Obliged.{conditions_stretches}
use Rattle.xcov_report.proofs.Telling.{same_conditions}
use Rattle.xcov_report.proofs.obligations.tell_asked_conditions.Goals as goal

pub tell_conditions-requires-clause-vectors : goal.tell_conditions-requires-clause-vectors
tell_conditions-requires-clause-vectors c =
    subst (λ (vs : List Vector). Everywhere (IsPathVector c.args.dec.now) vs) (sym c.as_slice.ensures.value)
    (everywhere_within (IsPathVector c.args.dec.now) c.args.vectors.now c.in_ok-ordered.ordered.items c.in_ok-ordered.ensures.0 c.requires.vectors)

pub returns : goal.returns
returns c =
    let level = c.args.level in
    let entry = c.args.entry.now in
    let old = c.args.stretches.now.items in
    let same : AreAlike c.in_ok-ordered.ordered.items c.args.vectors.now = (c.in_ok-ordered.ensures.0, c.in_ok-ordered.ensures.1) in
    let asks : asks_pairs level ≡ true = sym c.asks_pairs.ensures ∙ c.if-not-asks_pairs.false in
    on_ok_weaker c.tell_conditions.result
    (λ is. is ∙ ap (λ (vs : List Vector). old ++ conditions_stretches level vs entry) c.as_slice.ensures.value
    ∙ ap (λ (l : List Stretch). old ++ l) (same_conditions level c.in_ok-ordered.ordered.items c.args.vectors.now entry same)
    ∙ ap (λ (l : List Stretch). old ++ l) (sym (cond-true (asks_pairs level) (conditions_stretches level c.args.vectors.now entry) [] asks)))
    c.tell_conditions.ensures
