use Rattle.std.proofs.Common.{◌≡◌, ◌++◌, List, true, sym, ap, subst, ◌∙◌, []}
use Rattle.std.proofs.lemmas.Bool.{cond-true}
use Rattle.std.proofs.lemmas.Result.{on_ok_weaker}
use Rattle.cov_base.specs.declared.event.Vector.{Vector}
use Rattle.cov_base.specs.Lists.{Everywhere}
use Rattle.cov_base.specs.Path.{IsPathVector}
use Rattle.annotated_report.specs.declared.finding.Finding.{Finding}
use Rattle.annotated_report.specs.declared.finding.PairLine.{PairLine}
use Rattle.annotated_report.specs.Findings.{asks_pairs, expr_of, unpaired}
use Rattle.annotated_report.specs.Members.{AreAlike}
use Rattle.annotated_report.specs.Shown.{paired}
use Rattle.annotated_report.specs.Verdicts.{is_covered}
use Rattle.annotated_report.proofs.Alike.{everywhere_within, same_covered, same_unpaired, same_paired}
use Rattle.annotated_report.proofs.decisions.judge_pairs.Goals as goal

pub judge_conditions-requires-clause-vectors : goal.judge_conditions-requires-clause-vectors
judge_conditions-requires-clause-vectors c =
    subst (λ (vs : List Vector). Everywhere (IsPathVector c.args.dec.now) vs) (sym c.as_slice-ordered.ensures.value)
    (everywhere_within (IsPathVector c.args.dec.now) c.args.vectors.now c.in_ok-ordered.ordered.items c.in_ok-ordered.ensures.0 c.requires.vectors)

pub judge_conditions-requires-clause-covered : goal.judge_conditions-requires-clause-covered
judge_conditions-requires-clause-covered c =
    let e = expr_of c.args.entry.now in
    let same : AreAlike c.args.vectors.now c.in_ok-ordered.ordered.items = (c.in_ok-ordered.ensures.1, c.in_ok-ordered.ensures.0) in
    c.requires.covered ∙ same_covered e c.args.vectors.now c.in_ok-ordered.ordered.items same
    ∙ ap (λ (vs : List Vector). is_covered e vs) (sym c.as_slice-ordered.ensures.value)

pub returns-clause-findings : goal.returns-clause-findings
returns-clause-findings c =
    let level = c.args.level in
    let old = c.args.found.now.findings.items in
    let shown : List Vector → List Finding = λ vs. old ++ unpaired level vs c.args.number c.args.entry.now in
    let same : AreAlike c.in_ok-ordered.ordered.items c.args.vectors.now = (c.in_ok-ordered.ensures.0, c.in_ok-ordered.ensures.1) in
    let asks : asks_pairs level ≡ true = sym c.asks_pairs.ensures ∙ c.if-not-asks_pairs.false in
    on_ok_weaker c.judge_conditions.result
    (λ is. is ∙ ap shown c.as_slice-ordered.ensures.value
    ∙ ap (λ (l : List Finding). old ++ l) (same_unpaired level c.in_ok-ordered.ordered.items c.args.vectors.now c.args.number c.args.entry.now same)
    ∙ ap (λ (l : List Finding). old ++ l) (sym (cond-true (asks_pairs level) (unpaired level c.args.vectors.now c.args.number c.args.entry.now) [] asks)))
    c.judge_conditions.ensures.findings

pub returns-clause-pairs : goal.returns-clause-pairs
returns-clause-pairs c =
    let level = c.args.level in
    let old = c.args.found.now.pairs.items in
    let shown : List Vector → List PairLine = λ vs. old ++ paired level vs c.args.number c.args.entry.now in
    let same : AreAlike c.in_ok-ordered.ordered.items c.args.vectors.now = (c.in_ok-ordered.ensures.0, c.in_ok-ordered.ensures.1) in
    let asks : asks_pairs level ≡ true = sym c.asks_pairs.ensures ∙ c.if-not-asks_pairs.false in
    on_ok_weaker c.judge_conditions.result
    (λ is. is ∙ ap shown c.as_slice-ordered.ensures.value
    ∙ ap (λ (l : List PairLine). old ++ l) (sym (cond-true (asks_pairs level) (paired level c.in_ok-ordered.ordered.items c.args.number c.args.entry.now) [] asks))
    ∙ ap (λ (l : List PairLine). old ++ l) (same_paired level c.in_ok-ordered.ordered.items c.args.vectors.now c.args.number c.args.entry.now same))
    c.judge_conditions.ensures.pairs
