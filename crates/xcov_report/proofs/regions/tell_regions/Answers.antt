use Rattle.std.proofs.Common.{◌≡◌, ◌∙◌, ◌++◌, ◌∷◌, [], List, ℕ, ap, nat_lt, slice_index_or}
use Rattle.std.proofs.lemmas.Result.{on_ok_weaker}
use Rattle.annotated_report.specs.Held.{held_counts}
use Rattle.annotated_report.specs.Numbered.{each_numbered}
use Rattle.xcov_report.specs.declared.told.Stretch.{Stretch}
use Rattle.xcov_report.specs.Obliged.{of_region}
use Rattle.xcov_report.proofs.Telling.{by_counts}
use Rattle.xcov_report.proofs.regions.tell_regions.Goals as goal

pub returns : goal.returns
returns c =
    let found = c.args.findings.now in
    let regions = c.args.regions.now in
    let old = c.args.stretches.now.items in
    let are : c.as_slice.result.now ≡ held_counts found regions =
    c.as_slice.ensures.value ∙ c.in_ok-counts.ensures.counts ∙ ap (held_counts found) c.of.ensures in
    on_ok_weaker c.tell_counted.result
    (λ is. is ∙ ap (λ (counts : List ℕ). old ++ each_numbered (λ n region. of_region (nat_lt 0 (slice_index_or counts n 0)) region ∷ []) 0 regions) are
    ∙ ap (λ (l : List Stretch). old ++ l) (by_counts found regions))
    c.tell_counted.ensures
