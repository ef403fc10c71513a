use Rattle.std.proofs.Common.{◌∙◌, ◌≡◌, List, ℕ, [], ◌∷◌, ap, slice_index_or}
use Rattle.std.proofs.lemmas.Result.{IfOk-weaker}
use Rattle.annotated_report.specs.Held.{held_counts}
use Rattle.annotated_report.specs.Numbered.{each_numbered}
use Rattle.json_report.specs.Objects.{region_object}
use Rattle.json_report.proofs.CountedRegions.{by_counts}
use Rattle.json_report.proofs.regions.region_values.Goals as goal

pub returns : goal.returns
returns c =
    let found = c.args.found.now in
    let regions = c.args.regions.now in
    let are : c.as_slice.result.now ≡ held_counts found regions =
    c.as_slice.ensures.value ∙ c.in_ok-counts.ensures.counts ∙ ap (held_counts found) c.of.ensures in
    IfOk-weaker c.counted_values.result _ _
    (λ vs is. is ∙ ap (λ (counts : List ℕ). each_numbered (λ n region. region_object (slice_index_or counts n 0) region ∷ []) 0 regions) are
    ∙ by_counts found regions)
    c.counted_values.ensures
