-- Regions that are told by what was counted for each are those that are told one after another.
use Rattle.std.proofs.Common.{◌≡◌, Bool, true, false, not, ◌||◌, List, [], ◌∷◌, length, filter, slice_index_or, refl, sym, ap, ◌∙◌}
use Rattle.serde_json.specs.Data.{Data}
use Rattle.cov_base.specs.declared.obligations.Region.{Region}
use Rattle.exemptions.specs.Regions.{is_inside, is_exempt}
use Rattle.annotated_report.specs.declared.finding.Finding.{Finding}
use Rattle.annotated_report.specs.Held.{held_counts}
use Rattle.annotated_report.specs.Numbered.{each_numbered}
use Rattle.annotated_report.proofs.Numbering.{numbered_later}
use Rattle.json_report.specs.Objects.{region_object, region_objects, held_by, not_held_by}

alone : (inside : Bool) → (inside || false) ≡ inside
alone true = refl
alone false = refl

-- what the region alone holds stands inside of it
inside_is : (region : Region) (found : List Finding) → filter (λ f. is_inside f.key.pos region) found ≡ held_by region found
inside_is region found =
    let one : (f : Finding) → is_inside f.key.pos region ≡ is_exempt (region ∷ []) f.key.pos = λ f. sym (alone (is_inside f.key.pos region)) in
    ap (λ (test : Finding → Bool). filter test found) (λ i f. one f i)

outside_is : (region : Region) (found : List Finding) → filter (λ f. not (is_inside f.key.pos region)) found ≡ not_held_by region found
outside_is region found =
    let one : (f : Finding) → not (is_inside f.key.pos region) ≡ not (is_exempt (region ∷ []) f.key.pos) = λ f. ap not (sym (alone (is_inside f.key.pos region))) in
    ap (λ (test : Finding → Bool). filter test found) (λ i f. one f i)

pub by_counts : (found : List Finding) (regions : List Region)
    → each_numbered (λ n region. region_object (slice_index_or (held_counts found regions) n 0) region ∷ []) 0 regions ≡ region_objects found regions
by_counts found [] = refl
by_counts found (region ∷ regions) =
    let less = filter (λ (f : Finding). not (is_inside f.key.pos region)) found in
    let count = length (filter (λ (f : Finding). is_inside f.key.pos region) found) in
    ap (λ (l : List Data). region_object count region ∷ l)
    (numbered_later (λ n r. region_object (slice_index_or (count ∷ held_counts less regions) n 0) r ∷ []) 0 regions ∙ by_counts less regions)
    ∙ ap (λ (l : List Finding). region_object (length l) region ∷ region_objects less regions) (inside_is region found)
    ∙ ap (λ (l : List Finding). region_object (length (held_by region found)) region ∷ region_objects l regions) (outside_is region found)
