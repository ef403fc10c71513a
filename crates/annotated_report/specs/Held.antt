-- Which region holds a place, and how many findings each region holds.
use Rattle.std.specs.Prelude.{ℕ, ◌+◌, List, [], ◌∷◌, Option, Some, None, not, length, slice_index_or, slice_set, if◌then◌else◌}
use Rattle.std.specs.List.{filter}
use Rattle.cov_base.specs.declared.obligations.Region.{Region}
use Rattle.cov_base.specs.declared.position.Pos.{Pos}
use Rattle.exemptions.specs.Regions.{is_inside}
use Rattle.annotated_report.specs.declared.finding.Finding.{Finding}

-- the number of the first region that holds a place, where they are numbered from n on
abbrev pub number_round : Pos → ℕ → List Region → Option ℕ
number_round pos n [] = None
number_round pos n (region ∷ regions) = if is_inside pos region then Some n else number_round pos (n + 1) regions

-- one more is counted for a number, if there is one
abbrev pub counted : Option ℕ → (counts : List ℕ) → List ℕ
counted None counts = counts
counted (Some n) counts = slice_set counts n (slice_index_or counts n 0 + 1)

-- for each region how many findings it holds; the later regions are asked for the others alone
abbrev pub held_counts : List Finding → List Region → List ℕ
held_counts found [] = []
held_counts found (region ∷ regions) =
    length (filter (λ f. is_inside f.key.pos region) found)
    ∷ held_counts (filter (λ f. not (is_inside f.key.pos region)) found) regions
