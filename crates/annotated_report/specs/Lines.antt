-- The lines of a report.
use Rattle.std.specs.Prelude.{ℕ, List, [], ◌∷◌, ◌++◌, codes, Option, Some, None, slice_get, if◌then◌else◌}
use Rattle.std.specs.Fmt.{decimal}
use Rattle.cov_base.specs.declared.obligations.Region.{Region}
use Rattle.cov_base.specs.declared.position.Pos.{Pos}
use Rattle.exemptions.specs.Regions.{is_inside}
use Rattle.annotated_report.specs.declared.finding.Finding.{Finding}
use Rattle.annotated_report.specs.declared.finding.PairLine.{PairLine}
use Rattle.annotated_report.specs.Words.{missing_text}

-- the name of the file with this number
abbrev pub named : Option (List ℕ) → List ℕ
named None = []
named (Some name) = name

-- a place, before what is told of it
abbrev pub place_text : (names : List (List ℕ)) → Pos → List ℕ
place_text names pos =
    named (slice_get names pos.file) ++ (codes ":" ++ (decimal pos.line ++ (codes ":" ++ (decimal pos.col ++ codes ": "))))

-- what a finding says, without the end of its line
abbrev pub finding_text : (names : List (List ℕ)) → Finding → List ℕ
finding_text names f = place_text names f.key.pos ++ missing_text f.missing

-- the line of a finding that is not exempt
abbrev pub violation_line : (names : List (List ℕ)) → Finding → List ℕ
violation_line names f = finding_text names f ++ codes "\n"

-- the first region that holds a place
abbrev pub region_round : Pos → List Region → Option Region
region_round pos [] = None
region_round pos (region ∷ regions) = if is_inside pos region then Some region else region_round pos regions

-- where a region begins
abbrev pub region_text : Region → List ℕ
region_text region = codes ", exempted at " ++ (decimal region.from_line ++ (codes ":" ++ (decimal region.from_column ++ codes ": ")))

-- why a place is exempt: where its region begins, and what that pragma says
abbrev pub exemption_text : Option Region → List ℕ
exemption_text None = []
exemption_text (Some region) = region_text region ++ region.why

-- the line of a finding that is exempt
abbrev pub exempted_line : (names : List (List ℕ)) → List Region → Finding → List ℕ
exempted_line names regions f =
    finding_text names f ++ (exemption_text (region_round f.key.pos regions) ++ codes "\n")

-- the line of a pair
abbrev pub shown_line : (names : List (List ℕ)) → PairLine → List ℕ
shown_line names line = place_text names line.key.pos ++ (line.text ++ codes "\n")
