-- What is told of lines, and the mark that a line has by it.
use Rattle.std.specs.Prelude.{ℕ, List, Bool, true, false, ◌&&◌, ◌==◌, nat_le, if◌then◌else◌}
use Rattle.std.specs.List.{list_any}
use Rattle.xcov_report.specs.declared.told.Kept.{Kept}
use Rattle.xcov_report.specs.declared.told.Stretch.{Stretch}
use Rattle.xcov_report.specs.declared.told.Told.{Told}
use Rattle.xcov_report.specs.declared.told.Told.TheVariants as told

abbrev pub same_told : Told → Told → Bool
same_told told.Satisfied told.Satisfied = true
same_told told.Lacking told.Lacking = true
same_told told.Region told.Region = true
same_told told.Exempted told.Exempted = true
same_told _ _ = false

-- whether a line is of a stretch
abbrev pub covers : (file line : ℕ) → Stretch → Bool
covers file line stretch = (stretch.file == file) && (nat_le stretch.from line && nat_le line stretch.to)

-- whether a stretch tells this of a line
abbrev pub tells : Told → (file line : ℕ) → Stretch → Bool
tells told file line stretch = same_told told stretch.told && covers file line stretch

-- the mark of a line whose obligations are satisfied or not, as + or -, or some of them, as !
abbrev pub mark_of_obligations : (satisfied lacking : Bool) → ℕ
mark_of_obligations false false = 46
mark_of_obligations true false = 43
mark_of_obligations false true = 45
mark_of_obligations true true = 33

-- the mark of a line of which this is told: * in a region with a finding, # in one without,
-- else that of its obligations
abbrev pub mark_of : (is_told : Told → Bool) → ℕ
mark_of is_told =
    if is_told told.Exempted then 42
    else if is_told told.Region then 35
    else mark_of_obligations (is_told told.Satisfied) (is_told told.Lacking)

-- the mark of a line of a file, by all that is told
abbrev pub mark_at : List Stretch → (file line : ℕ) → ℕ
mark_at stretches file line = mark_of (λ told. list_any (tells told file line) stretches)

-- whether this is kept of a line
abbrev pub has : Told → Kept → Bool
has told.Satisfied kept = kept.satisfied
has told.Lacking kept = kept.lacking
has told.Region kept = kept.region
has told.Exempted kept = kept.exempted
