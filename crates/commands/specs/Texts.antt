-- What coverage prints, in each of its forms.
use Rattle.std.specs.Prelude.{◌≡◌, ℕ, List, map}
use Rattle.annotated_report.specs.Report.{report_text}
use Rattle.cov_base.specs.declared.event.Event.{Event}
use Rattle.cov_base.specs.declared.level.Annotation.{Annotation}
use Rattle.cov_base.specs.declared.level.Annotation.TheVariants.{Report, Xcov, Json}
use Rattle.cov_base.specs.declared.level.Level.{Level}
use Rattle.cov_base.specs.declared.obligations.Obligations.{Obligations}
use Rattle.cov_base.specs.declared.obligations.SourceFile.{SourceFile}
use Rattle.json_report.specs.Text.{json_text}
use Rattle.xcov_report.specs.Listing.{xcov_text}

-- the names of files
abbrev pub names_of : List SourceFile → List (List ℕ)
names_of files = map (λ file. file.name) files

-- the text in a form, at a level on obligations, of so many traces with these events, over these files: report and JSON show
-- their names alone, annotated sources their lines too
abbrev pub coverage_text : Annotation → Level → Obligations → (traces : ℕ) → List Event → List SourceFile → List ℕ
coverage_text Report level obligations traces events files = report_text level obligations traces events (names_of files)
coverage_text Xcov level obligations traces events files = xcov_text level obligations traces events files
coverage_text Json level obligations traces events files = json_text level obligations traces events (names_of files)

-- files that show the same in a form: the same names, and the same lines where these are shown
abbrev pub ShowSame : Annotation → (files others : List SourceFile) → Type 0
ShowSame Report files others = names_of files ≡ names_of others
ShowSame Xcov files others = files ≡ others
ShowSame Json files others = names_of files ≡ names_of others
