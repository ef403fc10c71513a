-- What is made of a coverage, once its traces were added.
use Rattle.std.specs.Prelude.{◌≡◌, ℕ, Option, None, IfSome, Result, Ok, Err}
use Rattle.cov_base.specs.declared.level.Annotation.{Annotation}
use Rattle.cov_base.specs.declared.level.Level.{Level}
use Rattle.cov_io.specs.Outside.{Held}
use Rattle.coverage_set.specs.Covered.{Covered, Has, HasRun}
use Rattle.commands.specs.Content.{IsReport}
use Rattle.commands.specs.Covering.{IsConsolidationOf}
use Rattle.commands.specs.declared.ready.coverage.Product.{Product}
use Rattle.commands.specs.declared.ready.coverage.Product.TheVariants as products
use Rattle.commands.specs.declared.status.Status.{Status}
use Rattle.commands.specs.Reading.{AreKept, StopsAmongSources, UnlessMemory}
use Rattle.commands.specs.TaskFiles.{entry_names, held_under, read_for}
use Rattle.commands.specs.Verdict.{Output}
use Rattle.object_format.specs.declared.object.Object.{Object}

-- the report in a form, of sources that are as the object lists them
abbrev pub IsReportOver : Level → Annotation → Object → Covered → Output → Held → Type 0
IsReportOver level annotation o c output told =
    AreKept told (read_for annotation o.files)
    × IsReport level annotation o (held_under told (entry_names o.files)) (Has c) (HasRun c) output.text

-- the report of a coverage was made, without a file; or one of its sources stopped that, or memory was refused
abbrev pub IsReportOf : Level → Annotation → Object → Covered → Option Held → ℕ → ℕ → Result Output Status → Type 0
IsReportOf level annotation o c held reads reads' (Ok output) =
    (reads' ≡ reads) × (output.file ≡ None) × IfSome held (IsReportOver level annotation o c output)
IsReportOf level annotation o c held reads reads' (Err status) =
    UnlessMemory (StopsAmongSources (read_for annotation o.files) held reads reads') status

-- what is asked for was made
abbrev pub IsMadeOf : Product → Object → Covered → Option Held → ℕ → ℕ → Result Output Status → Type 0
IsMadeOf (products.Report level annotate) o c held reads reads' verdict = IsReportOf level annotate o c held reads reads' verdict
IsMadeOf (products.File name) o c held reads reads' verdict = (reads' ≡ reads) × IsConsolidationOf name.now c verdict
