-- The listing of annotated sources.
use Rattle.std.specs.Prelude.{ℕ, List, ◌++◌}
use Rattle.cov_base.specs.declared.event.Event.{Event}
use Rattle.cov_base.specs.declared.level.Level.{Level}
use Rattle.cov_base.specs.declared.obligations.Obligations.{Obligations}
use Rattle.cov_base.specs.declared.obligations.SourceFile.{SourceFile}
use Rattle.xcov_report.specs.Obliged.{all_stretches}
use Rattle.xcov_report.specs.Text.{head_text, files_text}

-- the annotated sources at a level on obligations, of so many traces with these events
abbrev pub xcov_text : Level → Obligations → (traces : ℕ) → List Event → List SourceFile → List ℕ
xcov_text level obligations traces events files =
    head_text level traces ++ files_text (all_stretches level obligations events) files
