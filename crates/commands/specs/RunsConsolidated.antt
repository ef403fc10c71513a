-- What consolidate writes of an object's own runs.
use Rattle.std.specs.Prelude.{◌≡◌, ℕ, List, Option, Some}
use Rattle.std.specs.FinMap as finmap
use Rattle.ada_meaning.specs.Program.{Program}
use Rattle.command_words.specs.Task.{Task, Consolidate}
use Rattle.program_objects.specs.Source.{IsObjectOf}
use Rattle.cov_base.specs.declared.obligations.SourceFile.{SourceFile}
use Rattle.cov_base.specs.Lists.{Everywhere}
use Rattle.cov_io.specs.Outside.{Held, WhereTold, Appends, Replaces}
use Rattle.coverage_set.specs.Covered.{IsCountOfRuns}
use Rattle.commands.specs.Content.{IsFileOf, file_lines}
use Rattle.commands.specs.declared.status.Status.{Status}
use Rattle.commands.specs.declared.status.Status.TheVariants.{Done}
use Rattle.commands.specs.Outcome.{Call}
use Rattle.commands.specs.RunsCovered.{ARun, transcript_of, IsFileOfRuns, AreTracesOf}
use Rattle.kernel_code.specs.Whole.{IsInput}
use Rattle.object_facts.specs.Object.{facts_of}
use Rattle.object_format.specs.declared.object.Object.{Object}
use Rattle.object_format.specs.File.{object_bytes}
use Rattle.transcript.specs.Reading.{IsDisciplined}

-- the one consolidated file of these runs was written under this name, and the count of the different traces and the
-- file's digest were put
pub record WritesFileOfRuns (o : Object) (runs : List ARun) (name : List ℕ) (call : Call) : Type 0 where
  pub bytes : List ℕ
  pub of_runs : IsFileOfRuns o runs bytes
  pub written : WhereTold (Replaces name bytes) call.held call.held_after
  pub count : ℕ
  pub counted : IsCountOfRuns of_runs.covered count
  pub told : WhereTold (Appends (file_lines count bytes)) call.written call.written_after

-- After Done of consolidate over an object and traces of runs of it with disciplined transcripts, the named file is the
-- one consolidated file of these runs.
unfoldable pub RunsAreConsolidated : Option Task → Call → Status → Type 0
RunsAreConsolidated task call status =
    (held : Held) (object name : List ℕ) (names : List (List ℕ))
    → call.held ≡ Some held → task ≡ Some (Consolidate object name names) → status ≡ Done
    → (bytes : List ℕ) (o : Object) → finmap.get held object ≡ Some bytes → IsFileOf o bytes
    → (runs : List ARun) → AreTracesOf held o names runs
    → Everywhere (λ r. IsDisciplined (facts_of o) (transcript_of o r)) runs
    → WritesFileOfRuns o runs name call

-- The same over an object of a program and traces of runs of it on any inputs, whose transcripts are disciplined.
unfoldable pub ProgramsAreConsolidated : Option Task → Call → Status → Type 0
ProgramsAreConsolidated task call status =
    (held : Held) (object name : List ℕ) (names : List (List ℕ))
    → call.held ≡ Some held → task ≡ Some (Consolidate object name names) → status ≡ Done
    → (files : List SourceFile) (main : List ℕ) (p : Program) (o : Object) → IsObjectOf files main p o
    → finmap.get held object ≡ Some (object_bytes o)
    → (runs : List ARun) → AreTracesOf held o names runs → Everywhere (λ r. IsInput r.input) runs
    → WritesFileOfRuns o runs name call
