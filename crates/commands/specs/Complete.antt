-- When a command does its work: where nothing outside fails, it is done or memory is wanting.
use Rattle.std.specs.Prelude.{◌≡◌, ◌⊎◌, ℕ, ◌+◌, ◌*◌, ◌≤◌, ℤ, List, map, Option, Some}
use Rattle.std.specs.FinMap as finmap
use Rattle.ada_meaning.specs.Execution.{Execution, Ends}
use Rattle.ada_meaning.specs.Program.{Program}
use Rattle.command_words.specs.Task.{Task, Compile, Run, Coverage, Consolidate}
use Rattle.program_objects.specs.Legal.{IsLegal}
use Rattle.program_objects.specs.Source.{entry_of_file, IsObjectOf, IsCheap}
use Rattle.cov_base.specs.declared.level.Annotation.{Annotation}
use Rattle.cov_base.specs.declared.level.Annotation.TheVariants.{Xcov}
use Rattle.cov_base.specs.declared.level.Level.{Level}
use Rattle.cov_base.specs.declared.obligations.SourceFile.{SourceFile}
use Rattle.cov_io.specs.Outside.{Held, Rose}
use Rattle.cov_base.specs.Lists.{Everywhere}
use Rattle.commands.specs.Content.{IsInputOf}
use Rattle.commands.specs.declared.status.Status.{Status}
use Rattle.commands.specs.declared.status.Status.TheVariants.{Done, Trap, WantOfMemory}
use Rattle.commands.specs.Outcome.{Call}
use Rattle.commands.specs.Reading.{AreKept}
use Rattle.commands.specs.RunsCovered.{ARun, AreTracesOf}
use Rattle.commands.specs.TaskFiles.{AreHeld}
use Rattle.kernel_code.specs.Whole.{IsInput}
use Rattle.object_format.specs.declared.object.Object.{Object}
use Rattle.object_format.specs.File.{object_bytes}
use Rattle.rv_semantics.specs.declared.stepped.TrapWhy.{TrapWhy}

-- no count of failures rose, and none stands at its end
pub record NothingFails (call : Call) : Type 0 where
  pub reads : Rose call.reads call.reads_after → ⊥
  pub writes : Rose call.writes call.writes_after → ⊥
  pub puts : Rose call.failures call.failures_after → ⊥

-- the work was done, or memory was wanting
abbrev pub IsDone : Status → Type 0
IsDone status = (status ≡ Done) ⊎ (status ≡ WantOfMemory)

-- legal sources that are there are compiled
unfoldable pub LegalSourcesCompile : Option Task → Call → Status → Type 0
LegalSourcesCompile task call status =
    (held : Held) (main object : List ℕ) (names : List (List ℕ))
    → call.held ≡ Some held → task ≡ Some (Compile main object names) → NothingFails call
    → (sources : List SourceFile) (p : Program) → map (λ source. source.name) sources ≡ names → AreHeld held sources
    → IsLegal sources main p → IsDone status

-- a run of a program's object on an input ends where the program's execution does, within 500 instructions for each unit of its cost, and
-- 5,000 beside
unfoldable pub ProgramsRun : Option Task → Call → Status → Type 0
ProgramsRun task call status =
    (held : Held) (input trace object : List ℕ) (budget : ℕ) → call.held ≡ Some held → task ≡ Some (Run input budget trace object) → NothingFails call
    → (files : List SourceFile) (main : List ℕ) (p : Program) (o : Object) → IsObjectOf files main p o → IsCheap files main p o → finmap.get held object ≡ Some (object_bytes o)
    → (bytes : List ℕ) (numbers : List ℤ) → finmap.get held input ≡ Some bytes → IsInputOf numbers bytes
    → (x : Execution) → Ends p numbers x → 500 * x.cost + 5000 ≤ budget → IsDone status

-- no run of a program's object traps
unfoldable pub ProgramsDoNotTrap : Option Task → Call → Status → Type 0
ProgramsDoNotTrap task call status =
    (held : Held) (input trace object : List ℕ) (budget : ℕ) → call.held ≡ Some held → task ≡ Some (Run input budget trace object)
    → (files : List SourceFile) (main : List ℕ) (p : Program) (o : Object) → IsObjectOf files main p o → finmap.get held object ≡ Some (object_bytes o)
    → (pc : ℕ) (why : TrapWhy) → status ≡ Trap pc why → ⊥

-- where sources are to be annotated, each is there with the digest that the object keeps
abbrev pub SourcesAreThere : Annotation → Held → List SourceFile → Type 0
SourcesAreThere annotation held files = annotation ≡ Xcov → AreKept held (map entry_of_file files)

-- traces of runs of a program's object are covered
unfoldable pub TracesAreCovered : Option Task → Call → Status → Type 0
TracesAreCovered task call status =
    (held : Held) (level : Level) (annotation : Annotation) (object : List ℕ) (names : List (List ℕ))
    → call.held ≡ Some held → task ≡ Some (Coverage level annotation object names) → NothingFails call
    → (files : List SourceFile) (main : List ℕ) (p : Program) (o : Object) → IsObjectOf files main p o
    → finmap.get held object ≡ Some (object_bytes o) → SourcesAreThere annotation held files
    → (runs : List ARun) → AreTracesOf held o names runs → Everywhere (λ r. IsInput r.input) runs → IsDone status

-- such traces are consolidated
unfoldable pub TracesAreConsolidated : Option Task → Call → Status → Type 0
TracesAreConsolidated task call status =
    (held : Held) (object name : List ℕ) (names : List (List ℕ))
    → call.held ≡ Some held → task ≡ Some (Consolidate object name names) → NothingFails call
    → (files : List SourceFile) (main : List ℕ) (p : Program) (o : Object) → IsObjectOf files main p o
    → finmap.get held object ≡ Some (object_bytes o)
    → (runs : List ARun) → AreTracesOf held o names runs → Everywhere (λ r. IsInput r.input) runs → IsDone status
