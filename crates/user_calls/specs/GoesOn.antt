-- A use can always go on: where nothing outside fails, a further call does its work.
use Rattle.std.specs.Prelude.{◌≡◌, ℕ, ◌+◌, ◌*◌, ◌≤◌, ℤ, List, map, Some, IfSome}
use Rattle.std.specs.FinMap as finmap
use Rattle.ada_meaning.specs.Execution.{Execution, Ends}
use Rattle.ada_meaning.specs.Program.{Program}
use Rattle.command_words.specs.Task.{Run, Coverage, Consolidate}
use Rattle.cov_base.specs.declared.level.Annotation.{Annotation}
use Rattle.cov_base.specs.declared.level.Annotation.TheVariants.{Xcov}
use Rattle.cov_base.specs.declared.level.Level.{Level}
use Rattle.cov_base.specs.declared.obligations.SourceFile.{SourceFile}
use Rattle.cov_base.specs.Lists.{Everywhere}
use Rattle.cov_io.specs.Outside.{Held, Holds}
use Rattle.commands.specs.Complete.{NothingFails, IsDone}
use Rattle.commands.specs.Content.{IsInputOf}
use Rattle.commands.specs.Outcome.{Call}
use Rattle.commands.specs.TaskFiles.{AreHeld}
use Rattle.program_objects.specs.Legal.{IsLegal}
use Rattle.user_calls.specs.Calls.{ACall, AreTogether, IsOfRuns}
use Rattle.user_calls.specs.Use.{IsUse, IsNext}

-- these are the sources of these names that the files hold, and they are this legal program
pub record AreProgramOf (main : List ℕ) (names : List (List ℕ)) (held : Held) (sources : List SourceFile) (p : Program)
    : Type 0 where
  pub named : map (λ source. source.name) sources ≡ names
  pub read : AreHeld held sources
  pub legal : IsLegal sources main p

-- where sources are to be annotated, each of these files is what it was
abbrev pub SourcesStay : Annotation → (names : List (List ℕ)) → (held : Held) → Call → Type 0
SourcesStay annotation names held call =
    annotation ≡ Xcov
    → IfSome call.held (λ now. Everywhere (λ name. finmap.get now name ≡ finmap.get held name) names)

-- a further call over the files that these calls left does its work: a run on an input on which the program's own
-- execution ends, with a budget of 500 instructions for each unit of its cost and 5,000 beside; coverage, and
-- consolidation, over files which are of runs
pub record GoesOn (main object : List ℕ) (names : List (List ℕ)) (held : Held) (calls : List ACall) (last : ACall)
    : Type 0 where
  pub runs : (input : List ℕ) (budget : ℕ) (trace : List ℕ) → last.task ≡ Some (Run input budget trace object)
      → (now : Held) (bytes : List ℕ) (numbers : List ℤ) → last.call.held ≡ Some now → Holds input bytes now
      → IsInputOf numbers bytes
      → (sources : List SourceFile) (p : Program) → AreProgramOf main names held sources p
      → (x : Execution) → Ends p numbers x → 500 * x.cost + 5000 ≤ budget → IsDone last.status
  pub covers : (level : Level) (annotation : Annotation) (files : List (List ℕ))
      → last.task ≡ Some (Coverage level annotation object files)
      → (inputs : List (List ℤ)) → AreTogether (IsOfRuns object calls) files inputs
      → SourcesStay annotation names held last.call → IsDone last.status
  pub consolidates : (name : List ℕ) (files : List (List ℕ)) → last.task ≡ Some (Consolidate object name files)
      → (inputs : List (List ℤ)) → AreTogether (IsOfRuns object calls) files inputs → IsDone last.status

-- In each use, a further call for which nothing outside fails does its work.
unfoldable pub AUseGoesOn : Type 0
AUseGoesOn =
    (main object : List ℕ) (names : List (List ℕ)) (held : Held) (first : ACall) (calls : List ACall)
    → IsUse main object names held first calls → (last : ACall) → IsNext first calls last → NothingFails last.call
    → GoesOn main object names held calls last
