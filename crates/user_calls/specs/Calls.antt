-- Calls of gnatcov, one after another, and which files they leave.
use Rattle.std.specs.Prelude.{◌≡◌, ◌≢◌, ◌⊎◌, ℕ, ℤ, List, [], ◌∷◌, ◌++◌, Option, Some, IfSome}
use Rattle.command_words.specs.Task.{Task, Run, Consolidate}
use Rattle.cov_io.specs.Outside.{Held, Holds}
use Rattle.commands.specs.Clauses.{UsageIsExact, DoneIsWhole, RefusalsLeaveFiles, OthersStay}
use Rattle.commands.specs.Clauses.{RefusalsPutOneLine, RisenReadsAreTold, ReadFaultHasCause, WriteFaultHasCause}
use Rattle.commands.specs.Complete.{LegalSourcesCompile, ProgramsRun, ProgramsDoNotTrap}
use Rattle.commands.specs.Complete.{TracesAreCovered, TracesAreConsolidated}
use Rattle.commands.specs.CompleteRuns.{RunsAreTakenByCoverage, RunsAreTakenByConsolidation}
use Rattle.commands.specs.Content.{IsInputOf}
use Rattle.commands.specs.declared.status.Status.{Status}
use Rattle.commands.specs.declared.status.Status.TheVariants.{Done, WriteFault}
use Rattle.commands.specs.Headline.{CoverageTellsTheSource}
use Rattle.commands.specs.Leaves.{CompileLeavesAnObject, RunLeavesATrace}
use Rattle.commands.specs.Outcome.{Call}
use Rattle.commands.specs.Regrouping.{FilesAreCovered, FilesAreConsolidated}
use Rattle.commands.specs.Regrouping.{CoverageKnowsNoGrouping, ConsolidationKnowsNoGrouping}
use Rattle.commands.specs.RunsConsolidated.{RunsAreConsolidated, ProgramsAreConsolidated}
use Rattle.commands.specs.RunsCovered.{RunsAreCovered}
use Rattle.commands.specs.ShownPairs.{LeastPairsAreShown, LeastPairsAreInJson}
use Rattle.commands.specs.TaskFiles.{output_of}

-- a call: what was asked, the files and the sink before and after it, and its status
pub record ACall : Type 0 where
  pub task : Option Task
  pub call : Call
  pub status : Status

-- the call keeps what gnatcov promises to a reader: these are clauses of its contract
pub record IsMade (c : ACall) : Type 0 where
  pub usage : UsageIsExact c.task c.status
  pub done : DoneIsWhole c.task c.call c.status
  pub unchanged : RefusalsLeaveFiles c.call c.status
  pub others : OthersStay c.task c.call
  pub one_line : RefusalsPutOneLine c.task c.call c.status
  pub read_rose : RisenReadsAreTold c.call c.status
  pub read_fault : ReadFaultHasCause c.task c.call c.status
  pub write_fault : WriteFaultHasCause c.task c.call c.status
  pub runs : RunsAreCovered c.task c.call c.status
  pub source : CoverageTellsTheSource c.task c.call c.status
  pub pairs : LeastPairsAreShown c.task c.call c.status
  pub json_pairs : LeastPairsAreInJson c.task c.call c.status
  pub consolidated : RunsAreConsolidated c.task c.call c.status
  pub merged : ProgramsAreConsolidated c.task c.call c.status
  pub files_covered : FilesAreCovered c.task c.call c.status
  pub files_merged : FilesAreConsolidated c.task c.call c.status
  pub grouping : CoverageKnowsNoGrouping c.task c.call c.status
  pub merged_grouping : ConsolidationKnowsNoGrouping c.task c.call c.status
  pub object : CompileLeavesAnObject c.task c.call c.status
  pub trace : RunLeavesATrace c.task c.call c.status
  pub compiles : LegalSourcesCompile c.task c.call c.status
  pub ends : ProgramsRun c.task c.call c.status
  pub no_trap : ProgramsDoNotTrap c.task c.call c.status
  pub covers : TracesAreCovered c.task c.call c.status
  pub consolidates : TracesAreConsolidated c.task c.call c.status
  pub covers_runs : RunsAreTakenByCoverage c.task c.call c.status
  pub consolidates_runs : RunsAreTakenByConsolidation c.task c.call c.status

-- ---- calls in turn; the latest stands first in each list

-- what the files hold when these calls were made, and what they held before
abbrev pub held_after : Option Held → List ACall → Option Held
held_after before [] = before
held_after before (c ∷ earlier) = c.call.held_after

-- each call was made over the files that the one before it left
abbrev pub InTurn : Option Held → List ACall → Type 0
InTurn before [] = Unit {0}
InTurn before (c ∷ earlier) = IsMade c × (c.call.held ≡ held_after before earlier) × InTurn before earlier

-- the call leaves the file of this name as it was: it names another output or none, or writes nothing
abbrev pub Spares : (name : List ℕ) → ACall → Type 0
Spares name c =
    IfSome c.task (λ asked. output_of asked ≢ Some name) ⊎ ((c.status ≢ Done) × (c.status ≢ WriteFault))

-- ---- which runs a file is of

-- the call ran the object on an input of numbers, and wrote the trace of that run under this name
pub record RanOn (object : List ℕ) (c : ACall) (name : List ℕ) (inputs : List (List ℤ)) : Type 0 where
  pub input : List ℕ
  pub budget : ℕ
  pub asked : c.task ≡ Some (Run input budget name object)
  pub done : c.status ≡ Done
  pub held : Held
  pub told : c.call.held ≡ Some held
  pub bytes : List ℕ
  pub there : Holds input bytes held
  pub numbers : List ℤ
  pub read : IsInputOf numbers bytes
  pub alone : inputs ≡ numbers ∷ []

-- the files of these names are of runs on these inputs, taken in their order
abbrev pub AreTogether : (IsOf : List ℕ → List (List ℤ) → Type 0) → (names : List (List ℕ))
    → (inputs : List (List ℤ)) → Type 0
AreTogether IsOf [] inputs = inputs ≡ []
AreTogether IsOf (name ∷ names) inputs =
    (own : List (List ℤ)) × (others : List (List ℤ)) × (inputs ≡ own ++ others) × IsOf name own
    × AreTogether IsOf names others

-- the call consolidated files that are together of these inputs, and wrote what came of it under this name
pub record ConsolidatedOf (IsOf : List ℕ → List (List ℤ) → Type 0) (object : List ℕ) (c : ACall) (name : List ℕ)
    (inputs : List (List ℤ)) : Type 0 where
  pub names : List (List ℕ)
  pub asked : c.task ≡ Some (Consolidate object name names)
  pub done : c.status ≡ Done
  pub together : AreTogether IsOf names inputs

-- after these calls the file of this name is of runs of the object on these inputs: the latest call wrote it, from a
-- run or from files that were of runs by then, or left a file that was so before
abbrev pub IsOfRuns : (object : List ℕ) → List ACall → (name : List ℕ) → (inputs : List (List ℤ)) → Type 0
IsOfRuns object [] name inputs = ⊥
IsOfRuns object (c ∷ earlier) name inputs =
    RanOn object c name inputs
    ⊎ (ConsolidatedOf (IsOfRuns object earlier) object c name inputs
    ⊎ (Spares name c × IsOfRuns object earlier name inputs))
