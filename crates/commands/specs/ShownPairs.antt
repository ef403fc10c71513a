-- The pairs of vectors that coverage prints are the program's own, and the least of them.
use Rattle.std.specs.Prelude.{◌≡◌, true, ℕ, List, Option, Some}
use Rattle.std.specs.FinMap as finmap
use Rattle.ada_meaning.specs.Obligations.{obligations_of}
use Rattle.ada_meaning.specs.Program.{Program}
use Rattle.annotated_report.specs.Findings.{asks_pairs}
use Rattle.annotated_report.specs.Paired.{EndsInPairs}
use Rattle.command_words.specs.Task.{Task, Coverage}
use Rattle.json_report.specs.Pairs.{CarriesLeastPairs}
use Rattle.program_objects.specs.Exemptions.{exempt_regions}
use Rattle.program_objects.specs.Source.{IsObjectOf}
use Rattle.cov_base.specs.declared.event.Event.{Event}
use Rattle.cov_base.specs.declared.level.Annotation.TheVariants.{Report, Json}
use Rattle.cov_base.specs.declared.level.Level.{Level}
use Rattle.cov_base.specs.declared.obligations.SourceFile.{SourceFile}
use Rattle.cov_io.specs.Outside.{Held, WhereTold, Appends}
use Rattle.cov_base.specs.Lists.{Everywhere, Somewhere}
use Rattle.commands.specs.declared.status.Status.{Status}
use Rattle.commands.specs.declared.status.Status.TheVariants.{Done}
use Rattle.commands.specs.Headline.{Occurs}
use Rattle.commands.specs.Outcome.{Call}
use Rattle.commands.specs.RunsCovered.{ARun, AreTracesOf}
use Rattle.commands.specs.Texts.{names_of}
use Rattle.kernel_code.specs.Whole.{IsInput}
use Rattle.object_format.specs.declared.object.Object.{Object}
use Rattle.object_format.specs.File.{object_bytes}

-- the event occurs in the program's own execution on the input of one of these runs
abbrev pub OccursInRuns : Program → List ARun → Event → Type 0
OccursInRuns p runs e = Somewhere (λ r. Occurs p r.input e) runs

-- What was put ends in the part on conditions and pairs of the program's decisions. Each of its lines names a condition,
-- and tells two vectors of completed evaluations in the program's own executions on these inputs: of all vectors of such
-- evaluations of the decision they are the least pair of the level's kind for the condition. Each condition that has
-- such a pair has a line, and no two lines are of one condition.
pub record PutsLeastPairs (level : Level) (files : List SourceFile) (p : Program) (runs : List ARun)
    (old new : List ℕ) : Type 0 where
  pub text : List ℕ
  pub put : Appends text old new
  pub pairs : EndsInPairs level (obligations_of p (exempt_regions files)).decisions (OccursInRuns p runs)
      (names_of files) text

-- For every program, every object of it, and the traces of runs of that object on any inputs: after Done of coverage as
-- a report over these files at a level that asks for pairs, what was put ends in the least pairs of the program's own
-- executions.
unfoldable pub LeastPairsAreShown : Option Task → Call → Status → Type 0
LeastPairsAreShown task call status =
    (held : Held) (level : Level) (object : List ℕ) (names : List (List ℕ))
    → call.held ≡ Some held → task ≡ Some (Coverage level Report object names) → status ≡ Done
    → asks_pairs level ≡ true
    → (files : List SourceFile) (main : List ℕ) (p : Program) (o : Object) → IsObjectOf files main p o
    → finmap.get held object ≡ Some (object_bytes o)
    → (runs : List ARun) → AreTracesOf held o names runs → Everywhere (λ r. IsInput r.input) runs
    → WhereTold (PutsLeastPairs level files p runs) call.written call.written_after

-- What was put is JSON that has an object for each of the program's decisions, and in it one for each condition, which
-- tells the same two vectors, or null where no two vectors of such evaluations are a pair of the level's kind.
pub record PutsLeastPairsInJson (level : Level) (files : List SourceFile) (p : Program) (runs : List ARun)
    (old new : List ℕ) : Type 0 where
  pub text : List ℕ
  pub put : Appends text old new
  pub pairs : CarriesLeastPairs level (obligations_of p (exempt_regions files)).decisions (OccursInRuns p runs)
      (names_of files) text

-- The same after Done of coverage as JSON.
unfoldable pub LeastPairsAreInJson : Option Task → Call → Status → Type 0
LeastPairsAreInJson task call status =
    (held : Held) (level : Level) (object : List ℕ) (names : List (List ℕ))
    → call.held ≡ Some held → task ≡ Some (Coverage level Json object names) → status ≡ Done
    → asks_pairs level ≡ true
    → (files : List SourceFile) (main : List ℕ) (p : Program) (o : Object) → IsObjectOf files main p o
    → finmap.get held object ≡ Some (object_bytes o)
    → (runs : List ARun) → AreTracesOf held o names runs → Everywhere (λ r. IsInput r.input) runs
    → WhereTold (PutsLeastPairsInJson level files p runs) call.written call.written_after
