-- A user's whole way: sources are compiled, the object is run, files are consolidated, and coverage is asked.
use Rattle.std.specs.Prelude.{◌≡◌, ◌≢◌, ◌↔◌, true, ℕ, ℤ, List, length, map, AllPairs, Some}
use Rattle.ada_meaning.specs.Program.{Program}
use Rattle.annotated_report.specs.Findings.{asks_pairs}
use Rattle.command_words.specs.Task.{Compile, Coverage}
use Rattle.cov_base.specs.declared.event.Event.{Event}
use Rattle.cov_base.specs.declared.level.Annotation.{Annotation}
use Rattle.cov_base.specs.declared.level.Annotation.TheVariants.{Report, Json}
use Rattle.cov_base.specs.declared.level.Level.{Level}
use Rattle.cov_base.specs.declared.obligations.SourceFile.{SourceFile}
use Rattle.cov_base.specs.Lists.{Everywhere, Somewhere}
use Rattle.cov_io.specs.Outside.{Held, WhereTold, Appends}
use Rattle.commands.specs.declared.status.Status.TheVariants.{Done}
use Rattle.commands.specs.Headline.{Occurs, text_of}
use Rattle.commands.specs.Outcome.{Call}
use Rattle.commands.specs.RunsCovered.{ARun, digest_of_run}
use Rattle.commands.specs.ShownPairs.{PutsLeastPairs, PutsLeastPairsInJson}
use Rattle.commands.specs.TaskFiles.{AreHeld}
use Rattle.object_format.specs.declared.object.Object.{Object}
use Rattle.program_objects.specs.Source.{IsObjectOf}
use Rattle.rv_machine.specs.Objects.{object_run}
use Rattle.rv_semantics.specs.Run.Outcome.{Ended}
use Rattle.user_calls.specs.Calls.{ACall, IsMade, held_after, InTurn, Spares, AreTogether, IsOfRuns}

-- the first call compiled the sources of these names to the object, over these files; those behind it, the latest
-- first, left the object's file as it was
pub record IsUse (main object : List ℕ) (names : List (List ℕ)) (held : Held) (first : ACall) (calls : List ACall)
    : Type 0 where
  pub made : IsMade first
  pub told : first.call.held ≡ Some held
  pub asked : first.task ≡ Some (Compile main object names)
  pub done : first.status ≡ Done
  pub turn : InTurn first.call.held_after calls
  pub spared : Everywhere (Spares object) calls

-- a further call, over the files that the calls so far left
abbrev pub IsNext : (first : ACall) → (calls : List ACall) → (last : ACall) → Type 0
IsNext first calls last = IsMade last × (last.call.held ≡ held_after first.call.held_after calls)

-- What was put tells these sources' own executions on these inputs. The sources are those that were held under these
-- names when they were compiled; they are a program, and the runs of its object on the inputs ended. What was put is
-- exactly the text, in the form that was asked for, of the program's obligations and of the events of its own
-- executions, whatever the list in which they are given, and of the number of different traces; a report, and JSON,
-- have the least pairs of these executions.
pub record TellsTheSources (level : Level) (annotation : Annotation) (main : List ℕ) (names : List (List ℕ))
    (held : Held) (inputs : List (List ℤ)) (call : Call) : Type 0 where
  pub sources : List SourceFile
  pub named : map (λ source. source.name) sources ≡ names
  pub read : AreHeld held sources
  pub program : Program
  pub object : Object
  pub of_sources : IsObjectOf sources main program object
  pub runs : List ARun
  pub on_inputs : map (λ r. r.input) runs ≡ inputs
  pub ended : Everywhere (λ r. (object_run object r.budget r.input).outcome ≡ Ended r.ending) runs
  pub held_now : Held
  pub now : call.held ≡ Some held_now
  pub told : (events : List Event)
      → ((e : Event) → Somewhere (λ x. x ≡ e) events ↔ Somewhere (λ input. Occurs program input e) inputs)
      → (digests : List (List ℕ))
      → ((d : List ℕ) → Somewhere (λ x. x ≡ d) digests ↔ Somewhere (λ r. digest_of_run object r ≡ d) runs)
      → AllPairs (λ x y. x ≢ y) digests
      → WhereTold (Appends (text_of annotation level sources program held_now (length digests) events))
      call.written call.written_after
  pub pairs : annotation ≡ Report → asks_pairs level ≡ true
      → WhereTold (PutsLeastPairs level sources program runs) call.written call.written_after
  pub json_pairs : annotation ≡ Json → asks_pairs level ≡ true
      → WhereTold (PutsLeastPairsInJson level sources program runs) call.written call.written_after

-- In each use, coverage that is done over files which are of runs on some inputs tells the sources' own executions on
-- these inputs.
unfoldable pub AUseTellsTheSources : Type 0
AUseTellsTheSources =
    (main object : List ℕ) (sources : List (List ℕ)) (held : Held) (first : ACall) (calls : List ACall)
    → IsUse main object sources held first calls → (last : ACall) → IsNext first calls last
    → (level : Level) (annotation : Annotation) (names : List (List ℕ))
    → last.task ≡ Some (Coverage level annotation object names) → last.status ≡ Done
    → (inputs : List (List ℤ)) → AreTogether (IsOfRuns object calls) names inputs
    → TellsTheSources level annotation main sources held inputs last.call
