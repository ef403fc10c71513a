-- What coverage prints of an object's own runs.
use Rattle.std.specs.Prelude.{◌≡◌, ◌≢◌, ◌↔◌, ◌⊎◌, ℕ, ℤ, List, [], ◌∷◌, ◌++◌, length, AllPairs, Option, Some, Ok}
use Rattle.std.specs.FinMap as finmap
use Rattle.command_words.specs.Task.{Task, Coverage}
use Rattle.cov_base.specs.declared.event.Event.{Event}
use Rattle.cov_base.specs.declared.level.Annotation.{Annotation}
use Rattle.cov_base.specs.declared.level.Level.{Level}
use Rattle.cov_io.specs.Outside.{Held, WhereTold, Appends}
use Rattle.cov_base.specs.Lists.{Everywhere, Somewhere}
use Rattle.coverage_set.specs.Covered.{Covered}
use Rattle.coverage_set.specs.Written as consolidations
use Rattle.commands.specs.Content.{IsFileOf, StandsFor, trace_file}
use Rattle.commands.specs.declared.status.Status.{Status}
use Rattle.commands.specs.declared.status.Status.TheVariants.{Done}
use Rattle.commands.specs.Outcome.{Call}
use Rattle.commands.specs.TaskFiles.{entry_names, held_under}
use Rattle.commands.specs.Texts.{coverage_text}
use Rattle.object_facts.specs.Object.{facts_of}
use Rattle.object_format.specs.declared.object.Object.{Object}
use Rattle.rv_machine.specs.Objects.{object_run}
use Rattle.rv_semantics.specs.declared.stepped.Seen.{Seen}
use Rattle.rv_semantics.specs.Run.Outcome.{Ended}
use Rattle.trace_format.specs.Checks.{trace_of}
use Rattle.trace_format.specs.Formats.{trace_spelling}
use Rattle.trace_record.specs.Written.{traced}
use Rattle.transcript.specs.Reading.{Tells, IsDisciplined}

-- a run of an object: its budget, its input, and the number of its ending
pub record ARun : Type 0 where
  pub budget : ℕ
  pub input : List ℤ
  pub ending : ℕ

-- the instructions that it executes
abbrev pub transcript_of : Object → ARun → List Seen
transcript_of o r = (object_run o r.budget r.input).entries

-- the bytes are the file of the trace of this run of the object, which ended
pub record IsTraceOf (o : Object) (r : ARun) (bytes : List ℕ) : Type 0 where
  pub ended : (object_run o r.budget r.input).outcome ≡ Ended r.ending
  pub traced : bytes ≡ trace_spelling (traced o (transcript_of o r) r.ending)
  pub reads_back : trace_of bytes ≡ Ok (trace_file o (transcript_of o r) r.ending)

-- the digest that closes a run's trace
abbrev pub digest_of_run : Object → ARun → List ℕ
digest_of_run o r = (trace_file o (transcript_of o r) r.ending).closing

-- the bytes are the one consolidated file of these runs of the object, each of which ended: of the digests that close
-- their traces, and of the events that their transcripts tell
pub record IsFileOfRuns (o : Object) (runs : List ARun) (bytes : List ℕ) : Type 0 where
  pub ended : Everywhere (λ r. (object_run o r.budget r.input).outcome ≡ Ended r.ending) runs
  pub covered : Covered
  pub stands : StandsFor o (λ e. Somewhere (λ r. Tells (facts_of o) (transcript_of o r) e) runs)
      (λ d. Somewhere (λ r. digest_of_run o r ≡ d) runs) covered
  pub file : consolidations.IsFileOf covered bytes

-- the bytes are the file of the trace of the one run, or the consolidated file of the runs
abbrev pub IsWrittenOf : Object → List ARun → (bytes : List ℕ) → Type 0
IsWrittenOf o runs bytes = ((r : ARun) × (runs ≡ r ∷ []) × IsTraceOf o r bytes) ⊎ IsFileOfRuns o runs bytes

-- the files of these names are traces and consolidated files, in any mixture, of runs of the object: in their order
-- these are all of the runs
abbrev pub AreTracesOf : Held → Object → (names : List (List ℕ)) → List ARun → Type 0
AreTracesOf held o [] runs = runs ≡ []
AreTracesOf held o (name ∷ names) runs =
    (own : List ARun) × (others : List ARun) × (runs ≡ own ++ others)
    × (bytes : List ℕ) × (finmap.get held name ≡ Some bytes) × IsWrittenOf o own bytes × AreTracesOf held o names others

-- After Done of coverage over an object and traces of runs of it with disciplined transcripts, what was put is the report, in the form
-- that was asked for, of the events that these transcripts tell, whatever the list in which they are given, and of the number of their
-- different traces. Annotated sources show the lines that the files hold.
unfoldable pub RunsAreCovered : Option Task → Call → Status → Type 0
RunsAreCovered task call status =
    (held : Held) (level : Level) (annotation : Annotation) (object : List ℕ) (names : List (List ℕ))
    → call.held ≡ Some held → task ≡ Some (Coverage level annotation object names) → status ≡ Done
    → (bytes : List ℕ) (o : Object) → finmap.get held object ≡ Some bytes → IsFileOf o bytes
    → (runs : List ARun) → AreTracesOf held o names runs → Everywhere (λ r. IsDisciplined (facts_of o) (transcript_of o r)) runs
    → (events : List Event) → ((e : Event) → Somewhere (λ x. x ≡ e) events ↔ Somewhere (λ r. Tells (facts_of o) (transcript_of o r) e) runs)
    → (digests : List (List ℕ)) → ((d : List ℕ) → Somewhere (λ x. x ≡ d) digests ↔ Somewhere (λ r. digest_of_run o r ≡ d) runs)
    → AllPairs (λ x y. x ≢ y) digests
    → WhereTold
    (Appends (coverage_text annotation level o.obligations (length digests) events (held_under held (entry_names o.files))))
    call.written call.written_after
