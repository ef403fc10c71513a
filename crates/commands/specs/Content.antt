-- What a command's answer says of the bytes that it read. This is the one place for it: what is written here is a
-- clause of the program's public call, since `ComesTo` is made of these words and of nothing else.
use Rattle.std.specs.Prelude.{◌≡◌, ◌≢◌, ◌↔◌, ◌⊎◌, ℕ, ℤ, ◌++◌, Bool, true, false, nat_eq, List, [], length, sum_by, codes, AllPairs, Some, None, Ok, Err}
use Rattle.std.specs.Fmt.{decimal}
use Rattle.std.specs.List.{AllByRecursion, starts_with}
use Rattle.ada_meaning.specs.Program.{Program}
use Rattle.program_objects.specs.Legal.{AreRefused}
use Rattle.program_objects.specs.Source.{IsObjectOf, IsCheap}
use Rattle.cov_base.specs.declared.event.Event.{Event}
use Rattle.cov_base.specs.declared.failure.Failure.TheVariants.{Fault}
use Rattle.cov_base.specs.declared.level.Annotation.{Annotation}
use Rattle.cov_base.specs.declared.level.Level.{Level}
use Rattle.cov_base.specs.declared.obligations.SourceFile.{SourceFile}
use Rattle.coverage_set.specs.Consolidated.{events_in, FitsObject, IsRefused}
use Rattle.coverage_set.specs.Covered.{Covered, Has, HasRun, IsCountOfRuns}
use Rattle.coverage_set.specs.Written as consolidations
use Rattle.decision_map.specs.declared.fault.FitFault.{FitFault}
use Rattle.decision_map.specs.Fits.{fault_of}
use Rattle.cov_base.specs.Lists.{Somewhere}
use Rattle.program_objects.specs.declared.fault.SourceFault.{SourceFault}
use Rattle.commands.specs.declared.status.Status.{Status}
use Rattle.commands.specs.declared.status.Status.TheVariants.{SourceRefused, ObjectRefused, TraceRefused, InputRefused, OverBudget, Trap}
use Rattle.commands.specs.declared.status.TraceWhy.TheVariants.{File, Fit, Broken, Consolidated}
use Rattle.commands.specs.RunLines.{closing_of, run_lines}
use Rattle.commands.specs.Texts.{coverage_text}
use Rattle.hex.specs.Hex.{encode_lower}
use Rattle.object_facts.specs.Object.{facts_of}
use Rattle.object_format.specs.declared.fault.ObjectFault.{ObjectFault}
use Rattle.object_format.specs.declared.object.Object.{Object}
use Rattle.object_format.specs.File.{object_bytes}
use Rattle.object_format.specs.Read.{IsObject, IsRefusedFor}
use Rattle.rv32_emulator.specs.InputFile.{numbers_of}
use Rattle.rv_machine.specs.Objects.{object_run}
use Rattle.rv_semantics.specs.declared.stepped.Seen.{Seen}
use Rattle.rv_semantics.specs.Run.Outcome.{Ended, Trapped, Cut}
use Rattle.trace_format.specs.declared.fault.TraceFault.{TraceFault}
use Rattle.trace_format.specs.Checks.{trace_of}
use Rattle.trace_format.specs.Consolidated.{ConsolidatedFile}
use Rattle.trace_format.specs.ConsolidatedChecks.{consolidated_of}
use Rattle.trace_format.specs.ConsolidatedFormats.{consolidated_magic}
use Rattle.trace_format.specs.declared.consolidated.fault.ConsFault.{ConsFault}
use Rattle.trace_format.specs.Formats.{trace_spelling, trace_digest}
use Rattle.trace_format.specs.Trace.{TraceFile, closed_by}
use Rattle.trace_record.specs.Written.{traced}
use Rattle.transcript.specs.Reading.{AllFollow}
use Rattle.transcript.specs.Replay.{BreaksAt}
use Rattle.transcript.specs.Trace.{Says}
use Rattle.vector_rebuild.specs.declared.fault.BrokenHistory.{BrokenHistory}
use Rattle.vector_rebuild.specs.Entries.{trace_in}
use Rattle.vector_rebuild.specs.Rebuilt.{visits_of}

-- the bytes that a command writes, and the text that it puts
pub record Made : Type 0 where
  pub file : List ℕ
  pub text : List ℕ

-- ---- objects, traces and consolidated files that were read

-- the bytes are the file of this object
pub record IsFileOf (o : Object) (bytes : List ℕ) : Type 0 where
  pub checked : IsObject o
  pub spelled : bytes ≡ object_bytes o

-- each branch of a trace's history that is not the root of its decision's graph follows one that leads to it
abbrev pub Follows : Object → TraceFile → Type 0
Follows o trace = AllFollow (facts_of o) [] (visits_of (facts_of o) trace.history)

-- the bytes begin as a consolidated file does
abbrev pub is_consolidated : List ℕ → Bool
is_consolidated bytes = starts_with nat_eq bytes consolidated_magic

-- what holds of bytes that begin as a consolidated file does, and of others, which are to be a trace
pub record ByMagic (bytes : List ℕ) (Merged Trace : Type 0) : Type 0 where
  pub consolidated : is_consolidated bytes ≡ true → Merged
  pub trace : is_consolidated bytes ≡ false → Trace

-- the bytes are a consolidated file that can be one of the object's runs
pub record IsConsolidatedFor (o : Object) (bytes : List ℕ) : Type 0 where
  pub file : ConsolidatedFile
  pub read : consolidated_of bytes ≡ Ok file
  pub fits : FitsObject o file

-- the bytes are the file of a trace that can be one of the object
pub record IsRunTraceFor (o : Object) (bytes : List ℕ) : Type 0 where
  pub trace : TraceFile
  pub read : trace_of bytes ≡ Ok trace
  pub fits : fault_of o trace ≡ None
  pub follows : Follows o trace

-- the bytes are one of both, as their first four say
abbrev pub IsTraceFor : Object → List ℕ → Type 0
IsTraceFor o bytes = ByMagic bytes (IsConsolidatedFor o bytes) (IsRunTraceFor o bytes)

-- this is the first check of its format that the trace fails
abbrev pub FailsAlone : List ℕ → TraceFault → Type 0
FailsAlone bytes why = trace_of bytes ≡ Err why

-- this is the first check beside the object that the trace fails, which passes those of its format
abbrev pub FailsBeside : Object → List ℕ → FitFault → Type 0
FailsBeside o bytes why = (trace : TraceFile) × (trace_of bytes ≡ Ok trace) × (fault_of o trace ≡ Some why)

-- the history of the trace, which passes all other checks, breaks first at that entry
abbrev pub BreaksIn : Object → List ℕ → ℕ → Type 0
BreaksIn o bytes place =
    (trace : TraceFile) × (trace_of bytes ≡ Ok trace) × (fault_of o trace ≡ None)
    × BreaksAt (facts_of o) (visits_of (facts_of o) trace.history) place

-- ---- compile

-- a fault of a source, as a status
abbrev pub refused_for : SourceFault → Status
refused_for fault = SourceRefused fault.file fault.line fault.col fault.why

-- these sources are no legal program whose main unit is called so, and this is their first fault
abbrev pub RefusesSources : (main : List ℕ) → List SourceFile → Status → Type 0
RefusesSources main sources status =
    (fault : SourceFault) × AreRefused sources main fault × (status ≡ refused_for fault)

-- how many conditions the decisions of an object have
abbrev pub condition_count : Object → ℕ
condition_count o = sum_by (λ d. length d.conditions) o.obligations.decisions

-- the lines that tell of an object: what coverage has to show, and the digest at its end
abbrev pub object_lines : Object → List ℕ
object_lines o =
    codes "obligations: " ++ (decimal (length o.obligations.statements)
    ++ (codes " statements, " ++ (decimal (length o.obligations.decisions)
    ++ (codes " decisions, " ++ (decimal (condition_count o)
    ++ (codes " conditions\nobject: " ++ (encode_lower o.closing ++ codes "\n")))))))

-- these sources are a legal program; the file is that of an object of it, which is cheap, and the text tells that
-- object's counts and digest
pub record CompilesTo (main : List ℕ) (sources : List SourceFile) (made : Made) : Type 0 where
  pub program : Program
  pub object : Object
  pub of_program : IsObjectOf sources main program object
  pub cheap : IsCheap sources main program object
  pub spelled : made.file ≡ object_bytes object
  pub told : made.text ≡ object_lines object

-- ---- run

-- all commands but compile: the bytes are no object, and this is the first check that they fail
abbrev pub RefusesObject : (object : List ℕ) → Status → Type 0
RefusesObject object status = (why : ObjectFault) × IsRefusedFor object why × (status ≡ ObjectRefused why)

-- the bytes are an input of these numbers
abbrev pub IsInputOf : List ℤ → (input : List ℕ) → Type 0
IsInputOf numbers input = numbers_of input ≡ Ok numbers

-- this is the first line of the bytes that is no number
abbrev pub RefusesInput : (input : List ℕ) → Status → Type 0
RefusesInput input status = (line : ℕ) × (numbers_of input ≡ Err line) × (status ≡ InputRefused line)

-- the object's run on the input has no ending: it had not ended after as many instructions as its budget, or an instruction trapped before
abbrev pub StopsRun : Object → (budget : ℕ) → (input : List ℤ) → Status → Type 0
StopsRun o budget input (OverBudget count) =
    ((object_run o budget input).outcome ≡ Cut) × (length (object_run o budget input).entries ≡ budget) × (count ≡ budget)
StopsRun o budget input (Trap pc why) = (object_run o budget input).outcome ≡ Trapped pc why
StopsRun o budget input status = ⊥

-- the trace of a transcript and an ending, closed by the digest of its own file
abbrev pub trace_file : Object → List Seen → (ending : ℕ) → TraceFile
trace_file o entries ending = closed_by (traced o entries ending) (trace_digest (traced o entries ending))

-- the object's run on the input ends within its budget; the file is the trace of its transcript and ending, and the text tells its output,
-- its ending, its length and its trace's digest
pub record RunsTo (o : Object) (budget : ℕ) (input : List ℤ) (made : Made) : Type 0 where
  pub ending : ℕ
  pub ended : (object_run o budget input).outcome ≡ Ended ending
  pub traced : made.file ≡ trace_spelling (traced o (object_run o budget input).entries ending)
  pub reads_back : trace_of made.file ≡ Ok (trace_file o (object_run o budget input).entries ending)
  pub told : made.text ≡
      run_lines o.obligations.exceptions (object_run o budget input).output ending (length (object_run o budget input).entries) made.file

-- ---- coverage and consolidate

-- the bytes are no trace of the object, and this is the first check that they fail; they are those of the trace with this number, from 1
abbrev pub RefusesRunTrace : ℕ → Object → (trace : List ℕ) → Status → Type 0
RefusesRunTrace number o trace status =
    ((why : TraceFault) × FailsAlone trace why × (status ≡ TraceRefused number (File why)))
    ⊎ (((why : FitFault) × FailsBeside o trace why × (status ≡ TraceRefused number (Fit why)))
    ⊎ ((why : BrokenHistory) × BreaksIn o trace why.at × (status ≡ TraceRefused number (Broken why))))

-- the same of bytes that begin as a consolidated file does
abbrev pub RefusesConsolidated : ℕ → Object → (bytes : List ℕ) → Status → Type 0
RefusesConsolidated number o bytes status =
    (why : ConsFault) × IsRefused o bytes (Fault why) × (status ≡ TraceRefused number (Consolidated why))

-- the same of either
abbrev pub RefusesTrace : ℕ → Object → (bytes : List ℕ) → Status → Type 0
RefusesTrace number o bytes status =
    ByMagic bytes (RefusesConsolidated number o bytes status) (RefusesRunTrace number o bytes status)

-- the trace in these bytes says that an event occurred in the run
abbrev pub RunShows : Object → (trace : List ℕ) → Event → Type 0
RunShows o bytes e = (trace : TraceFile) × (trace_of bytes ≡ Ok trace) × Says (facts_of o) (trace_in trace) e

-- the consolidated file in these bytes lists the event
abbrev pub ListsEvent : (bytes : List ℕ) → Event → Type 0
ListsEvent bytes e =
    (file : ConsolidatedFile) × (consolidated_of bytes ≡ Ok file) × Somewhere (λ x. x ≡ e) (events_in file)

-- what is in these bytes shows the event
abbrev pub Shows : Object → (bytes : List ℕ) → Event → Type 0
Shows o bytes e = ByMagic bytes (ListsEvent bytes e) (RunShows o bytes e)

-- the trace in these bytes ends with this digest, by which its run is told from others
abbrev pub ClosesWith : (digest trace : List ℕ) → Type 0
ClosesWith digest bytes = (trace : TraceFile) × (trace_of bytes ≡ Ok trace) × (trace.closing ≡ digest)

-- the consolidated file in these bytes lists the run with this digest
abbrev pub ListsRun : (digest bytes : List ℕ) → Type 0
ListsRun digest bytes =
    (file : ConsolidatedFile) × (consolidated_of bytes ≡ Ok file) × Somewhere (λ x. x ≡ digest) file.runs

-- what is in these bytes is of the run with this digest, or of it and others
abbrev pub Counts : (digest bytes : List ℕ) → Type 0
Counts digest bytes = ByMagic bytes (ListsRun digest bytes) (ClosesWith digest bytes)

-- the text is the report in a form at a level on an object, over these sources, over events and over runs with digests: each
-- of the events is there, and each run is counted once
pub record IsReport (level : Level) (annotation : Annotation) (o : Object) (sources : List SourceFile)
    (IsThere : Event → Type 0) (IsCounted : List ℕ → Type 0) (text : List ℕ) : Type 0 where
  pub events : List Event
  pub digests : List (List ℕ)
  pub all_events : (e : Event) → Somewhere (λ x. x ≡ e) events ↔ IsThere e
  pub all_digests : (digest : List ℕ) → Somewhere (λ x. x ≡ digest) digests ↔ IsCounted digest
  pub each_once : AllPairs (λ x y. x ≢ y) digests
  pub told : text ≡ coverage_text annotation level o.obligations (length digests) events sources

-- each of the files is a trace of the object; the text is the report in the form, at the level, of what they show
pub record Reports (level : Level) (annotation : Annotation) (o : Object) (sources : List SourceFile)
    (traces : List (List ℕ)) (text : List ℕ) : Type 0 where
  pub fit : AllByRecursion (IsTraceFor o) traces
  pub report : IsReport level annotation o sources (λ e. Somewhere (λ trace. Shows o trace e) traces)
      (λ digest. Somewhere (Counts digest) traces) text

-- the coverage is of the object, and stands for these events and runs with digests
pub record StandsFor (o : Object) (IsThere : Event → Type 0) (IsCounted : List ℕ → Type 0) (c : Covered) : Type 0 where
  pub object : c.object ≡ o
  pub events : (e : Event) → Has c e ↔ IsThere e
  pub runs : (digest : List ℕ) → HasRun c digest ↔ IsCounted digest

-- the lines that tell of a consolidated file: of how many runs it is, and the digest at its end
abbrev pub file_lines : (count : ℕ) → (file : List ℕ) → List ℕ
file_lines count file =
    codes "traces: " ++ (decimal count ++ (codes "\nfile: " ++ (encode_lower (closing_of file) ++ codes "\n")))

-- the file is the one consolidated file of what the coverage stands for, and the text tells the count of its runs and
-- the file's digest
pub record TellsFile (c : Covered) (made : Made) : Type 0 where
  pub file : consolidations.IsFileOf c made.file
  pub count : ℕ
  pub counted : IsCountOfRuns c count
  pub told : made.text ≡ file_lines count made.file

-- each of the files is a trace of the object; the file is the one consolidated file of what they show and of their runs
pub record ConsolidatesTo (o : Object) (traces : List (List ℕ)) (made : Made) : Type 0 where
  pub fit : AllByRecursion (IsTraceFor o) traces
  pub covered : Covered
  pub stands : StandsFor o (λ e. Somewhere (λ trace. Shows o trace e) traces)
      (λ digest. Somewhere (Counts digest) traces) covered
  pub tells : TellsFile covered made
