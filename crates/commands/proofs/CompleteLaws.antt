-- When commands do their work.
use Rattle.std.proofs.Common.{◌≡◌, inl, inr, ⊎_elim, ℕ, ◌+◌, Bool, true, false, ℤ, List, [], ◌∷◌, map, IfSome, MatchOption, Option, Some, None, Result, Ok, Err, refl, sym, subst, ◌∙◌}
use Rattle.std.specs.FinMap as finmap
use Rattle.ada_meaning.specs.Program.{Program}
use Rattle.command_words.specs.Task.{Task, Compile, Run, Coverage, Consolidate}
use Rattle.program_objects.proofs.Refusals.{not_refused}
use Rattle.program_objects.specs.Behaves.{number_of}
use Rattle.program_objects.specs.Source.{entry_of_file, IsObjectOf}
use Rattle.cov_base.specs.declared.level.Annotation.{Annotation}
use Rattle.cov_base.specs.declared.level.Annotation.TheVariants.{Report, Xcov, Json}
use Rattle.cov_base.specs.declared.obligations.SourceFile.{SourceFile}
use Rattle.cov_io.specs.Outside.{Held}
use Rattle.cov_base.specs.declared.event.Event.{Event}
use Rattle.coverage_set.proofs.OneFile.{taken}
use Rattle.coverage_set.proofs.OwnTraces.{own_fits, own_follows}
use Rattle.coverage_set.proofs.Possible.{said_possible}
use Rattle.coverage_set.proofs.RunLaw as transcripts
use Rattle.coverage_set.specs.Consolidated.{events_in, IsPossibleEvent}
use Rattle.decision_map.specs.Fits.{fault_of}
use Rattle.cov_base.specs.Lists.{Everywhere, Somewhere}
use Rattle.commands.specs.Complete.{NothingFails, IsDone, LegalSourcesCompile, ProgramsRun, ProgramsDoNotTrap, SourcesAreThere, TracesAreCovered, TracesAreConsolidated}
use Rattle.commands.specs.Content.{IsFileOf, is_consolidated, IsConsolidatedFor, IsRunTraceFor, IsTraceFor, IsInputOf, RefusesSources, RefusesConsolidated, RefusesRunTrace, RefusesTrace, StopsRun, trace_file, Follows}
use Rattle.commands.specs.declared.status.FileRef.TheVariants.{Word}
use Rattle.commands.specs.declared.status.Status.{Status}
use Rattle.commands.specs.declared.status.Status.TheVariants.{Done, Usage, SourceRefused, ObjectRefused, TraceRefused, InputRefused, OverBudget, Trap, SourceChanged, ReadFault, WriteFault, WantOfMemory}
use Rattle.commands.specs.Outcome.{Call, Because, Answers}
use Rattle.commands.specs.RunsCovered.{ARun, transcript_of, IsTraceOf, IsFileOfRuns, IsWrittenOf, AreTracesOf, digest_of_run}
use Rattle.commands.specs.Reading.{AreKept}
use Rattle.commands.specs.TaskFiles.{AreHeld, read_for}
use Rattle.commands.specs.Verdict.{Output, AfterRead, AfterObject, AfterInput, AfterSources, AfterTrace, AfterTraces, Compiles, RunsOn, Covers, Prints, Consolidates, ComesTo}
use Rattle.commands.proofs.CoveringLaws.{as_consolidated, as_trace}
use Rattle.commands.proofs.FileLaws.{file_fits, file_kind}
use Rattle.commands.proofs.HeadlineLaws.{is_file, all_fair}
use Rattle.commands.proofs.InputLaws.{numbers_fit}
use Rattle.commands.proofs.KeptLaws.{none_stops}
use Rattle.commands.proofs.RunsLaw.{parted, trace_kind}
use Rattle.kernel_code.specs.Whole.{IsInput}
use Rattle.object_facts.specs.Object.{facts_of}
use Rattle.object_format.proofs.FileLaws.{one_object, structured_only}
use Rattle.object_format.specs.Checked.{IsSound, FailsFirst}
use Rattle.object_format.specs.declared.fault.ObjectFault.{ObjectFault}
use Rattle.object_format.specs.declared.fault.ObjectFault.TheVariants.{Short, Magic, Version, Long, Damaged, Field, Decision, Row, Role}
use Rattle.object_format.specs.declared.object.FileEntry.{FileEntry}
use Rattle.object_format.specs.declared.object.Object.{Object}
use Rattle.object_format.specs.Fields.{passes_field}
use Rattle.object_format.specs.File.{object_bytes, structured}
use Rattle.object_format.specs.Read.{IsRefusedFor}
use Rattle.rv_machine.specs.Objects.{object_run}
use Rattle.rv_semantics.specs.declared.stepped.TrapWhy.{TrapWhy}
use Rattle.rv_semantics.specs.Run.Outcome.{Ended, Trapped}
use Rattle.trace_format.specs.declared.fault.TraceFault.{TraceFault}
use Rattle.trace_format.specs.Trace.{TraceFile}
use Rattle.trace_record.specs.Written.{traced}
use Rattle.transcript.proofs.Broken.{whole_law, broken_law}
use Rattle.transcript.specs.Reading.{AllFollow, Tells, IsDisciplined}
use Rattle.vector_rebuild.specs.Rebuilt.{visits_of}

-- a refusal, as a verdict
abbrev refused : Status → Result Output Status
refused status = Err status

-- ---- what nothing stops is done

-- what is told of what is held
told_of : (held : Held) (there : Option Held) (P : Held → Type 0) → there ≡ Some held → IfSome there P → P held
told_of held there P holds says = subst (λ (h : Option Held). IfSome h P) holds says

pub done_unless : (held : Held) (task : Task) (call : Call) (status : Status) → call.held ≡ Some held → NothingFails call
    → ((s : Status) → ComesTo held task (refused s) → ⊥) → Because task call status → IsDone status
done_unless held task call Done holds fine never b = inl refl
done_unless held task call Usage holds fine never b = absurd b
done_unless held task call WriteFault holds fine never b = absurd (⊎_elim (λ f. fine.writes f.writes) (λ f. fine.puts f.failures) b.delivers)
done_unless held task call WantOfMemory holds fine never b = inr refl
done_unless held task call (ReadFault file) holds fine never b =
    absurd (⊎_elim (λ rose. fine.reads rose) (λ absent. never (ReadFault file) (rw holds at absent.1)) b.0.1)
done_unless held task call (SourceChanged file) holds fine never b = absurd (never (SourceChanged file) (told_of held call.held _ holds b.0.1.1))
done_unless held task call (SourceRefused file line col why) holds fine never b = absurd (never (SourceRefused file line col why) (told_of held call.held _ holds b.0.1))
done_unless held task call (ObjectRefused why) holds fine never b = absurd (never (ObjectRefused why) (told_of held call.held _ holds b.0.1))
done_unless held task call (TraceRefused index why) holds fine never b = absurd (never (TraceRefused index why) (told_of held call.held _ holds b.0.1))
done_unless held task call (InputRefused line) holds fine never b = absurd (never (InputRefused line) (told_of held call.held _ holds b.0.1))
done_unless held task call (OverBudget count) holds fine never b = absurd (never (OverBudget count) (told_of held call.held _ holds b.0.1))
done_unless held task call (Trap pc why) holds fine never b = absurd (never (Trap pc why) (told_of held call.held _ holds b.0.1))

pub asked : (task : Task) (words : Option Task) (call : Call) (status : Status) → words ≡ Some task → Answers words call status → Because task call status
asked task words call status is answers = subst (λ (t : Option Task). Answers t call status) is answers

-- ---- objects

-- a sound object fails no check
sound_passes : (o : Object) (field : Bool) (f : ObjectFault) → IsSound o → field ≡ true → FailsFirst field o f → ⊥
sound_passes o field Field s holds h = let bad : ⊥ = cc in bad
sound_passes o field Decision s holds h = h.1 s.decision
sound_passes o field Row s holds h = h.2 s.row
sound_passes o field Role s holds h = h.3 s.role
sound_passes o field Short s holds h = h
sound_passes o field Magic s holds h = h
sound_passes o field Version s holds h = h
sound_passes o field Long s holds h = h
sound_passes o field Damaged s holds h = h

abbrev fine_object : Object → Result Object ObjectFault
fine_object o = Ok o

unrefused : (o : Object) (bytes : List ℕ) (why : ObjectFault) → IsFileOf o bytes → IsRefusedFor bytes why → ⊥
unrefused o bytes why is refuses =
    let read : structured bytes ≡ fine_object o = subst (λ (b : List ℕ). structured b ≡ fine_object o) (sym is.spelled) (structured_only o is.checked.closed) in
    ⊎_elim
    (λ bad. let x : ⊥ = cc (read, bad) in x)
    (λ other. let same : fine_object o ≡ fine_object other.0 = sym read ∙ other.1 in
    let one : o ≡ other.0 = cc same in
    let sound = subst (λ (x : Object). IsSound x) one is.checked.sound in
    sound_passes other.0 (passes_field other.0) why sound sound.field other.2)
    refuses

-- what follows of an object, where its file was read
pub of_object : (o : Object) (bytes : List ℕ) (Then : Object → Result Output Status → Type 0) (s : Status) → IsFileOf o bytes → AfterObject bytes Then (refused s) → Then o (refused s)
of_object o bytes Then s is (inl refuses) = absurd (unrefused o bytes refuses.0 is refuses.1)
of_object o bytes Then s is (inr other) =
    subst (λ (x : Object). Then x (refused s)) (one_object other.0 o other.1.checked.closed is.checked.closed (sym other.1.spelled ∙ is.spelled)) other.2

-- what follows of a file that is there
pub of_read : (held : Held) (place : ℕ) (name bytes : List ℕ) (Then : List ℕ → Result Output Status → Type 0) (s : Status) → finmap.get held name ≡ Some bytes
    → AfterRead held place name Then (refused s) → Then bytes (refused s)
of_read held place name bytes Then s there says = rw there at says

-- ---- compile

-- what follows of sources that are there
of_sources : (held : Held) (place : ℕ) (sources : List SourceFile) (Then : List SourceFile → Result Output Status → Type 0) (s : Status) → AreHeld held sources
    → AfterSources held place (map (λ source. source.name) sources) Then (refused s) → Then sources (refused s)
of_sources held place [] Then s there says = says
of_sources held place (source ∷ sources) Then s there says =
    of_sources held (place + 1) sources (λ others. Then (source ∷ others)) s there.1 (rw there.0 at says)

pub compile_law : (task : Option Task) (call : Call) (status : Status) → Answers task call status → LegalSourcesCompile task call status
unfolding LegalSourcesCompile
compile_law task call status answers = λ held main object names holds is fine sources p named there legal.
    done_unless held (Compile main object names) call status holds fine
    (λ s comes.
    let refuses : RefusesSources main sources s =
    of_sources held 0 sources (Compiles main object) s there (subst (λ (ns : List (List ℕ)). AfterSources held 0 ns (Compiles main object) (refused s)) (sym named) comes) in
    not_refused sources main p refuses.0 legal refuses.1)
    (asked (Compile main object names) task call status is answers)

-- ---- run

abbrev fine_numbers : List ℤ → Result (List ℤ) ℕ
fine_numbers ns = Ok ns

-- what follows of an input, where it was read
of_input : (numbers : List ℤ) (bytes : List ℕ) (Then : List ℤ → Result Output Status → Type 0) (s : Status) → IsInputOf numbers bytes → AfterInput bytes Then (refused s) → Then numbers (refused s)
of_input numbers bytes Then s is (inl refuses) = let x : ⊥ = cc (is, refuses.1) in absurd x
of_input numbers bytes Then s is (inr other) =
    let same : fine_numbers other.0 ≡ fine_numbers numbers = sym other.1 ∙ is in
    let one : other.0 ≡ numbers = cc same in
    subst (λ (ns : List ℤ). Then ns (refused s)) one other.2

-- a run that ended was not stopped
unstopped : (o : Object) (budget number : ℕ) (input : List ℤ) (s : Status) → (object_run o budget input).outcome ≡ Ended number → StopsRun o budget input s → ⊥
unstopped o budget number input (OverBudget count) ended stops = let x : ⊥ = cc (ended, stops.0) in x
unstopped o budget number input (Trap pc why) ended stops = let x : ⊥ = cc (ended, stops) in x
unstopped o budget number input Done ended stops = stops
unstopped o budget number input Usage ended stops = stops
unstopped o budget number input (SourceRefused file line col why) ended stops = stops
unstopped o budget number input (ObjectRefused why) ended stops = stops
unstopped o budget number input (TraceRefused index why) ended stops = stops
unstopped o budget number input (InputRefused line) ended stops = stops
unstopped o budget number input (SourceChanged file) ended stops = stops
unstopped o budget number input (ReadFault file) ended stops = stops
unstopped o budget number input WriteFault ended stops = stops
unstopped o budget number input WantOfMemory ended stops = stops

-- what a run comes to when its object was read
abbrev AfterTheObject : Held → (input trace : List ℕ) → (budget : ℕ) → Object → Result Output Status → Type 0
AfterTheObject held input trace budget o = AfterRead held 1 input (λ bytes. AfterInput bytes (RunsOn trace budget o))

-- what stopped a run of an object
run_stopped : (held : Held) (input trace object : List ℕ) (budget : ℕ) (s : Status) (o : Object) (bytes : List ℕ) (numbers : List ℤ)
    → IsFileOf o (object_bytes o) → finmap.get held object ≡ Some (object_bytes o) → finmap.get held input ≡ Some bytes → IsInputOf numbers bytes
    → ComesTo held (Run input budget trace object) (refused s) → StopsRun o budget numbers s
run_stopped held input trace object budget s o bytes numbers is there also reads comes =
    of_input numbers bytes (RunsOn trace budget o) s reads
    (of_read held 1 input bytes (λ bytes. AfterInput bytes (RunsOn trace budget o)) s also
    (of_object o (object_bytes o) (AfterTheObject held input trace budget) s is
    (of_read held 0 object (object_bytes o) (λ bytes. AfterObject bytes (AfterTheObject held input trace budget)) s there comes)))

pub run_law : (task : Option Task) (call : Call) (status : Status) → Answers task call status → ProgramsRun task call status
unfolding ProgramsRun
run_law task call status answers = λ held input trace object budget holds is fine files main p o of cheap there bytes numbers also reads x ends enough.
    let shows = cheap.in_time.in_time numbers (numbers_fit bytes numbers reads) x ends budget enough in
    done_unless held (Run input budget trace object) call status holds fine
    (λ s comes. unstopped o budget (number_of x.ending) numbers s shows.ended
    (run_stopped held input trace object budget s o bytes numbers (is_file files main p o of) there also reads comes))
    (asked (Run input budget trace object) task call status is answers)

-- what was read before a trap
of_trap : (held : Held) (input trace object : List ℕ) (budget : ℕ) (o : Object) (pc : ℕ) (why : TrapWhy) → IsFileOf o (object_bytes o) → finmap.get held object ≡ Some (object_bytes o)
    → ComesTo held (Run input budget trace object) (refused (Trap pc why))
    → (bytes : List ℕ) × (numbers : List ℤ) × IsInputOf numbers bytes × ((object_run o budget numbers).outcome ≡ Trapped pc why)
of_trap held input trace object budget o pc why is there comes =
    read (finmap.get held input) (of_object o (object_bytes o) (AfterTheObject held input trace budget) (Trap pc why) is
    (of_read held 0 object (object_bytes o) (λ bytes. AfterObject bytes (AfterTheObject held input trace budget)) (Trap pc why) there comes))
  where
    after : (bytes : List ℕ) → AfterInput bytes (RunsOn trace budget o) (refused (Trap pc why))
        → (bytes : List ℕ) × (numbers : List ℤ) × IsInputOf numbers bytes × ((object_run o budget numbers).outcome ≡ Trapped pc why)
    after bytes (inl refuses) = let x : ⊥ = cc (refuses.2) in absurd x
    after bytes (inr other) = (bytes, other.0, other.1, other.2)

    read : (got : Option (List ℕ)) → MatchOption got (refused (Trap pc why) ≡ Err (ReadFault (Word 1))) (λ bytes. AfterInput bytes (RunsOn trace budget o) (refused (Trap pc why)))
        → (bytes : List ℕ) × (numbers : List ℤ) × IsInputOf numbers bytes × ((object_run o budget numbers).outcome ≡ Trapped pc why)
    read None says = let x : ⊥ = cc says in absurd x
    read (Some bytes) says = after bytes says

pub trap_law : (task : Option Task) (call : Call) (status : Status) → Answers task call status → ProgramsDoNotTrap task call status
unfolding ProgramsDoNotTrap
trap_law task call status answers = λ held input trace object budget holds is files main p o of there pc why trapped.
    let b : Because (Run input budget trace object) call (Trap pc why) = subst (λ (s : Status). Because (Run input budget trace object) call s) trapped (asked (Run input budget trace object) task call status is answers) in
    let stopped = of_trap held input trace object budget o pc why (is_file files main p o of) there (told_of held call.held _ holds b.0.1) in
    of.behaves.no_trap budget stopped.1 (numbers_fit stopped.0 stopped.1 stopped.2) pc why stopped.3

-- ---- coverage and consolidate

abbrev fine_trace : TraceFile → Result TraceFile TraceFault
fine_trace t = Ok t

-- the trace of a run of an object passes all checks
own_trace : (o : Object) (r : ARun) (bytes : List ℕ) → IsSound o → IsDisciplined (facts_of o) (transcript_of o r) → IsTraceOf o r bytes → IsRunTraceFor o bytes
own_trace o r bytes sound disciplined is = record {
  trace = trace_file o (transcript_of o r) r.ending;
  read = is.reads_back;
  fits = own_fits o r.budget r.input r.ending (digest_of_run o r) sound is.ended;
  follows = own_follows o (transcript_of o r) r.ending (digest_of_run o r) disciplined;
}

-- runs of the object can have what its runs tell
told_possible : (o : Object) (runs : List ARun) (e : Event) → IsSound o → Everywhere (λ r. (object_run o r.budget r.input).outcome ≡ Ended r.ending) runs
    → Everywhere (λ r. IsDisciplined (facts_of o) (transcript_of o r)) runs → Somewhere (λ r. Tells (facts_of o) (transcript_of o r) e) runs → IsPossibleEvent o e
told_possible o [] e sound ended fair tells = absurd tells
told_possible o (r ∷ rs) e sound ended fair tells =
    ⊎_elim
    (λ here. said_possible o sound (trace_file o (transcript_of o r) r.ending) e
    ((transcripts.run_law o r.budget r.input r.ending (digest_of_run o r) e sound ended.0 fair.0).1 here))
    (λ there. told_possible o rs e sound ended.1 fair.1 there) tells

-- so does the consolidated file of runs
own_file : (o : Object) (runs : List ARun) (bytes : List ℕ) → IsSound o → Everywhere (λ r. IsDisciplined (facts_of o) (transcript_of o r)) runs
    → IsFileOfRuns o runs bytes → IsConsolidatedFor o bytes
own_file o runs bytes sound fair is =
    file_fits o is.covered bytes is.stands.object (λ e has. told_possible o runs e sound is.ended fair ((is.stands.events e).0 has)) is.file

-- either passes all checks
own_fine : (o : Object) (runs : List ARun) (bytes : List ℕ) → IsSound o → Everywhere (λ r. IsDisciplined (facts_of o) (transcript_of o r)) runs
    → IsWrittenOf o runs bytes → IsTraceFor o bytes
own_fine o runs bytes sound fair (inl (r, only, trace)) =
    let one = subst (λ (rs : List ARun). Everywhere (λ r. IsDisciplined (facts_of o) (transcript_of o r)) rs) only fair in
    as_trace bytes (trace_kind bytes (traced o (transcript_of o r) r.ending) trace.traced) (own_trace o r bytes sound one.0 trace)
own_fine o runs bytes sound fair (inr file) =
    as_consolidated bytes (file_kind file.covered bytes file.file) (own_file o runs bytes sound fair file)

-- a trace that passes all checks is not refused
run_unrefused : (o : Object) (number : ℕ) (bytes : List ℕ) (s : Status) → IsRunTraceFor o bytes → RefusesRunTrace number o bytes s → ⊥
run_unrefused o number bytes s is (inl alone) = let x : ⊥ = cc (is.read, alone.1) in x
run_unrefused o number bytes s is (inr (inl beside)) =
    let same : fine_trace beside.1.0 ≡ fine_trace is.trace = sym beside.1.1 ∙ is.read in
    let one : beside.1.0 ≡ is.trace = cc same in
    let fits : fault_of o beside.1.0 ≡ None = subst (λ (t : TraceFile). fault_of o t ≡ None) (sym one) is.fits in
    let x : ⊥ = cc (fits, beside.1.2) in x
run_unrefused o number bytes s is (inr (inr breaks)) =
    let same : fine_trace breaks.1.0 ≡ fine_trace is.trace = sym breaks.1.1 ∙ is.read in
    let one : breaks.1.0 ≡ is.trace = cc same in
    let follows : AllFollow (facts_of o) [] (visits_of (facts_of o) breaks.1.0.history) = subst (λ (t : TraceFile). Follows o t) (sym one) is.follows in
    let whole = (whole_law (facts_of o) (visits_of (facts_of o) breaks.1.0.history)).1 follows in
    let broken = (broken_law (facts_of o) (visits_of (facts_of o) breaks.1.0.history) breaks.0.at).1 breaks.1.3 in
    let x : ⊥ = cc (whole, broken) in x

-- a consolidated file likewise
list_unrefused : (o : Object) (number : ℕ) (bytes : List ℕ) (s : Status) → IsConsolidatedFor o bytes → RefusesConsolidated number o bytes s → ⊥
list_unrefused o number bytes s is refuses =
    taken o bytes (record { object = o; runs = is.file.runs; events = events_in is.file }) refuses.0
    (record { file = is.file; is = is.read; fits = is.fits; object = refl; runs = λ d. (λ x. x, λ x. x); events = λ e. (λ x. x, λ x. x) })
    refuses.1

-- either
trace_unrefused : (o : Object) (number : ℕ) (bytes : List ℕ) (s : Status) → IsTraceFor o bytes → RefusesTrace number o bytes s → ⊥
trace_unrefused o number bytes s is refuses = by_kind (is_consolidated bytes) refl
  where
    by_kind : (b : Bool) → is_consolidated bytes ≡ b → ⊥
    by_kind true kind = list_unrefused o number bytes s (is.consolidated kind) (refuses.consolidated kind)
    by_kind false kind = run_unrefused o number bytes s (is.trace kind) (refuses.trace kind)

one_passes : (o : Object) (number : ℕ) (bytes : List ℕ) (Then : Result Output Status → Type 0) (s : Status) → IsTraceFor o bytes → AfterTrace number o bytes Then (refused s) → Then (refused s)
one_passes o number bytes Then s is (inl refuses) = absurd (trace_unrefused o number bytes s is refuses)
one_passes o number bytes Then s is (inr next) = next.1

-- the traces and consolidated files of runs all pass
pub all_pass : (held : Held) (o : Object) (number : ℕ) (names : List (List ℕ)) (runs : List ARun) (Then : List (List ℕ) → Result Output Status → Type 0) (s : Status)
    → IsSound o → AreTracesOf held o names runs → Everywhere (λ r. IsDisciplined (facts_of o) (transcript_of o r)) runs
    → AfterTraces held o number names Then (refused s) → (traces : List (List ℕ)) × Then traces (refused s)
all_pass held o number [] runs Then s sound are fair says = ([], says)
all_pass held o number (name ∷ names) runs Then s sound are fair says =
    let parts = parted (λ r. IsDisciplined (facts_of o) (transcript_of o r)) are.0 are.1
    (subst (λ (rs : List ARun). Everywhere (λ r. IsDisciplined (facts_of o) (transcript_of o r)) rs) are.2 fair) in
    let After : List ℕ → Result Output Status → Type 0 = λ trace. AfterTraces held o (number + 1) names (λ traces. Then (trace ∷ traces)) in
    let next = one_passes o number are.3 (After are.3) s (own_fine o are.0 are.3 sound parts.0 are.5)
    (of_read held number name are.3 (λ trace. AfterTrace number o trace (After trace)) s are.4 says) in
    let rest = all_pass held o (number + 1) names are.1 (λ traces. Then (are.3 ∷ traces)) s sound are.6 parts.1 next in
    (are.3 ∷ rest.0, rest.1)

-- nothing stops a command after the object of a program and traces of its runs, where nothing fails
unstopped_traces : (held : Held) (object : List ℕ) (names : List (List ℕ)) (Then : Object → List (List ℕ) → Result Output Status → Type 0) (s : Status)
    → (files : List SourceFile) (main : List ℕ) (p : Program) (o : Object) → IsObjectOf files main p o → finmap.get held object ≡ Some (object_bytes o)
    → (runs : List ARun) → AreTracesOf held o names runs → Everywhere (λ r. IsInput r.input) runs
    → AfterRead held 0 object (λ bytes. AfterObject bytes (λ o. AfterTraces held o 1 names (Then o))) (refused s)
    → (traces : List (List ℕ)) × Then o traces (refused s)
unstopped_traces held object names Then s files main p o of there runs are inputs comes =
    all_pass held o 1 names runs (Then o) s of.checked.sound are (all_fair p o of.behaves held names runs inputs are)
    (of_object o (object_bytes o) (λ o. AfterTraces held o 1 names (Then o)) s (is_file files main p o of)
    (of_read held 0 object (object_bytes o) (λ bytes. AfterObject bytes (λ o. AfterTraces held o 1 names (Then o))) s there comes))

-- the sources that coverage reads are those of the program
sources_kept : (annotation : Annotation) (held : Held) (files : List SourceFile) (entries : List FileEntry) → entries ≡ map entry_of_file files
    → SourcesAreThere annotation held files → AreKept held (read_for annotation entries)
sources_kept Report held files entries are there = tt
sources_kept Xcov held files entries are there = subst (λ (es : List FileEntry). AreKept held es) (sym are) (there refl)
sources_kept Json held files entries are there = tt

pub coverage_law : (task : Option Task) (call : Call) (status : Status) → Answers task call status → TracesAreCovered task call status
unfolding TracesAreCovered
coverage_law task call status answers = λ held level annotation object names holds is fine files main p o of there sources runs are inputs.
    done_unless held (Coverage level annotation object names) call status holds fine
    (λ s comes. let read = unstopped_traces held object names (Covers held level annotation) s files main p o of there runs are inputs comes in
    none_stops held 0 (read_for annotation o.files) (Prints held level annotation o read.0) (refused s) (sources_kept annotation held files o.files of.sources sources) read.1)
    (asked (Coverage level annotation object names) task call status is answers)

pub consolidate_law : (task : Option Task) (call : Call) (status : Status) → Answers task call status → TracesAreConsolidated task call status
unfolding TracesAreConsolidated
consolidate_law task call status answers = λ held object name names holds is fine files main p o of there runs are inputs.
    done_unless held (Consolidate object name names) call status holds fine
    (λ s comes. (unstopped_traces held object names (Consolidates name) s files main p o of there runs are inputs comes).1)
    (asked (Consolidate object name names) task call status is answers)
