-- What coverage prints of an object's own runs.
use Rattle.std.proofs.Common.{◌≡◌, ◌≢◌, ◌↔◌, inl, inr, ⊎_elim, ℕ, suc, ◌+◌, ◌<◌, ◌≤◌, arith, false, List, [], ◌∷◌, ◌++◌, length, slice_index_or, AllPairs, IfSome, Option, Some, Result, Ok, refl, sym, ap, subst, ◌∙◌}
use Rattle.std.specs.FinMap as finmap
use Rattle.command_words.specs.Task.{Task, Coverage}
use Rattle.cov_base.specs.declared.event.Event.{Event}
use Rattle.cov_base.specs.declared.level.Annotation.{Annotation}
use Rattle.cov_base.specs.declared.level.Level.{Level}
use Rattle.cov_base.specs.declared.obligations.SourceFile.{SourceFile}
use Rattle.cov_io.specs.Outside.{Held, WhereTold, Appends}
use Rattle.coverage_set.proofs.RunLaw.{run_law}
use Rattle.cov_base.specs.Lists.{Everywhere, Somewhere}
use Rattle.commands.specs.Content.{IsFileOf, is_consolidated, Shows, Counts, Reports, trace_file}
use Rattle.commands.specs.declared.status.Status.{Status}
use Rattle.commands.specs.declared.status.Status.TheVariants.{Done}
use Rattle.commands.specs.Outcome.{Call, Delivered, Because, Answers}
use Rattle.commands.specs.RunsCovered.{ARun, transcript_of, IsTraceOf, IsFileOfRuns, IsWrittenOf, AreTracesOf, digest_of_run, RunsAreCovered}
use Rattle.commands.specs.TaskFiles.{entry_names, held_under, read_for}
use Rattle.commands.specs.Texts.{coverage_text}
use Rattle.commands.specs.Verdict.{Output, AfterRead, AfterObject, AfterTrace, AfterTraces, Covers, Prints, ComesTo}
use Rattle.commands.proofs.KeptLaws.{kept_follow}
use Rattle.commands.proofs.TextLaws.{same_events}
use Rattle.commands.proofs.CoveringLaws.{as_trace}
use Rattle.commands.proofs.FileLaws.{file_shows, file_lists}
use Rattle.object_facts.specs.Object.{facts_of}
use Rattle.object_format.proofs.FileLaws.{one_object}
use Rattle.object_format.specs.Checked.{IsSound}
use Rattle.object_format.specs.declared.object.Object.{Object}
use Rattle.trace_format.specs.Checks.{trace_of}
use Rattle.trace_format.specs.declared.trace.Trace.{Trace}
use Rattle.trace_format.specs.Formats.{trace_spelling}
use Rattle.trace_format.specs.declared.fault.TraceFault.{TraceFault}
use Rattle.trace_format.specs.Trace.{TraceFile}
use Rattle.trace_record.specs.Written.{traced}
use Rattle.transcript.proofs.Lists.{in_append, in_left, in_right}
use Rattle.transcript.specs.Reading.{Tells, IsDisciplined}
use Rattle.transcript.specs.Trace.{Says}
use Rattle.vector_rebuild.specs.Entries.{trace_in}

-- what is read is one trace
abbrev fine : TraceFile → Result TraceFile TraceFault
fine t = Ok t

fine_is : (a b : TraceFile) → fine a ≡ fine b → a ≡ b
fine_is a b e = cc e

same_read : (bytes : List ℕ) (t u : TraceFile) → trace_of bytes ≡ Ok t → trace_of bytes ≡ Ok u → t ≡ u
same_read bytes t u first second = fine_is t u (sym first ∙ second)

-- ---- lists of different items

-- a list without one of its items
record Without {X : Type 0} (x : X) (ys : List X) : Type 0 where
  rest : List X
  shorter : length ys ≡ length rest + 1
  others : (d : X) → d ≢ x → Somewhere (λ y. y ≡ d) ys → Somewhere (λ y. y ≡ d) rest

without : {X : Type 0} (x : X) (ys : List X) → Somewhere (λ y. y ≡ x) ys → Without x ys
without x [] there = absurd there
without x (y ∷ ys) (inl is) = record {
  rest = ys;
  shorter = omega arith;
  others = λ d differs has. ⊎_elim (λ here. absurd (differs (sym here ∙ is))) (λ later. later) has;
}
without x (y ∷ ys) (inr there) = behind (without x ys there)
  where
    behind : Without x ys → Without x (y ∷ ys)
    behind w = record {
      rest = y ∷ w.rest;
      shorter = omega (arith, w.shorter);
      others = λ d differs has. ⊎_elim (λ here. inl here) (λ later. inr (w.others d differs later)) has;
    }

-- where an item stands
placed : {X : Type 0} (d : X) (xs : List X) → Somewhere (λ y. y ≡ d) xs → (j : ℕ) × (j < length xs) × ((e : X) → slice_index_or xs j e ≡ d)
placed d [] there = absurd there
placed d (x ∷ xs) (inl is) = (0, omega arith, λ e. is)
placed d (x ∷ xs) (inr there) = let later = placed d xs there in (suc later.0, omega (arith, later.1), later.2)

-- the first of different items is none of the later ones, which are different too
first_differs : {X : Type 0} (x d : X) (xs : List X) → AllPairs (λ x y. x ≢ y) (x ∷ xs) → Somewhere (λ y. y ≡ d) xs → d ≢ x
first_differs x d xs once there =
    let p = placed d xs there in
    λ same. once 0 (suc p.0) d (omega arith) (omega (arith, p.1)) (sym same ∙ sym (p.2 d))

later_differ : {X : Type 0} (x : X) (xs : List X) → AllPairs (λ x y. x ≢ y) (x ∷ xs) → AllPairs (λ x y. x ≢ y) xs
later_differ x xs once = λ i j d before within. once (suc i) (suc j) d (omega (arith, before)) (omega (arith, within))

no_more : {X : Type 0} (xs ys : List X) → AllPairs (λ x y. x ≢ y) xs → ((d : X) → Somewhere (λ x. x ≡ d) xs → Somewhere (λ y. y ≡ d) ys) → length xs ≤ length ys
no_more [] ys once within = omega arith
no_more (x ∷ xs) ys once within =
    let w = without x ys (within x (inl refl)) in
    let fewer = no_more xs w.rest (later_differ x xs once) (λ d there. w.others d (first_differs x d xs once there) (within d (inr there))) in
    omega (arith, w.shorter, fewer)

pub same_count : {X : Type 0} (xs ys : List X) → AllPairs (λ x y. x ≢ y) xs → AllPairs (λ x y. x ≢ y) ys → ((d : X) → Somewhere (λ x. x ≡ d) xs ↔ Somewhere (λ y. y ≡ d) ys) → length xs ≡ length ys
same_count xs ys once also same = omega (arith, no_more xs ys once (λ d there. (same d).0 there), no_more ys xs also (λ d there. (same d).1 there))

-- ---- traces and their runs

pub through : {A B C : Type 0} → A ↔ B → B ↔ C → A ↔ C
through first second = (λ a. second.0 (first.0 a), λ c. first.1 (second.1 c))

pub back : {A B : Type 0} → A ↔ B → B ↔ A
back both = (both.1, both.0)

-- the bytes are the trace or the consolidated file of these runs of the object, which have disciplined transcripts
pub record IsTold (o : Object) (runs : List ARun) (bytes : List ℕ) : Type 0 where
  pub written : IsWrittenOf o runs bytes
  pub disciplined : Everywhere (λ r. IsDisciplined (facts_of o) (transcript_of o r)) runs

-- these are the files of these runs, which are parted among them in order
abbrev pub AreOf : Object → List ARun → (files : List (List ℕ)) → Type 0
AreOf o runs [] = runs ≡ []
AreOf o runs (t ∷ ts) = (own : List ARun) × (others : List ARun) × (runs ≡ own ++ others) × IsTold o own t × AreOf o others ts

-- what is so of all is so of both parts
pub parted : {X : Type 0} (P : X → Type 0) (xs ys : List X) → Everywhere P (xs ++ ys) → Everywhere P xs × Everywhere P ys
parted P [] ys all = (tt, all)
parted P (x ∷ xs) ys all = let rest = parted P xs ys all.1 in ((all.0, rest.0), rest.1)

-- one of the files is so just where one of the runs is
pub alike : (o : Object) (P : List ℕ → Type 0) (Q : ARun → Type 0) → ((own : List ARun) (t : List ℕ) → IsTold o own t → P t ↔ Somewhere Q own)
    → (runs : List ARun) (ts : List (List ℕ)) → AreOf o runs ts → Somewhere P ts ↔ Somewhere Q runs
alike o P Q each runs [] are = (λ none. absurd none, λ some. subst (λ (rs : List ARun). Somewhere Q rs) are some)
alike o P Q each runs (t ∷ ts) are =
    let here = each are.0 t are.3 in
    let later = alike o P Q each are.1 ts are.4 in (
      λ s. subst (λ (rs : List ARun). Somewhere Q rs) (sym are.2)
          (⊎_elim (λ p. in_left Q are.0 are.1 (here.0 p)) (λ q. in_right Q are.0 are.1 (later.0 q)) s),
      λ s. ⊎_elim (λ p. inl (here.1 p)) (λ q. inr (later.1 q))
          (in_append Q are.0 are.1 (subst (λ (rs : List ARun). Somewhere Q rs) are.2 s)),
    )

-- ---- traces

-- the bytes of a trace don't begin as a consolidated file does
pub trace_kind : (bytes : List ℕ) (t : Trace) → bytes ≡ trace_spelling t → is_consolidated bytes ≡ false
trace_kind bytes t is = ap is_consolidated is ∙ other
  where
    other : is_consolidated (trace_spelling t) ≡ false
    other = refl

-- what is so of the only run
of_only : {X : Type 0} (Q : X → Type 0) (xs : List X) (x : X) → xs ≡ x ∷ [] → Q x ↔ Somewhere Q xs
of_only {X = X} Q xs x is = (
  λ q. subst (λ (ys : List X). Somewhere Q ys) (sym is) (inl q),
  λ s. ⊎_elim (λ q. q) (λ none. absurd none) (subst (λ (ys : List X). Somewhere Q ys) is s),
)

-- what the trace of a run shows is what the run tells
run_tells : (o : Object) → IsSound o → (e : Event) (r : ARun) (t : List ℕ) → IsTraceOf o r t → IsDisciplined (facts_of o) (transcript_of o r)
    → Shows o t e ↔ Tells (facts_of o) (transcript_of o r) e
run_tells o sound e r t is disciplined =
    let law = run_law o r.budget r.input r.ending (digest_of_run o r) e sound is.ended disciplined in
    let kind = trace_kind t (traced o (transcript_of o r) r.ending) is.traced in (
      λ s. let shown = s.trace kind in
          law.0 (subst (λ (u : TraceFile). Says (facts_of o) (trace_in u) e) (same_read t shown.0 (trace_file o (transcript_of o r) r.ending) shown.1 is.reads_back) shown.2),
      λ tells. as_trace t kind (trace_file o (transcript_of o r) r.ending, is.reads_back, law.1 tells),
    )

run_counts : (o : Object) (d : List ℕ) (r : ARun) (t : List ℕ) → IsTraceOf o r t → Counts d t ↔ (digest_of_run o r ≡ d)
run_counts o d r t is =
    let kind = trace_kind t (traced o (transcript_of o r) r.ending) is.traced in (
      λ s. let closed = s.trace kind in
          ap (λ (u : TraceFile). u.closing) (sym (same_read t closed.0 (trace_file o (transcript_of o r) r.ending) closed.1 is.reads_back)) ∙ closed.2,
      λ e. as_trace t kind (trace_file o (transcript_of o r) r.ending, is.reads_back, e),
    )

-- ---- consolidated files

-- the file of runs shows what they tell
file_tells : (o : Object) (e : Event) (runs : List ARun) (t : List ℕ) → IsFileOfRuns o runs t
    → Shows o t e ↔ Somewhere (λ r. Tells (facts_of o) (transcript_of o r) e) runs
file_tells o e runs t is = through (file_shows o is.covered t e is.file) (is.stands.events e)

file_counts : (o : Object) (d : List ℕ) (runs : List ARun) (t : List ℕ) → IsFileOfRuns o runs t → Counts d t ↔ Somewhere (λ r. digest_of_run o r ≡ d) runs
file_counts o d runs t is = through (file_lists is.covered t d is.file) (is.stands.runs d)

-- ---- either

-- what the file of runs shows is what they tell
pub shows_tells : (o : Object) → IsSound o → (e : Event) (runs : List ARun) (t : List ℕ) → IsTold o runs t
    → Shows o t e ↔ Somewhere (λ r. Tells (facts_of o) (transcript_of o r) e) runs
shows_tells o sound e runs t is = by_kind is.written
  where
    by_kind : IsWrittenOf o runs t → Shows o t e ↔ Somewhere (λ r. Tells (facts_of o) (transcript_of o r) e) runs
    by_kind (inl (r, only, trace)) =
        let one = subst (λ (rs : List ARun). Everywhere (λ r. IsDisciplined (facts_of o) (transcript_of o r)) rs) only is.disciplined in
        through (run_tells o sound e r t trace one.0) (of_only (λ r. Tells (facts_of o) (transcript_of o r) e) runs r only)
    by_kind (inr file) = file_tells o e runs t file

pub counts_digests : (o : Object) (d : List ℕ) (runs : List ARun) (t : List ℕ) → IsTold o runs t → Counts d t ↔ Somewhere (λ r. digest_of_run o r ≡ d) runs
counts_digests o d runs t is = by_kind is.written
  where
    by_kind : IsWrittenOf o runs t → Counts d t ↔ Somewhere (λ r. digest_of_run o r ≡ d) runs
    by_kind (inl (r, only, trace)) = through (run_counts o d r t trace) (of_only (λ r. digest_of_run o r ≡ d) runs r only)
    by_kind (inr file) = file_counts o d runs t file

-- ---- what was read

-- one file was read, and those behind it
one_read : (held : Held) (o : Object) (number : ℕ) (names : List (List ℕ)) (own others : List ARun) (Then : List (List ℕ) → Result Output Status → Type 0) (bytes : List ℕ) (output : Output)
    → IsTold o own bytes → AfterTrace number o bytes (AfterTraces held o (number + 1) names (λ traces. Then (bytes ∷ traces))) (Ok output)
    → (AfterTraces held o (number + 1) names (λ traces. Then (bytes ∷ traces)) (Ok output) → (traces : List (List ℕ)) × AreOf o others traces × Then (bytes ∷ traces) (Ok output))
    → (traces : List (List ℕ)) × AreOf o (own ++ others) traces × Then traces (Ok output)
one_read held o number names own others Then bytes output is (inl refused) later = absurd refused
one_read held o number names own others Then bytes output is (inr fits) later =
    let rest = later fits.1 in
    (bytes ∷ rest.0, (own, others, refl, is, rest.1), rest.2)

-- the files that were read are those of the runs
pub read_are : (held : Held) (o : Object) (number : ℕ) (names : List (List ℕ)) (runs : List ARun) (Then : List (List ℕ) → Result Output Status → Type 0) (output : Output)
    → AreTracesOf held o names runs → Everywhere (λ r. IsDisciplined (facts_of o) (transcript_of o r)) runs → AfterTraces held o number names Then (Ok output)
    → (traces : List (List ℕ)) × AreOf o runs traces × Then traces (Ok output)
read_are held o number [] runs Then output are fair says = ([], are, says)
read_are held o number (name ∷ names) runs Then output are fair says =
    let parts = parted (λ r. IsDisciplined (facts_of o) (transcript_of o r)) are.0 are.1
    (subst (λ (rs : List ARun). Everywhere (λ r. IsDisciplined (facts_of o) (transcript_of o r)) rs) are.2 fair) in
    let read = one_read held o number names are.0 are.1 Then are.3 output (record { written = are.5; disciplined = parts.0 }) (rw are.4 at says)
    (λ rest. read_are held o (number + 1) names are.1 (λ traces. Then (are.3 ∷ traces)) output are.6 parts.1 rest) in
    (read.0, subst (λ (rs : List ARun). AreOf o rs read.0) (sym are.2) read.1, read.2)

-- The text is the report of an object's runs, in a form over sources: of the events that their transcripts tell, and of the
-- digests that close their traces.
pub record IsReportOfRuns (level : Level) (annotation : Annotation) (o : Object) (sources : List SourceFile) (runs : List ARun) (text : List ℕ) : Type 0 where
  pub events : List Event
  pub digests : List (List ℕ)
  pub all_events : (e : Event) → Somewhere (λ x. x ≡ e) events ↔ Somewhere (λ r. Tells (facts_of o) (transcript_of o r) e) runs
  pub all_digests : (d : List ℕ) → Somewhere (λ x. x ≡ d) digests ↔ Somewhere (λ r. digest_of_run o r ≡ d) runs
  pub each_once : AllPairs (λ x y. x ≢ y) digests
  pub told : text ≡ coverage_text annotation level o.obligations (length digests) events sources

-- a report of traces is that of their runs
report_of_runs : (level : Level) (annotation : Annotation) (o : Object) → IsSound o → (sources : List SourceFile) (runs : List ARun) (traces : List (List ℕ)) (text : List ℕ)
    → AreOf o runs traces → Reports level annotation o sources traces text → IsReportOfRuns level annotation o sources runs text
report_of_runs level annotation o sound sources runs traces text are reports = record {
  events = reports.report.events;
  digests = reports.report.digests;
  all_events = λ e.
      through (reports.report.all_events e) (alike o (λ t. Shows o t e) (λ r. Tells (facts_of o) (transcript_of o r) e) (shows_tells o sound e) runs traces are);
  all_digests = λ d. through (reports.report.all_digests d) (alike o (Counts d) (λ r. digest_of_run o r ≡ d) (counts_digests o d) runs traces are);
  each_once = reports.report.each_once;
  told = reports.report.told;
}

-- its text is that of any list of the events
runs_told : (level : Level) (annotation : Annotation) (o : Object) (sources : List SourceFile) (runs : List ARun) (text : List ℕ)
    → IsReportOfRuns level annotation o sources runs text
    → (events : List Event) → ((e : Event) → Somewhere (λ x. x ≡ e) events ↔ Somewhere (λ r. Tells (facts_of o) (transcript_of o r) e) runs)
    → (digests : List (List ℕ)) → ((d : List ℕ) → Somewhere (λ x. x ≡ d) digests ↔ Somewhere (λ r. digest_of_run o r ≡ d) runs)
    → AllPairs (λ x y. x ≢ y) digests
    → text ≡ coverage_text annotation level o.obligations (length digests) events sources
runs_told level annotation o sources runs text report events of_events digests of_digests once =
    let shown : (e : Event) → Somewhere (λ x. x ≡ e) report.events ↔ Somewhere (λ x. x ≡ e) events = λ e. through (report.all_events e) (back (of_events e)) in
    let counted : (d : List ℕ) → Somewhere (λ x. x ≡ d) report.digests ↔ Somewhere (λ x. x ≡ d) digests = λ d. through (report.all_digests d) (back (of_digests d)) in
    report.told
    ∙ same_events annotation level o.obligations (length report.digests) report.events events sources (λ e there. (shown e).0 there, λ e there. (shown e).1 there)
    ∙ ap (λ (n : ℕ). coverage_text annotation level o.obligations n events sources) (same_count report.digests digests report.each_once once counted)

-- what a command came to, of an object
pub came_to : (Next : Object → Result Output Status → Type 0) (o : Object) (output : Output) (bytes : List ℕ) → IsFileOf o bytes
    → AfterObject bytes Next (Ok output) → Next o (Ok output)
came_to Next o output bytes is (inl refused) = absurd refused
came_to Next o output bytes is (inr other) =
    subst (λ (x : Object). Next x (Ok output))
    (one_object other.0 o other.1.checked.closed is.checked.closed (sym other.1.spelled ∙ is.spelled)) other.2

-- what a call that is done put is the report of the runs
pub report_done : (held : Held) (level : Level) (annotation : Annotation) (object : List ℕ) (names : List (List ℕ)) (call : Call) → call.held ≡ Some held
    → (done : Delivered (Coverage level annotation object names) Done call)
    → (bytes : List ℕ) (o : Object) → finmap.get held object ≡ Some bytes → IsFileOf o bytes → (runs : List ARun) → AreTracesOf held o names runs
    → Everywhere (λ r. IsDisciplined (facts_of o) (transcript_of o r)) runs
    → IsReportOfRuns level annotation o (held_under held (entry_names o.files)) runs done.output.text
report_done held level annotation object names call holds done bytes o there is runs are fair =
    let comes : AfterRead held 0 object (λ bytes. AfterObject bytes (λ o. AfterTraces held o 1 names (Covers held level annotation o))) (Ok done.output) =
    subst (λ (h : Option Held). IfSome h (λ told. ComesTo told (Coverage level annotation object names) (Ok done.output))) holds done.comes in
    let after = came_to (λ o. AfterTraces held o 1 names (Covers held level annotation o)) o done.output bytes is (rw there at comes) in
    let read = read_are held o 1 names runs (Covers held level annotation o) done.output are fair after in
    let kept = kept_follow held 0 (read_for annotation o.files) (Prints held level annotation o read.0) done.output read.2 in
    report_of_runs level annotation o is.checked.sound (held_under held (entry_names o.files)) runs read.0 done.output.text read.1 kept.says.1

pub runs_law : (task : Option Task) (call : Call) (status : Status) → Answers task call status → RunsAreCovered task call status
unfolding RunsAreCovered
runs_law task call status answers = λ held level annotation object names holds asked is.
    let done : Delivered (Coverage level annotation object names) Done call =
    subst (λ (s : Status). Because (Coverage level annotation object names) call s) is (subst (λ (t : Option Task). Answers t call status) asked answers) in
    λ bytes o there file runs are fair events of_events digests of_digests once.
    let report = report_done held level annotation object names call holds done bytes o there file runs are fair in
    let text = runs_told level annotation o (held_under held (entry_names o.files)) runs done.output.text report events of_events digests of_digests once in
    subst (λ (text : List ℕ). WhereTold (Appends text) call.written call.written_after) text done.delivers.text
