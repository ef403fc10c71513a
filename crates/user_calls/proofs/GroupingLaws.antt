-- How runs are grouped into files does not matter.
use Rattle.std.proofs.Common.{◌≡◌, ◌≢◌, ◌↔◌, ◌⊎◌, inl, inr, ⊎_elim, ℕ, zero, suc, ℤ, List, [], ◌∷◌, ◌++◌, length, map, drop, slice_get, unwrap_or, AllPairs, Option, Some, IfSome, refl, sym, ap, subst, ◌∙◌}
use Rattle.std.specs.FinMap as finmap
use Rattle.ada_meaning.proofs.FuelExecution.{one_ending_law}
use Rattle.ada_meaning.specs.Execution.{Execution, Ends}
use Rattle.ada_meaning.specs.Program.{Program}
use Rattle.command_words.specs.Task.{Coverage, Consolidate}
use Rattle.cov_base.specs.declared.event.Event.{Event}
use Rattle.cov_base.specs.declared.level.Annotation.{Annotation}
use Rattle.cov_base.specs.declared.level.Annotation.TheVariants.{Report, Xcov, Json}
use Rattle.cov_base.specs.declared.level.Level.{Level}
use Rattle.cov_base.specs.declared.obligations.SourceFile.{SourceFile}
use Rattle.cov_base.specs.Lists.{Everywhere, Somewhere}
use Rattle.cov_io.specs.Outside.{Held, Holds, WhereTold, Appends, Replaces}
use Rattle.commands.proofs.HeadlineLaws.{traced_ended}
use Rattle.commands.proofs.RunsLaw.{back, same_count, through}
use Rattle.commands.proofs.TextLaws.{named_under, same_shown}
use Rattle.commands.specs.Content.{file_lines}
use Rattle.commands.specs.declared.status.Status.TheVariants.{Done}
use Rattle.commands.specs.Headline.{Occurs, text_of, CoverageTellsTheSource}
use Rattle.commands.specs.Leaves.{LeavesObject}
use Rattle.commands.specs.Outcome.{Call}
use Rattle.commands.specs.RunsConsolidated.{WritesFileOfRuns, ProgramsAreConsolidated}
use Rattle.commands.specs.RunsCovered.{ARun, transcript_of, digest_of_run, IsFileOfRuns}
use Rattle.commands.specs.TaskFiles.{held_under}
use Rattle.commands.specs.Texts.{names_of, ShowSame}
use Rattle.ada_meaning.specs.Obligations.{obligations_of}
use Rattle.coverage_set.proofs.OneFile as single
use Rattle.coverage_set.specs.Covered.{AreSame}
use Rattle.kernel_code.specs.Whole.{IsInput}
use Rattle.object_facts.specs.Object.{facts_of}
use Rattle.object_format.specs.declared.object.Object.{Object}
use Rattle.object_format.specs.File.{object_bytes}
use Rattle.program_objects.specs.Behaves.{Behaves}
use Rattle.program_objects.specs.Exemptions.{exempt_regions}
use Rattle.rv_machine.specs.Objects.{object_image, object_start, object_run}
use Rattle.rv_semantics.proofs.Runs.{one_ending}
use Rattle.rv_semantics.specs.Laws.{IsOver}
use Rattle.rv_semantics.specs.Run.{Run, Outcome}
use Rattle.rv_semantics.specs.Run.Outcome.{Ended}
use Rattle.commands.specs.Content.{trace_file}
use Rattle.transcript.proofs.Lists.{in_append, in_left, in_right, one_of, at_one}
use Rattle.transcript.specs.Reading.{Tells}
use Rattle.user_calls.proofs.ListLaws.{AreOnce, all_once}
use Rattle.user_calls.proofs.WayLaws.{left_object, AreKnown, IsStanding, standing, files_known, on_runs}
use Rattle.user_calls.specs.Calls.{ACall, IsMade, AreTogether, IsOfRuns}
use Rattle.user_calls.specs.GoesOn.{SourcesStay}
use Rattle.user_calls.specs.Grouping.{HaveTheSame, PutTheSame, WriteTheSame, CoverageKnowsNoGrouping, ConsolidationKnowsNoGrouping}
use Rattle.user_calls.specs.Use.{IsUse, IsNext}

-- ---- runs that ended on one input are one, whatever their budgets

-- the run ended so
abbrev DidEnd : Object → ARun → Type 0
DidEnd o r = (object_run o r.budget r.input).outcome ≡ Ended r.ending

-- a run that ended is over
over : (o : Object) (budget number : ℕ) (input : List ℤ) → (object_run o budget input).outcome ≡ Ended number → IsOver (object_run o budget input).outcome
over o budget number input ended = subst (λ (out : Outcome). IsOver out) (sym ended) tt

same_run : (o : Object) (r s : ARun) → DidEnd o r → DidEnd o s → r.input ≡ s.input → object_run o r.budget r.input ≡ object_run o s.budget s.input
same_run o r s first second same =
    ap (λ (input : List ℤ). object_run o r.budget input) same
    ∙ one_ending (object_image o) r.budget s.budget (object_start o) s.input
    (over o r.budget r.ending s.input (subst (λ (input : List ℤ). (object_run o r.budget input).outcome ≡ Ended r.ending) same first))
    (over o s.budget s.ending s.input second)

ended_as : (x y : ℕ) → Ended x ≡ Ended y → x ≡ y
ended_as x y same = cc same

same_ending : (o : Object) (r s : ARun) → DidEnd o r → DidEnd o s → r.input ≡ s.input → r.ending ≡ s.ending
same_ending o r s first second same =
    ended_as r.ending s.ending (sym first ∙ ap (λ (run : Run). run.outcome) (same_run o r s first second same) ∙ second)

same_digest : (o : Object) (r s : ARun) → DidEnd o r → DidEnd o s → r.input ≡ s.input → digest_of_run o r ≡ digest_of_run o s
same_digest o r s first second same =
    ap (λ (run : Run). (trace_file o run.entries r.ending).closing) (same_run o r s first second same)
    ∙ ap (λ (n : ℕ). (trace_file o (transcript_of o s) n).closing) (same_ending o r s first second same)

-- ---- runs on the same inputs

record FoundRun (o : Object) (Q : ARun → Type 0) (xs : List ARun) : Type 0 where
  run : ARun
  ended : DidEnd o run
  holds : Q run
  stands : Somewhere (λ x. x ≡ run.input) (map (λ r. r.input) xs)

later_found : (o : Object) (Q : ARun → Type 0) (x : ARun) (xs : List ARun) → FoundRun o Q xs → FoundRun o Q (x ∷ xs)
later_found o Q x xs f = record { run = f.run; ended = f.ended; holds = f.holds; stands = inr f.stands }

found : (o : Object) (Q : ARun → Type 0) (xs : List ARun) → Everywhere (DidEnd o) xs → Somewhere Q xs → FoundRun o Q xs
found o Q [] ended none = absurd none
found o Q (x ∷ xs) ended (inl here) = record { run = x; ended = ended.0; holds = here; stands = inl refl }
found o Q (x ∷ xs) ended (inr there) = later_found o Q x xs (found o Q xs ended.1 there)

put_back : (o : Object) (Q : ARun → Type 0) (input : List ℤ) (ys : List ARun) → Everywhere (DidEnd o) ys → ((s : ARun) → DidEnd o s → s.input ≡ input → Q s)
    → Somewhere (λ x. x ≡ input) (map (λ r. r.input) ys) → Somewhere Q ys
put_back o Q input [] ended is none = none
put_back o Q input (y ∷ ys) ended is (inl here) = inl (is y ended.0 here)
put_back o Q input (y ∷ ys) ended is (inr there) = inr (put_back o Q input ys ended.1 is there)

-- what is so of runs that ended on the same input
abbrev IsSteady : Object → (ARun → Type 0) → Type 0
IsSteady o Q = (r s : ARun) → DidEnd o r → DidEnd o s → r.input ≡ s.input → Q r → Q s

one_way : (o : Object) (Q : ARun → Type 0) → IsSteady o Q → (xs ys : List ARun) → Everywhere (DidEnd o) xs → Everywhere (DidEnd o) ys
    → ((input : List ℤ) → Somewhere (λ x. x ≡ input) (map (λ r. r.input) xs) → Somewhere (λ x. x ≡ input) (map (λ r. r.input) ys))
    → Somewhere Q xs → Somewhere Q ys
one_way o Q steady xs ys first second within s =
    let f = found o Q xs first s in
    put_back o Q f.run.input ys second (λ r ended same. steady f.run r f.ended ended (sym same) f.holds) (within f.run.input f.stands)

both_ways : (o : Object) (Q : ARun → Type 0) → IsSteady o Q → (xs ys : List ARun) → Everywhere (DidEnd o) xs → Everywhere (DidEnd o) ys
    → HaveTheSame (map (λ r. r.input) xs) (map (λ r. r.input) ys) → Somewhere Q xs ↔ Somewhere Q ys
both_ways o Q steady xs ys first second same = (
  λ s. one_way o Q steady xs ys first second (λ input there. (same input).0 there) s,
  λ s. one_way o Q steady ys xs second first (λ input there. (same input).1 there) s,
)

tells_steady : (o : Object) (e : Event) → IsSteady o (λ r. Tells (facts_of o) (transcript_of o r) e)
tells_steady o e r s first second same tells =
    subst (λ (run : Run). Tells (facts_of o) run.entries e) (same_run o r s first second same) tells

digest_steady : (o : Object) (d : List ℕ) → IsSteady o (λ r. digest_of_run o r ≡ d)
digest_steady o d r s first second same is = sym (same_digest o r s first second same) ∙ is

occurs_steady : (o : Object) (p : Program) (e : Event) → IsSteady o (λ r. Occurs p r.input e)
occurs_steady o p e r s first second same occurs = subst (λ (input : List ℤ). Occurs p input e) same occurs

-- ---- the events of runs

pub record AreEvents (p : Program) (rs : List ARun) : Type 0 where
  pub events : List Event
  pub all : (e : Event) → Somewhere (λ x. x ≡ e) events ↔ Somewhere (λ r. Occurs p r.input e) rs

one_more_run : (p : Program) (r : ARun) (rs : List ARun) (x : Execution) → Ends p r.input x → AreEvents p rs → AreEvents p (r ∷ rs)
one_more_run p r rs x ends later = record {
  events = x.events ++ later.events;
  all = λ e. (
    λ s. ⊎_elim (λ here. inl (x, ends, here)) (λ there. inr ((later.all e).0 there)) (in_append (λ f. f ≡ e) x.events later.events s),
    λ s. ⊎_elim
        (λ here. in_left (λ f. f ≡ e) x.events later.events
        (subst (λ (y : Execution). Somewhere (λ f. f ≡ e) y.events) (one_ending_law p r.input here.0 x here.1 ends) here.2))
        (λ there. in_right (λ f. f ≡ e) x.events later.events ((later.all e).1 there)) s,
  );
}

events_of : (p : Program) (o : Object) → Behaves p o → (rs : List ARun) → Everywhere (λ r. IsInput r.input) rs → Everywhere (DidEnd o) rs → AreEvents p rs
events_of p o behaves [] fit ended = record { events = []; all = λ e. (λ none. none, λ none. none) }
events_of p o behaves (r ∷ rs) fit ended =
    let shown = behaves.faithful r.budget r.input fit.0 r.ending ended.0 in
    one_more_run p r rs shown.0 shown.1 (events_of p o behaves rs fit.1 ended.1)

-- ---- what is shown of sources

-- a file of this name with the bytes that are held, or none
abbrev file_with : List ℕ → Option (List ℕ) → SourceFile
file_with name bytes = record { name = name; bytes = unwrap_or bytes [] }

same_under : (now later held : Held) (names : List (List ℕ)) → Everywhere (λ name. finmap.get now name ≡ finmap.get held name) names
    → Everywhere (λ name. finmap.get later name ≡ finmap.get held name) names → held_under now names ≡ held_under later names
same_under now later held [] first second = refl
same_under now later held (name ∷ names) first second =
    let one : finmap.get now name ≡ finmap.get later name = first.0 ∙ sym second.0 in
    ap (λ (bytes : Option (List ℕ)). file_with name bytes ∷ held_under now names) one
    ∙ ap (λ (files : List SourceFile). file_with name (finmap.get later name) ∷ files)
    (same_under now later held names first.1 second.1)

shown_same : (annotation : Annotation) (now later held : Held) (names : List (List ℕ))
    → (annotation ≡ Xcov → Everywhere (λ name. finmap.get now name ≡ finmap.get held name) names)
    → (annotation ≡ Xcov → Everywhere (λ name. finmap.get later name ≡ finmap.get held name) names)
    → ShowSame annotation (held_under now names) (held_under later names)
shown_same Report now later held names first second = named_under now names ∙ sym (named_under later names)
shown_same Xcov now later held names first second = same_under now later held names (first refl) (second refl)
shown_same Json now later held names first second = named_under now names ∙ sym (named_under later names)

-- sources that stay, by the names that the object's sources have
stay_named : (annotation : Annotation) (sources : List SourceFile) (names : List (List ℕ)) (held now : Held) (call : Call)
    → names_of sources ≡ names → call.held ≡ Some now → SourcesStay annotation names held call
    → annotation ≡ Xcov → Everywhere (λ name. finmap.get now name ≡ finmap.get held name) (names_of sources)
stay_named annotation sources names held now call named is stay form =
    subst (λ (ns : List (List ℕ)). Everywhere (λ name. finmap.get now name ≡ finmap.get held name) ns) (sym named)
    (subst (λ (h : Option Held). IfSome h (λ now. Everywhere (λ name. finmap.get now name ≡ finmap.get held name) names)) is (stay form))

-- ---- two calls

-- inputs of runs
same_inputs : (xs ys : List ARun) (inputs others : List (List ℤ)) → map (λ r. r.input) xs ≡ inputs → map (λ r. r.input) ys ≡ others
    → HaveTheSame inputs others → HaveTheSame (map (λ r. r.input) xs) (map (λ r. r.input) ys)
same_inputs xs ys inputs others first second same =
    subst (λ (is : List (List ℤ)). HaveTheSame is (map (λ r. r.input) ys)) (sym first)
    (subst (λ (is : List (List ℤ)). HaveTheSame inputs is) (sym second) same)

-- what is known of either call: its files, and the object's
record IsReady (o : Object) (object : List ℕ) (c : ACall) (now : Held) (files : List (List ℕ)) (inputs : List (List ℤ)) : Type 0 where
  made : IsMade c
  is : c.call.held ≡ Some now
  there : Holds object (object_bytes o) now
  files_are : AreKnown o now files inputs
  ended : Everywhere (DidEnd o) files_are.runs

ready : (main object : List ℕ) (names : List (List ℕ)) (held : Held) (first : ACall) (calls : List ACall)
    → IsUse main object names held first calls → (left : LeavesObject main object names held first.call)
    → (standing : IsStanding object (object_bytes left.made) first calls) → (c : ACall) → IsNext first calls c
    → (files : List (List ℕ)) (inputs : List (List ℤ)) → AreTogether (IsOfRuns object calls) files inputs
    → IsReady left.made object c standing.now files inputs
ready main object names held first calls it left standing c next files inputs together =
    let known = files_known main object names held first calls it left standing files inputs together in
    record {
      made = next.0;
      is = next.1 ∙ standing.is;
      there = standing.there;
      files_are = known;
      ended = traced_ended standing.now left.made files known.runs known.traces;
    }

covers_same : (main object : List ℕ) (names : List (List ℕ)) (held now later : Held) (first one other : ACall)
    → (left : LeavesObject main object names held first.call) → (files more : List (List ℕ)) (inputs same : List (List ℤ))
    → IsReady left.made object one now files inputs → IsReady left.made object other later more same
    → (level : Level) (annotation : Annotation)
    → one.task ≡ Some (Coverage level annotation object files) → one.status ≡ Done
    → other.task ≡ Some (Coverage level annotation object more) → other.status ≡ Done
    → SourcesStay annotation names held one.call → SourcesStay annotation names held other.call
    → HaveTheSame inputs same → PutTheSame one.call other.call
unfolding CoverageTellsTheSource
covers_same main object names held now later first one other left files more inputs same a b level annotation asked done asked_also done_also stay stay_also alike =
    let xs = a.files_are.runs in
    let ys = b.files_are.runs in
    let o = left.made in
    let p = left.program in
    let shared = same_inputs xs ys inputs same a.files_are.on_inputs b.files_are.on_inputs alike in
    let es = events_of p o left.of_program.behaves xs a.files_are.fit a.ended in
    let ds = all_once (λ (r : ARun). digest_of_run o r) xs in
    let there : (e : Event) → Somewhere (λ x. x ≡ e) es.events ↔ Somewhere (λ r. Occurs p r.input e) ys =
    λ e. through (es.all e) (both_ways o (λ r. Occurs p r.input e) (occurs_steady o p e) xs ys a.ended b.ended shared) in
    let counted : (d : List ℕ) → Somewhere (λ x. x ≡ d) ds.texts ↔ Somewhere (λ r. digest_of_run o r ≡ d) ys =
    λ d. through (ds.all d) (both_ways o (λ r. digest_of_run o r ≡ d) (digest_steady o d) xs ys a.ended b.ended shared) in
    let put = a.made.source now level annotation object files a.is asked done left.sources main p o left.of_program a.there xs a.files_are.traces a.files_are.fit
    es.events es.all ds.texts ds.all ds.once in
    let put_also = b.made.source later level annotation object more b.is asked_also done_also left.sources main p o left.of_program b.there ys b.files_are.traces b.files_are.fit
    es.events there ds.texts counted ds.once in
    let texts : text_of annotation level left.sources p later (length ds.texts) es.events ≡ text_of annotation level left.sources p now (length ds.texts) es.events =
    same_shown annotation level (obligations_of p (exempt_regions left.sources)) (length ds.texts) es.events
    (held_under later (names_of left.sources)) (held_under now (names_of left.sources))
    (shown_same annotation later now held (names_of left.sources)
    (stay_named annotation left.sources names held later other.call left.named b.is stay_also)
    (stay_named annotation left.sources names held now one.call left.named a.is stay)) in
    record {
      text = text_of annotation level left.sources p now (length ds.texts) es.events;
      by_one = put;
      by_other = subst (λ (text : List ℕ). WhereTold (Appends text) other.call.written other.call.written_after) texts put_also;
    }

-- what two files of runs on the same inputs stand for
same_covered : (o : Object) (xs ys : List ARun) → Everywhere (DidEnd o) xs → Everywhere (DidEnd o) ys → HaveTheSame (map (λ r. r.input) xs) (map (λ r. r.input) ys)
    → (bytes more : List ℕ) (f : IsFileOfRuns o xs bytes) (g : IsFileOfRuns o ys more) → AreSame f.covered g.covered
same_covered o xs ys first second shared bytes more f g = record {
  object = f.stands.object ∙ sym g.stands.object;
  runs = λ d.
      through (f.stands.runs d) (through (both_ways o (λ r. digest_of_run o r ≡ d) (digest_steady o d) xs ys first second shared) (back (g.stands.runs d)));
  events = λ e.
      through (f.stands.events e)
      (through (both_ways o (λ r. Tells (facts_of o) (transcript_of o r) e) (tells_steady o e) xs ys first second shared) (back (g.stands.events e)));
}

-- two files of runs on the same inputs are one
same_files : (o : Object) (xs ys : List ARun) → Everywhere (DidEnd o) xs → Everywhere (DidEnd o) ys → HaveTheSame (map (λ r. r.input) xs) (map (λ r. r.input) ys)
    → (name another : List ℕ) (call also : Call) → WritesFileOfRuns o xs name call → WritesFileOfRuns o ys another also
    → WriteTheSame name another call also × PutTheSame call also
same_files o xs ys first second shared name another call also a b =
    let covered = same_covered o xs ys first second shared a.bytes b.bytes a.of_runs b.of_runs in
    let bytes : b.bytes ≡ a.bytes = sym (single.one a.of_runs.covered b.of_runs.covered a.bytes b.bytes covered a.of_runs.file b.of_runs.file) in
    let digests : (d : List ℕ) → Somewhere (λ x. x ≡ d) a.counted.digests ↔ Somewhere (λ x. x ≡ d) b.counted.digests =
    λ d. through (a.counted.all d) (through (covered.runs d) (back (b.counted.all d))) in
    let count : b.count ≡ a.count =
    sym (a.counted.long ∙ same_count a.counted.digests b.counted.digests a.counted.each_once b.counted.each_once digests ∙ sym b.counted.long) in
    let lines : file_lines b.count b.bytes ≡ file_lines a.count a.bytes =
    ap (λ (n : ℕ). file_lines n b.bytes) count ∙ ap (λ (bs : List ℕ). file_lines a.count bs) bytes in (
      record {
        bytes = a.bytes;
        by_one = a.written;
        by_other = subst (λ (bs : List ℕ). WhereTold (Replaces another bs) also.held also.held_after) bytes b.written;
      },
      record {
        text = file_lines a.count a.bytes;
        by_one = a.told;
        by_other = subst (λ (text : List ℕ). WhereTold (Appends text) also.written also.written_after) lines b.told;
      },
    )

writes_same : (main object : List ℕ) (names : List (List ℕ)) (held now later : Held) (first one other : ACall)
    → (left : LeavesObject main object names held first.call) → (files more : List (List ℕ)) (inputs same : List (List ℤ))
    → IsReady left.made object one now files inputs → IsReady left.made object other later more same
    → (name another : List ℕ) → one.task ≡ Some (Consolidate object name files) → one.status ≡ Done
    → other.task ≡ Some (Consolidate object another more) → other.status ≡ Done → HaveTheSame inputs same
    → WriteTheSame name another one.call other.call × PutTheSame one.call other.call
unfolding ProgramsAreConsolidated
writes_same main object names held now later first one other left files more inputs same a b name another asked done asked_also done_also alike =
    same_files left.made a.files_are.runs b.files_are.runs a.ended b.ended
    (same_inputs a.files_are.runs b.files_are.runs inputs same a.files_are.on_inputs b.files_are.on_inputs alike) name another one.call other.call
    (a.made.merged now object name files a.is asked done left.sources main left.program left.made left.of_program a.there a.files_are.runs a.files_are.traces a.files_are.fit)
    (b.made.merged later object another more b.is asked_also done_also left.sources main left.program left.made left.of_program b.there b.files_are.runs b.files_are.traces b.files_are.fit)

pub coverage_law : CoverageKnowsNoGrouping
unfolding CoverageKnowsNoGrouping
coverage_law = λ main object names held first calls others it it_also one other next next_also level annotation files more asked done asked_also done_also stay stay_also inputs same together together_also alike.
    let left = left_object main object names held first calls it in
    let now = standing main object names held first calls it left in
    let later = standing main object names held first others it_also left in
    covers_same main object names held now.now later.now first one other left files more inputs same
    (ready main object names held first calls it left now one next files inputs together)
    (ready main object names held first others it_also left later other next_also more same together_also)
    level annotation asked done asked_also done_also stay stay_also alike

pub consolidation_law : ConsolidationKnowsNoGrouping
unfolding ConsolidationKnowsNoGrouping
consolidation_law = λ main object names held first calls others it it_also one other next next_also name another files more asked done asked_also done_also inputs same together together_also alike.
    let left = left_object main object names held first calls it in
    let now = standing main object names held first calls it left in
    let later = standing main object names held first others it_also left in
    writes_same main object names held now.now later.now first one other left files more inputs same
    (ready main object names held first calls it left now one next files inputs together)
    (ready main object names held first others it_also left later other next_also more same together_also)
    name another asked done asked_also done_also alike
