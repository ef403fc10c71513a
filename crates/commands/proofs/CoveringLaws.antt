-- What adding traces makes of a coverage, and what is made of it.
use Rattle.std.proofs.Common.{◌≡◌, ◌↔◌, ◌⊎◌, inl, inr, ⊎_elim, ℕ, true, false, List, [], ◌∷◌, ◌++◌, length, map, Result, Ok, Err, refl, sym, ap, subst, ◌∙◌}
use Rattle.std.specs.Prelude.{OnOk}
use Rattle.cov_base.specs.declared.event.Event.{Event}
use Rattle.cov_base.specs.declared.failure.Failure.{Failure}
use Rattle.cov_base.specs.declared.failure.Failure.TheVariants.{Fault}
use Rattle.cov_base.specs.declared.failure.Failure.TheVariants as failures
use Rattle.cov_base.specs.declared.level.Annotation.{Annotation}
use Rattle.cov_base.specs.declared.level.Level.{Level}
use Rattle.cov_base.specs.declared.obligations.SourceFile.{SourceFile}
use Rattle.coverage_set.specs.Consolidated.{events_in, IsReadOf, IsRefused}
use Rattle.coverage_set.specs.Covered.{Covered, Has, HasRun, IsCountOfRuns, IsUnion}
use Rattle.cov_base.specs.Lists.{Somewhere}
use Rattle.commands.specs.Content.{ByMagic, is_consolidated, RefusesConsolidated, Shows, Counts, IsReport, StandsFor}
use Rattle.commands.specs.Covering.{Adds, AddsListed, AddsRun}
use Rattle.commands.specs.Failures.{consolidated_status}
use Rattle.commands.specs.Reading.{UnlessMemory}
use Rattle.commands.specs.Texts.{coverage_text, ShowSame}
use Rattle.commands.proofs.TextLaws.{same_shown}
use Rattle.commands.specs.declared.status.Status.{Status}
use Rattle.object_facts.specs.Object.{facts_of}
use Rattle.object_format.specs.declared.object.Object.{Object}
use Rattle.trace_format.specs.Checks.{trace_of}
use Rattle.trace_format.specs.Consolidated.{ConsolidatedFile}
use Rattle.trace_format.specs.ConsolidatedChecks.{consolidated_of}
use Rattle.trace_format.specs.declared.consolidated.fault.ConsFault.{ConsFault}
use Rattle.trace_format.specs.declared.fault.TraceFault.{TraceFault}
use Rattle.trace_format.specs.Trace.{TraceFile}
use Rattle.transcript.proofs.Lists.{in_append, in_left, in_right}
use Rattle.transcript.specs.Trace.{Says}
use Rattle.vector_rebuild.specs.Entries.{trace_in}

-- what is read is one trace
abbrev fine : TraceFile → Result TraceFile TraceFault
fine t = Ok t

fine_is : (a b : TraceFile) → fine a ≡ fine b → a ≡ b
fine_is a b e = cc e

-- what holds of the trace that bytes are
of_read : (P : TraceFile → Type 0) (bytes : List ℕ) (t : TraceFile) → trace_of bytes ≡ Ok t → (u : TraceFile) → trace_of bytes ≡ Ok u → P u → P t
of_read P bytes t read u again holds = subst P (fine_is u t (sym again ∙ read)) holds

-- one of a list of one
only : {X : Type 0} (P : X → Type 0) (x : X) → Somewhere P (x ∷ []) → P x
only P x s = ⊎_elim (λ here. here) (λ there. absurd there) s

-- ---- one file is added

pub run_added : (o : Object) (old new : Covered) (bytes : List ℕ) (t : TraceFile) → trace_of bytes ≡ Ok t → new.object ≡ old.object
    → ((e : Event) → Has new e ↔ (Has old e ⊎ Says (facts_of o) (trace_in t) e)) → ((d : List ℕ) → HasRun new d ↔ (HasRun old d ⊎ (t.closing ≡ d)))
    → AddsRun o old new bytes
run_added o old new bytes t read same events runs = record {
  object = same;
  events = λ e. (
    λ has. ⊎_elim (λ before. inl before) (λ says. inr (t, read, says)) ((events e).0 has),
    λ either. (events e).1 (⊎_elim (λ before. inl before) (λ s. inr (of_read (λ u. Says (facts_of o) (trace_in u) e) bytes t read s.0 s.1 s.2)) either),
  );
  runs = λ d. (
    λ has. ⊎_elim (λ before. inl before) (λ is. inr (t, read, is)) ((runs d).0 has),
    λ either. (runs d).1 (⊎_elim (λ before. inl before) (λ s. inr (of_read (λ u. u.closing ≡ d) bytes t read s.0 s.1 s.2)) either),
  );
}

-- what is read is one consolidated file
abbrev pub listed : ConsolidatedFile → Result ConsolidatedFile ConsFault
listed f = Ok f

pub listed_is : (f g : ConsolidatedFile) → listed f ≡ listed g → f ≡ g
listed_is f g e = cc e

of_listed : (P : ConsolidatedFile → Type 0) (bytes : List ℕ) (f : ConsolidatedFile) → consolidated_of bytes ≡ Ok f
    → (g : ConsolidatedFile) → consolidated_of bytes ≡ Ok g → P g → P f
of_listed P bytes f read g again holds = subst P (listed_is g f (sym again ∙ read)) holds

pub listed_added : (o : Object) (old other new : Covered) (bytes : List ℕ) → IsReadOf o bytes other → IsUnion old other new → AddsListed old new bytes
listed_added o old other new bytes read union = record {
  object = union.object;
  events = λ e. (
    λ has. ⊎_elim (λ before. inl before) (λ joined. inr (read.file, read.is, (read.events e).0 joined)) ((union.events e).0 has),
    λ either. (union.events e).1 (⊎_elim (λ before. inl before)
        (λ s. inr ((read.events e).1 (of_listed (λ f. Somewhere (λ x. x ≡ e) (events_in f)) bytes read.file read.is s.0 s.1 s.2))) either),
  );
  runs = λ d. (
    λ has. ⊎_elim (λ before. inl before) (λ joined. inr (read.file, read.is, (read.runs d).0 joined)) ((union.runs d).0 has),
    λ either. (union.runs d).1 (⊎_elim (λ before. inl before)
        (λ s. inr ((read.runs d).1 (of_listed (λ f. Somewhere (λ x. x ≡ d) f.runs) bytes read.file read.is s.0 s.1 s.2))) either),
  );
}

-- ---- what its first bytes say

pub as_consolidated : {M T : Type 0} (bytes : List ℕ) → is_consolidated bytes ≡ true → M → ByMagic bytes M T
as_consolidated bytes kind m = record { consolidated = λ _. m; trace = λ other. let x : ⊥ = cc (kind, other) in absurd x }

pub as_trace : {M T : Type 0} (bytes : List ℕ) → is_consolidated bytes ≡ false → T → ByMagic bytes M T
as_trace bytes kind t = record { consolidated = λ other. let x : ⊥ = cc (kind, other) in absurd x; trace = λ _. t }

-- what follows where a call answers Ok
pub on_ok : {A E P Q : Type 0} (r : Result A E) → (P → Q) → OnOk r P → OnOk r Q
on_ok (Ok x) f p = f p
on_ok (Err e) f p = tt

-- a union with what one file shows, as one with what a list of one shows
of_one : {A B F : Type 0} (P : F → Type 0) (x : F) → B ↔ (A ⊎ P x) → B ↔ (A ⊎ Somewhere P (x ∷ []))
of_one P x both = (
  λ b. ⊎_elim (λ a. inl a) (λ p. inr (inl p)) (both.0 b),
  λ either. both.1 (⊎_elim (λ a. inl a) (λ s. inr (only P x s)) either),
)

-- the same where another word is used of the file
with_word : {A B S T : Type 0} → (S → T) → (T → S) → B ↔ (A ⊎ S) → B ↔ (A ⊎ T)
with_word to back both = (
  λ b. ⊎_elim (λ a. inl a) (λ s. inr (to s)) (both.0 b),
  λ either. both.1 (⊎_elim (λ a. inl a) (λ t. inr (back t)) either),
)

pub consolidated_adds : (o : Object) (old new : Covered) (bytes : List ℕ) → is_consolidated bytes ≡ true → AddsListed old new bytes
    → Adds o old new (bytes ∷ [])
consolidated_adds o old new bytes kind adds = record {
  object = adds.object;
  events = λ e. of_one (λ trace. Shows o trace e) bytes (with_word (λ s. as_consolidated bytes kind s) (λ t. t.consolidated kind) (adds.events e));
  runs = λ d. of_one (Counts d) bytes (with_word (λ s. as_consolidated bytes kind s) (λ t. t.consolidated kind) (adds.runs d));
}

pub trace_adds : (o : Object) (old new : Covered) (bytes : List ℕ) → is_consolidated bytes ≡ false → AddsRun o old new bytes
    → Adds o old new (bytes ∷ [])
trace_adds o old new bytes kind adds = record {
  object = adds.object;
  events = λ e. of_one (λ trace. Shows o trace e) bytes (with_word (λ s. as_trace bytes kind s) (λ t. t.trace kind) (adds.events e));
  runs = λ d. of_one (Counts d) bytes (with_word (λ s. as_trace bytes kind s) (λ t. t.trace kind) (adds.runs d));
}

-- ---- many files

pub nothing_added : (o : Object) (c : Covered) → Adds o c c []
nothing_added o c = record {
  object = refl;
  events = λ e. (λ has. inl has, λ either. ⊎_elim (λ has. has) (λ none. absurd none) either);
  runs = λ d. (λ has. inl has, λ either. ⊎_elim (λ has. has) (λ none. absurd none) either);
}

-- either of two unions
joined : {A B C X : Type 0} (P : X → Type 0) (xs ys : List X) → B ↔ (A ⊎ Somewhere P xs) → C ↔ (B ⊎ Somewhere P ys) → C ↔ (A ⊎ Somewhere P (xs ++ ys))
joined P xs ys first second = (
  λ c. ⊎_elim (λ b. ⊎_elim (λ a. inl a) (λ x. inr (in_left P xs ys x)) (first.0 b)) (λ y. inr (in_right P xs ys y)) (second.0 c),
  λ either. second.1 (⊎_elim (λ a. inl (first.1 (inl a))) (λ s. ⊎_elim (λ x. inl (first.1 (inr x))) (λ y. inr y) (in_append P xs ys s)) either),
)

pub more_added : (o : Object) (a b c : Covered) (ts us : List (List ℕ)) → Adds o a b ts → Adds o b c us → Adds o a c (ts ++ us)
more_added o a b c ts us first second = record {
  object = second.object ∙ first.object;
  events = λ e. joined (λ trace. Shows o trace e) ts us (first.events e) (second.events e);
  runs = λ d. joined (Counts d) ts us (first.runs d) (second.runs d);
}

-- what is added to nothing
of_nothing : {A B S : Type 0} → (A → ⊥) → B ↔ (A ⊎ S) → B ↔ S
of_nothing none both = (λ b. ⊎_elim (λ a. absurd (none a)) (λ s. s) (both.0 b), λ s. both.1 (inr s))

through : {A B C : Type 0} → A ↔ B → B ↔ C → A ↔ C
through first second = (λ a. second.0 (first.0 a), λ c. first.1 (second.1 c))

-- the report of a coverage is that of the traces that were added to an empty one
pub reports_added : (level : Level) (annotation : Annotation) (o : Object) (sources : List SourceFile) (old new : Covered) (traces : List (List ℕ)) (text : List ℕ)
    → ((e : Event) → Has old e → ⊥) → ((d : List ℕ) → HasRun old d → ⊥) → Adds o old new traces
    → IsReport level annotation o sources (Has new) (HasRun new) text
    → IsReport level annotation o sources (λ e. Somewhere (λ trace. Shows o trace e) traces) (λ digest. Somewhere (Counts digest) traces) text
reports_added level annotation o sources old new traces text no_event no_run adds report = record {
  events = report.events;
  digests = report.digests;
  all_events = λ e. through (report.all_events e) (of_nothing (no_event e) (adds.events e));
  all_digests = λ d. through (report.all_digests d) (of_nothing (no_run d) (adds.runs d));
  each_once = report.each_once;
  told = report.told;
}

-- the coverage stands for the traces that were added to an empty one
pub stands_added : (o : Object) (old new : Covered) (traces : List (List ℕ)) → old.object ≡ o
    → ((e : Event) → Has old e → ⊥) → ((d : List ℕ) → HasRun old d → ⊥) → Adds o old new traces
    → StandsFor o (λ e. Somewhere (λ trace. Shows o trace e) traces) (λ digest. Somewhere (Counts digest) traces) new
stands_added o old new traces own no_event no_run adds = record {
  object = adds.object ∙ own;
  events = λ e. of_nothing (no_event e) (adds.events e);
  runs = λ d. of_nothing (no_run d) (adds.runs d);
}

-- the report is made of the events and of the count of runs
pub report_made : (level : Level) (annotation : Annotation) (o : Object) (sources : List SourceFile) (c : Covered) (count : ℕ) (events : List Event) (text : List ℕ)
    → ((e : Event) → Somewhere (λ x. x ≡ e) events ↔ Has c e) → IsCountOfRuns c count
    → text ≡ coverage_text annotation level o.obligations count events sources → IsReport level annotation o sources (Has c) (HasRun c) text
report_made level annotation o sources c count events text all counted told = record {
  events = events;
  digests = counted.digests;
  all_events = all;
  all_digests = counted.all;
  each_once = counted.each_once;
  told = told ∙ ap (λ (n : ℕ). coverage_text annotation level o.obligations n events sources) counted.long;
}

-- over files that show the same in that form it is the same
pub report_over : (level : Level) (annotation : Annotation) (o : Object) (sources others : List SourceFile) (c : Covered) (text : List ℕ)
    → ShowSame annotation sources others → IsReport level annotation o sources (Has c) (HasRun c) text
    → IsReport level annotation o others (Has c) (HasRun c) text
report_over level annotation o sources others c text same report = record {
  events = report.events;
  digests = report.digests;
  all_events = report.all_events;
  all_digests = report.all_digests;
  each_once = report.each_once;
  told = report.told ∙ same_shown annotation level o.obligations (length report.digests) report.events sources others same;
}

-- ---- refusals

-- a consolidated file that was not read
pub bad_list : (number : ℕ) (o : Object) (bytes : List ℕ) (failure : Failure ConsFault) (status : Status) → IsRefused o bytes failure
    → status ≡ consolidated_status number failure → UnlessMemory (RefusesConsolidated number o bytes) status
bad_list number o bytes (Fault why) status refused is = inr (why, refused, is)
bad_list number o bytes failures.WantOfMemory status refused is = inl is
