-- The trace of an object's own run passes all checks, and says what the run tells.
use Rattle.std.proofs.Common.{◌≡◌, ◌↔◌, ◌⊎◌, inl, inr, ⊎_elim, ℕ, List, [], Option, None, Some, Result, Ok, sym, ap, ◌∙◌, subst}
use Rattle.cov_base.specs.declared.event.Event.{Event}
use Rattle.coverage_set.proofs.OwnTraces.{own_fits, own_follows}
use Rattle.coverage_set.proofs.RunLaw.{run_law}
use Rattle.coverage_set.specs.Covered.{Covered, Has}
use Rattle.decision_map.specs.Fits.{fault_of}
use Rattle.object_facts.proofs.Placed.{run_ended}
use Rattle.object_facts.specs.Object.{facts_of}
use Rattle.object_format.specs.Checked.{IsSound}
use Rattle.object_format.specs.declared.object.Object.{Object}
use Rattle.trace_format.specs.Checks.{trace_of}
use Rattle.trace_format.specs.Formats.{trace_digest}
use Rattle.trace_format.specs.Trace.{TraceFile, closed_by}
use Rattle.trace_format.specs.declared.fault.TraceFault.{TraceFault}
use Rattle.rv_semantics.specs.Run.Outcome.{Ended}
use Rattle.trace_record.specs.Recorded.{Recorded}
use Rattle.trace_record.specs.Written.{traced}
use Rattle.transcript.proofs.Broken.{broken_law, whole_law}
use Rattle.transcript.specs.Pieces.{IsEnded}
use Rattle.transcript.specs.Reading.{AllFollow}
use Rattle.transcript.specs.Replay.{BreaksAt}
use Rattle.transcript.specs.Trace.{Says}
use Rattle.vector_rebuild.specs.Entries.{trace_in}
use Rattle.vector_rebuild.specs.Rebuilt.{visits_of}
use Rattle.workload.specs.declared.inputs.Triple.{Triple}
use Rattle.workload_runs.specs.Runs.{AddsRun, IsFair, IsTraceOn, TellsOn, file_on, numbers_of, run_budget, run_on}

abbrev is_read : TraceFile → Result TraceFile TraceFault
is_read t = Ok t

same_file : (a b : TraceFile) → is_read a ≡ is_read b → a ≡ b
same_file a b same = cc same

-- what is read of its bytes is its file
file_is : (o : Object) (input : Triple) (bytes : List ℕ) (t : TraceFile) (is : IsTraceOn o input bytes) → trace_of bytes ≡ Ok t
    → file_on o input is.ending ≡ t
file_is o input bytes t is read = same_file (file_on o input is.ending) t (sym is.read ∙ read)

pub fits : (o : Object) (input : Triple) (bytes : List ℕ) (t : TraceFile) → IsSound o → IsTraceOn o input bytes → trace_of bytes ≡ Ok t
    → fault_of o t ≡ None
fits o input bytes t sound is read =
    subst (λ (x : TraceFile). fault_of o x ≡ None) (file_is o input bytes t is read)
    (own_fits o run_budget (numbers_of input) is.ending (trace_digest (traced o (run_on o input).entries is.ending)) sound is.ended)

follows : (o : Object) (input : Triple) (bytes : List ℕ) (t : TraceFile) → IsFair o input → IsTraceOn o input bytes → trace_of bytes ≡ Ok t
    → AllFollow (facts_of o) [] (visits_of (facts_of o) t.history)
follows o input bytes t fair is read =
    subst (λ (x : TraceFile). AllFollow (facts_of o) [] (visits_of (facts_of o) x.history)) (file_is o input bytes t is read)
    (own_follows o (run_on o input).entries is.ending (trace_digest (traced o (run_on o input).entries is.ending)) (fair is.ending is.ended))

none_some : (found : Option ℕ) (place : ℕ) → found ≡ None → found ≡ Some place → ⊥
none_some found place none some = absurd (cc (sym none ∙ some))

pub unbroken : (o : Object) (input : Triple) (bytes : List ℕ) (t : TraceFile) (place : ℕ) → IsFair o input → IsTraceOn o input bytes
    → trace_of bytes ≡ Ok t → BreaksAt (facts_of o) (visits_of (facts_of o) t.history) place → ⊥
unbroken o input bytes t place fair is read breaks =
    let vs = visits_of (facts_of o) t.history in
    none_some _ place ((whole_law (facts_of o) vs).1 (follows o input bytes t fair is read)) ((broken_law (facts_of o) vs place).1 breaks)

says : (o : Object) (input : Triple) (bytes : List ℕ) (t : TraceFile) (e : Event) → IsSound o → IsFair o input → IsTraceOn o input bytes
    → trace_of bytes ≡ Ok t → Says (facts_of o) (trace_in t) e ↔ TellsOn o e input
says o input bytes t e sound fair is read =
    subst (λ (x : TraceFile). Says (facts_of o) (trace_in x) e ↔ TellsOn o e input) (file_is o input bytes t is read)
    (run_law o run_budget (numbers_of input) is.ending (trace_digest (traced o (run_on o input).entries is.ending)) e sound is.ended
    (fair is.ending is.ended))

-- a coverage to which its trace was added has what the run tells
pub run_added : (o : Object) (input : Triple) (bytes : List ℕ) (t : TraceFile) (old new : Covered) → IsSound o → IsFair o input
    → IsTraceOn o input bytes → trace_of bytes ≡ Ok t
    → ((e : Event) → Has new e ↔ (Has old e ⊎ Says (facts_of o) (trace_in t) e)) → AddsRun o input old new
run_added o input bytes t old new sound fair is read added = λ e.
    let same = says o input bytes t e sound fair is read in (
      λ has. ⊎_elim (λ before. inl before) (λ said. inr (same.0 said)) ((added e).0 has),
      λ either. (added e).1 (⊎_elim (λ before. inl before) (λ tells. inr (same.1 tells)) either),
    )

-- what was written of a run that was recorded up to its end
pub traced_on : (o : Object) (input : Triple) (ending : ℕ) (r : Recorded) (bytes : List ℕ) → (run_on o input).outcome ≡ Ended ending → r.object ≡ o
    → trace_of bytes
    ≡ Ok (closed_by (traced r.object (run_on o input).entries ending) (trace_digest (traced r.object (run_on o input).entries ending)))
    → IsTraceOn o input bytes
traced_on o input ending r bytes ended same read = record {
  ending = ending;
  ended = ended;
  read = read ∙ ap (λ (x : Object). is_read
      (closed_by (traced x (run_on o input).entries ending) (trace_digest (traced x (run_on o input).entries ending)))) same;
}

-- its transcript ends in a control transfer
pub run_over : (o : Object) (input : Triple) (ending : ℕ) (r : Recorded) → IsSound o → r.object ≡ o → (run_on o input).outcome ≡ Ended ending
    → IsEnded (facts_of r.object) (run_on o input).entries
run_over o input ending r sound same ended =
    subst (λ (x : Object). IsEnded (facts_of x) (run_on o input).entries) (sym same)
    (run_ended o run_budget (numbers_of input) ending sound ended)
