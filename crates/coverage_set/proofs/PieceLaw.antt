-- A trace that is added in pieces, and one that is added whole.
use Rattle.std.proofs.Common.{◌≡◌, ◌↔◌, ◌⊎◌, ℕ, List, Result, Ok, sym, subst, ◌∙◌, inl, inr}
use Rattle.cov_base.specs.declared.event.Event.{Event}
use Rattle.object_facts.specs.Object.{facts_of}
use Rattle.object_format.specs.declared.object.Object.{Object}
use Rattle.trace_format.specs.declared.fault.TraceFault.{TraceFault}
use Rattle.trace_format.specs.Checks.{trace_of}
use Rattle.trace_format.specs.Trace.{TraceFile}
use Rattle.transcript.specs.Trace.{Says}
use Rattle.vector_rebuild.specs.Entries.{trace_in}
use Rattle.coverage_set.specs.Covered.{Covered, Has, HasRun, AreSame}
use Rattle.coverage_set.specs.Read.{AddsTraceIn}

-- what both add is one
same_union : {A B C S : Type 0} → B ↔ (A ⊎ S) → C ↔ (A ⊎ S) → B ↔ C
same_union one other = (λ b. other.1 (one.0 b), λ c. one.1 (other.0 c))

abbrev fine : TraceFile → Result TraceFile TraceFault
fine t = Ok t

fine_is : (a b : TraceFile) → fine a ≡ fine b → a ≡ b
fine_is a b e = cc e

pub same_added : (o : Object) (bytes : List ℕ) (t : TraceFile) (old pieces whole : Covered) → trace_of bytes ≡ Ok t
    → pieces.object ≡ whole.object → AddsTraceIn o bytes old pieces
    → ((e : Event) → Has whole e ↔ (Has old e ⊎ Says (facts_of o) (trace_in t) e))
    → ((digest : List ℕ) → HasRun whole digest ↔ (HasRun old digest ⊎ (t.closing ≡ digest)))
    → AreSame pieces whole
same_added o bytes t old pieces whole read object added events runs =
    let same : added.file ≡ t = fine_is added.file t (sym added.passed ∙ read) in
    record {
      object = object;
      runs = λ digest. same_union
          (subst (λ (u : TraceFile). HasRun pieces digest ↔ (HasRun old digest ⊎ (u.closing ≡ digest))) same (added.runs digest)) (runs digest);
      events = λ e. same_union
          (subst (λ (u : TraceFile). Has pieces e ↔ (Has old e ⊎ Says (facts_of o) (trace_in u) e)) same (added.events e)) (events e);
    }
