-- What a coverage is written as, and that it is read back.
use Rattle.std.proofs.Common.{◌≡◌, ◌⊎◌, ◌↔◌, ℕ, suc, zero, List, [], ◌∷◌, ◌++◌, map, length, None, Result, Ok, Err, refl, ap, subst, ◌∙◌, inl, inr, arith}
use Rattle.std.specs.Prelude.{IfOk, OnOk, Vec}
use Rattle.std.specs.Cmp.Lexicographic.{slice_cmp}
use Rattle.std.specs.List.Sorted.{IsStrictlySortedBy}
use Rattle.std.specs.Ordering.{nat_cmp, is_lt}
use Rattle.cov_base.specs.declared.event.Event.{Event}
use Rattle.cov_base.specs.declared.event.Event.TheVariants.{Start, Done}
use Rattle.cov_base.specs.Lists.{Somewhere}
use Rattle.decision_map.specs.Decisions.{graph_at}
use Rattle.object_format.specs.declared.object.Object.{Object}
use Rattle.trace_format.specs.declared.consolidated.StartEntry.{StartEntry}
use Rattle.trace_format.specs.declared.consolidated.VectorEntry.{VectorEntry}
use Rattle.trace_format.specs.Consolidated.{Consolidated, ConsolidatedFile, sealed_by, start_cmp, vector_cmp}
use Rattle.trace_format.specs.ConsolidatedChecks.{IsOrdered, IsSealed, run_rises, start_rises, vector_rises, consolidated_of}
use Rattle.trace_format.specs.ConsolidatedFormats.{consolidated_spelling, consolidated_digest}
use Rattle.trace_format.specs.declared.consolidated.fault.ConsFault.{ConsFault}
use Rattle.transcript.proofs.Lists.{in_append, in_left, in_right}
use Rattle.coverage_set.specs.Consolidated.{start_of, done_of, HasRow, IsPossible, ArePossible, AreBefore, FitsObject, IsReadOf}
use Rattle.coverage_set.specs.Exact.{event_cmp}
use Rattle.coverage_set.specs.Written.{starts_among, vectors_among, IsFileOf}
use Rattle.coverage_set.proofs.Listed.{start_there, vector_there, starts_rise, vectors_rise, only_seen, flags_pass}
use Rattle.coverage_set.proofs.Rising.{rises}

-- lists of an object, and what a coverage is written as
abbrev pub as_parts : Object → List (List ℕ) → List StartEntry → List VectorEntry → Consolidated
as_parts o runs starts vectors = record { object = o.closing; runs = runs; starts = starts; vectors = vectors }

abbrev pub parts_of : Object → List (List ℕ) → List Event → Consolidated
parts_of o runs events = as_parts o runs (starts_among events) (vectors_among events)

-- ---- it may be written

pub is_ordered : (o : Object) (runs : List (List ℕ)) (events : List Event) → IsStrictlySortedBy (slice_cmp nat_cmp) runs → IsStrictlySortedBy event_cmp events
    → ArePossible o events → IsOrdered (parts_of o runs events)
is_ordered o runs events runs_sorted events_sorted possible = record {
  runs = rises (slice_cmp nat_cmp) run_rises (λ x. refl) (λ a b less. ap is_lt less) runs runs_sorted;
  starts = rises start_cmp start_rises (λ x. refl) (λ a b less. ap is_lt less) (starts_among events) (starts_rise events events_sorted);
  vectors = rises vector_cmp vector_rises (λ x. refl) (λ a b less. ap is_lt less) (vectors_among events) (vectors_rise events events_sorted);
  flags = flags_pass (vectors_among events)
      (λ v there. only_seen (graph_at o v.decision.0) v.vector (possible (done_of v) ((vector_there events v).0 there)).path) None 0;
}

-- ---- it fits the object

before_by : {X : Type 0} (P : X → Type 0) (xs : List X) → ((x : X) → Somewhere (λ y. y ≡ x) xs → P x) → (n : ℕ) → AreBefore P xs n
before_by P [] so n i below = tt
before_by P (x ∷ xs) so n zero below = so x (inl refl)
before_by P (x ∷ xs) so n (suc i) below = before_by P xs (λ y there. so y (inr there)) n i (omega (arith, below))

pub it_fits : (o : Object) (runs : List (List ℕ)) (events : List Event) (closing : List ℕ) → ArePossible o events
    → FitsObject o (sealed_by (parts_of o runs events) closing)
it_fits o runs events closing possible = record {
  own = refl;
  starts = before_by (HasRow o) (starts_among events) (λ s there. possible (start_of s) ((start_there events s).0 there)) (length (starts_among events));
  vectors = before_by (IsPossible o) (vectors_among events) (λ v there. possible (done_of v) ((vector_there events v).0 there)) (length (vectors_among events));
}

-- ---- its entries are the events

to_entries : (es : List Event) (e : Event) → Somewhere (λ x. x ≡ e) es
    → Somewhere (λ x. x ≡ e) (map start_of (starts_among es)) ⊎ Somewhere (λ x. x ≡ e) (map done_of (vectors_among es))
to_entries [] e some = absurd some
to_entries (Start s i ∷ es) e some = elim some [
  | inl is ↦ inl (inl is)
  | inr later ↦ elim (to_entries es e later) [ inl start ↦ inl (inr start) | inr done ↦ inr done ]
]
to_entries (Done d i v ∷ es) e some = elim some [
  | inl is ↦ inr (inl is)
  | inr later ↦ elim (to_entries es e later) [ inl start ↦ inl start | inr done ↦ inr (inr done) ]
]

by_entries : (es : List Event) (e : Event)
    → Somewhere (λ x. x ≡ e) (map start_of (starts_among es)) ⊎ Somewhere (λ x. x ≡ e) (map done_of (vectors_among es))
    → Somewhere (λ x. x ≡ e) es
by_entries [] e some = elim some [ inl start ↦ absurd start | inr done ↦ absurd done ]
by_entries (Start s i ∷ es) e some = elim some [
  | inl start ↦ elim start [ inl is ↦ inl is | inr later ↦ inr (by_entries es e (inl later)) ]
  | inr done ↦ inr (by_entries es e (inr done))
]
by_entries (Done d i v ∷ es) e some = elim some [
  | inl start ↦ inr (by_entries es e (inl start))
  | inr done ↦ elim done [ inl is ↦ inl is | inr later ↦ inr (by_entries es e (inr later)) ]
]

same_events : (es : List Event) (e : Event) → Somewhere (λ x. x ≡ e) es ↔ Somewhere (λ x. x ≡ e) (map start_of (starts_among es) ++ map done_of (vectors_among es))
same_events es e =
    let starts = map start_of (starts_among es) in
    let vectors = map done_of (vectors_among es) in (
      λ some. elim (to_entries es e some) [
        | inl start ↦ in_left (λ x. x ≡ e) starts vectors start
        | inr done ↦ in_right (λ x. x ≡ e) starts vectors done
      ],
      λ some. by_entries es e (in_append (λ x. x ≡ e) starts vectors some),
    )

-- ---- the file

pub is_file : (o : Object) (runs : List (List ℕ)) (events : List Event) (closing bytes : List ℕ) → IsSealed (sealed_by (parts_of o runs events) closing)
    → bytes ≡ consolidated_spelling (parts_of o runs events) → IsFileOf (record { object = o; runs = runs; events = events }) bytes
is_file o runs events closing bytes sealed spelled = record {
  file = sealed_by (parts_of o runs events) closing;
  sealed = sealed;
  spelled = spelled;
  object = refl;
  runs = λ digest. (λ some. some, λ some. some);
  starts = start_there events;
  vectors = vector_there events;
}

pub reads_back : (o : Object) (runs : List (List ℕ)) (events : List Event) (closing bytes : List ℕ) → ArePossible o events
    → consolidated_of bytes ≡ Ok (sealed_by (parts_of o runs events) closing) → IsReadOf o bytes (record { object = o; runs = runs; events = events })
reads_back o runs events closing bytes possible is = record {
  file = sealed_by (parts_of o runs events) closing;
  is = is;
  fits = it_fits o runs events closing possible;
  object = refl;
  runs = λ digest. (λ some. some, λ some. some);
  events = same_events events;
}

-- ---- what a call answers that writes these lists

pub parts_are : (o : Object) (runs held : List (List ℕ)) (events : List Event) (starts : List StartEntry) (vectors : List VectorEntry) → held ≡ runs
    → starts ≡ starts_among events → vectors ≡ vectors_among events → as_parts o held starts vectors ≡ parts_of o runs events
parts_are o runs held events starts vectors same_runs same_starts same_vectors = λ k. as_parts o (same_runs k) (same_starts k) (same_vectors k)

pub file_written : {Z E : Type 0} (o : Object) (runs : List (List ℕ)) (events : List Event) (parts : Consolidated) → parts ≡ parts_of o runs events
    → (r : Result (Vec ℕ Z) E) → IfOk r (λ bytes. bytes.items ≡ consolidated_spelling parts) → OnOk r (IsSealed (sealed_by parts (consolidated_digest parts)))
    → IfOk r (λ bytes. IsFileOf (record { object = o; runs = runs; events = events }) bytes.items)
file_written o runs events parts same (Ok bytes) spelled sealed =
    is_file o runs events (consolidated_digest parts) bytes.items (subst (λ (p : Consolidated). IsSealed (sealed_by p (consolidated_digest parts))) same sealed)
    (spelled ∙ ap consolidated_spelling same)
file_written o runs events parts same (Err e) spelled sealed = tt

abbrev fine : ConsolidatedFile → Result ConsolidatedFile ConsFault
fine f = Ok f

pub written_back : {Z E : Type 0} (o : Object) (runs : List (List ℕ)) (events : List Event) (parts : Consolidated) → parts ≡ parts_of o runs events
    → (r : Result (Vec ℕ Z) E) → IfOk r (λ bytes. consolidated_of bytes.items ≡ fine (sealed_by parts (consolidated_digest parts))) → ArePossible o events
    → IfOk r (λ bytes. IsReadOf o bytes.items (record { object = o; runs = runs; events = events }))
written_back o runs events parts same (Ok bytes) reads possible =
    reads_back o runs events (consolidated_digest parts) bytes.items possible
    (subst (λ (p : Consolidated). consolidated_of bytes.items ≡ fine (sealed_by p (consolidated_digest parts))) same reads)
written_back o runs events parts same (Err e) reads possible = tt
