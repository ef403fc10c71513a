-- The events of a transcript are those that are computed.
use Rattle.std.proofs.Common.{◌≡◌, inl, inr, ⊎_elim, ◌↔◌, List, [], ◌∷◌, ◌++◌, Option, Some, None, refl, sym, ap, ap₂, subst, ◌∙◌, append_assoc}
use Rattle.cov_base.specs.declared.event.Event.{Event}
use Rattle.cov_base.specs.declared.event.Vector.{Vector}
use Rattle.rv_semantics.specs.declared.stepped.Seen.{Seen}
use Rattle.cov_base.specs.Lists.{Everywhere}
use Rattle.transcript.specs.Facts.{Facts, AreFair}
use Rattle.transcript.specs.Visit.{Visit, visit_of, visits, visited, onto}
use Rattle.transcript.specs.Reading.{Completes, started, AreDoneAt, AreEventsFrom}
use Rattle.transcript.specs.Computed.{completed, done_by, done_at, reading_from}
use Rattle.transcript.proofs.Paths.{completes_computed, computed_completes}

done_is : (o : Facts) → AreFair o → (past : List Visit) (visit : Option Visit) (es : List Event) → AreDoneAt o past visit es → es ≡ done_at o past visit
done_is o fair past None es are = are
done_is o fair past (Some v) es are =
    ⊎_elim (λ one. one.2 ∙ ap (done_by v.key) (sym (completes_computed o fair past v one.0 one.1)))
    (λ none. none.1 ∙ by_computed none.0 (completed o past v) refl) are
  where
    by_computed : ((vector : Vector) → Completes o past v vector → ⊥) → (found : Option Vector) → completed o past v ≡ found → [] ≡ done_by v.key (completed o past v)
    by_computed none None is = rw is refl
    by_computed none (Some vector) is = absurd (none vector (computed_completes o past v vector is))

done_holds : (o : Facts) → AreFair o → (past : List Visit) (visit : Option Visit) → AreDoneAt o past visit (done_at o past visit)
done_holds o fair past None = refl
done_holds o fair past (Some v) = by_computed (completed o past v) refl
  where
    by_computed : (found : Option Vector) → completed o past v ≡ found → AreDoneAt o past (Some v) (done_by v.key (completed o past v))
    by_computed None is =
        inr ((λ vector c. let off : Some vector ≡ None = sym (completes_computed o fair past v vector c) ∙ is in absurd (cc off)), ap (done_by v.key) is)
    by_computed (Some vector) is = inl (vector, computed_completes o past v vector is, ap (done_by v.key) is)

pub events_read : (o : Facts) → AreFair o → (ss : List Seen) (past : List Visit) (es : List Event) → AreEventsFrom o past ss es → es ≡ reading_from o past ss
events_read o fair [] past es are = are
events_read o fair (s ∷ ss) past es are =
    are.2
    ∙ ap₂ (λ (xs ys : List Event). started (o.row s.pc) ++ (xs ++ ys)) (done_is o fair past (visit_of o s) are.0 are.3)
    (events_read o fair ss (visited (visit_of o s) past) are.1 are.4)

pub reading_holds : (o : Facts) → AreFair o → (ss : List Seen) (past : List Visit) → AreEventsFrom o past ss (reading_from o past ss)
reading_holds o fair [] past = refl
reading_holds o fair (s ∷ ss) past = (
  done_at o past (visit_of o s),
  reading_from o (visited (visit_of o s) past) ss,
  refl,
  done_holds o fair past (visit_of o s),
  reading_holds o fair ss (visited (visit_of o s) past),
)

pub reading_law : (o : Facts) (past : List Visit) (ss : List Seen) (es : List Event) → AreFair o → AreEventsFrom o past ss es ↔ (es ≡ reading_from o past ss)
reading_law o past ss es fair =
    (events_read o fair ss past es, λ is. subst (AreEventsFrom o past ss) (sym is) (reading_holds o fair ss past))

-- the past after the visits of an instruction and those after it
pub onto_visits : (o : Facts) (s : Seen) (ss : List Seen) (past : List Visit) → onto (visits o (s ∷ ss)) past ≡ onto (visits o ss) (visited (visit_of o s) past)
onto_visits o s ss past = by_visit (visit_of o s) refl
  where
    by_visit : (visit : Option Visit) → visit_of o s ≡ visit → onto (visits o (s ∷ ss)) past ≡ onto (visits o ss) (visited (visit_of o s) past)
    by_visit None is = rw is refl
    by_visit (Some v) is = rw is refl

pub reading_append : (o : Facts) (xs ys : List Seen) (past : List Visit)
    → reading_from o past (xs ++ ys) ≡ reading_from o past xs ++ reading_from o (onto (visits o xs) past) ys
reading_append o [] ys past = refl
reading_append o (s ∷ xs) ys past =
    let now : List Visit = visited (visit_of o s) past in
    let first : List Event = started (o.row s.pc) in
    let done : List Event = done_at o past (visit_of o s) in
    let rest : List Event = reading_from o now xs in
    let last : List Event = reading_from o (onto (visits o xs) now) ys in
    ap (λ (es : List Event). first ++ (done ++ es)) (reading_append o xs ys now)
    ∙ ap (λ (es : List Event). first ++ es) (sym (append_assoc done rest last))
    ∙ sym (append_assoc first (done ++ rest) last)
    ∙ ap (λ (p : List Visit). (first ++ (done ++ rest)) ++ reading_from o p ys) (sym (onto_visits o s xs past))

-- instructions without a row and a condition tell nothing
pub tells_nothing : (o : Facts) (past : List Visit) (ss : List Seen) → Everywhere (λ s. (o.row s.pc ≡ None) × (o.condition s.pc ≡ None)) ss → reading_from o past ss ≡ []
tells_nothing o past [] all = refl
tells_nothing o past (s ∷ ss) all = rw (all.0.0, all.0.1) (tells_nothing o past ss all.1)

pub visits_nothing : (o : Facts) (ss : List Seen) → Everywhere (λ s. o.condition s.pc ≡ None) ss → visits o ss ≡ []
visits_nothing o [] all = refl
visits_nothing o (s ∷ ss) all = rw (all.0) (visits_nothing o ss all.1)
