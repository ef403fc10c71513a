-- What a transcript tells is what stands in its list of events.
use Rattle.std.proofs.Common.{◌≡◌, inl, inr, ⊎_elim, ◌↔◌, List, [], ◌∷◌, ◌++◌, Option, Some, None, refl, sym, subst}
use Rattle.cov_base.specs.declared.position.StmtId.{StmtId}
use Rattle.cov_base.specs.declared.position.DecId.{DecId}
use Rattle.cov_base.specs.declared.position.InstId.{InstId}
use Rattle.cov_base.specs.declared.event.Event.{Event}
use Rattle.cov_base.specs.declared.event.Event.TheVariants.{Start, Done}
use Rattle.cov_base.specs.declared.event.Vector.{Vector}
use Rattle.rv_semantics.specs.declared.stepped.Seen.{Seen}
use Rattle.cov_base.specs.Lists.{Somewhere}
use Rattle.transcript.specs.Facts.{Facts, Row, AreFair}
use Rattle.transcript.specs.Visit.{Key, Visit, visit_of, visits, visited}
use Rattle.transcript.specs.Reading.{Completes, started, IsCompletedFrom, Tells}
use Rattle.transcript.specs.Computed.{completed, done_by, done_at, done_of, reading_from, reading}
use Rattle.transcript.proofs.Lists.{in_append, in_left, in_right}
use Rattle.transcript.proofs.Paths.{completes_computed, computed_completes}

abbrev pub Among : Event → List Event → Type 0
Among e es = Somewhere (λ x. x ≡ e) es

row_started : (row : Option Row) (s : StmtId) (i : InstId) → Among (Start s i) (started row) → row ≡ Some (record { statement = s; instance = i })
row_started None s i among = absurd among
row_started (Some r) s i among = ⊎_elim (λ here. same here) (λ there. absurd there) among
  where
    same : Start r.statement r.instance ≡ Start s i → Some r ≡ Some (record { statement = s; instance = i })
    same e =
        let statements : r.statement ≡ s = cc in
        let instances : r.instance ≡ i = cc in
        λ j. Some (record { statement = statements j; instance = instances j })

started_row : (row : Option Row) (s : StmtId) (i : InstId) → row ≡ Some (record { statement = s; instance = i }) → Among (Start s i) (started row)
started_row row s i is = subst (λ (r : Option Row). Among (Start s i) (started r)) (sym is) (inl refl)

no_done_started : (row : Option Row) (d : DecId) (i : InstId) (vector : Vector) → Among (Done d i vector) (started row) → ⊥
no_done_started None d i vector among = among
no_done_started (Some r) d i vector among =
    ⊎_elim (λ here. let off : Start r.statement r.instance ≡ Done d i vector = here in absurd (cc off)) (λ there. absurd there) among

no_start_done : (k : Key) (found : Option Vector) (s : StmtId) (i : InstId) → Among (Start s i) (done_by k found) → ⊥
no_start_done k None s i among = among
no_start_done k (Some vector) s i among =
    ⊎_elim (λ here. let off : Done k.decision k.instance vector ≡ Start s i = here in absurd (cc off)) (λ there. absurd there) among

no_start_at : (o : Facts) (past : List Visit) (visit : Option Visit) (s : StmtId) (i : InstId) → Among (Start s i) (done_at o past visit) → ⊥
no_start_at o past None s i among = among
no_start_at o past (Some v) s i among = no_start_done v.key (completed o past v) s i among

found_done : (k : Key) (found : Option Vector) (d : DecId) (i : InstId) (vector : Vector) → Among (Done d i vector) (done_by k found)
    → (k.decision ≡ d) × (k.instance ≡ i) × (found ≡ Some vector)
found_done k None d i vector among = absurd among
found_done k (Some found) d i vector among = ⊎_elim (λ here. same here) (λ there. absurd there) among
  where
    same : Done k.decision k.instance found ≡ Done d i vector → (k.decision ≡ d) × (k.instance ≡ i) × (Some found ≡ Some vector)
    same e = (cc, cc, cc)

done_found : (k : Key) (found : Option Vector) (d : DecId) (i : InstId) (vector : Vector) → k.decision ≡ d → k.instance ≡ i → found ≡ Some vector
    → Among (Done d i vector) (done_by k found)
done_found k found d i vector of_decision of_instance is =
    subst (λ (x : Option Vector). Among (Done d i vector) (done_by k x)) (sym is) (inl (λ j. Done (of_decision j) (of_instance j) vector))

-- a visit's evaluation is among its events
completed_done : (o : Facts) → AreFair o → (past : List Visit) (v : Visit) (d : DecId) (i : InstId) (vector : Vector)
    → (v.key.decision ≡ d) × (v.key.instance ≡ i) × Completes o past v vector → Among (Done d i vector) (done_by v.key (completed o past v))
completed_done o fair past v d i vector c = done_found v.key (completed o past v) d i vector c.0 c.1 (completes_computed o fair past v vector c.2)

done_completed : (o : Facts) (past : List Visit) (v : Visit) (d : DecId) (i : InstId) (vector : Vector) → Among (Done d i vector) (done_by v.key (completed o past v))
    → (v.key.decision ≡ d) × (v.key.instance ≡ i) × Completes o past v vector
done_completed o past v d i vector among =
    let found = found_done v.key (completed o past v) d i vector among in
    (found.0, found.1, computed_completes o past v vector found.2)

-- evaluations of visits are those among their events
pub completed_among : (o : Facts) → AreFair o → (vs past : List Visit) (d : DecId) (i : InstId) (vector : Vector)
    → IsCompletedFrom o past vs d i vector → Among (Done d i vector) (done_of o past vs)
completed_among o fair [] past d i vector is = absurd is
completed_among o fair (v ∷ vs) past d i vector is =
    ⊎_elim
    (λ here. in_left (λ x. x ≡ Done d i vector) (done_by v.key (completed o past v)) (done_of o (v ∷ past) vs) (completed_done o fair past v d i vector here))
    (λ there. in_right (λ x. x ≡ Done d i vector) (done_by v.key (completed o past v)) (done_of o (v ∷ past) vs) (completed_among o fair vs (v ∷ past) d i vector there))
    is

pub among_completed : (o : Facts) (vs past : List Visit) (d : DecId) (i : InstId) (vector : Vector)
    → Among (Done d i vector) (done_of o past vs) → IsCompletedFrom o past vs d i vector
among_completed o [] past d i vector among = absurd among
among_completed o (v ∷ vs) past d i vector among =
    ⊎_elim (λ here. inl (done_completed o past v d i vector here)) (λ there. inr (among_completed o vs (v ∷ past) d i vector there))
    (in_append (λ x. x ≡ Done d i vector) (done_by v.key (completed o past v)) (done_of o (v ∷ past) vs) among)

-- starts of a transcript
start_read : (o : Facts) (ss : List Seen) (past : List Visit) (s : StmtId) (i : InstId)
    → Somewhere (λ x. o.row x.pc ≡ Some (record { statement = s; instance = i })) ss → Among (Start s i) (reading_from o past ss)
start_read o [] past s i tells = absurd tells
start_read o (x ∷ ss) past s i tells =
    let done = done_at o past (visit_of o x) in
    let rest = reading_from o (visited (visit_of o x) past) ss in
    ⊎_elim
    (λ here. in_left (λ e. e ≡ Start s i) (started (o.row x.pc)) (done ++ rest) (started_row (o.row x.pc) s i here))
    (λ there. in_right (λ e. e ≡ Start s i) (started (o.row x.pc)) (done ++ rest)
    (in_right (λ e. e ≡ Start s i) done rest (start_read o ss (visited (visit_of o x) past) s i there)))
    tells

read_start : (o : Facts) (ss : List Seen) (past : List Visit) (s : StmtId) (i : InstId)
    → Among (Start s i) (reading_from o past ss) → Somewhere (λ x. o.row x.pc ≡ Some (record { statement = s; instance = i })) ss
read_start o [] past s i among = absurd among
read_start o (x ∷ ss) past s i among =
    let done = done_at o past (visit_of o x) in
    let rest = reading_from o (visited (visit_of o x) past) ss in
    ⊎_elim (λ here. inl (row_started (o.row x.pc) s i here))
    (λ later. ⊎_elim (λ at. absurd (no_start_at o past (visit_of o x) s i at)) (λ there. inr (read_start o ss (visited (visit_of o x) past) s i there))
    (in_append (λ e. e ≡ Start s i) done rest later))
    (in_append (λ e. e ≡ Start s i) (started (o.row x.pc)) (done ++ rest) among)

-- evaluations of a transcript
done_read : (o : Facts) → AreFair o → (ss : List Seen) (past : List Visit) (d : DecId) (i : InstId) (vector : Vector)
    → IsCompletedFrom o past (visits o ss) d i vector → Among (Done d i vector) (reading_from o past ss)
done_read o fair [] past d i vector is = absurd is
done_read o fair (x ∷ ss) past d i vector is =
    in_right (λ e. e ≡ Done d i vector) (started (o.row x.pc)) (done_at o past (visit_of o x) ++ reading_from o (visited (visit_of o x) past) ss)
    (by_visit (λ p. done_read o fair ss p d i vector) (visit_of o x) refl is)
  where
    by_visit : ((p : List Visit) → IsCompletedFrom o p (visits o ss) d i vector → Among (Done d i vector) (reading_from o p ss))
        → (visit : Option Visit) → visit_of o x ≡ visit → IsCompletedFrom o past (visits o (x ∷ ss)) d i vector
        → Among (Done d i vector) (done_at o past (visit_of o x) ++ reading_from o (visited (visit_of o x) past) ss)
    by_visit later None here is = rw here (later past (rw here at is))
    by_visit later (Some v) here is =
        rw here (⊎_elim
        (λ now. in_left (λ e. e ≡ Done d i vector) (done_by v.key (completed o past v)) (reading_from o (v ∷ past) ss) (completed_done o fair past v d i vector now))
        (λ there. in_right (λ e. e ≡ Done d i vector) (done_by v.key (completed o past v)) (reading_from o (v ∷ past) ss) (later (v ∷ past) there))
        (rw here at is))

read_done : (o : Facts) (ss : List Seen) (past : List Visit) (d : DecId) (i : InstId) (vector : Vector)
    → Among (Done d i vector) (reading_from o past ss) → IsCompletedFrom o past (visits o ss) d i vector
read_done o [] past d i vector among = absurd among
read_done o (x ∷ ss) past d i vector among =
    ⊎_elim (λ here. absurd (no_done_started (o.row x.pc) d i vector here))
    (λ later. by_visit (λ p. read_done o ss p d i vector) (visit_of o x) refl later)
    (in_append (λ e. e ≡ Done d i vector) (started (o.row x.pc)) (done_at o past (visit_of o x) ++ reading_from o (visited (visit_of o x) past) ss) among)
  where
    by_visit : ((p : List Visit) → Among (Done d i vector) (reading_from o p ss) → IsCompletedFrom o p (visits o ss) d i vector)
        → (visit : Option Visit) → visit_of o x ≡ visit → Among (Done d i vector) (done_at o past (visit_of o x) ++ reading_from o (visited (visit_of o x) past) ss)
        → IsCompletedFrom o past (visits o (x ∷ ss)) d i vector
    by_visit later None here among = rw here (later past (rw here at among))
    by_visit later (Some v) here among =
        rw here (⊎_elim (λ now. inl (done_completed o past v d i vector now)) (λ there. inr (later (v ∷ past) there))
        (in_append (λ e. e ≡ Done d i vector) (done_by v.key (completed o past v)) (reading_from o (v ∷ past) ss) (rw here at among)))

pub told_law : (o : Facts) (ss : List Seen) (e : Event) → AreFair o → Tells o ss e ↔ Somewhere (λ x. x ≡ e) (reading o ss)
told_law o ss (Start s i) fair = (start_read o ss [] s i, read_start o ss [] s i)
told_law o ss (Done d i vector) fair = (done_read o fair ss [] d i vector, read_done o ss [] d i vector)
