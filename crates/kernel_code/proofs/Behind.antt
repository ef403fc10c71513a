-- The events and the discipline of a past are those of its transcript.
use Rattle.std.proofs.Common.{◌≡◌, List, [], ◌∷◌, ◌++◌, reverse, Option, Some, None, refl, sym, ap, ap₂, subst, ◌∙◌, append_assoc}
use Rattle.std.proofs.lemmas.List.{append-nil, reverse-append}
use Rattle.rv_semantics.specs.declared.stepped.Seen.{Seen}
use Rattle.cov_base.specs.declared.event.Event.{Event}
use Rattle.cov_base.specs.declared.event.Vector.{Vector}
use Rattle.transcript.specs.Facts.{Facts, Row}
use Rattle.transcript.specs.Visit.{Key, Visit, visit_of, visits, onto}
use Rattle.transcript.specs.Reading.{started, AllFollow}
use Rattle.transcript.specs.Computed.{done_at, done_by, completed, reading_from, reading}
use Rattle.transcript.proofs.Readings.{reading_append}
use Rattle.transcript.proofs.Joined.{visits_append, onto_append, follow_append}
use Rattle.kernel_code.specs.Behind.{told, FollowsIfAny, PastTells, PastIsDisciplined}

-- the visits of a past come in order of time after those of nothing
one_visit : (o : Facts) (s : Seen) (vs : List Visit) → onto (visits o (s ∷ [])) vs ≡ visits o (s ∷ []) ++ vs
one_visit o s vs = by_visit (visit_of o s) refl
  where
    by_visit : (visit : Option Visit) → visit_of o s ≡ visit → onto (visits o (s ∷ [])) vs ≡ visits o (s ∷ []) ++ vs
    by_visit None is = rw is refl
    by_visit (Some v) is = rw is refl

pub visits_behind : (o : Facts) (past : List Seen) → onto (visits o (reverse past)) [] ≡ visits o past
visits_behind o [] = refl
visits_behind o (s ∷ past) =
    ap (λ ss. onto (visits o ss) []) (reverse-append (s ∷ []) past)
    ∙ (ap (λ vs. onto vs []) (visits_append o (reverse past) (s ∷ []))
    ∙ (onto_append (visits o (reverse past)) (visits o (s ∷ [])) []
    ∙ (ap (λ vs. onto (visits o (s ∷ [])) vs) (visits_behind o past)
    ∙ (one_visit o s (visits o past) ∙ sym (visits_append o (s ∷ []) past)))))

one_read : (o : Facts) (vs : List Visit) (s : Seen) → reading_from o vs (s ∷ []) ≡ started (o.row s.pc) ++ done_at o vs (visit_of o s)
one_read o vs s = ap (λ es. started (o.row s.pc) ++ es) (append-nil (done_at o vs (visit_of o s)))

-- what one instruction tells is at most one event of each kind
start_turns : (row : Option Row) (es : List Event) → reverse (started row ++ es) ≡ reverse es ++ started row
start_turns None es = sym (append-nil (reverse es))
start_turns (Some r) es = reverse-append (started (Some r)) es

done_turns : (k : Key) (vector : Option Vector) (es : List Event) → reverse (done_by k vector ++ es) ≡ reverse es ++ done_by k vector
done_turns k None es = sym (append-nil (reverse es))
done_turns k (Some v) es = reverse-append (done_by k (Some v)) es

visit_turns : (o : Facts) (vs : List Visit) (visit : Option Visit) (es : List Event) → reverse (done_at o vs visit ++ es) ≡ reverse es ++ done_at o vs visit
visit_turns o vs None es = sym (append-nil (reverse es))
visit_turns o vs (Some v) es = done_turns v.key (completed o vs v) es

turns : (o : Facts) (vs : List Visit) (s : Seen) (es : List Event)
    → reverse (done_at o vs (visit_of o s) ++ (started (o.row s.pc) ++ es)) ≡ reverse es ++ (started (o.row s.pc) ++ done_at o vs (visit_of o s))
turns o vs s es =
    visit_turns o vs (visit_of o s) (started (o.row s.pc) ++ es)
    ∙ (ap (λ xs. xs ++ done_at o vs (visit_of o s)) (start_turns (o.row s.pc) es)
    ∙ append_assoc (reverse es) (started (o.row s.pc)) (done_at o vs (visit_of o s)))

pub past_tells : PastTells
past_tells o [] = refl
past_tells o (s ∷ past) =
    turns o (visits o past) s (told o past)
    ∙ (ap₂ (λ es vs. es ++ (started (o.row s.pc) ++ done_at o vs (visit_of o s))) (past_tells o past) (sym (visits_behind o past))
    ∙ (ap (λ es. reading o (reverse past) ++ es) (sym (one_read o (onto (visits o (reverse past)) []) s))
    ∙ (sym (reading_append o (reverse past) (s ∷ []) []) ∙ ap (λ ss. reading o ss) (sym (reverse-append (s ∷ []) past)))))

one_follows : (o : Facts) (vs : List Visit) (s : Seen) → FollowsIfAny o vs (visit_of o s) → AllFollow o vs (visits o (s ∷ []))
one_follows o vs s follows = by_visit (visit_of o s) refl follows
  where
    by_visit : (visit : Option Visit) → visit_of o s ≡ visit → FollowsIfAny o vs visit → AllFollow o vs (visits o (s ∷ []))
    by_visit None is f = rw is tt
    by_visit (Some v) is f = rw is (f, tt)

pub past_is_disciplined : PastIsDisciplined
past_is_disciplined o [] order = tt
past_is_disciplined o (s ∷ past) (follows, order) =
    let last : AllFollow o (onto (visits o (reverse past)) []) (visits o (s ∷ [])) =
    one_follows o (onto (visits o (reverse past)) []) s (subst (λ vs. FollowsIfAny o vs (visit_of o s)) (sym (visits_behind o past)) follows) in
    subst (λ ss. AllFollow o [] (visits o ss)) (sym (reverse-append (s ∷ []) past))
    (subst (AllFollow o []) (sym (visits_append o (reverse past) (s ∷ [])))
    ((follow_append o (visits o (reverse past)) (visits o (s ∷ [])) []).1 (past_is_disciplined o past order, last)))
