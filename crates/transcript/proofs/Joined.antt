-- Transcripts that are made of two parts.
use Rattle.std.proofs.Common.{◌≡◌, ℕ, ◌⊎◌, inl, inr, ⊎_elim, ◌↔◌, Bool, true, false, cond, ◌&&◌, ◌||◌, nat_eq, Option, Some, None, List, [], ◌∷◌, ◌++◌, refl, sym, ap, subst, ◌∙◌}
use Rattle.std.proofs.lemmas.List.Elements.{filter_map-append}
use Rattle.cov_base.specs.declared.position.DecId.{DecId}
use Rattle.cov_base.specs.declared.position.InstId.{InstId}
use Rattle.cov_base.specs.declared.event.Vector.{Vector}
use Rattle.rv_semantics.specs.declared.stepped.Seen.{Seen}
use Rattle.cov_base.specs.Lists.{Everywhere}
use Rattle.transcript.specs.Facts.{Facts}
use Rattle.transcript.specs.Visit.{Key, Visit, visit_of, visits, same_key, steps, onto}
use Rattle.transcript.specs.Reading.{IsCompletedFrom, AllFollow}
use Rattle.transcript.specs.Pieces.{Piece, lengthened, open_after, closed_from, left_open, RunsOnFrom, IsEnded}
use Rattle.transcript.specs.Trace.{is_edge, took, kept_of, trace_of}
use Rattle.transcript.proofs.Keys.{same_key_true, same_key_self}

pub visits_append : (o : Facts) (xs ys : List Seen) → visits o (xs ++ ys) ≡ visits o xs ++ visits o ys
visits_append o xs ys = filter_map-append (visit_of o) xs ys

pub onto_append : (xs ys past : List Visit) → onto (xs ++ ys) past ≡ onto ys (onto xs past)
onto_append [] ys past = refl
onto_append (v ∷ xs) ys past = onto_append xs ys (v ∷ past)

pub follow_append : (o : Facts) (xs ys past : List Visit) → AllFollow o past (xs ++ ys) ↔ (AllFollow o past xs × AllFollow o (onto xs past) ys)
follow_append o [] ys past = (λ all. (tt, all), λ both. both.1)
follow_append o (v ∷ xs) ys past =
    let rest = follow_append o xs ys (v ∷ past) in
    (λ all. let parts = rest.0 all.1 in ((all.0, parts.0), parts.1), λ both. (both.0.0, rest.1 (both.0.1, both.1)))

pub completed_append : (o : Facts) (xs ys past : List Visit) (d : DecId) (i : InstId) (vector : Vector)
    → IsCompletedFrom o past (xs ++ ys) d i vector ↔ (IsCompletedFrom o past xs d i vector ⊎ IsCompletedFrom o (onto xs past) ys d i vector)
completed_append o [] ys past d i vector = (λ is. inr is, λ is. ⊎_elim (λ off. absurd off) (λ there. there) is)
completed_append o (v ∷ xs) ys past d i vector =
    let rest = completed_append o xs ys (v ∷ past) d i vector in (
      λ is. ⊎_elim (λ here. inl (inl here)) (λ there. ⊎_elim (λ left. inl (inr left)) (λ right. inr right) (rest.0 there)) is,
      λ is. ⊎_elim (λ left. ⊎_elim (λ here. inl here) (λ there. inr (rest.1 (inl there))) left) (λ right. inr (rest.1 (inr right))) is,
    )

-- visits of other keys leave the steps of a key as they are
pub others_apart : (k : Key) (vs past : List Visit) → Everywhere (λ v. same_key k v.key ≡ false) vs → steps k (onto vs past) ≡ steps k past
others_apart k [] past apart = refl
others_apart k (v ∷ vs) past apart = others_apart k vs (v ∷ past) apart.1 ∙ rw (apart.0) refl

pub closed_append : (o : Facts) (xs ys : List Seen) (p : Option Piece) → closed_from o p (xs ++ ys) ≡ closed_from o p xs ++ closed_from o (left_open o p xs) ys
closed_append o [] ys p = refl
closed_append o (s ∷ xs) ys p = by_transfer (o.transfers s.pc) (closed_append o xs ys)
  where
    by_transfer : (b : Bool) → ((q : Option Piece) → closed_from o q (xs ++ ys) ≡ closed_from o q xs ++ closed_from o (left_open o q xs) ys)
        → cond b (lengthened p s.pc ∷ closed_from o None (xs ++ ys)) (closed_from o (Some (lengthened p s.pc)) (xs ++ ys))
        ≡ cond b (lengthened p s.pc ∷ closed_from o None xs) (closed_from o (Some (lengthened p s.pc)) xs)
        ++ closed_from o (left_open o (cond b None (Some (lengthened p s.pc))) xs) ys
    by_transfer true rest = ap (λ (ps : List Piece). lengthened p s.pc ∷ ps) (rest None)
    by_transfer false rest = rest (Some (lengthened p s.pc))

pub open_append : (o : Facts) (xs ys : List Seen) (p : Option Piece) → left_open o p (xs ++ ys) ≡ left_open o (left_open o p xs) ys
open_append o [] ys p = refl
open_append o (s ∷ xs) ys p = open_append o xs ys (open_after o p s.pc)

pub ended_by : (o : Facts) (ss : List Seen) (s : Seen) → IsEnded o (ss ++ s ∷ []) ↔ (o.transfers s.pc ≡ true)
ended_by o ss s = (
  λ ended. by_transfer (o.transfers s.pc) (sym (open_append o ss (s ∷ []) None) ∙ ended),
  λ transfers. open_append o ss (s ∷ []) None ∙ rw transfers refl,
)
  where
    by_transfer : (b : Bool) → cond b None (Some (lengthened (left_open o None ss) s.pc)) ≡ None → b ≡ true
    by_transfer true is = refl
    by_transfer false is = absurd (cc is)

pub runs_append : (o : Facts) (xs ys : List Seen) (p : Option Piece) → RunsOnFrom o p (xs ++ ys) ↔ (RunsOnFrom o p xs × RunsOnFrom o (left_open o p xs) ys)
runs_append o [] ys p = (λ runs. (tt, runs), λ both. both.1)
runs_append o (s ∷ xs) ys p =
    let rest = runs_append o xs ys (open_after o p s.pc) in
    (λ runs. let parts = rest.0 runs.2 in ((runs.0, runs.1, parts.0), parts.1), λ both. (both.0.0, both.0.1, rest.1 (both.0.2, both.1)))

pub took_append : (xs ys : List Seen) (pc : ℕ) (taken : Bool) → took (xs ++ ys) pc taken ≡ (took xs pc taken || took ys pc taken)
took_append [] ys pc taken = refl
took_append (s ∷ xs) ys pc taken =
    ap (λ (b : Bool). (nat_eq s.pc pc && is_edge s.edge taken) || b) (took_append xs ys pc taken)
    ∙ or_assoc (nat_eq s.pc pc && is_edge s.edge taken) (took xs pc taken) (took ys pc taken)
  where
    or_assoc : (x y z : Bool) → (x || (y || z)) ≡ ((x || y) || z)
    or_assoc true y z = refl
    or_assoc false y z = refl

pub history_append : (o : Facts) (xs ys : List Seen) → (trace_of o (xs ++ ys)).history ≡ (trace_of o xs).history ++ (trace_of o ys).history
history_append o xs ys = filter_map-append (kept_of o) xs ys

-- equal keys
pub key_law : (k l : Key) → (same_key k l ≡ true) ↔ (k ≡ l)
key_law k l = (λ is. same_key_true k l is, λ same. subst (λ (m : Key). same_key k m ≡ true) same (same_key_self k))

pub other_key : (k l : Key) → (k ≡ l → ⊥) → same_key k l ≡ false
other_key k l apart = by_test (same_key k l) refl
  where
    by_test : (b : Bool) → same_key k l ≡ b → same_key k l ≡ false
    by_test true is = absurd (apart (same_key_true k l is))
    by_test false is = is
