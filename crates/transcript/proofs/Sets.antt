-- Pieces in rising order: the set of pieces has just their members, and it is the one rising list that has.
use Rattle.std.proofs.Common.{◌≡◌, ◌<◌, ◌⊎◌, inl, inr, ⊎_elim, ◌↔◌, Bool, true, false, cond, ◌&&◌, ◌||◌, List, [], ◌∷◌, refl, sym, ap, subst, ◌∙◌, arith, eqb, ltb, eq-eqb, eqb-true, ltb-true, lt-ltb}
use Rattle.std.proofs.lemmas.Bool.{cases_order}
use Rattle.cov_base.specs.Lists.{Somewhere, Everywhere}
use Rattle.transcript.specs.Facts.{Facts}
use Rattle.transcript.specs.Pieces.{Piece, stands_before, with_piece, set_of, Rise, StartsRise, IsPieceOf}
use Rattle.transcript.proofs.Blocks.{one_last}

-- the order, in words
abbrev Before : Piece → Piece → Type 0
Before p q = (p.start < q.start) ⊎ ((p.start ≡ q.start) × (p.last < q.last))

before_is : (p q : Piece) → stands_before p q ≡ true → Before p q
before_is p q is = by_start (ltb p.start q.start) refl (eqb p.start q.start) refl (ltb p.last q.last) refl is
  where
    by_start : (a : Bool) → ltb p.start q.start ≡ a → (b : Bool) → eqb p.start q.start ≡ b → (c : Bool) → ltb p.last q.last ≡ c → (a || (b && c)) ≡ true → Before p q
    by_start true less b same c ends e = inl (ltb-true p.start q.start less)
    by_start false less true same true ends e = inr (eqb-true p.start q.start same, ltb-true p.last q.last ends)
    by_start false less true same false ends e = absurd (cc e)
    by_start false less false same c ends e = absurd (cc e)

is_before : (p q : Piece) → Before p q → stands_before p q ≡ true
is_before p q is = ⊎_elim (λ less. rw (lt-ltb p.start q.start less) refl) (λ same. by_start (ltb p.start q.start) same.0 same.1) is
  where
    by_start : (a : Bool) → p.start ≡ q.start → p.last < q.last → (a || (eqb p.start q.start && ltb p.last q.last)) ≡ true
    by_start true same less = refl
    by_start false same less = rw (eq-eqb p.start q.start same, lt-ltb p.last q.last less) refl

not_self : (p : Piece) → Before p p → ⊥
not_self p is = ⊎_elim (λ less. absurd (omega (arith, less))) (λ same. absurd (omega (arith, same.1))) is

then_before : (p q r : Piece) → Before p q → Before q r → Before p r
then_before p q r first second =
    ⊎_elim
    (λ less. ⊎_elim (λ more. inl (omega (arith, less, more))) (λ same. inl (omega (arith, less, same.0))) second)
    (λ same. ⊎_elim (λ more. inl (omega (arith, same.0, more))) (λ next. inr (omega (arith, same.0, next.0), omega (arith, same.1, next.1))) second)
    first

one_piece : (p q : Piece) → p.start ≡ q.start → p.last ≡ q.last → p ≡ q
one_piece p q starts lasts = λ i. record { start = starts i; last = lasts i }

ordered : (p q : Piece) → (p ≡ q) ⊎ (Before p q ⊎ Before q p)
ordered p q =
    ⊎_elim
    (λ starts. ⊎_elim (λ lasts. inl (one_piece p q starts lasts)) (λ apart. inr (⊎_elim (λ less. inl (inr (starts, less))) (λ more. inr (inr (sym starts, more))) apart)) (cases_order p.last q.last))
    (λ apart. inr (⊎_elim (λ less. inl (inl less)) (λ more. inr (inl more)) apart))
    (cases_order p.start q.start)

-- where neither stands before the other they are one
neither : (p q : Piece) → stands_before p q ≡ false → stands_before q p ≡ false → p ≡ q
neither p q first second =
    ⊎_elim (λ same. same)
    (λ apart. ⊎_elim
    (λ less. let off : true ≡ false = sym (is_before p q less) ∙ first in absurd (cc off))
    (λ more. let off : true ≡ false = sym (is_before q p more) ∙ second in absurd (cc off)) apart)
    (ordered p q)

-- members
in_with : (P : Piece → Type 0) (p : Piece) (qs : List Piece) → Somewhere P (with_piece p qs) → P p ⊎ Somewhere P qs
in_with P p [] s = ⊎_elim (λ here. inl here) (λ off. absurd off) s
in_with P p (q ∷ qs) s = by_order (stands_before p q) (stands_before q p) (in_with P p qs) s
  where
    by_order : (a b : Bool) → (Somewhere P (with_piece p qs) → P p ⊎ Somewhere P qs) → Somewhere P (cond a (p ∷ (q ∷ qs)) (cond b (q ∷ with_piece p qs) (q ∷ qs)))
        → P p ⊎ Somewhere P (q ∷ qs)
    by_order true b rest s = s
    by_order false true rest s = ⊎_elim (λ here. inr (inl here)) (λ there. ⊎_elim (λ own. inl own) (λ after. inr (inr after)) (rest there)) s
    by_order false false rest s = inr s

to_with : (P : Piece → Type 0) (p : Piece) (qs : List Piece) → P p ⊎ Somewhere P qs → Somewhere P (with_piece p qs)
to_with P p [] s = ⊎_elim (λ here. inl here) (λ off. absurd off) s
to_with P p (q ∷ qs) s = by_order (stands_before p q) refl (stands_before q p) refl (to_with P p qs) s
  where
    by_order : (a : Bool) → stands_before p q ≡ a → (b : Bool) → stands_before q p ≡ b → (P p ⊎ Somewhere P qs → Somewhere P (with_piece p qs)) → P p ⊎ Somewhere P (q ∷ qs)
        → Somewhere P (cond a (p ∷ (q ∷ qs)) (cond b (q ∷ with_piece p qs) (q ∷ qs)))
    by_order true first b second rest s = s
    by_order false first true second rest s =
        ⊎_elim (λ own. inr (rest (inl own))) (λ others. ⊎_elim (λ here. inl here) (λ after. inr (rest (inr after))) others) s
    by_order false first false second rest s =
        ⊎_elim (λ own. inl (subst P (neither p q first second) own)) (λ others. others) s

pub in_set : (P : Piece → Type 0) (ps : List Piece) → Somewhere P (set_of ps) → Somewhere P ps
in_set P [] s = s
in_set P (p ∷ ps) s = ⊎_elim (λ own. inl own) (λ there. inr (in_set P ps there)) (in_with P p (set_of ps) s)

pub to_set : (P : Piece → Type 0) (ps : List Piece) → Somewhere P ps → Somewhere P (set_of ps)
to_set P [] s = s
to_set P (p ∷ ps) s = to_with P p (set_of ps) (⊎_elim (λ own. inl own) (λ there. inr (to_set P ps there)) s)

-- order
all_after : (p q : Piece) (rest : List Piece) → Before p q → Everywhere (λ r. stands_before q r ≡ true) rest → Everywhere (λ r. stands_before p r ≡ true) rest
all_after p q [] less all = tt
all_after p q (r ∷ rest) less all =
    (is_before p r (then_before p q r less (before_is q r all.0)), all_after p q rest less all.1)

all_with : (P : Piece → Type 0) (p : Piece) (qs : List Piece) → P p → Everywhere P qs → Everywhere P (with_piece p qs)
all_with P p [] own all = (own, tt)
all_with P p (q ∷ qs) own all = by_order (stands_before p q) (stands_before q p) (all_with P p qs own all.1)
  where
    by_order : (a b : Bool) → Everywhere P (with_piece p qs) → Everywhere P (cond a (p ∷ (q ∷ qs)) (cond b (q ∷ with_piece p qs) (q ∷ qs)))
    by_order true b rest = (own, all)
    by_order false true rest = (all.0, rest)
    by_order false false rest = all

with_rises : (p : Piece) (qs : List Piece) → Rise qs → Rise (with_piece p qs)
with_rises p [] rises = (tt, tt)
with_rises p (q ∷ qs) rises = by_order (stands_before p q) refl (stands_before q p) refl (with_rises p qs rises.1)
  where
    by_order : (a : Bool) → stands_before p q ≡ a → (b : Bool) → stands_before q p ≡ b → Rise (with_piece p qs) → Rise (cond a (p ∷ (q ∷ qs)) (cond b (q ∷ with_piece p qs) (q ∷ qs)))
    by_order true first b second rest = ((first, all_after p q qs (before_is p q first) rises.0), rises)
    by_order false first true second rest = (all_with (λ r. stands_before q r ≡ true) p qs second rises.0, rest)
    by_order false first false second rest = rises

pub set_rises : (ps : List Piece) → Rise (set_of ps)
set_rises [] = tt
set_rises (p ∷ ps) = with_rises p (set_of ps) (set_rises ps)

pub all_set : (P : Piece → Type 0) (ps : List Piece) → Everywhere P ps → Everywhere P (set_of ps)
all_set P [] all = tt
all_set P (p ∷ ps) all = all_with P p (set_of ps) all.0 (all_set P ps all.1)

-- pieces of one text that rise have rising starts
starts_after : (o : Facts) (p : Piece) (qs : List Piece) → IsPieceOf o p → Everywhere (IsPieceOf o) qs → Everywhere (λ q. stands_before p q ≡ true) qs → Everywhere (λ q. p.start < q.start) qs
starts_after o p [] is all rises = tt
starts_after o p (q ∷ qs) is all rises =
    (⊎_elim (λ less. less) (λ same. absurd (omega (arith, same.1, one_last o p q is all.0 same.0))) (before_is p q rises.0), starts_after o p qs is all.1 rises.1)

pub starts_rise : (o : Facts) (ps : List Piece) → Everywhere (IsPieceOf o) ps → Rise ps → StartsRise ps
starts_rise o [] all rises = tt
starts_rise o (p ∷ ps) all rises = (starts_after o p ps all.0 all.1 rises.0, starts_rise o ps all.1 rises.1)

pub rise_by_starts : (ps : List Piece) → StartsRise ps → Rise ps
rise_by_starts [] rises = tt
rise_by_starts (p ∷ ps) rises = (after ps rises.0, rise_by_starts ps rises.1)
  where
    after : (qs : List Piece) → Everywhere (λ q. p.start < q.start) qs → Everywhere (λ q. stands_before p q ≡ true) qs
    after [] all = tt
    after (q ∷ qs) all = (is_before p q (inl all.0), after qs all.1)

-- rising lists with the same members are one
before_member : (p x : Piece) (qs : List Piece) → Everywhere (λ q. stands_before p q ≡ true) qs → Somewhere (λ q. q ≡ x) qs → Before p x
before_member p x [] all s = absurd s
before_member p x (q ∷ qs) all s =
    ⊎_elim (λ here. before_is p x (subst (λ (y : Piece). stands_before p y ≡ true) here all.0)) (λ there. before_member p x qs all.1 there) s

abbrev pub SameMembers : List Piece → List Piece → Type 0
SameMembers ps qs = (x : Piece) → Somewhere (λ p. p ≡ x) ps ↔ Somewhere (λ q. q ≡ x) qs

first_not_later : (p q : Piece) (qs : List Piece) → Before p q → Everywhere (λ r. stands_before q r ≡ true) qs → Somewhere (λ r. r ≡ p) (q ∷ qs) → ⊥
first_not_later p q qs less rises s =
    ⊎_elim (λ here. not_self p (subst (λ (y : Piece). Before p y) here less)) (λ there. not_self p (then_before p q p less (before_member q p qs rises there))) s

rest_of : (p q : Piece) (ps qs : List Piece) → p ≡ q → Everywhere (λ r. stands_before p r ≡ true) ps → ((x : Piece) → Somewhere (λ r. r ≡ x) (p ∷ ps) → Somewhere (λ r. r ≡ x) (q ∷ qs))
    → (x : Piece) → Somewhere (λ r. r ≡ x) ps → Somewhere (λ r. r ≡ x) qs
rest_of p q ps qs same rises members x s =
    ⊎_elim (λ here. absurd (not_self p (subst (λ (y : Piece). Before p y) (sym here ∙ sym same) (before_member p x ps rises s)))) (λ there. there) (members x (inr s))

pub one_list : (ps qs : List Piece) → Rise ps → Rise qs → SameMembers ps qs → ps ≡ qs
one_list [] [] rises_p rises_q members = refl
one_list [] (q ∷ qs) rises_p rises_q members = absurd ((members q).1 (inl refl))
one_list (p ∷ ps) [] rises_p rises_q members = absurd ((members p).0 (inl refl))
one_list (p ∷ ps) (q ∷ qs) rises_p rises_q members =
    ⊎_elim
    (λ same. ap (λ (x : Piece). x ∷ ps) same
    ∙ ap (λ (xs : List Piece). q ∷ xs) (one_list ps qs rises_p.1 rises_q.1 (λ x. (
      rest_of p q ps qs same rises_p.0 (λ y. (members y).0) x,
      rest_of q p qs ps (sym same) rises_q.0 (λ y. (members y).1) x,
    ))))
    (λ apart. ⊎_elim
    (λ less. absurd (first_not_later p q qs less rises_q.0 ((members p).0 (inl refl))))
    (λ more. absurd (first_not_later q p ps more rises_p.0 ((members q).1 (inl refl)))) apart)
    (ordered p q)

pub is_set : (ps qs : List Piece) → Rise ps → SameMembers ps qs → ps ≡ set_of qs
is_set ps qs rises same =
    one_list ps (set_of qs) rises (set_rises qs)
    (λ x. (λ s. to_set (λ q. q ≡ x) qs ((same x).0 s), λ s. (same x).1 (in_set (λ q. q ≡ x) qs s)))
