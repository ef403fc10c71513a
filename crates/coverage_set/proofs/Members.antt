-- The items of sorted lists.
use Rattle.std.proofs.Common.{◌≡◌, ◌≢◌, ◌↔◌, ◌⊎◌, ℕ, suc, zero, ◌<◌, ◌≤◌, Bool, true, List, [], ◌∷◌, ◌++◌, length, get_or, slice_get, Some, Contains, IsPermutation, is_eq, inl, inr, arith, refl, sym, ◌∙◌, subst, ap, drop, ◌+◌, Result, Ok, Err, IfOk, is_ok}
use Rattle.std.specs.Cmp.{IsTotalOrder, IsEquivalence}
use Rattle.std.specs.List.{dedup, AllByRecursion, AllPairs}
use Rattle.std.specs.Ordering.{eq_by_cmp}
use Rattle.std.specs.List.{HoldsAt}
use Rattle.std.specs.List.Sorted.{IsSearchInRange}
use Rattle.std.proofs.lemmas.List.{at_drop_more}
use Rattle.std.proofs.lemmas.Option.{slice_get_within, slice_get-get_or}
use Rattle.std.specs.declared.cmp.Ordering.{Ordering}
use Rattle.std.specs.declared.cmp.Ordering.TheVariants.{Less, Equal, Greater}
use Rattle.std.proofs.lemmas.List.Sorted.{Contains-permutation, IsPermutation-sym}
use Rattle.std.proofs.lemmas.List.Kept.{Contains-dedup, Contains-from_dedup, AllPairs-cons}
use Rattle.std.proofs.lemmas.List.Elements.{All-from_recursion}
use Rattle.std.proofs.lemmas.Cmp.{eq_by_cmp_equiv}
use Rattle.std.specs.List.Sorted.{IsStrictlySortedBy}
use Rattle.cov_base.specs.Lists.{Somewhere}
use Rattle.transcript.proofs.Lists.{in_append, in_left, in_right}

-- an item that is contained stands somewhere, and the other way round
somewhere_at : {X : Type 0} (xs : List X) (x : X) (k : ℕ) → k < length xs → get_or xs k x ≡ x → Somewhere (λ y. y ≡ x) xs
somewhere_at [] x k within is = absurd (omega arith)
somewhere_at (y ∷ xs) x zero within is = inl is
somewhere_at (y ∷ xs) x (suc k) within is = inr (somewhere_at xs x k (omega arith) is)

pub somewhere_of : {X : Type 0} (xs : List X) (x : X) → Contains xs x → Somewhere (λ y. y ≡ x) xs
somewhere_of xs x has = somewhere_at xs x has.0 has.1 has.2

pub stands_at : {X : Type 0} (xs : List X) (k : ℕ) (x : X) → slice_get xs k ≡ Some x → Somewhere (λ y. y ≡ x) xs
stands_at xs k x is =
    let within = slice_get_within xs k x is in
    somewhere_at xs x k within (cc (is, slice_get-get_or xs k x within))

-- what is the same as an item in a place stands there
pub same_at : {X : Type 0} (xs : List X) (k : ℕ) (x y : X) → x ≡ get_or xs k x → k < length xs → x ≡ y
    → Somewhere (λ z. z ≡ y) xs
same_at xs k x y is within one = subst (λ w. Somewhere (λ z. z ≡ w) xs) one (somewhere_at xs x k within (sym is))

pub contains_of : {X : Type 0} (xs : List X) (x : X) → Somewhere (λ y. y ≡ x) xs → Contains xs x
contains_of [] x some = absurd some
contains_of (y ∷ xs) x some = elim some [
  | inl is ↦ (zero, omega arith, is)
  | inr later ↦ let rest = contains_of xs x later in (suc rest.0, omega (arith, rest.1), rest.2)
]

-- what stands in a list behind which others were put
pub of_append : {X : Type 0} (old more new : List X) → new ≡ old ++ more
    → (x : X) → Somewhere (λ y. y ≡ x) new ↔ (Somewhere (λ y. y ≡ x) old ⊎ Somewhere (λ y. y ≡ x) more)
of_append old more new is x = rw is (
  λ some. in_append (λ y. y ≡ x) old more some,
  λ some. elim some [ inl one ↦ in_left (λ y. y ≡ x) old more one | inr other ↦ in_right (λ y. y ≡ x) old more other ],
)

pub of_push : {X : Type 0} (old kept new : List X) (item : X) → new ≡ kept ++ item ∷ []
    → ((x : X) → Somewhere (λ y. y ≡ x) kept ↔ Somewhere (λ y. y ≡ x) old)
    → (x : X) → Somewhere (λ y. y ≡ x) new ↔ (Somewhere (λ y. y ≡ x) old ⊎ (item ≡ x))
of_push old kept new item is same x =
    let both = of_append kept (item ∷ []) new is x in (
      λ some. elim (both.0 some) [
        | inl early ↦ inl ((same x).0 early)
        | inr late ↦ elim late [ inl here ↦ inr here | inr none ↦ absurd none ]
      ],
      λ some. both.1 (elim some [ inl early ↦ inl ((same x).1 early) | inr here ↦ inr (inl here) ]),
    )

-- what stands in a list already need not be put there
pub of_same : {X : Type 0} (xs : List X) (item : X) → Somewhere (λ y. y ≡ item) xs
    → (x : X) → Somewhere (λ y. y ≡ x) xs ↔ (Somewhere (λ y. y ≡ x) xs ⊎ (item ≡ x))
of_same xs item there x = (
  λ some. inl some,
  λ either. elim either [ inl some ↦ some | inr is ↦ subst (λ z. Somewhere (λ y. y ≡ z) xs) is there ],
)

-- a union with what is said otherwise
pub in_either : (A B C D : Type 0) → (C ↔ (A ⊎ B)) → (B ↔ D) → C ↔ (A ⊎ D)
in_either A B C D union same = (
  λ c. elim (union.0 c) [ inl a ↦ inl a | inr b ↦ inr (same.0 b) ],
  λ either. union.1 (elim either [ inl a ↦ inl a | inr d ↦ inr (same.1 d) ]),
)

-- a union with a set of one item
pub in_one_more : {X : Type 0} (old one new : List X) (item x : X) → one ≡ item ∷ []
    → (Somewhere (λ y. y ≡ x) new ↔ (Somewhere (λ y. y ≡ x) old ⊎ Somewhere (λ y. y ≡ x) one))
    → Somewhere (λ y. y ≡ x) new ↔ (Somewhere (λ y. y ≡ x) old ⊎ (item ≡ x))
in_one_more old one new item x is union =
    in_either (Somewhere (λ y. y ≡ x) old) (Somewhere (λ y. y ≡ x) one) (Somewhere (λ y. y ≡ x) new) (item ≡ x) union
    (rw is (λ some. elim some [ inl here ↦ here | inr none ↦ absurd none ], λ here. inl here))

-- once each item of a list stands once, what stands in it is as before
pub kept_all : {X : Type 0} (E : X → X → Bool) → IsEquivalence E → ((x y : X) → E x y ≡ true → x ≡ y)
    → (list sorted : List X) → IsPermutation list sorted
    → (x : X) → Somewhere (λ y. y ≡ x) (dedup E sorted) ↔ Somewhere (λ y. y ≡ x) list
kept_all E laws exact list sorted same x = (
  λ some. somewhere_of list x
      (Contains-permutation sorted list x (IsPermutation-sym list sorted same) (Contains-from_dedup E sorted x (contains_of (dedup E sorted) x some))),
  λ some. somewhere_of (dedup E sorted) x (Contains-dedup laws exact sorted x (Contains-permutation list sorted x same (contains_of list x some))),
)

-- what was gathered of three lists, one after another
pub all_gathered : {X : Type 0} (P : X → Type 0) (done flagged starts first second third set : List X)
    → ((x : X) → Somewhere (λ y. y ≡ x) first ↔ Somewhere (λ y. y ≡ x) done)
    → ((x : X) → Somewhere (λ y. y ≡ x) second ↔ (Somewhere (λ y. y ≡ x) first ⊎ Somewhere (λ y. y ≡ x) flagged))
    → ((x : X) → Somewhere (λ y. y ≡ x) third ↔ (Somewhere (λ y. y ≡ x) second ⊎ Somewhere (λ y. y ≡ x) starts))
    → ((x : X) → Somewhere (λ y. y ≡ x) set ↔ Somewhere (λ y. y ≡ x) third)
    → ((x : X) → Somewhere (λ y. y ≡ x) ((done ++ flagged) ++ starts) ↔ P x)
    → (x : X) → Somewhere (λ y. y ≡ x) set ↔ P x
all_gathered {X = X} P done flagged starts first second third set has_done has_flagged has_starts is_set says x = (
  λ some. (says x).0 (elim ((has_starts x).0 ((is_set x).0 some)) [
    | inl early ↦ in_left is (done ++ flagged) starts (elim ((has_flagged x).0 early) [
      | inl earlier ↦ in_left is done flagged ((has_done x).0 earlier)
      | inr flag ↦ in_right is done flagged flag
    ])
    | inr start ↦ in_right is (done ++ flagged) starts start
  ]),
  λ told. (is_set x).1 ((has_starts x).1 (elim (in_append is (done ++ flagged) starts ((says x).1 told)) [
    | inl early ↦ inl ((has_flagged x).1 (elim (in_append is done flagged early) [
      | inl earlier ↦ inl ((has_done x).1 earlier)
      | inr flag ↦ inr flag
    ]))
    | inr start ↦ inr start
  ])),
)
  where
    is : X → Type 0
    is y = y ≡ x

-- an order that finds two values equal
pub equal_by : {X : Type 0} (R : X → X → Ordering) (x y : X) → eq_by_cmp R x y ≡ true → R x y ≡ Equal
equal_by R x y is = by_order (R x y) refl is
  where
    by_order : (o : Ordering) → R x y ≡ o → is_eq o ≡ true → R x y ≡ Equal
    by_order Less same equal = absurd (cc equal)
    by_order Equal same equal = same
    by_order Greater same equal = absurd (cc equal)

-- an item below others is none of them
none_below : {X : Type 0} (R : X → X → Ordering) → IsTotalOrder R → (x : X) (xs : List X) → AllByRecursion (λ y. R x y ≡ Less) xs → AllByRecursion (λ y. x ≢ y) xs
none_below R total x [] below = tt
none_below R total x (y ∷ xs) below = (
  λ same.
      let equal : is_eq (R x x) ≡ true = (eq_by_cmp_equiv total).refl x in
      let less : R x x ≡ Less = subst (λ z. R x z ≡ Less) (sym same) below.0 in
      cc (sym equal ∙ ap is_eq less),
  none_below R total x xs below.1,
)

-- in a strictly sorted list each item stands once
pub each_once : {X : Type 0} (R : X → X → Ordering) → IsTotalOrder R → (xs : List X) → IsStrictlySortedBy R xs → AllPairs (λ x y. x ≢ y) xs
unfolding IsStrictlySortedBy
each_once R total [] sorted = λ i j d before within. absurd (omega arith)
each_once R total (x ∷ xs) sorted =
    AllPairs-cons (λ x y. x ≢ y) x xs (All-from_recursion (λ y. x ≢ y) xs (none_below R total x xs sorted.0)) (each_once R total xs sorted.1)

-- what a search found stands in the list
pub stands_found : {X : Type 0} (R : X → X → Ordering) → ((x y : X) → R x y ≡ Equal → x ≡ y) → (xs : List X) (x : X) (found : Result ℕ ℕ)
    → IsSearchInRange found (length xs) → IfOk found (HoldsAt (λ y. R y x ≡ Equal) xs) → is_ok found ≡ true → Somewhere (λ y. y ≡ x) xs
stands_found R exact xs x (Ok i) within holds is = somewhere_at xs x i within (exact (get_or xs i x) x (holds x))
stands_found R exact xs x (Err i) within holds is = absurd (cc is)

-- where an item of a list stands in another one, it is enough that those behind it do
pub one_less : {X : Type 0} (others xs : List X) (i : ℕ) (x : X) → i < length xs → x ≡ get_or xs i x → Somewhere (λ y. y ≡ x) others
    → ((z : X) → Somewhere (λ y. y ≡ z) (drop i xs) → Somewhere (λ y. y ≡ z) others) ↔ ((z : X) → Somewhere (λ y. y ≡ z) (drop (i + 1) xs) → Somewhere (λ y. y ≡ z) others)
one_less {X = X} others xs i x within is here = (
  λ all z some. all z (subst (λ (zs : List X). Somewhere (λ y. y ≡ z) zs) (sym (at_drop_more (λ (zs : List X). zs) xs i x within)) (inr some)),
  λ behind z some.
      elim (subst (λ (zs : List X). Somewhere (λ y. y ≡ z) zs) (at_drop_more (λ (zs : List X). zs) xs i x within) some) [
        | inl first ↦ subst (λ w. Somewhere (λ y. y ≡ w) others) (is ∙ first) here
        | inr later ↦ behind z later
      ],
)

-- behind the last item nothing stands
pub none_behind : {X : Type 0} (P : X → Type 0) (xs : List X) (i : ℕ) → length xs ≤ i → Somewhere P (drop i xs) → ⊥
none_behind P [] zero behind some = some
none_behind P [] (suc i) behind some = some
none_behind P (x ∷ xs) zero behind some = absurd (omega arith)
none_behind P (x ∷ xs) (suc i) behind some = none_behind P xs i (omega arith) some
