-- Lists that strictly rise.
use Rattle.std.proofs.Common.{◌≡◌, ◌↔◌, ℕ, ◌+◌, Bool, true, false, cond, List, [], ◌∷◌, Option, Some, None, refl, sym, ap, subst, ◌∙◌, inl, inr}
use Rattle.std.specs.Cmp.{IsTotalOrder}
use Rattle.std.proofs.lemmas.Cmp.{tied_itself}
use Rattle.std.specs.List.{AllByRecursion}
use Rattle.std.specs.List.Sorted.{IsStrictlySortedBy}
use Rattle.std.specs.Ordering.{is_lt, ordering_reverse}
use Rattle.std.specs.declared.cmp.Ordering.{Ordering}
use Rattle.std.specs.declared.cmp.Ordering.TheVariants.{Less, Equal, Greater}
use Rattle.cov_base.specs.Lists.{Somewhere}
use Rattle.spelling.specs.Checks.{first_failing}

-- ---- as a check finds them

-- a list that strictly rises passes a check that asks for just that
rises_behind : {X : Type 0} (R : X → X → Ordering) (passes : Option X → X → Bool) → ((a b : X) → R a b ≡ Less → passes (Some a) b ≡ true)
    → (a : X) (xs : List X) (at : ℕ) → AllByRecursion (λ x. R a x ≡ Less) xs → IsStrictlySortedBy R xs → first_failing passes (Some a) at xs ≡ None
unfolding IsStrictlySortedBy
rises_behind R passes so a [] at above sorted = refl
rises_behind R passes so a (x ∷ xs) at above sorted = rw (so a x above.0) (rises_behind R passes so x xs (at + 1) sorted.0 sorted.1)

pub rises : {X : Type 0} (R : X → X → Ordering) (passes : Option X → X → Bool) → ((x : X) → passes None x ≡ true) → ((a b : X) → R a b ≡ Less → passes (Some a) b ≡ true)
    → (xs : List X) → IsStrictlySortedBy R xs → first_failing passes None 0 xs ≡ None
unfolding IsStrictlySortedBy
rises R passes first so [] sorted = refl
rises R passes first so (x ∷ xs) sorted = rw (first x) (rises_behind R passes so x xs (0 + 1) sorted.0 sorted.1)

-- ---- and the other way round

-- a test that passed, and what is left to look at
passed : (b : Bool) (rest : Option ℕ) (at : ℕ) → cond b rest (Some at) ≡ None → (b ≡ true) × (rest ≡ None)
passed true rest at none = (refl, none)
passed false rest at none = absurd (cc none)

pub is_less : (o : Ordering) → is_lt o ≡ true → o ≡ Less
is_less Less is = refl
is_less Equal is = absurd (cc is)
is_less Greater is = absurd (cc is)

module _ {X : Type 0} (R : X → X → Ordering) (total : IsTotalOrder R) where
  -- what stands above an item stands above those below it
  above_lower : (a x : X) (xs : List X) → R a x ≡ Less → AllByRecursion (λ y. R x y ≡ Less) xs → AllByRecursion (λ y. R a y ≡ Less) xs
  above_lower a x [] less above = tt
  above_lower a x (y ∷ ys) less above = (total.trans a x y less above.0, above_lower a x ys less above.1)

  passing_behind : (passes : Option X → X → Bool) → ((a b : X) → passes (Some a) b ≡ true → R a b ≡ Less)
      → (a : X) (xs : List X) (at : ℕ) → first_failing passes (Some a) at xs ≡ None → AllByRecursion (λ x. R a x ≡ Less) xs × IsStrictlySortedBy R xs
  unfolding IsStrictlySortedBy
  passing_behind passes so a [] at none = (tt, tt)
  passing_behind passes so a (x ∷ xs) at none =
      let p = passed (passes (Some a) x) (first_failing passes (Some x) (at + 1) xs) at none in
      let rest = passing_behind passes so x xs (at + 1) p.1 in
      let here = so a x p.0 in
      ((here, above_lower a x xs here rest.0), rest)

  -- a list that passes a check which asks for just that strictly rises
  pub passing : (passes : Option X → X → Bool) → ((a b : X) → passes (Some a) b ≡ true → R a b ≡ Less)
      → (xs : List X) → first_failing passes None 0 xs ≡ None → IsStrictlySortedBy R xs
  unfolding IsStrictlySortedBy
  passing passes so [] none = tt
  passing passes so (x ∷ xs) none =
      let p = passed (passes None x) (first_failing passes (Some x) (0 + 1) xs) 0 none in
      passing_behind passes so x xs (0 + 1) p.1

  -- ---- lists with the same members

  none_below_itself : (x : X) → R x x ≡ Less → ⊥
  none_below_itself x less = cc (sym (tied_itself total x) ∙ less)

  below_member : (a x : X) (xs : List X) → AllByRecursion (λ y. R a y ≡ Less) xs → Somewhere (λ y. y ≡ x) xs → R a x ≡ Less
  below_member a x [] above some = absurd some
  below_member a x (y ∷ ys) above some = elim some [
    | inl is ↦ subst (λ z. R a z ≡ Less) is above.0
    | inr later ↦ below_member a x ys above.1 later
  ]

  -- an item below the first of a list doesn't stand in it
  not_there : (a x : X) (xs : List X) → R a x ≡ Less → AllByRecursion (λ y. R x y ≡ Less) xs → Somewhere (λ y. y ≡ a) (x ∷ xs) → ⊥
  not_there a x xs less above some = elim some [
    | inl is ↦ none_below_itself a (subst (λ z. R a z ≡ Less) is less)
    | inr later ↦ none_below_itself a (total.trans a x a less (below_member x a xs above later))
  ]

  -- what stands behind the first of a list stands behind the same first of another
  behind_first : (x y : X) (xs ys : List X) → x ≡ y → AllByRecursion (λ z. R x z ≡ Less) xs
      → ((z : X) → Somewhere (λ w. w ≡ z) (x ∷ xs) → Somewhere (λ w. w ≡ z) (y ∷ ys)) → (z : X) → Somewhere (λ w. w ≡ z) xs → Somewhere (λ w. w ≡ z) ys
  behind_first x y xs ys same above members z some = elim (members z (inr some)) [
    | inl is ↦ absurd (none_below_itself x (subst (λ w. R x w ≡ Less) (sym is ∙ sym same) (below_member x z xs above some)))
    | inr later ↦ later
  ]

  -- are one
  pub one_list : ((x y : X) → R x y ≡ Equal → x ≡ y) → (xs ys : List X) → IsStrictlySortedBy R xs → IsStrictlySortedBy R ys
      → ((z : X) → Somewhere (λ w. w ≡ z) xs ↔ Somewhere (λ w. w ≡ z) ys) → xs ≡ ys
  unfolding IsStrictlySortedBy
  one_list exact [] [] xs_rise ys_rise same = refl
  one_list exact [] (y ∷ ys) xs_rise ys_rise same = absurd ((same y).1 (inl refl))
  one_list exact (x ∷ xs) [] xs_rise ys_rise same = absurd ((same x).0 (inl refl))
  one_list exact (x ∷ xs) (y ∷ ys) xs_rise ys_rise same = by_order (R x y) refl (one_list exact xs ys xs_rise.1 ys_rise.1)
    where
      by_order : (o : Ordering) → R x y ≡ o → (((z : X) → Somewhere (λ w. w ≡ z) xs ↔ Somewhere (λ w. w ≡ z) ys) → xs ≡ ys) → x ∷ xs ≡ y ∷ ys
      by_order Less is rest = absurd (not_there x y ys is ys_rise.0 ((same x).0 (inl refl)))
      by_order Equal is rest =
          let first : x ≡ y = exact x y is in
          let others : xs ≡ ys = rest (λ z. (
            behind_first x y xs ys first xs_rise.0 (λ w. (same w).0) z,
            behind_first y x ys xs (sym first) ys_rise.0 (λ w. (same w).1) z,
          )) in
          λ k. first k ∷ others k
      by_order Greater is rest =
          let below : R y x ≡ Less = total.antisymm y x ∙ ap ordering_reverse is in
          absurd (not_there y x xs below xs_rise.0 ((same y).1 (inl refl)))
