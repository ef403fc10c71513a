-- What a search in a sorted list answers: an item that stands there is found.
use Rattle.std.proofs.Common.{◌≡◌, ℕ, ◌≤◌, true, List, length, get_or, inl, inr, arith, refl, sym, ◌∙◌, subst, ap, Result, Ok, Err, is_ok}
use Rattle.std.specs.Cmp.{IsTotalOrder}
use Rattle.std.specs.List.Sorted.{IsSearchInRange, IsBinarySearchResult, IsNonDecreasingBy, IsStrictlySortedBy}
use Rattle.std.specs.Ordering.{ordering_index, ordering_reverse}
use Rattle.std.specs.declared.cmp.Ordering.{Ordering}
use Rattle.std.specs.declared.cmp.Ordering.TheVariants.{Less, Equal, Greater}
use Rattle.std.proofs.lemmas.Bool.{cases_lt}
use Rattle.std.proofs.lemmas.Cmp.{eq_by_cmp_equiv}
use Rattle.std.proofs.lemmas.List.Sorted.{IsNonDecreasingBy-from_default}
use Rattle.std.proofs.lemmas.Map.Keys.{Less-from_sorted}
use Rattle.cov_base.specs.Lists.{Somewhere}
use Rattle.coverage_set.proofs.Members.{contains_of, equal_by}

module _ {X : Type 0} (R : X → X → Ordering) (total : IsTotalOrder R) (x : X) where
  -- of two items in order, the lesser compares no higher
  index_rises : (a b : X) → R a b ≡ Less → ordering_index (R a x) ≤ ordering_index (R b x)
  index_rises a b less = by_order (R b x) refl
    where
      most : (o : Ordering) → ordering_index o ≤ 2
      most Less = omega arith
      most Equal = omega arith
      most Greater = omega arith

      by_order : (o : Ordering) → R b x ≡ o → ordering_index (R a x) ≤ ordering_index (R b x)
      by_order Less same = rw (total.trans a b x less same, same) (omega arith)
      by_order Equal same =
          let above : R b a ≡ Greater = total.antisymm b a ∙ ap ordering_reverse less in
          let turned : R x a ≡ Greater = sym (total.congr b x a same) ∙ above in
          let below : R a x ≡ Less = total.antisymm a x ∙ ap ordering_reverse turned in
          rw (below, same) (omega arith)
      by_order Greater same = rw same (most (R a x))

  module _ (xs : List X) (sorted : IsStrictlySortedBy R xs) where
    comparisons_rise : IsNonDecreasingBy (λ y. ordering_index (R y x)) xs
    comparisons_rise = IsNonDecreasingBy-from_default (λ y. ordering_index (R y x)) xs x (λ i j le within.
        elim (cases_lt i j) [
          | inl before ↦ index_rises (get_or xs i x) (get_or xs j x) (Less-from_sorted R xs i j x sorted before within)
          | inr behind ↦ let same : i ≡ j = omega arith in subst (λ k. ordering_index (R (get_or xs i x) x) ≤ ordering_index (R (get_or xs k x) x)) same (omega arith)
        ])

    self_equal : R x x ≡ Equal
    self_equal = equal_by R x x ((eq_by_cmp_equiv total).refl x)

    -- what stands in the list is found
    pub is_found : (found : Result ℕ ℕ) → IsSearchInRange found (length xs) → IsBinarySearchResult (λ y. R y x) xs found → Somewhere (λ y. y ≡ x) xs → is_ok found ≡ true
    is_found (Ok at) within answer some = refl
    is_found (Err at) within answer some =
        let k = contains_of xs x some in
        let equal : R (get_or xs k.0 x) x ≡ Equal = ap (λ y. R y x) k.2 ∙ self_equal in
        let parted = answer comparisons_rise in
        elim (cases_lt k.0 at) [
          | inl low ↦ let less = parted.0 k.0 x (omega arith) low in absurd (cc (sym less ∙ equal))
          | inr high ↦ let more = parted.1 k.0 x high k.1 in absurd (cc (sym more ∙ equal))
        ]
