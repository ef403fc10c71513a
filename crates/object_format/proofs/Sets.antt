-- Sets that are made of a list.
use Rattle.std.proofs.Common.{◌≡◌, ◌≢◌, ◌↔◌, ℕ, true, IsTrue, List, length, eqb, eqb-true, sym, subst, ◌∙◌, Decides, AllPairs}
use Rattle.std.specs.BTreeSet.{BTreeSet, btree_set_len, IsFromIterResult}
use Rattle.std.specs.Cmp.{IsTotalOrder}
use Rattle.std.specs.declared.cmp.Ordering.{Ordering}
use Rattle.std.specs.Ordering.{eq_by_cmp, nat_cmp}
use Rattle.std.proofs.lemmas.Bool.{eq-eqb}
use Rattle.std.proofs.lemmas.Cmp.{eq_by_cmp_equiv, on_total, then_total, nat_cmp_total}
use Rattle.std.proofs.lemmas.Map.Lookups.{CmpEqualImpliesEq, exact_pairs, exact_unsigned}
use Rattle.std.proofs.lemmas.Map.Made.{IsDistinct-from_count, distinct_count-from_IsDistinct, AllPairs-from_IsDistinct, IsDistinct-from_AllPairs}
use Rattle.object_format.specs.Keys.{pair_cmp, triple_cmp}
use Rattle.std.proofs.lemmas.Map.Views.{btree_set_len-from_list, tells_apart}

pub pairs_total : IsTotalOrder pair_cmp
pairs_total = then_total (on_total (λ (p : ℕ × ℕ). p.0) nat_cmp_total) (on_total (λ (p : ℕ × ℕ). p.1) nat_cmp_total)

pub pairs_exact : CmpEqualImpliesEq pair_cmp
pairs_exact = exact_pairs nat_cmp nat_cmp exact_unsigned exact_unsigned

pub triples_total : IsTotalOrder triple_cmp
triples_total = then_total (on_total (λ (t : (ℕ × ℕ) × ℕ). t.0) pairs_total) (on_total (λ (t : (ℕ × ℕ) × ℕ). t.1) nat_cmp_total)

pub triples_exact : CmpEqualImpliesEq triple_cmp
triples_exact = exact_pairs pair_cmp nat_cmp pairs_exact exact_unsigned

module _ {K : Type 0} {R : K → K → Ordering} (o : IsTotalOrder R) (exact : CmpEqualImpliesEq R) where
  decides : (x y : K) → Decides (eq_by_cmp R x y) (x ≡ y)
  decides x y = (tells_apart exact x y, λ e. subst (λ z. eq_by_cmp R x z ≡ true) e ((eq_by_cmp_equiv o).refl x))

  -- the set has as many keys as the list has items, just where no two items are equal
  pub sizes_agree : (xs : List K) (s : BTreeSet K) → IsFromIterResult R xs s → IsTrue (eqb (btree_set_len s) (length xs)) ↔ AllPairs (λ x y. x ≢ y) xs
  sizes_agree xs s made =
      let counted = btree_set_len-from_list o xs s made in (
        λ same. AllPairs-from_IsDistinct decides xs (IsDistinct-from_count (eq_by_cmp_equiv o) xs (sym counted ∙ eqb-true _ _ same)),
        λ apart. eq-eqb _ _ (counted ∙ distinct_count-from_IsDistinct (eq_by_cmp_equiv o) xs (IsDistinct-from_AllPairs decides xs apart)),
      )

  -- the same, where the length was counted elsewhere
  pub counts_agree : (xs : List K) (s : BTreeSet K) (found wanted : ℕ) → IsFromIterResult R xs s → found ≡ btree_set_len s → wanted ≡ length xs
      → IsTrue (eqb found wanted) ↔ AllPairs (λ x y. x ≢ y) xs
  counts_agree xs s found wanted made one two = rw (one, two) (sizes_agree xs s made)
