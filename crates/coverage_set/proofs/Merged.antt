-- Two rising lists merged into one.
use Rattle.std.proofs.Common.{◌≡◌, ◌↔◌, ◌⊎◌, true, List, [], ◌∷◌, ◌++◌, refl, sym, ap, ◌∙◌, inl, inr}
use Rattle.std.specs.Cmp.{IsTotalOrder}
use Rattle.std.specs.List.{AllByRecursion}
use Rattle.std.specs.List.Sorted.{IsStrictlySortedBy}
use Rattle.std.specs.Ordering.{match_ordering, ordering_reverse}
use Rattle.std.specs.Set.{sorted_merge}
use Rattle.std.specs.declared.cmp.Ordering.{Ordering}
use Rattle.std.specs.declared.cmp.Ordering.TheVariants.{Less, Equal, Greater}
use Rattle.cov_base.specs.Lists.{Somewhere}

by_rank : {X : Type 0} (P : List X → Type 0) (k : Ordering) (xs ys zs : List X) → (k ≡ Less → P xs) → (k ≡ Equal → P ys) → (k ≡ Greater → P zs)
    → P (match_ordering k xs ys zs)
by_rank P Less xs ys zs a b c = a refl
by_rank P Equal xs ys zs a b c = b refl
by_rank P Greater xs ys zs a b c = c refl

-- the third list has what one of the others has
abbrev pub HasBoth : {X : Type 0} → X → (xs ys zs : List X) → Type 0
HasBoth x xs ys zs = Somewhere (λ y. y ≡ x) zs ↔ (Somewhere (λ y. y ≡ x) xs ⊎ Somewhere (λ y. y ≡ x) ys)

module _ {X : Type 0} (R : X → X → Ordering) where
  -- what is merged, by the order of the first items
  pub at_less : (a b : X) (xs ys : List X) → R a b ≡ Less → sorted_merge R true (a ∷ xs) (b ∷ ys) ≡ a ∷ sorted_merge R true xs (b ∷ ys)
  at_less a b xs ys is = rw is refl

  pub at_equal : (a b : X) (xs ys : List X) → R a b ≡ Equal → sorted_merge R true (a ∷ xs) (b ∷ ys) ≡ a ∷ sorted_merge R true xs ys
  at_equal a b xs ys is = rw is refl

  pub at_greater : (a b : X) (xs ys : List X) → R a b ≡ Greater → sorted_merge R true (a ∷ xs) (b ∷ ys) ≡ b ∷ sorted_merge R true (a ∷ xs) ys
  at_greater a b xs ys is = rw is refl

  pub no_left : (xs ys : List X) → xs ≡ [] → sorted_merge R true xs ys ≡ xs ++ ys
  no_left xs ys is = rw is refl

  alone : (xs : List X) → sorted_merge R true xs [] ≡ xs ++ []
  alone [] = refl
  alone (x ∷ xs) = ap (λ (zs : List X). x ∷ zs) (sym (append_nothing xs))
    where
      append_nothing : (zs : List X) → zs ++ [] ≡ zs
      append_nothing [] = refl
      append_nothing (z ∷ zs) = ap (λ (ws : List X). z ∷ ws) (append_nothing zs)

  pub no_right : (xs ys : List X) → ys ≡ [] → sorted_merge R true xs ys ≡ xs ++ ys
  no_right xs ys is = rw is (alone xs)

  -- ---- the items

  module _ (exact : (x y : X) → R x y ≡ Equal → x ≡ y) (x : X) where
    has_at : (a : X) (xs : List X) → ((zs : List X) → HasBoth x xs zs (sorted_merge R true xs zs)) → (ys : List X) → HasBoth x (a ∷ xs) ys (sorted_merge R true (a ∷ xs) ys)
    has_at a xs rest [] = (λ s. inl s, λ e. elim e [ inl s ↦ s | inr none ↦ absurd none ])
    has_at a xs rest (b ∷ ys) =
        by_rank (HasBoth x (a ∷ xs) (b ∷ ys)) (R a b) _ _ _
        (λ less. (
          λ s. elim s [ inl here ↦ inl (inl here) | inr later ↦ elim ((rest (b ∷ ys)).0 later) [ inl l ↦ inl (inr l) | inr r ↦ inr r ] ],
          λ e. elim e [
            | inl l ↦ elim l [ inl here ↦ inl here | inr later ↦ inr ((rest (b ∷ ys)).1 (inl later)) ]
            | inr r ↦ inr ((rest (b ∷ ys)).1 (inr r))
          ],
        ))
        (λ equal. (
          λ s. elim s [ inl here ↦ inl (inl here) | inr later ↦ elim ((rest ys).0 later) [ inl l ↦ inl (inr l) | inr r ↦ inr (inr r) ] ],
          λ e. elim e [
            | inl l ↦ elim l [ inl here ↦ inl here | inr later ↦ inr ((rest ys).1 (inl later)) ]
            | inr r ↦ elim r [ inl here ↦ inl (exact a b equal ∙ here) | inr later ↦ inr ((rest ys).1 (inr later)) ]
          ],
        ))
        (λ greater. let more = has_at a xs rest ys in (
          λ s. elim s [ inl here ↦ inr (inl here) | inr later ↦ elim (more.0 later) [ inl l ↦ inl l | inr r ↦ inr (inr r) ] ],
          λ e. elim e [
            | inl l ↦ inr (more.1 (inl l))
            | inr r ↦ elim r [ inl here ↦ inl here | inr later ↦ inr (more.1 (inr later)) ]
          ],
        ))

    pub has_both : (xs ys : List X) → HasBoth x xs ys (sorted_merge R true xs ys)
    has_both [] ys = (λ s. inr s, λ e. elim e [ inl none ↦ absurd none | inr s ↦ s ])
    has_both (a ∷ xs) ys = has_at a xs (has_both xs) ys

  -- ---- the order

  module _ (P : X → Type 0) where
    all_at : (a : X) (xs : List X) → P a → AllByRecursion P xs → ((zs : List X) → AllByRecursion P zs → AllByRecursion P (sorted_merge R true xs zs))
        → (ys : List X) → AllByRecursion P ys → AllByRecursion P (sorted_merge R true (a ∷ xs) ys)
    all_at a xs here some rest [] all = (here, some)
    all_at a xs here some rest (b ∷ ys) all =
        by_rank (AllByRecursion P) (R a b) _ _ _
        (λ less. (here, rest (b ∷ ys) all))
        (λ equal. (here, rest ys all.1))
        (λ greater. (all.0, all_at a xs here some rest ys all.1))

    all_merged : (xs ys : List X) → AllByRecursion P xs → AllByRecursion P ys → AllByRecursion P (sorted_merge R true xs ys)
    all_merged [] ys some all = all
    all_merged (a ∷ xs) ys some all = all_at a xs some.0 some.1 (λ zs. all_merged xs zs some.1) ys all

  module _ (total : IsTotalOrder R) where
    under : (a b : X) → R a b ≡ Greater → R b a ≡ Less
    under a b is = total.antisymm b a ∙ ap ordering_reverse is

    below_more : (a b : X) (ys : List X) → R a b ≡ Less → AllByRecursion (λ y. R b y ≡ Less) ys → AllByRecursion (λ y. R a y ≡ Less) ys
    below_more a b [] less all = tt
    below_more a b (y ∷ ys) less all = (total.trans a b y less all.0, below_more a b ys less all.1)

    below_same : (a b : X) (ys : List X) → R a b ≡ Equal → AllByRecursion (λ y. R b y ≡ Less) ys → AllByRecursion (λ y. R a y ≡ Less) ys
    below_same a b [] equal all = tt
    below_same a b (y ∷ ys) equal all = (total.congr a b y equal ∙ all.0, below_same a b ys equal all.1)

    sorted_at : (a : X) (xs : List X) → IsStrictlySortedBy R (a ∷ xs) → ((zs : List X) → IsStrictlySortedBy R zs → IsStrictlySortedBy R (sorted_merge R true xs zs))
        → (ys : List X) → IsStrictlySortedBy R ys → IsStrictlySortedBy R (sorted_merge R true (a ∷ xs) ys)
    unfolding IsStrictlySortedBy
    sorted_at a xs s rest [] t = s
    sorted_at a xs s rest (b ∷ ys) t =
        by_rank (IsStrictlySortedBy R) (R a b) _ _ _
        (λ less. (all_merged (λ y. R a y ≡ Less) xs (b ∷ ys) s.0 (less, below_more a b ys less t.0), rest (b ∷ ys) t))
        (λ equal. (all_merged (λ y. R a y ≡ Less) xs ys s.0 (below_same a b ys equal t.0), rest ys t.1))
        (λ greater. (
          all_merged (λ y. R b y ≡ Less) (a ∷ xs) ys (under a b greater, below_more b a xs (under a b greater) s.0) t.0,
          sorted_at a xs s rest ys t.1,
        ))

    pub sorted_merged : (xs ys : List X) → IsStrictlySortedBy R xs → IsStrictlySortedBy R ys → IsStrictlySortedBy R (sorted_merge R true xs ys)
    unfolding IsStrictlySortedBy
    sorted_merged [] ys s t = t
    sorted_merged (a ∷ xs) ys s t = sorted_at a xs s (λ zs. sorted_merged xs zs s.1) ys t
