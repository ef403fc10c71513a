-- A stable sort puts items into the order of their keys.
use Rattle.std.proofs.Common.{◌≡◌, ℕ, suc, ◌<◌, Bool, true, false, not, cond, ◌&&◌, List, [], ◌∷◌, length, filter, refl, sym, ap, ◌∙◌, ◌+◌, arith, inl, inr, suc-le-suc, zero-le, is_lt, subst, slice_index_or}
use Rattle.std.specs.declared.cmp.Ordering.{Ordering}
use Rattle.std.specs.declared.cmp.Ordering.TheVariants.{Less, Equal, Greater}
use Rattle.std.specs.Ordering.{is_eq, is_gt, ordering_reverse}
use Rattle.std.specs.Cmp.{IsTotalOrder}
use Rattle.std.specs.List.Sorted.{ties, IsSortedBy, IsStableBy}
use Rattle.std.proofs.lemmas.Bool.{cond-true, cond-false, cases_Bool}
use Rattle.std.proofs.lemmas.Cmp.{upto, alike_right, tied_itself, tied_back}
use Rattle.ada_meaning.specs.Obligations.{inserted, in_order}

module _ {X K : Type 0} (key : X → K) (cmp : K → K → Ordering) (o : IsTotalOrder cmp) where
  abbrev before : X → X → Bool
  before x y = is_lt (cmp (key x) (key y))

  abbrev order : X → X → Ordering
  order x y = cmp (key x) (key y)

  abbrev alike : X → X → Bool
  alike x y = is_eq (order x y)

  both_ways : (a b : Ordering) → b ≡ ordering_reverse a → (not (is_lt a) && not (is_lt b)) ≡ is_eq a
  both_ways Less b e = refl
  both_ways Equal b e = ap (λ r. not (is_lt r)) e
  both_ways Greater b e = ap (λ r. not (is_lt r)) e

  tie_is : (x y : X) → ties before x y ≡ alike x y
  tie_is x y = both_ways (order x y) (order y x) (o.antisymm (key y) (key x))

  turned : (a b : Ordering) → b ≡ ordering_reverse a → is_lt b ≡ is_gt a
  turned Less b e = ap is_lt e
  turned Equal b e = ap is_lt e
  turned Greater b e = ap is_lt e

  before_is : (x y : X) → before y x ≡ is_gt (order x y)
  before_is x y = turned (order x y) (order y x) (o.antisymm (key y) (key x))

  equal_from : (r : Ordering) → is_eq r ≡ true → r ≡ Equal
  equal_from Less e = cc
  equal_from Equal e = refl
  equal_from Greater e = cc

  less_from : (r : Ordering) → is_lt r ≡ true → r ≡ Less
  less_from Less e = refl
  less_from Equal e = cc
  less_from Greater e = cc

  alike_itself : (x : X) → alike x x ≡ true
  alike_itself x = ap is_eq (tied_itself o (key x))

  kept : (p : X → Bool) (y : X) (ys : List X) → p y ≡ true → filter p (y ∷ ys) ≡ y ∷ filter p ys
  kept p y ys h = cond-true _ _ _ h

  dropped : (p : X → Bool) (y : X) (ys : List X) → p y ≡ false → filter p (y ∷ ys) ≡ filter p ys
  dropped p y ys h = cond-false _ _ _ h

  past : (x y : X) (ys : List X) → before y x ≡ true → inserted before x (y ∷ ys) ≡ y ∷ inserted before x ys
  past x y ys h = cond-true _ _ _ h

  stays : (x y : X) (ys : List X) → before y x ≡ false → inserted before x (y ∷ ys) ≡ x ∷ y ∷ ys
  stays x y ys h = cond-false _ _ _ h

  -- two that are like a third are not one before the other
  never_both : (x c d : X) → before d c ≡ true → alike x c ≡ true → alike x d ≡ true → ⊥
  never_both x c d lower at_c at_d =
      let e = alike_right o (key x) (key c) (key d) (equal_from (order x c) at_c) in
      let f = tied_back o (key x) (key d) (equal_from (order x d) at_d) in
      let g = less_from (order d c) lower in
      cc

  filter-placed : (x c : X) (ds : List X) → filter (alike x) (inserted before c ds) ≡ filter (alike x) (c ∷ ds)
  filter-placed x c [] = refl
  filter-placed x c (d ∷ ds) =
      let p = alike x in
      elim (cases_Bool (before d c)) [
        | inr stay ↦ ap (filter p) (stays c d ds stay)
        | inl go ↦
            ap (filter p) (past c d ds go)
            ∙ elim (cases_Bool (p d)) [
              | inr without ↦
                  dropped p d (inserted before c ds) without ∙ filter-placed x c ds
                  ∙ ap (λ l. cond (p c) (c ∷ l) l) (sym (dropped p d ds without))
              | inl with ↦
                  elim (cases_Bool (p c)) [
                    | inl both ↦ absurd (never_both x c d go both with)
                    | inr only ↦
                        kept p d (inserted before c ds) with ∙ ap (λ l. d ∷ l) (filter-placed x c ds ∙ dropped p c ds only)
                        ∙ sym (dropped p c (d ∷ ds) only ∙ kept p d ds with)
                  ]
            ]
      ]

  filter-in_order : (x : X) (cs : List X) → filter (alike x) (in_order before cs) ≡ filter (alike x) cs
  filter-in_order x [] = refl
  filter-in_order x (c ∷ cs) =
      filter-placed x c (in_order before cs) ∙ ap (λ l. cond (alike x c) (c ∷ l) l) (filter-in_order x cs)

  abbrev AreNotBefore : X → List X → Type 0
  AreNotBefore n [] = Unit {0}
  AreNotBefore n (y ∷ ys) = (is_gt (order n y) ≡ false) × AreNotBefore n ys

  abbrev Rises : List X → Type 0
  Rises [] = Unit {0}
  Rises (y ∷ ys) = AreNotBefore y ys × Rises ys

  lower : (n m : X) (ys : List X) → is_gt (order n m) ≡ false → AreNotBefore m ys → AreNotBefore n ys
  lower n m [] le h = tt
  lower n m (y ∷ ys) le h = (upto o (key n) (key m) (key y) le h.0, lower n m ys le h.1)

  with_placed : (n c : X) (ds : List X) → is_gt (order n c) ≡ false → AreNotBefore n ds → AreNotBefore n (inserted before c ds)
  with_placed n c [] le h = (le, tt)
  with_placed n c (d ∷ ds) le h =
      elim (cases_Bool (before d c)) [
        | inl go ↦ subst (AreNotBefore n) (sym (past c d ds go)) (h.0, with_placed n c ds le h.1)
        | inr stay ↦ subst (AreNotBefore n) (sym (stays c d ds stay)) (le, h)
      ]

  Rises-placed : (c : X) (ds : List X) → Rises ds → Rises (inserted before c ds)
  Rises-placed c [] h = (tt, tt)
  Rises-placed c (d ∷ ds) h =
      elim (cases_Bool (before d c)) [
        | inl go ↦
            subst Rises (sym (past c d ds go))
            (with_placed d c ds (ap is_gt (less_from (order d c) go)) h.0, Rises-placed c ds h.1)
        | inr stay ↦
            let le : is_gt (order c d) ≡ false = sym (before_is c d) ∙ stay in
            subst Rises (sym (stays c d ds stay)) ((le, lower c d ds le h.0), h)
      ]

  Rises-in_order : (cs : List X) → Rises (in_order before cs)
  Rises-in_order [] = tt
  Rises-in_order (c ∷ cs) = Rises-placed c (in_order before cs) (Rises-in_order cs)

  -- no item is before the one that it follows
  abbrev Follows : List X → Type 0
  Follows xs = (k m : ℕ) (d : X) → m ≡ k + 1 → m < length xs → before (slice_index_or xs m d) (slice_index_or xs k d) ≡ false

  follows : (xs : List X) → IsSortedBy before xs → Follows xs
  follows xs h k m d e =
      subst (λ i. i < length xs → before (slice_index_or xs i d) (slice_index_or xs k d) ≡ false) (sym e) (h k d zero-le)

  Rises-follow : (ys : List X) → Follows ys → Rises ys
  Rises-follow [] h = tt
  Rises-follow (y ∷ []) h = (tt, tt)
  Rises-follow (y ∷ z ∷ zs) h =
      let rest = Rises-follow (z ∷ zs) (λ k m d e within. h (suc k) (suc m) d (omega arith) (suc-le-suc within)) in
      let le : is_gt (order y z) ≡ false = sym (before_is y z) ∙ h 0 1 y (omega arith) (suc-le-suc (suc-le-suc zero-le)) in
      ((le, lower y z zs le rest.0), rest)

  found : (n x : X) (ys : List X) (w : X) (ws : List X) → AreNotBefore n ys → filter (alike x) ys ≡ w ∷ ws → is_gt (order n x) ≡ false
  found n x [] w ws h e = cc
  found n x (y ∷ ys) w ws h e =
      elim (cases_Bool (alike x y)) [
        | inl with ↦ ap is_gt (alike_right o (key x) (key y) (key n) (equal_from (order x y) with)) ∙ h.0
        | inr without ↦ found n x ys w ws h.1 (sym (dropped (alike x) y ys without) ∙ e)
      ]

  neither : (a b : Ordering) → b ≡ ordering_reverse a → is_gt a ≡ false → is_gt b ≡ false → is_eq a ≡ true
  neither Less b e f g = let h = ap is_gt e in cc
  neither Equal b e f g = refl
  neither Greater b e f g = cc

  same_items : (ys zs : List X) → Rises ys → Rises zs → ((x : X) → filter (alike x) ys ≡ filter (alike x) zs) → ys ≡ zs
  same_items [] [] left right same = refl
  same_items [] (z ∷ zs) left right same =
      let clash = same z ∙ kept (alike z) z zs (alike_itself z) in cc
  same_items (y ∷ ys) [] left right same =
      let clash = sym (same y) ∙ kept (alike y) y ys (alike_itself y) in cc
  same_items (y ∷ ys) (z ∷ zs) left right same =
      let at_y = kept (alike y) y ys (alike_itself y) in
      let at_z = kept (alike z) z zs (alike_itself z) in
      let itself_y : is_gt (order y y) ≡ false = ap is_gt (tied_itself o (key y)) in
      let itself_z : is_gt (order z z) ≡ false = ap is_gt (tied_itself o (key z)) in
      let up = found z y (z ∷ zs) y _ (itself_z, right.0) (sym (same y) ∙ at_y) in
      let down = found y z (y ∷ ys) z _ (itself_y, left.0) (same z ∙ at_z) in
      let tied = neither (order y z) (order z y) (o.antisymm (key z) (key y)) down up in
      let heads = sym at_y ∙ same y ∙ kept (alike y) z zs tied in
      let head : y ≡ z = cc in
      let tails : (x : X) → filter (alike x) ys ≡ filter (alike x) zs =
      λ x. elim (cases_Bool (alike x y)) [
        | inl with ↦
            let both = sym (kept (alike x) y ys with) ∙ same x ∙ kept (alike x) z zs (ap (alike x) (sym head) ∙ with) in cc
        | inr without ↦
            sym (dropped (alike x) y ys without) ∙ same x ∙ dropped (alike x) z zs (ap (alike x) (sym head) ∙ without)
      ] in
      ap (λ w. w ∷ ys) head ∙ ap (λ l. z ∷ l) (same_items ys zs left.1 right.1 tails)

  pub sorted_is : (xs ys : List X) → IsSortedBy before ys → IsStableBy before xs ys → ys ≡ in_order before xs
  sorted_is xs ys sorted stable =
      same_items ys (in_order before xs) (Rises-follow ys (follows ys sorted)) (Rises-in_order xs)
      (λ x. sym (λ i. filter (λ y. tie_is x y i) ys) ∙ stable x ∙ (λ i. filter (λ y. tie_is x y i) xs) ∙ sym (filter-in_order x xs))
