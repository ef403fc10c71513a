-- Two parts of one object differ in a selector.
use Rattle.std.proofs.Common.{◌≡◌, ◌≢◌, ℕ, ◌<◌, nat_eq, Bool, true, false, ◌&&◌, ℤ, int_eq, List, [], ◌∷◌, length, Option, Some, None, if◌then◌else◌, refl, sym, ap, ◌∙◌, arith, eq-eqb}
use Rattle.std.proofs.lemmas.Bool.{ne_eqb, eqb-true, false≢true}
use Rattle.std.proofs.lemmas.Cmp.{nat_eq_equiv, int_eq_equiv}
use Rattle.std.proofs.lemmas.Int.{ints}
use Rattle.std.specs.Prelude.{unwrap_or}
use Rattle.ada_meaning.specs.State.{Place, same_path, same_place}
use Rattle.statement_code.specs.Objects.{same_object}

-- the selector that stands so many from the outermost one; ways have the innermost one first
abbrev pub selector_at : (k : ℕ) → List ℤ → Option ℤ
selector_at k [] = None
selector_at k (i ∷ path) = if nat_eq (length path) k then Some i else selector_at k path

pub selector_here : (i : ℤ) (path : List ℤ) → selector_at (length path) (i ∷ path) ≡ Some i
selector_here i path = ap (λ b. if b then Some i else selector_at (length path) path) (eq-eqb (length path) (length path) refl)

pub selector_past : (k : ℕ) (j : ℤ) (path : List ℤ) → k < length path → selector_at k (j ∷ path) ≡ selector_at k path
selector_past k j path h = ap (λ b. if b then Some j else selector_at k path) (ne_eqb (length path) k (λ e. omega (arith, e, h)))

same_number : (i j : ℤ) → int_eq i j ≡ true → i ≡ j
same_number i j h = grind (arith, ints, h)

both : (b c : Bool) → (b && c) ≡ true → (b ≡ true) × (c ≡ true)
both true c h = (refl, h)
both false c h = absurd (false≢true h)

same_way : (xs ys : List ℤ) → same_path xs ys ≡ true → xs ≡ ys
same_way [] [] h = refl
same_way (i ∷ is) (j ∷ js) h =
    let g : (int_eq i j ≡ true) × (same_path is js ≡ true) = both (int_eq i j) (same_path is js) h in
    λ t. same_number i j g.0 t ∷ same_way is js g.1 t
same_way [] (j ∷ js) h = absurd (false≢true h)
same_way (i ∷ is) [] h = absurd (false≢true h)

way_is : (xs : List ℤ) → same_path xs xs ≡ true
way_is [] = refl
way_is (i ∷ is) = rw (int_eq_equiv.refl i) (way_is is)

pub place_is : (p : Place) → same_place p p ≡ true
place_is p =
    rw (eq-eqb p.frame p.frame refl, eq-eqb p.instance p.instance refl, eq-eqb p.declaration p.declaration refl) (way_is p.path)

selector_of : (o : Option ℤ) (i j : ℤ) → o ≡ Some i → o ≡ Some j → i ≡ j
selector_of o i j h g = ap (λ s. unwrap_or s i) (sym h ∙ g)

ways_differ : (k : ℕ) (xs ys : List ℤ) (i j : ℤ) → selector_at k xs ≡ Some i → selector_at k ys ≡ Some j → i ≢ j → same_path xs ys ≡ false
ways_differ k xs ys i j h g differ = by_test (same_path xs ys) refl
  where
    by_test : (b : Bool) → same_path xs ys ≡ b → same_path xs ys ≡ false
    by_test false is = is
    by_test true is = absurd (differ (selector_of (selector_at k ys) i j (ap (selector_at k) (sym (same_way xs ys is)) ∙ h) g))

no_way : (a b c d : Bool) → d ≡ false → (a && b && c && d) ≡ false
no_way true true true d h = h
no_way true true false d h = refl
no_way true false c d h = refl
no_way false b c d h = refl

pub places_differ : (k : ℕ) (p q : Place) (i j : ℤ) → selector_at k p.path ≡ Some i → selector_at k q.path ≡ Some j → i ≢ j → same_place p q ≡ false
places_differ k p q i j h g differ =
    no_way (nat_eq p.frame q.frame) (nat_eq p.instance q.instance) (nat_eq p.declaration q.declaration) (same_path p.path q.path)
    (ways_differ k p.path q.path i j h g differ)

path_back : (xs ys : List ℤ) → same_path xs ys ≡ same_path ys xs
path_back [] [] = refl
path_back (x ∷ xs) (y ∷ ys) = λ t. int_eq_equiv.symm x y t && path_back xs ys t
path_back [] (y ∷ ys) = refl
path_back (x ∷ xs) [] = refl

pub place_back : (p q : Place) → same_place p q ≡ same_place q p
place_back p q = λ t.
    nat_eq_equiv.symm p.frame q.frame t && nat_eq_equiv.symm p.instance q.instance t && nat_eq_equiv.symm p.declaration q.declaration t
    && path_back p.path q.path t

no_object : (a b c d : Bool) → (a && b && c) ≡ false → (a && b && c && d) ≡ false
no_object true true true d h = absurd (false≢true (sym h))
no_object true true false d h = refl
no_object true false c d h = refl
no_object false b c d h = refl

-- of one object
abbrev pub IsOf : Place → Place → Type 0
IsOf o q = (q.frame ≡ o.frame) × ((q.instance ≡ o.instance) × (q.declaration ≡ o.declaration))

pub others_differ : (o r p q : Place) → same_object o r ≡ false → IsOf o p → IsOf r q → same_place p q ≡ false
others_differ o r p q differ h g =
    no_object (nat_eq p.frame q.frame) (nat_eq p.instance q.instance) (nat_eq p.declaration q.declaration) (same_path p.path q.path)
    ((λ t. nat_eq (h.0 t) (g.0 t) && nat_eq (h.1.0 t) (g.1.0 t) && nat_eq (h.1.1 t) (g.1.1 t)) ∙ differ)

same_numbers : (a b : ℕ) → nat_eq a b ≡ true → a ≡ b
same_numbers a b h = eqb-true a b h

both_four : (a b c d : Bool) → (a && b && c && d) ≡ true → (a ≡ true) × ((b ≡ true) × ((c ≡ true) × (d ≡ true)))
both_four true true true true h = (refl, (refl, (refl, refl)))
both_four true true true false h = absurd (false≢true h)
both_four true true false d h = absurd (false≢true h)
both_four true false c d h = absurd (false≢true h)
both_four false b c d h = absurd (false≢true h)

-- places that are the same are one
pub places_same : (p q : Place) → same_place p q ≡ true → p ≡ q
places_same p q h =
    let g = both_four (nat_eq p.frame q.frame) (nat_eq p.instance q.instance) (nat_eq p.declaration q.declaration) (same_path p.path q.path) h in
    λ t. record {
      frame = same_numbers p.frame q.frame g.0 t;
      instance = same_numbers p.instance q.instance g.1.0 t;
      declaration = same_numbers p.declaration q.declaration g.1.1.0 t;
      path = same_way p.path q.path g.1.1.1 t;
    }
