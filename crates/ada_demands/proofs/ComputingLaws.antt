-- The constants of an instance, one after the other.
use Rattle.std.proofs.Common.{◌≡◌, ℕ, zero, suc, pred, ◌+◌, ◌<◌, ℤ, List, [], ◌∷◌, ◌++◌, map, length, get_or, set, slice_get, drop, Option, Some, None, append_assoc, refl, sym, ap, ◌∙◌}
use Rattle.std.proofs.lemmas.List.{at_drop_more}
use Rattle.ada_meaning.specs.Statics.{InstanceValues, with_constants, value_of_constant, constant_values}
use Rattle.ada_tree.specs.declared.program.GenericConstant.{GenericConstant}
use Rattle.ada_tree.specs.Programs.{constant_of}
use Rattle.ada_meaning.specs.Program as program
use Rattle.ada_rules.specs.Statics as rules
use Rattle.ada_rules.specs.Statics.{Facts}
use Rattle.ada_rules.specs.Units.{all_with_constants, facts_set}
use Rattle.ada_demands.specs.declared.facts.Facts.{Facts as CodeFacts}
use Rattle.ada_demands.specs.FactViews.{facts_of}

pub one_computed : (v : InstanceValues) (n : ℕ) (cs : List GenericConstant) (i : ℕ) (d : GenericConstant) (xs zs ys : List (Option ℤ)) (y : Option ℤ)
    → i < length cs → zs ≡ xs → y ≡ value_of_constant (with_constants n zs v) n (constant_of (get_or cs i d)) → ys ≡ xs ++ y ∷ []
    → constant_values v n ys (map constant_of (drop (i + 1) cs)) ≡ constant_values v n xs (map constant_of (drop i cs))
one_computed v n cs i d xs zs ys y less same is grown =
    ap (λ us. constant_values v n us (map constant_of (drop (i + 1) cs)))
    (grown ∙ ap (λ z. xs ++ z ∷ []) (is ∙ ap (λ us. value_of_constant (with_constants n us v) n (constant_of (get_or cs i d))) same))
    ∙ sym (at_drop_more (λ us. constant_values v n xs (map constant_of us)) cs i d less)

-- one instance more with its constants
pub one_resolved : (instances : List Facts) (cs : List program.GenericConstant) (items : List CodeFacts) (i : ℕ) (f g : CodeFacts) (n m : ℕ) (old new : List Facts)
    → i < length items → f ≡ get_or items i f → m ≡ n + 1 → facts_of g ≡ rules.with_constants instances cs m (facts_of f) → new ≡ old ++ facts_of g ∷ []
    → new ++ all_with_constants instances cs (m + 1) (map facts_of (drop (i + 1) items)) ≡ old ++ all_with_constants instances cs (n + 1) (map facts_of (drop i items))
one_resolved instances cs items i f g n m old new less item number made grown =
    ap (λ l. l ++ left m) grown
    ∙ (append_assoc old (facts_of g ∷ []) (left m)
    ∙ (ap (λ x. old ++ x ∷ left m) (made ∙ ap (λ p. rules.with_constants instances cs m (facts_of p)) item)
    ∙ (ap (λ k. old ++ rules.with_constants instances cs k (facts_of (get_or items i f)) ∷ left k) number
    ∙ sym (at_drop_more (λ us. old ++ all_with_constants instances cs (n + 1) (map facts_of us)) items i f less))))
  where
    left : ℕ → List Facts
    left k = all_with_constants instances cs (k + 1) (map facts_of (drop (i + 1) items))

-- what is set at a place, and then set again
set_twice : {A : Type 0} (xs : List A) (i : ℕ) (x y z : A) → slice_get (set xs i x) i ≡ Some z → (z ≡ x) × (set (set xs i x) i y ≡ set xs i y)
set_twice [] i x y z e = cc
set_twice (w ∷ xs) zero x y z e = let same : z ≡ x = cc in (same, refl)
set_twice (w ∷ xs) (suc i) x y z e = let h = set_twice xs i x y z e in (h.0, ap (λ l. w ∷ l) h.1)

set_nowhere : {A : Type 0} (xs : List A) (i : ℕ) (x y : A) → slice_get (set xs i x) i ≡ None → set xs i x ≡ set xs i y
set_nowhere [] i x y e = refl
set_nowhere (w ∷ xs) zero x y e = cc
set_nowhere (w ∷ xs) (suc i) x y e = ap (λ l. w ∷ l) (set_nowhere xs i x y e)

-- an instance that is made, with the constants so far of its generic
pub made_there : (old first new : List Facts) (cs : List program.GenericConstant) (k : ℕ) (f g h : Facts) → first ≡ set old (pred k) f
    → slice_get first (pred k) ≡ Some g → h ≡ rules.with_constants first cs k g → new ≡ set first (pred k) h → new ≡ facts_set old k f cs
made_there old first new cs k f g h is there complete again =
    let twice = set_twice old (pred k) f h g (ap (λ xs. slice_get xs (pred k)) (sym is) ∙ there) in
    again ∙ (ap (λ xs. set xs (pred k) h) is ∙ (twice.1
    ∙ ap (set old (pred k)) (complete ∙ (λ t. rules.with_constants (is t) cs k (twice.0 t)))))

pub made_nowhere : (old first : List Facts) (cs : List program.GenericConstant) (k : ℕ) (f : Facts) → first ≡ set old (pred k) f
    → slice_get first (pred k) ≡ None → first ≡ facts_set old k f cs
made_nowhere old first cs k f is nowhere =
    is ∙ set_nowhere old (pred k) f (rules.with_constants (set old (pred k) f) cs k f) (ap (λ xs. slice_get xs (pred k)) (sym is) ∙ nowhere)
