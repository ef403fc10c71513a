-- Instances that get the values of constants, one after another.
use Rattle.std.proofs.Common.{◌≡◌, ℕ, zero, suc, nat_lt, ℤ, Bool, true, false, true≢false, Option, ◌<◌, ◌≤◌, List, [], ◌∷◌, length, get_or, take, map, slice_set, refl, sym, ap, ◌∙◌, arith}
use Rattle.std.proofs.lemmas.Bool.{ltb-true, ltb-false}
use Rattle.ada_meaning.specs.Program as meaning
use Rattle.ada_tree.specs.declared.program.Instance.{Instance}
use Rattle.ada_tree.specs.Programs.{instance_of}
use Rattle.ada_rules.specs.Legal.{with_values}
use Rattle.ada_demands.specs.declared.facts.Facts.{Facts}
use Rattle.ada_demands.specs.FactViews.{facts_of}
use Rattle.typed_program.specs.Instances.{with_values_at}

pub set_there : (xs : List Instance) (n : ℕ) (x : Instance) (f : Facts) (cs : List (Option ℤ)) → n < length xs → x ≡ get_or xs n x
    → cs ≡ f.constants → map instance_of (slice_set xs n (record x { constants = cs })) ≡ with_values_at n (facts_of f) (map instance_of xs)
set_there [] n x f cs h e v = absurd (omega (arith, h))
set_there (y ∷ ys) zero x f cs h e v = λ i. record (instance_of (e i)) { constants = v i } ∷ map instance_of ys
set_there (y ∷ ys) (suc n) x f cs h e v = ap (λ is. instance_of y ∷ is) (set_there ys n x f cs (omega (arith, h)) e v)

pub set_past : (xs : List Instance) (n : ℕ) (f : Facts) → length xs ≤ n → map instance_of xs ≡ with_values_at n (facts_of f) (map instance_of xs)
set_past [] n f h = refl
set_past (y ∷ ys) zero f h = absurd (omega (arith, h))
set_past (y ∷ ys) (suc n) f h = ap (λ is. instance_of y ∷ is) (set_past ys n f (omega (arith, h)))

pub no_values : (is : List meaning.Instance) → is ≡ with_values is []
no_values [] = refl
no_values (i ∷ is) = refl

pub one_more : (is : List meaning.Instance) (fs : List Facts) (n : ℕ) (f : Facts) → n < length fs → f ≡ get_or fs n f
    → with_values is (map facts_of (take (suc n) fs)) ≡ with_values_at n (facts_of f) (with_values is (map facts_of (take n fs)))
one_more is [] n f h e = absurd (omega (arith, h))
one_more [] (g ∷ fs) zero f h e = refl
one_more [] (g ∷ fs) (suc n) f h e = refl
one_more (i ∷ is) (g ∷ fs) zero f h e =
    ap (λ (x : Facts). record i { constants = x.constants } ∷ with_values is []) (sym e) ∙ ap (λ js. record i { constants = f.constants } ∷ js) (sym (no_values is))
one_more (i ∷ is) (g ∷ fs) (suc n) f h e = ap (λ js. record i { constants = g.constants } ∷ js) (one_more is fs n f (omega (arith, h)) e)

-- what is not below a number is past it
pub not_below : (n m : ℕ) → (n < m → false ≡ true) → m ≤ n
not_below n m f = by_test (nat_lt n m) refl where
  by_test : (b : Bool) → nat_lt n m ≡ b → m ≤ n
  by_test true e = absurd (true≢false (sym (f (ltb-true n m e))))
  by_test false e = ltb-false n m e
