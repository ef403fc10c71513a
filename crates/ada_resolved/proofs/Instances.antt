-- Values with constants that are added to them.
use Rattle.std.proofs.Common.{◌≡◌, ℕ, zero, suc, Bool, true, false, ℤ, List, [], ◌∷◌, ◌++◌, map, length, get_or, drop, ◌+◌, ◌<◌, Option, None, if◌then◌else◌, slice_get, sym, ap, ◌∙◌, arith, nat_eq}
use Rattle.std.specs.Prelude.{unwrap_or}
use Rattle.std.proofs.lemmas.Bool.Decides.{nat_tests, Decides-eqb}
use Rattle.std.proofs.lemmas.List.{at_drop_more}
use Rattle.ada_meaning.specs.Program as meaning
use Rattle.ada_meaning.specs.Statics.{InstanceValues, with_constants, value_of_constant, constant_values, constants_of}
use Rattle.ada_tree.specs.declared.program.GenericConstant.{GenericConstant}
use Rattle.ada_tree.specs.Programs.{constant_of}

-- where none are added for instance 0, values stay as they are
pub nothing_added : (v : InstanceValues) → ((k : ℕ) → v.constant 0 k ≡ None) → with_constants 0 [] v ≡ v
nothing_added v empty = λ t. record v { constant = λ i k. at i k t }
  where
    at : (i k : ℕ) → (if nat_eq i 0 then unwrap_or (slice_get {X = Option ℤ} [] k) None else v.constant i k) ≡ v.constant i k
    at zero k = sym (empty k)
    at (suc i) k = ap (λ b. if b then unwrap_or (slice_get {X = Option ℤ} [] k) None else v.constant (suc i) k) (let e : nat_eq (suc i) 0 ≡ false = grind (arith, nat_tests) in e)

-- the next constant of the generic, behind those so far
pub one_more : (v : InstanceValues) (inst g : ℕ) (cs : List GenericConstant) (i : ℕ) (d : GenericConstant) (xs zs ys : List (Option ℤ)) (y : Option ℤ)
    → i < length cs → (get_or cs i d).generic ≡ g → zs ≡ xs → y ≡ value_of_constant (with_constants inst zs v) inst (constant_of (get_or cs i d)) → ys ≡ xs ++ y ∷ []
    → constant_values v inst ys (constants_of g (map constant_of (drop (i + 1) cs))) ≡ constant_values v inst xs (constants_of g (map constant_of (drop i cs)))
one_more v inst g cs i d xs zs ys y less of_it same is grown =
    ap (λ us. constant_values v inst us rest) (grown ∙ ap (λ z. xs ++ z ∷ []) (is ∙ ap (λ us. value_of_constant (with_constants inst us v) inst (constant_of (get_or cs i d))) same))
    ∙ ap (λ (b : Bool). constant_values v inst xs (if b then constant_of (get_or cs i d) ∷ rest else rest)) (sym test)
    ∙ sym (at_drop_more (λ us. constant_values v inst xs (constants_of g (map constant_of us))) cs i d less)
  where
    rest : List meaning.GenericConstant
    rest = constants_of g (map constant_of (drop (i + 1) cs))

    test : nat_eq (get_or cs i d).generic g ≡ true
    test = (Decides-eqb (get_or cs i d).generic g).1 of_it
