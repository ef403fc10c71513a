-- Truth values that code computes, as the kernel's numbers.
use Rattle.std.proofs.Common.{◌≡◌, ℕ, ◌-◌, ◌^◌, ◌<◌, Bool, true, false, not, nat_lt, ℤ, int_lt, int_le, bit_xor, refl, ap, ◌∙◌, arith, lit<}
use Rattle.std.specs.Ordering.{int_eq}
use Rattle.std.proofs.lemmas.Bool.Decides.{nat_tests}
use Rattle.std.proofs.lemmas.Int.{ints}
use Rattle.rv_semantics.specs.Arithmetic.{sum_32, difference_32, signed, flag}
use Rattle.ada_meaning.specs.Arithmetic.{number_of_truth, is_true, holds}
use Rattle.kernel_ir.specs.declared.simple.Relation.{Relation}
use Rattle.kernel_ir.specs.declared.simple.Relation.TheVariants as relation
use Rattle.kernel_ir.specs.Simple.{relation_of}

pub flag_is : (b : Bool) → signed (flag b) ≡ number_of_truth b
flag_is true = refl
flag_is false = refl

pub flag_small : (b : Bool) → flag b < 2 ^ 32
flag_small true = lit< tt
flag_small false = lit< tt

pub flipped : (b : Bool) → bit_xor (flag b) 1 ≡ flag (not b)
flipped true = refl
flipped false = refl

equal_test : (a b : ℕ) → a < 2 ^ 32 → b < 2 ^ 32 → nat_lt (difference_32 a b) 1 ≡ int_eq (signed a) (signed b)
equal_test a b small_a small_b = grind (arith, ints, nat_tests)

unequal_test : (a b z : ℕ) → a < 2 ^ 32 → b < 2 ^ 32 → z ≡ 0 → nat_lt z (difference_32 a b) ≡ not (int_eq (signed a) (signed b))
unequal_test a b z small_a small_b is = grind (arith, ints, nat_tests)

at_most_test : (x y : ℤ) → not (int_lt y x) ≡ int_le x y
at_most_test x y = grind (arith, ints)

-- the word that is computed for a relation
abbrev pub related : Relation → (z a b : ℕ) → ℕ
related relation.Equal z a b = flag (nat_lt (difference_32 a b) 1)
related relation.Unequal z a b = flag (nat_lt z (difference_32 a b))
related relation.Less z a b = flag (int_lt (signed a) (signed b))
related relation.AtMost z a b = bit_xor (flag (int_lt (signed b) (signed a))) 1
related relation.Greater z a b = flag (int_lt (signed b) (signed a))
related relation.AtLeast z a b = bit_xor (flag (int_lt (signed a) (signed b))) 1

pub related_is : (r : Relation) (z a b : ℕ) → a < 2 ^ 32 → b < 2 ^ 32 → z ≡ 0 → related r z a b ≡ flag (holds (relation_of r) (signed a) (signed b))
related_is relation.Equal z a b small_a small_b is = ap flag (equal_test a b small_a small_b)
related_is relation.Unequal z a b small_a small_b is = ap flag (unequal_test a b z small_a small_b is)
related_is relation.Less z a b small_a small_b is = refl
related_is relation.AtMost z a b small_a small_b is = flipped (int_lt (signed b) (signed a)) ∙ ap flag (at_most_test (signed a) (signed b))
related_is relation.Greater z a b small_a small_b is = refl
related_is relation.AtLeast z a b small_a small_b is = flipped (int_lt (signed a) (signed b)) ∙ ap flag (at_most_test (signed b) (signed a))

pub complement_test : (v z : ℕ) → v < 2 ^ 32 → z ≡ 0 → nat_lt z (sum_32 v (2 ^ 32 - 1)) ≡ not (is_true (signed v))
complement_test v z small is = grind (arith, ints, nat_tests)
