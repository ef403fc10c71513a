-- The bits of a path's vector.
use Rattle.std.proofs.Common.{◌≡◌, ℕ, ◌^◌, Bool, true, false, cond, ◌&&◌, ◌||◌, List, [], ◌∷◌, eqb, refl, ap, ◌∙◌, eqb-true, eq-eqb, arith}
use Rattle.std.specs.Prelude.{bit_or}
use Rattle.std.proofs.lemmas.Bool.{eqb-false}
use Rattle.std.proofs.lemmas.Nat.Bits.{bit_at-zero, bit_at_or, bit_at-pow_same, bit_at-pow_other, bit_at-lt}
use Rattle.cov_base.specs.Marks.{bit}
use Rattle.cov_base.specs.Path.{Step, vector_of}

-- whether some step passes a test
abbrev pub some_step : (Step → Bool) → List Step → Bool
some_step test [] = false
some_step test (step ∷ rest) = test step || some_step test rest

-- whether a step is at condition c, and whether it is there with True
abbrev pub is_at : ℕ → Step → Bool
is_at c step = eqb c step.at_node

abbrev pub is_true_at : ℕ → Step → Bool
is_true_at c step = eqb c step.at_node && step.value

and_true : (x : Bool) → x ≡ (x && true)
and_true true = refl
and_true false = refl

or_and_false : (x y : Bool) → y ≡ (x && false || y)
or_and_false true y = refl
or_and_false false y = refl

-- a bit that is set in a word
pub bit_set : (word k c : ℕ) → bit (bit_or word (2 ^ k)) c ≡ (eqb c k || bit word c)
bit_set word k c = by_place (eqb c k) refl
  where
    by_place : (b : Bool) → eqb c k ≡ b → bit (bit_or word (2 ^ k)) c ≡ (b || bit word c)
    by_place true is =
        let here : c ≡ k = eqb-true c k is in
        rw (bit_at_or word (2 ^ k) c, here, bit_at-pow_same k) (eq-eqb _ 1 (omega (arith, bit_at-lt word k)))
    by_place false is =
        rw (bit_at_or word (2 ^ k) c, bit_at-pow_other k c (eqb-false c k is)) (ap (λ (m : ℕ). eqb m 1) (omega arith))

pub bit_seen : (path : List Step) (c : ℕ) → bit (vector_of path).seen c ≡ some_step (is_at c) path
bit_seen [] c = rw (bit_at-zero c) refl
bit_seen (step ∷ older) c =
    bit_set (vector_of older).seen step.at_node c ∙ ap (λ (b : Bool). eqb c step.at_node || b) (bit_seen older c)

pub bit_value : (path : List Step) (c : ℕ) → bit (vector_of path).value c ≡ some_step (is_true_at c) path
bit_value [] c = rw (bit_at-zero c) refl
bit_value (step ∷ older) c = by_value (bit_value older c) step.value
  where
    by_value : bit (vector_of older).value c ≡ some_step (is_true_at c) older → (b : Bool)
        → bit (cond b (bit_or (vector_of older).value (2 ^ step.at_node)) (vector_of older).value) c
        ≡ (eqb c step.at_node && b || some_step (is_true_at c) older)
    by_value earlier true =
        bit_set (vector_of older).value step.at_node c
        ∙ ap (λ (b : Bool). eqb c step.at_node || b) earlier
        ∙ ap (λ (b : Bool). b || some_step (is_true_at c) older) (and_true (eqb c step.at_node))
    by_value earlier false = earlier ∙ or_and_false (eqb c step.at_node) (some_step (is_true_at c) older)
