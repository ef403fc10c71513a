-- Bits of words of 32 bits.
use Rattle.std.proofs.Common.{◌≡◌, ℕ, ◌-◌, ◌*◌, ◌%◌, ◌<◌, ◌≤◌, ◌^◌, min, Bool, true, false, cond, ◌⊎◌, inl, inr, eqb, refl, sym, ap, subst, ◌∙◌, eqb-true, arith, w32}
use Rattle.std.specs.Prelude.{bit_or, bit_and}
use Rattle.std.specs.Int.{bit_at}
use Rattle.std.proofs.lemmas.Bool.{eqb-false, cases_lt}
use Rattle.std.proofs.lemmas.Nat.Bits.{bit_at_set_same, bit_at_set_other, bit_at_clear_same, bit_at_clear_other, bit_at_above, bit_at_and}
use Rattle.cov_base.specs.Marks.{bit}

-- a word has no bit from its width on
pub bit_past : (word c : ℕ) → word < 2 ^ 32 → 32 ≤ c → bit word c ≡ false
bit_past word c fits past = ap (λ (m : ℕ). eqb m 1) (bit_at_above word 32 c fits past)

pub bit_with_true : (word k c : ℕ) → k < 32 → bit (bit_or word (1 * 2 ^ k % 4294967296)) c ≡ cond (eqb c k) true (bit word c)
bit_with_true word k c within = by_place (eqb c k) refl
  where
    by_place : (b : Bool) → eqb c k ≡ b → bit (bit_or word (1 * 2 ^ k % 4294967296)) c ≡ cond b true (bit word c)
    by_place true is =
        subst (λ (i : ℕ). bit (bit_or word (1 * 2 ^ k % 4294967296)) i ≡ true) (sym (eqb-true c k is))
        (ap (λ (m : ℕ). eqb m 1) (bit_at_set_same w32 word k within))
    by_place false is = ap (λ (m : ℕ). eqb m 1) (bit_at_set_other w32 word k within c (eqb-false c k is))

pub bit_with_false : (word k c : ℕ) → word < 2 ^ 32 → k < 32
    → bit (bit_and word (4294967295 - 1 * 2 ^ k % 4294967296)) c ≡ cond (eqb c k) false (bit word c)
bit_with_false word k c fits within = by_place (eqb c k) refl (cases_lt c 32)
  where
    by_place : (b : Bool) → eqb c k ≡ b → (c < 32) ⊎ (32 ≤ c) → bit (bit_and word (4294967295 - 1 * 2 ^ k % 4294967296)) c ≡ cond b false (bit word c)
    by_place true is place =
        subst (λ (i : ℕ). bit (bit_and word (4294967295 - 1 * 2 ^ k % 4294967296)) i ≡ false) (sym (eqb-true c k is))
        (ap (λ (m : ℕ). eqb m 1) (bit_at_clear_same w32 word k within))
    by_place false is (inl below) = ap (λ (m : ℕ). eqb m 1) (bit_at_clear_other w32 word k within c below (eqb-false c k is))
    by_place false is (inr past) =
        let zero_there : bit_at word c ≡ 0 = bit_at_above word 32 c fits past in
        let least : min (bit_at word c) (bit_at (4294967295 - 1 * 2 ^ k % 4294967296) c) ≡ 0 = omega (arith, zero_there) in
        ap (λ (m : ℕ). eqb m 1) (bit_at_and word (4294967295 - 1 * 2 ^ k % 4294967296) c ∙ least)
        ∙ sym (bit_past word c fits past)
