-- What the words of vectors say of their marks.
use Rattle.std.proofs.Common.{◌≡◌, ℕ, zero, suc, ◌<◌, ◌≤◌, ◌+◌, ◌*◌, ◌%◌, ◌^◌, Bool, true, false, not, ◌&&◌, ◌||◌, inl, inr, nat_lt, nat_eq, refl, ap, subst, sym, ◌∙◌, arith, IsTrue, ◌↔◌, eqb-true, eq-eqb, min, max, bit_and, bit_or, bit_xor, if◌then◌else◌}
use Rattle.std.proofs.lemmas.Nat.Bits.{bit_at_and, bit_at_or, bit_at_xor, bit_at-lt, bit_at_above, bit_at-pow_same, bit_at-pow_other, same_from_bits}
use Rattle.std.proofs.lemmas.Bool.Decides.{nat_tests, eqb_tells}
use Rattle.std.proofs.Math.Nat.{mod-eq_of_lt, one-mul}
use Rattle.std.proofs.Math.Pow.{pow-lt}
use Rattle.std.specs.Int.{bit_at}
use Rattle.cov_base.specs.declared.event.Vector.{Vector}
use Rattle.cov_base.specs.Expr.{Expr}
use Rattle.cov_base.specs.Marks.{bit, marks, rank, same}
use Rattle.decision_meaning.specs.Unmasked.{unmasked}
use Rattle.decision_meaning.specs.Pair.{turns, is_masking}

both : (x y : ℕ) → x < 2 → y < 2 → nat_eq (min x y) 1 ≡ (nat_eq x 1 && nat_eq y 1)
both x y h l = grind (arith, nat_tests)

either : (x y : ℕ) → x < 2 → y < 2 → nat_eq (max x y) 1 ≡ (nat_eq x 1 || nat_eq y 1)
either x y h l = grind (arith, nat_tests)

-- a number below 2 is 0 or 1
by_bit : (P : ℕ → Type 0) → P 0 → P 1 → (x : ℕ) → x < 2 → P x
by_bit P none one zero h = none
by_bit P none one (suc zero) h = one
by_bit P none one (suc (suc x)) h = absurd (let bad : ⊥ = omega arith in bad)

one_of : (x y : ℕ) → x < 2 → y < 2 → nat_eq ((x + y) % 2) 1 ≡ not (same (nat_eq x 1) (nat_eq y 1))
one_of x y h l =
    by_bit (λ x. nat_eq ((x + y) % 2) 1 ≡ not (same (nat_eq x 1) (nat_eq y 1)))
    (by_bit (λ y. nat_eq ((0 + y) % 2) 1 ≡ not (same (nat_eq 0 1) (nat_eq y 1))) refl refl y l)
    (by_bit (λ y. nat_eq ((1 + y) % 2) 1 ≡ not (same (nat_eq 1 1) (nat_eq y 1))) refl refl y l)
    x h

pub bit-and : (a b c : ℕ) → bit (bit_and a b) c ≡ (bit a c && bit b c)
bit-and a b c =
    ap (λ n. nat_eq n 1) (bit_at_and a b c) ∙ both (bit_at a c) (bit_at b c) (bit_at-lt a c) (bit_at-lt b c)

pub bit-or : (a b c : ℕ) → bit (bit_or a b) c ≡ (bit a c || bit b c)
bit-or a b c =
    ap (λ n. nat_eq n 1) (bit_at_or a b c) ∙ either (bit_at a c) (bit_at b c) (bit_at-lt a c) (bit_at-lt b c)

pub bit-xor : (a b c : ℕ) → bit (bit_xor a b) c ≡ not (same (bit a c) (bit b c))
bit-xor a b c =
    ap (λ n. nat_eq n 1) (bit_at_xor a b c) ∙ one_of (bit_at a c) (bit_at b c) (bit_at-lt a c) (bit_at-lt b c)

-- the word of the conditions that differ
pub turned-bit : (v w : Vector) (c : ℕ) → bit (bit_and (bit_and v.seen w.seen) (bit_xor v.value w.value)) c ≡ turns c (marks v) (marks w)
turned-bit v w c =
    bit-and (bit_and v.seen w.seen) (bit_xor v.value w.value) c
    ∙ ap (λ b. b && bit (bit_xor v.value w.value) c) (bit-and v.seen w.seen c)
    ∙ ap (λ b. bit v.seen c && bit w.seen c && b) (bit-xor v.value w.value c)

marks_differ : (s t a b : Bool) →
    (not (same s t) || s && not (same a b)) ≡ not (nat_eq (if s then (if a then 1 else 0) else 2) (if t then (if b then 1 else 0) else 2))
marks_differ true true true true = refl
marks_differ true true true false = refl
marks_differ true true false true = refl
marks_differ true true false false = refl
marks_differ true false true b = refl
marks_differ true false false b = refl
marks_differ false true a true = refl
marks_differ false true a false = refl
marks_differ false false a b = refl

-- the word of the conditions whose marks differ
pub differing-bit : (v w : Vector) (c : ℕ) →
    bit (bit_or (bit_xor v.seen w.seen) (bit_and v.seen (bit_xor v.value w.value))) c ≡ not (nat_eq (rank (marks v) c) (rank (marks w) c))
differing-bit v w c =
    bit-or (bit_xor v.seen w.seen) (bit_and v.seen (bit_xor v.value w.value)) c
    ∙ ap (λ b. b || bit (bit_and v.seen (bit_xor v.value w.value)) c) (bit-xor v.seen w.seen c)
    ∙ ap (λ b. not (same (bit v.seen c) (bit w.seen c)) || b)
    (bit-and v.seen (bit_xor v.value w.value) c ∙ ap (λ b. bit v.seen c && b) (bit-xor v.value w.value c))
    ∙ marks_differ (bit v.seen c) (bit w.seen c) (bit v.value c) (bit w.value c)

-- no bit of a word stands from 32 on
pub unset_above : (word c : ℕ) → word < 2 ^ 32 → 32 ≤ c → bit word c ≡ false
unset_above word c h l = ap (λ n. nat_eq n 1) (bit_at_above word 32 c h l)

one_bit : (c d : ℕ) → bit (2 ^ c) d ≡ nat_eq d c
one_bit c d =
    elim (eqb_tells d c) [
      | inl same ↦ ap (λ n. nat_eq n 1) (subst (λ n. bit_at (2 ^ c) n ≡ 1) (sym same.1) (bit_at-pow_same c)) ∙ sym same.0
      | inr other ↦ ap (λ n. nat_eq n 1) (bit_at-pow_other c d other.1) ∙ sym other.0
    ]

-- a bit as the number that it is
number_of_bit : (a b : ℕ) → a < 2 → b < 2 → nat_eq a 1 ≡ nat_eq b 1 → a ≡ b
number_of_bit a b h l e = grind (arith, nat_tests)

-- a word with one bit is a power of two
pub only_bit : (word c : ℕ) → ((d : ℕ) → bit word d ≡ nat_eq d c) → word ≡ 2 ^ c
only_bit word c all =
    same_from_bits word (2 ^ c)
    (λ d. number_of_bit (bit_at word d) (bit_at (2 ^ c) d) (bit_at-lt word d) (bit_at-lt (2 ^ c) d) (all d ∙ sym (one_bit c d)))

pub bit_only : (word c : ℕ) → word ≡ 2 ^ c → (d : ℕ) → bit word d ≡ nat_eq d c
bit_only word c e d = ap (λ n. bit n d) e ∙ one_bit c d

-- the word is the one bit, as the program shifts it
pub shifted_bit_only : (word c : ℕ) → c < 32 → IsTrue (nat_eq word (1 * 2 ^ c % 2 ^ 32)) ↔ ((d : ℕ) → bit word d ≡ nat_eq d c)
shifted_bit_only word c h =
    let low : 1 * 2 ^ c < 2 ^ 32 = simp one-mul (pow-lt h) in
    let same : 1 * 2 ^ c % 2 ^ 32 ≡ 2 ^ c = mod-eq_of_lt low ∙ one-mul (2 ^ c) in (
      λ t. bit_only word c (eqb-true word (1 * 2 ^ c % 2 ^ 32) t ∙ same),
      λ all. eq-eqb word (1 * 2 ^ c % 2 ^ 32) (only_bit word c all ∙ sym same),
    )

-- a word has no bit at a place from 32 on, so it doesn't have that one only
pub no_bit_only : (word c : ℕ) → word < 2 ^ 32 → 32 ≤ c → IsTrue (nat_lt c 32) ↔ ((d : ℕ) → bit word d ≡ nat_eq d c)
no_bit_only word c h l =
    let off : nat_lt c 32 ≡ false = grind (arith, nat_tests) in (
      λ t. let on : nat_lt c 32 ≡ true = t in let bad : ⊥ = cc in absurd bad,
      λ all. let on : bit word c ≡ nat_eq c c = all c in
          let none : bit word c ≡ false = unset_above word c h l in
          let one : nat_eq c c ≡ true = eq-eqb c c refl in
          let bad : ⊥ = cc in absurd bad,
    )

and_true : (b : Bool) → b ≡ (b && true)
and_true true = refl
and_true false = refl

and_false : (b : Bool) → (b && false) ≡ false
and_false true = refl
and_false false = refl

-- where the values of c differ, and c is unmasked in v, it decides whether c is unmasked in w
pub masking_by_second : (e : Expr) (c : ℕ) (v w : Vector) → unmasked e (marks v) c ≡ true → bit (bit_xor v.value w.value) c ≡ true →
    unmasked e (marks w) c ≡ is_masking e c (marks v) (marks w)
masking_by_second e c v w first differ =
    and_true (unmasked e (marks w) c)
    ∙ ap (λ b. unmasked e (marks w) c && b) (sym differ ∙ bit-xor v.value w.value c)
    ∙ ap (λ b. b && unmasked e (marks w) c && not (same (bit v.value c) (bit w.value c))) (sym first)

pub no_masking : (e : Expr) (c : ℕ) (v w : Vector) → bit (bit_xor v.value w.value) c ≡ false → is_masking e c (marks v) (marks w) ≡ false
no_masking e c v w alike =
    ap (λ b. unmasked e (marks v) c && unmasked e (marks w) c && b) (sym (bit-xor v.value w.value c) ∙ alike)
    ∙ and_false (unmasked e (marks v) c && unmasked e (marks w) c)
