-- The machine before the first instruction.
use Rattle.std.proofs.Common.{◌≡◌, ◌≢◌, ℕ, zero, suc, ◌/◌, List, ◌∷◌, slice_index, refl, sym, ap, ◌∙◌, arith, replicate}
use Rattle.std.proofs.lemmas.Bool.Decides.{nat_tests}
use Rattle.rv_semantics.specs.Layout.{memory_bytes, text_start, placed}
use Rattle.rv_semantics.specs.State.{Image, State, at, start}

-- a memory into which words were placed twice
pub loaded_memory : (text init : List ℕ) (text_at init_at : ℕ) (zeros one two : ℕ → ℕ) →
    ((k : ℕ) → zeros k ≡ 0) →
    ((k : ℕ) → one k ≡ placed zeros text_at text k) →
    ((k : ℕ) → two k ≡ placed one init_at init k) →
    (k : ℕ) → two k ≡ placed (placed (λ _. 0) text_at text) init_at init k
loaded_memory text init text_at init_at zeros one two are_zero has_text has_init k =
    let one_is : one ≡ placed zeros text_at text = λ i j. has_text j i in
    let zeros_are : zeros ≡ (λ _. 0) = λ i j. are_zero j i in
    has_init k
    ∙ (ap (λ (f : ℕ → ℕ). placed f init_at init k) one_is
    ∙ ap (λ (f : ℕ → ℕ). placed (placed f text_at text) init_at init k) zeros_are)

-- each place of a list of zeros has 0, and so has each place behind it
zeros_at : (n k : ℕ) → slice_index (replicate n 0) k ≡ 0
zeros_at zero k = refl
zeros_at (suc n) zero = refl
zeros_at (suc n) (suc k) = zeros_at n k

-- the registers at the start
pub started_registers : (k : ℕ) →
    slice_index (0 ∷ 0 ∷ memory_bytes ∷ replicate 29 0) k ≡ at (λ _. 0) 2 memory_bytes k
started_registers zero = refl
started_registers (suc zero) = refl
started_registers (suc (suc zero)) = refl
started_registers (suc (suc (suc k))) =
    zeros_at 29 k ∙ sym (at_other (suc (suc (suc k))) (omega arith))
  where
    at_other : (x : ℕ) → x ≢ 2 → at (λ _. 0) 2 memory_bytes x ≡ 0
    at_other x other = grind (arith, nat_tests)

-- the state of a machine is the start where its parts are
abbrev pub the_state : ℕ → (ℕ → ℕ) → (ℕ → ℕ) → State
the_state pc reg mem = record { pc = pc; reg = reg; mem = mem }

pub started : (image : Image) (entry init_at : ℕ) (init : List ℕ) (reg mem : ℕ → ℕ) →
    ((k : ℕ) → reg k ≡ at (λ _. 0) 2 memory_bytes k) →
    ((k : ℕ) → mem k ≡ placed (placed (λ _. 0) (text_start / 4) image.text) (init_at / 4) init k) →
    the_state entry reg mem ≡ start image entry init_at init
unfolding start
started image entry init_at init reg mem are_registers is_memory =
    λ i. record { pc = entry; reg = λ k. are_registers k i; mem = λ k. is_memory k i }
