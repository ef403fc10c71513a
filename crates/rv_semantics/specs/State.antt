use Rattle.std.specs.Prelude.{ℕ, ◌/◌, ◌==◌, List, Option, Some, None, ℤ, if◌then◌else◌}
use Rattle.rv_semantics.specs.Layout.{memory_bytes, text_start, placed}
use Rattle.rv_semantics.specs.Arithmetic.{unsigned}

-- what no instruction changes: the words of the text, and the greatest number of an exception
pub record Image : Type 0 where
  pub text : List ℕ
  pub exceptions : ℕ

-- what an instruction can change: the program counter, the registers x0 to x31 and the memory, whose
-- word k has the bytes 4 * k to 4 * k + 3, the lowest first
pub record State : Type 0 where
  pub pc : ℕ
  pub reg : ℕ → ℕ
  pub mem : ℕ → ℕ

-- a function with another value at one place
abbrev pub at : (ℕ → ℕ) → (place value : ℕ) → ℕ → ℕ
at f place value x = if x == place then value else f x

-- RV32I, 'Programmers' Model for Base Integer ISA': the registers after a write; x0 stays 0
abbrev pub with_reg : (ℕ → ℕ) → (rd value : ℕ) → ℕ → ℕ
with_reg reg rd value = if rd == 0 then reg else at reg rd value

-- the machine before the first instruction of an image: x2 is the end of memory, the other registers
-- are 0, and the memory is zero but for the text and the data
unfoldable pub start : Image → (entry init_at : ℕ) → (init : List ℕ) → State
start image entry init_at init = record {
  pc = entry;
  reg = at (λ _. 0) 2 memory_bytes;
  mem = placed (placed (λ _. 0) (text_start / 4) image.text) (init_at / 4) init;
}

-- the machine after an input word was handed over: x10 is the word and x11 is 0; at the end of the
-- input x10 is 0 and x11 is 1
unfoldable pub given : State → Option ℤ → State
given s (Some word) = record s { reg = with_reg (with_reg s.reg 10 (unsigned word)) 11 0 }
given s None = record s { reg = with_reg (with_reg s.reg 10 0) 11 1 }
