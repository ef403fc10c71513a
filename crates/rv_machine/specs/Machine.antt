-- What contracts see of a machine.
use Rattle.std.specs.Prelude.{ℕ, ◌-◌, ◌^◌, nat_lt, List, slice_index, if◌then◌else◌}
use Rattle.rv_semantics.specs.State.{Image, State}

-- the words of a memory that were made: those before the data of a linked program, those from there
-- on, and those at the end, the last word first. The others are zero.
pub record Parts : Type 0 where
  pub below : List ℕ
  pub middle : List ℕ
  pub top : List ℕ

-- the first word of the part `top`
abbrev pub top_first : ℕ
top_first = 0x600000

-- a word of a memory, by its number; 0 behind its end
abbrev pub word_of : Parts → ℕ → ℕ
word_of m k =
    if nat_lt k (2 ^ 22) then slice_index m.below k
    else if nat_lt k top_first then slice_index m.middle (k - 2 ^ 22)
    else if nat_lt k (2 ^ 23) then slice_index m.top (2 ^ 23 - 1 - k)
    else 0

-- a machine's parts: the text, the greatest number of an exception, the program counter, the 32
-- registers, and the words of the memory
pub record Loaded : Type 0 where
  pub text : List ℕ
  pub exceptions : ℕ
  pub pc : ℕ
  pub registers : List ℕ
  pub memory : Parts

-- what no instruction changes
abbrev pub image_of : Loaded → Image
image_of m = record { text = m.text; exceptions = m.exceptions }

-- what an instruction can change
abbrev pub state_of : Loaded → State
state_of m = record { pc = m.pc; reg = slice_index m.registers; mem = word_of m.memory }
