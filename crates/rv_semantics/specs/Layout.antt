-- Where things lie in the machine's memory, in bytes.
use Rattle.std.specs.Prelude.{ℕ, ◌+◌, ◌-◌, ◌*◌, ◌/◌, ◌%◌, ◌==◌, ◌&&◌, ◌||◌, not, nat_lt, nat_le, Bool, List, length, Option, Some, None, option_and_then, slice_get, slice_index, if◌then◌else◌}

-- how many bytes the memory has: the addresses are those below
abbrev pub memory_bytes : ℕ
memory_bytes = 0x02000000

-- where a text begins
abbrev pub text_start : ℕ
text_start = 0x00010000

-- where the data of a linked program begin
abbrev pub data_start : ℕ
data_start = 0x01000000

-- the place in a text of the word at an address; none before the text and between words
abbrev pub text_place : ℕ → Option ℕ
text_place address =
    if nat_lt address text_start || not (address % 4 == 0) then None else Some ((address - text_start) / 4)

-- the word of a text at an address; none outside the text and between words
abbrev pub text_word : List ℕ → ℕ → Option ℕ
text_word text address = option_and_then (λ place. slice_get text place) (text_place address)

-- an address lies within a text
abbrev pub in_text : List ℕ → ℕ → Bool
in_text text address = nat_le text_start address && nat_lt address (text_start + 4 * length text)

-- a memory of words, given by their numbers, with the words of a list from number `first` on
abbrev pub placed : (ℕ → ℕ) → (first : ℕ) → List ℕ → ℕ → ℕ
placed mem first words k =
    if nat_le first k && nat_lt k (first + length words) then slice_index words (k - first) else mem k
