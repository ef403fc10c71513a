-- What a kernel works on, and how code ends.
use Rattle.std.specs.Prelude.{ℕ, ◌+◌, ◌-◌, ◌/◌, ◌==◌, ℤ, pos, int_le, Bool, ◌&&◌, List, ◌∷◌, if◌then◌else◌}
use Rattle.cov_base.specs.declared.event.Event.{Event}
use Rattle.rv_semantics.specs.Layout.{data_start}
use Rattle.ada_meaning.specs.State.{Seen}

-- a memory of words, each a number of 32 bits in two's complement, by the word's address: its address in bytes, divided by 4
abbrev pub Memory : Type 0
Memory = ℕ → ℤ

-- a state: the memory, the unread input, and what was observed so far
pub record World : Type 0 where
  pub memory : Memory
  pub input : List ℤ
  pub seen : Seen

-- how code ends: at its end, by leaving the innermost loop, by returning from the body, with an exception's number, or cut off since the
-- fuel ran out; each with the state
pub data Ended : Type 0 where
  Ends : World → Ended
  Exits : World → Ended
  Returns : World → Ended
  Raises : ℕ → World → Ended
  Cut : World → Ended

-- the state in which code ended or was cut off
abbrev pub world_in : Ended → World
world_in (Ends w) = w
world_in (Exits w) = w
world_in (Returns w) = w
world_in (Raises e w) = w
world_in (Cut w) = w

-- what comes after code that came to its end
abbrev pub goes_on : Ended → (World → Ended) → Ended
goes_on (Ends w) f = f w
goes_on (Exits w) f = Exits w
goes_on (Returns w) f = Returns w
goes_on (Raises e w) f = Raises e w
goes_on (Cut w) f = Cut w

-- the first word of the data; the words of the library level stand from there on
abbrev pub data_word : ℕ
data_word = data_start / 4

-- the first word behind the frames, of which main's is the last
abbrev pub area_end : ℕ
area_end = 0x7f0000

-- whether this many words from an address on lie in the data area, which holds the library level and the frames
abbrev pub in_area : ℤ → ℕ → Bool
in_area address words = int_le (pos data_word) address && int_le address (pos (area_end - words))

-- the address of a slot of the frame that ends before the word fp
abbrev pub slot_word : (fp slot : ℕ) → ℕ
slot_word fp slot = fp - (slot + 1)

-- a memory with another word at an address
abbrev pub with_word : (address : ℕ) → ℤ → Memory → Memory
with_word address x memory = λ a. if a == address then x else memory a

-- a state with another memory
abbrev pub with_memory : Memory → World → World
with_memory memory w = record { memory = memory; input = w.input; seen = w.seen }

-- a state with another unread input
abbrev pub with_input : List ℤ → World → World
with_input input w = record { memory = w.memory; input = input; seen = w.seen }

-- a state with more cost
abbrev pub paid : ℕ → World → World
paid cost w = record {
  memory = w.memory;
  input = w.input;
  seen = record { events = w.seen.events; output = w.seen.output; cost = w.seen.cost + cost };
}

-- a state in which one more event was observed
abbrev pub noted : Event → World → World
noted e w = record {
  memory = w.memory;
  input = w.input;
  seen = record { events = e ∷ w.seen.events; output = w.seen.output; cost = w.seen.cost };
}

-- a state in which one more word was put
abbrev pub with_output : ℤ → World → World
with_output x w = record {
  memory = w.memory;
  input = w.input;
  seen = record { events = w.seen.events; output = x ∷ w.seen.output; cost = w.seen.cost };
}

-- the word in a slot
abbrev pub slot_in : (fp slot : ℕ) → World → ℤ
slot_in fp slot w = w.memory (slot_word fp slot)

-- a state with another word in a slot
abbrev pub with_slot : (fp slot : ℕ) → ℤ → World → World
with_slot fp slot x w = with_memory (with_word (slot_word fp slot) x w.memory) w
