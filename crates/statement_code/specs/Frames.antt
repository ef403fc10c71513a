-- What a state of a program and one of its kernel have in common, in an activation.
use Rattle.std.specs.Prelude.{◌≡◌, ◌≢◌, ℕ, ◌+◌, ◌*◌, ◌≤◌, ◌<◌, ◌⊎◌}
use Rattle.ada_meaning.specs.State.{Place, Store, Seen, World, Outcome, Gives, Raises, OutOfFuel}
use Rattle.kernel_ir.specs.World.{Memory, Ended, Ends, Cut, data_word, area_end, slot_word}
use Rattle.kernel_ir.specs.World as kernel
use Rattle.statement_code.specs.Values.{arguments}
use Rattle.statement_code.specs.Cells.{Cells, AreApart, Agree, Within}

-- how many units of cost a kernel has for each of its program's
abbrev pub rate : ℕ
rate = 10

-- the same events and output were observed, at a cost that is at most so many times the source's, and leaves so much of it
pub record Observed (left : ℕ) (source code : Seen) : Type 0 where
  pub events : code.events ≡ source.events
  pub output : code.output ≡ source.output
  pub cost : code.cost + left ≤ rate * source.cost

-- An activation, as it was entered: its frame ends before the word fp; the slots from base on, below the width, are free to work in; so many
-- calls may nest in it. The store and the memory are those of its start. So much cost is left for what comes behind, and the greatest
-- exception has this number.
pub record Frame : Type 0 where
  pub fp : ℕ
  pub width : ℕ
  pub base : ℕ
  pub calls : ℕ
  pub depth : ℕ
  pub store : Store
  pub memory : Memory
  pub spare : ℕ
  pub top : ℕ

-- The words of objects, those that are kept, and the slots that are free lie apart. The four predefined exceptions are there.
pub record IsFrame (Cell : Cells) (Keep : ℕ → Type 0) (fr : Frame) : Type 0 where
  pub apart : AreApart Cell
  pub area : (q : Place) (a : ℕ) → Cell q a → (data_word ≤ a) × (a < area_end)
  pub unkept : (q : Place) (a : ℕ) → Cell q a → Keep a → ⊥
  pub free : (q : Place) (a j : ℕ) → Cell q a → fr.base ≤ j → j < fr.width + arguments → a ≢ slot_word fr.fp j
  pub own : (q : Place) (a : ℕ) → Cell q a → (q.frame ≡ 0) ⊎ (q.frame ≡ fr.depth)
  pub hidden : (j : ℕ) → fr.base ≤ j → j < fr.width + arguments → Keep (slot_word fr.fp j) → ⊥
  pub inside : fr.fp ≤ area_end
  pub room : fr.width + arguments ≤ fr.fp
  pub predefined : 4 ≤ fr.top

-- At each cell whose word was set, memory holds what the store has. The unread input is the same, what was observed is; the words that are
-- kept, and the places of the activations below, are as they were at the start.
pub record Inside (Cell : Cells) (Keep : ℕ → Type 0) (fr : Frame) (Set : ℕ → Type 0) (left : ℕ) (w : World) (v : kernel.World) : Type 0 where
  pub depth_is : w.depth ≡ fr.depth
  pub input : v.input ≡ w.input
  pub agree : Agree (Within Cell Set) w.store v.memory
  pub words : (a : ℕ) → Keep a → v.memory a ≡ fr.memory a
  pub kept : (q : Place) → 1 ≤ q.frame → q.frame < fr.depth → w.store q ≡ fr.store q
  pub seen : Observed (fr.spare + left) w.seen v.seen

-- an exception of the program
abbrev pub IsException : Frame → ℕ → Type 0
IsException fr x = (1 ≤ x) × (x ≤ fr.top)

-- where an exception leaves an activation's code: with the words set that were so before
abbrev pub Failed : (Cell : Cells) (Keep : ℕ → Type 0) → Frame → (Set : ℕ → Type 0) → ℕ → World → kernel.World → Type 0
Failed Cell Keep fr Set x w v = IsException fr x × Inside Cell Keep fr Set 0 w v

-- both end alike: with results and states of this kind, with one exception and such states, or cut off
abbrev pub Runs : {A : Type 0} → (Stop : ℕ → World → kernel.World → Type 0) → (After : A → World → kernel.World → Type 0) → Outcome A → Ended → Type 0
Runs Stop After (Gives a w) (Ends v) = After a w v
Runs Stop After (Raises x w) (kernel.Raises y v) = (y ≡ x) × Stop x w v
Runs Stop After (OutOfFuel w) (Cut v) = Observed 0 w.seen v.seen
Runs Stop After r e = ⊥

-- the words that are kept, and so many slots from the first free one on
abbrev pub Kept : (Keep : ℕ → Type 0) → Frame → (n : ℕ) → ℕ → Type 0
Kept Keep fr n a = Keep a ⊎ ((i : ℕ) × ((i < n) × (a ≡ slot_word fr.fp (fr.base + i))))

-- a part of an activation, in which those slots stay as they are now, and so much more cost is left for what comes behind
abbrev pub deeper : Frame → (n extra : ℕ) → kernel.World → Frame
deeper fr n extra v = record {
  fp = fr.fp;
  width = fr.width;
  base = fr.base + n;
  calls = fr.calls;
  depth = fr.depth;
  store = fr.store;
  memory = v.memory;
  spare = fr.spare + extra;
  top = fr.top;
}
