-- The words of objects. A cell is a scalar part of an object, with the address of its word. An object takes its words in the order of its
-- parts, from an address on.
use Rattle.std.specs.Prelude.{◌≡◌, ℕ, zero, suc, ◌+◌, ◌==◌, ◌≤◌, ◌<◌, ◌⊎◌, ℤ, pos, ◌+ℤ◌}
use Rattle.std.specs.Int.{w32}
use Rattle.std.specs.Int.RustNames.{FitsSigned}
use Rattle.ada_meaning.specs.Arithmetic.{count_between}
use Rattle.ada_meaning.specs.Shape.{Shape, word, row, group, Shapes, no_shape, and_shape}
use Rattle.ada_meaning.specs.State.{Place, part_at, same_place, Store}
use Rattle.ada_resolved.specs.Sizes.{words}
use Rattle.kernel_ir.specs.World.{Memory}

-- which places have words, and where
abbrev pub Cells : Type 1
Cells = Place → ℕ → Type 0

-- what holds of each of n components from an index on, which stand from an address on, so many words apart
abbrev pub Each : (n : ℕ) → ℤ → (address step : ℕ) → (ℤ → ℕ → Type 0) → Type 0
Each zero i a step P = Unit {0}
Each (suc n) i a step P = P i a × Each n (i +ℤ pos 1) (a + step) step P

module _ (Cell : Cells) where
  abbrev mutual
    -- the scalar parts of an object of a shape are cells, in their order from an address on
    pub Lies : Shape → Place → (address : ℕ) → Type 0
    Lies (word b) q a = Cell q a
    Lies (row b s) q a = Each (count_between b.low b.high) b.low a (words s) (λ i c. Lies s (part_at i q) c)
    Lies (group ss) q a = AllLie ss (pos 0) q a

    -- the same of the components of a record from number i on
    pub AllLie : Shapes → ℤ → Place → (address : ℕ) → Type 0
    AllLie no_shape i q a = Unit {0}
    AllLie (and_shape s ss) i q a = Lies s (part_at i q) a × AllLie ss (i +ℤ pos 1) q (a + words s)

  -- two cells are at one address exactly where they are one place
  abbrev pub AreApart : Type 0
  AreApart = (p q : Place) (a b : ℕ) → Cell p a → Cell q b → same_place p q ≡ (b == a)

  -- a memory holds what a store has, at each cell; these are words
  abbrev pub Agree : Store → Memory → Type 0
  Agree store memory = (q : Place) (a : ℕ) → Cell q a → (memory a ≡ store q) × FitsSigned w32 (store q)

-- those cells whose words were set; objects of the library level were so before the program began
abbrev pub Within : Cells → (ℕ → Type 0) → Cells
Within Cell Set q c = Cell q c × (Set c ⊎ (q.frame ≡ 0))

-- a set of words, with so many more from an address on
abbrev pub With : (ℕ → Type 0) → (address words : ℕ) → ℕ → Type 0
With Set a n c = Set c ⊎ ((a ≤ c) × (c < a + n))
