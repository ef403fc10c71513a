-- What becomes of a store where an object gets its first values, or those of another one.
use Rattle.std.specs.Prelude.{ℕ, zero, suc, ◌+◌, ℤ, pos, ◌+ℤ◌, [], ◌∷◌}
use Rattle.std.specs.Int.{w32}
use Rattle.std.specs.Int.RustNames.{FitsSigned}
use Rattle.ada_meaning.specs.Arithmetic.{count_between}
use Rattle.ada_meaning.specs.Shape.{Shape, word, row, group, Shapes, no_shape, and_shape}
use Rattle.ada_meaning.specs.State.{Place, part_at, Store, set_at, World}
use Rattle.kernel_ir.specs.Layouts.{Content, no_content, followed_by, repeated, composite}

-- what each of n components from an index on does to a store, in rising order
abbrev pub each_store : (n : ℕ) → ℤ → (ℤ → Store → Store) → Store → Store
each_store zero i f store = store
each_store (suc n) i f store = each_store n (i +ℤ pos 1) f (f i store)

abbrev mutual
  -- a store where each scalar part of an object has its subtype's first value
  pub first_store : Shape → Place → Store → Store
  first_store (word b) p store = set_at p b.low store
  first_store (row b s) p store = each_store (count_between b.low b.high) b.low (λ i. first_store s (part_at i p)) store
  first_store (group ss) p store = first_stores ss (pos 0) p store

  -- the same of the components of a record from number i on
  pub first_stores : Shapes → ℤ → Place → Store → Store
  first_stores no_shape i p store = store
  first_stores (and_shape s ss) i p store = first_stores ss (i +ℤ pos 1) p (first_store s (part_at i p) store)

abbrev mutual
  -- a store where each scalar part of an object at p was copied to q, one after another
  pub copied_store : Shape → (p q : Place) → Store → Store
  copied_store (word b) p q store = set_at q (store p) store
  copied_store (row b s) p q store =
      each_store (count_between b.low b.high) b.low (λ i. copied_store s (part_at i p) (part_at i q)) store
  copied_store (group ss) p q store = copied_stores ss (pos 0) p q store

  -- the same of the components of a record from number i on
  pub copied_stores : Shapes → ℤ → (p q : Place) → Store → Store
  copied_stores no_shape i p q store = store
  copied_stores (and_shape s ss) i p q store =
      copied_stores ss (i +ℤ pos 1) p q (copied_store s (part_at i p) (part_at i q) store)

abbrev mutual
  -- the first values of the scalar parts of an object, as words in order, and what setting them costs
  pub first_content : Shape → Content
  first_content (word b) = record { words = b.low ∷ []; cost = 1 }
  first_content (row b s) = composite (repeated (count_between b.low b.high) (first_content s))
  first_content (group ss) = composite (first_contents ss)

  -- those of the components of a record
  pub first_contents : Shapes → Content
  first_contents no_shape = no_content
  first_contents (and_shape s ss) = followed_by (first_content s) (first_contents ss)

abbrev mutual
  -- the first values of an object's scalar parts are words
  pub HasWords : Shape → Type 0
  HasWords (word b) = FitsSigned w32 b.low
  HasWords (row b s) = HasWords s
  HasWords (group ss) = HaveWords ss

  -- those of the components of a record
  pub HaveWords : Shapes → Type 0
  HaveWords no_shape = Unit {0}
  HaveWords (and_shape s ss) = HasWords s × HaveWords ss

-- a state with another store, and more cost
abbrev pub after : Store → (cost : ℕ) → World → World
after store cost w = record {
  store = store;
  input = w.input;
  depth = w.depth;
  seen = record { events = w.seen.events; output = w.seen.output; cost = w.seen.cost + cost };
}
