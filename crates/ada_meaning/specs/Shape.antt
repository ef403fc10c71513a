-- The scalar parts of objects: how they are set to first values, and copied.
use Rattle.std.specs.Prelude.{ℕ, zero, suc, ℤ, pos, ◌+ℤ◌}
use Rattle.ada_meaning.specs.Program.{Bounds}
use Rattle.ada_meaning.specs.Arithmetic.{count_between}
use Rattle.ada_meaning.specs.State.{Place, part_at, Action, done, ◌>>=◌, ◌>>◌, tick, fetch, set_word}

mutual
  -- a type with its bounds: a scalar, an array with the bounds of its index, or a record
  pub data Shape : Type 0 where
    word : Bounds → Shape
    row : Bounds → Shape → Shape
    group : Shapes → Shape

  -- the shapes of the components of a record, in order
  pub data Shapes : Type 0 where
    no_shape : Shapes
    and_shape : Shape → Shapes → Shapes

-- an action for each of n values from i on, in rising order
abbrev pub each_from : ℕ → ℤ → (ℤ → Action (Unit {0})) → Action (Unit {0})
each_from zero i f = done
each_from (suc n) i f = f i >> each_from n (i +ℤ pos 1) f

-- an action for each value of a range, in rising order
abbrev pub each_in : Bounds → (ℤ → Action (Unit {0})) → Action (Unit {0})
each_in b f = each_from (count_between b.low b.high) b.low f

abbrev mutual
  -- sets each scalar part to its subtype's first value
  pub set_first : Shape → Place → Action (Unit {0})
  set_first (word b) p = set_word p b.low
  set_first (row b s) p = tick >> each_in b (λ i. set_first s (part_at i p))
  set_first (group ss) p = tick >> set_firsts ss (pos 0) p

  -- the same of the components of a record from number i on
  pub set_firsts : Shapes → ℤ → Place → Action (Unit {0})
  set_firsts no_shape i p = done
  set_firsts (and_shape s ss) i p = set_first s (part_at i p) >> set_firsts ss (i +ℤ pos 1) p

abbrev mutual
  -- copies each scalar part from p to q
  pub copy_parts : Shape → Place → Place → Action (Unit {0})
  copy_parts (word b) p q = fetch p >>= λ x. set_word q x
  copy_parts (row b s) p q = tick >> each_in b (λ i. copy_parts s (part_at i p) (part_at i q))
  copy_parts (group ss) p q = tick >> copy_components ss (pos 0) p q

  -- the same of the components of a record from number i on
  pub copy_components : Shapes → ℤ → Place → Place → Action (Unit {0})
  copy_components no_shape i p q = done
  copy_components (and_shape s ss) i p q = copy_parts s (part_at i p) (part_at i q) >> copy_components ss (i +ℤ pos 1) p q
