-- The sizes of types in words, by instance (RM 3.5, 3.6, 3.8): there is none where a bound has no value, or where
-- a type or a part of one takes more words than a program may have.
use Rattle.std.specs.Prelude.{ℕ, ◌+◌, ◌*◌, nat_le, Option, Some, None, option_map, if◌then◌else◌}
use Rattle.std.specs.Option.{option_and_then}
use Rattle.ada_meaning.specs.Arithmetic.{count_between}
use Rattle.ada_meaning.specs.Program.{Bounds}
use Rattle.ada_meaning.specs.Shape.{Shape, word, row, group, Shapes, no_shape, and_shape}
use Rattle.ada_meaning.specs.Statics.{InstanceValues, static_bounds}
use Rattle.ada_meaning.specs.Types.{Subtype, scalar, array, fields, subtype_of, Components, no_component, and_component}

-- how many words a program may have at the library level
abbrev pub word_limit : ℕ
word_limit = 262144

-- a number of words that is not past the limit
abbrev pub limited : ℕ → Option ℕ
limited n = if nat_le n word_limit then Some n else None

abbrev mutual
  -- how many words an object of a shape takes: a scalar one, an array its length times its component, a record the sum
  pub words : Shape → ℕ
  words (word b) = 1
  words (row b s) = count_between b.low b.high * words s
  words (group ss) = all_words ss

  -- those of the components of a record
  pub all_words : Shapes → ℕ
  all_words no_shape = 0
  all_words (and_shape s ss) = words s + all_words ss

-- the size of an array, by the bounds of its index and the size of its component
abbrev pub array_size : Option Bounds → Option ℕ → Option ℕ
array_size index size = option_and_then (λ n. option_and_then (λ b. limited (count_between b.low b.high * n)) index) size

-- so many words, and those of a component more
abbrev pub with_component : ℕ → Option ℕ → Option ℕ
with_component words size = option_and_then (λ n. limited (words + n)) size

module _ (v : InstanceValues) where
  abbrev mutual
    -- the size of a type in an instance
    pub type_size : ℕ → Subtype → Option ℕ
    type_size inst (scalar r) = option_map (λ b. 1) (static_bounds v inst r)
    type_size inst (array r t) = array_size (static_bounds v inst r) (type_size inst t)
    type_size inst (fields cs) = components_size inst cs
    type_size inst (subtype_of i t) = type_size i t

    -- the size of the components of a record
    pub components_size : ℕ → Components → Option ℕ
    components_size inst no_component = Some 0
    components_size inst (and_component t cs) =
        option_and_then (λ n. with_component n (components_size inst cs)) (type_size inst t)
