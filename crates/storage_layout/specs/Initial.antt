-- What the words of an object begin with.
use Rattle.std.specs.Prelude.{ℕ, zero, suc, ℤ, pos, List, [], ◌∷◌, ◌++◌, unwrap_or}
use Rattle.std.specs.Int.{w32, cast_unsigned}
use Rattle.ada_meaning.specs.Arithmetic.{count_between}
use Rattle.ada_meaning.specs.Program.{Bounds}
use Rattle.ada_meaning.specs.Shape.{Shape, word, row, group, Shapes, no_shape, and_shape}
use Rattle.ada_meaning.specs.Statics.{static_value, values_of}
use Rattle.ada_tree.specs.declared.program.Initial.{Initial}
use Rattle.ada_tree.specs.declared.program.Initial.TheVariants as initial
use Rattle.ada_tree.specs.declared.program.Program.{Program}
use Rattle.ada_tree.specs.Programs.{program_of}
use Rattle.ada_tree.specs.View.{static_of}
use Rattle.storage_layout.specs.declared.initial.First.{First}
use Rattle.storage_layout.specs.declared.initial.First.TheVariants.{OfSubtypes, Given}

-- what the parts of an object of the library level begin with in an instance
abbrev pub first_of : Program → (inst : ℕ) → Initial → First
first_of p inst initial.None = OfSubtypes
first_of p inst (initial.Static others e) = Given others (unwrap_or (static_value (values_of (program_of p)) inst (static_of e)) (pos 0))

-- what a scalar begins with
abbrev pub first_number : First → Bounds → ℤ
first_number OfSubtypes b = b.low
first_number (Given zero x) b = x
first_number (Given (suc others) x) b = b.low

-- what the components of an array begin with
abbrev pub first_of_components : First → First
first_of_components OfSubtypes = OfSubtypes
first_of_components (Given zero x) = OfSubtypes
first_of_components (Given (suc others) x) = Given others x

-- so many times the same words
abbrev pub repeated : ℕ → List ℕ → List ℕ
repeated zero words = []
repeated (suc n) words = words ++ repeated n words

abbrev mutual
  -- the words that an object begins with, in order
  pub initial_words : Shape → First → List ℕ
  initial_words (word b) first = cast_unsigned w32 (first_number first b) ∷ []
  initial_words (row b s) first = repeated (count_between b.low b.high) (initial_words s (first_of_components first))
  initial_words (group ss) first = all_initial_words ss

  -- those of the components of a record
  pub all_initial_words : Shapes → List ℕ
  all_initial_words no_shape = []
  all_initial_words (and_shape s ss) = initial_words s OfSubtypes ++ all_initial_words ss
