-- The words of objects in an instance.
use Rattle.std.specs.Prelude.{ℕ, ◌+◌, List, [], ◌∷◌}
use Rattle.ada_meaning.specs.Program.{Program}
use Rattle.ada_meaning.specs.Types.{Subtype}
use Rattle.ada_resolved.specs.Forms.{known_shape}
use Rattle.ada_resolved.specs.Sizes.{words}

module _ (p : Program) where
  -- how many words objects of these types take in an instance
  abbrev pub words_of_objects : ℕ → List Subtype → ℕ
  words_of_objects inst [] = 0
  words_of_objects inst (t ∷ ts) = words (known_shape p inst t) + words_of_objects inst ts
