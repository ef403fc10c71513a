-- Objects of the library level, in an instance of the generic in whose text they stand.
use Rattle.std.specs.Prelude.{◌≡◌, ℕ, List, [], ◌∷◌, Option}
use Rattle.ada_meaning.specs.Program.{LibraryObject, Program}
use Rattle.ada_meaning.specs.Resolved.{shape_in}
use Rattle.ada_meaning.specs.Shape.{Shape}
use Rattle.ada_meaning.specs.Tree.{Object, library_object}
use Rattle.ada_meaning.specs.Types.{Owner}
use Rattle.ada_meaning.specs.WellFormed.{IsType, IsInitial}

module _ (p : Program) (inst : ℕ) (generic : Option ℕ) where
  -- a subprogram sees them, with the shapes of their subtypes
  abbrev pub AreObjects : (Object → Shape) → (Object → Type 0) → Owner → List LibraryObject → Type 0
  AreObjects shape_of Sees owner [] = Unit {0}
  AreObjects shape_of Sees owner (o ∷ os) =
      (o.generic ≡ generic
      → (shape_of (library_object owner o.declaration) ≡ shape_in p inst o.subtype)
      × Sees (library_object owner o.declaration))
      × AreObjects shape_of Sees owner os

  -- they have types, and initial values
  abbrev pub AreFormed : List LibraryObject → Type 0
  AreFormed [] = Unit {0}
  AreFormed (o ∷ os) =
      (o.generic ≡ generic → IsType (shape_in p inst o.subtype) × IsInitial p inst o.initial) × AreFormed os
