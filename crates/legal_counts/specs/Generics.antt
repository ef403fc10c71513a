-- In which generic's text each body of the units stands, in the order of the text.
use Rattle.std.specs.Prelude.{ℕ, List, [], ◌∷◌, ◌++◌, map, Option}
use Rattle.ada_syntax.specs.declared.unit.Unit.{Unit as LibraryUnit}
use Rattle.ada_rules.specs.Environment.{World}
use Rattle.ada_rules.specs.Library.{Library}
use Rattle.legal_types.specs.TextGenerics.{generic_of_item}
use Rattle.program_weights.specs.BodyTexts.{bodies_of_item}

abbrev pub generics_of : World → Library → List LibraryUnit → List (Option ℕ)
generics_of w l [] = []
generics_of w l (u ∷ us) = map (λ b. generic_of_item w l u.item) (bodies_of_item u.item) ++ generics_of w l us
