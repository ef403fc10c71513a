-- Tables of numbers by name.
use Rattle.std.specs.Prelude.{◌≡◌, ℕ, ◌+◌, List, [], ◌∷◌, Option}
use Rattle.std.specs.Option.{option_or}
use Rattle.ada_syntax.specs.declared.unit.LibraryItem.{LibraryItem}
use Rattle.ada_syntax.specs.declared.unit.LibraryItem.TheVariants as library
use Rattle.ada_syntax.specs.declared.unit.Unit.{Unit as LibraryUnit}
use Rattle.ada_rules.specs.Entities.{key}
use Rattle.ada_rules.specs.Library.{unit_named}

-- the number of a name by a table, and where it has none there by those behind
abbrev pub named_in : (names behind : List (List ℕ × ℕ)) → List ℕ → Option ℕ
named_in names behind name = option_or (unit_named names name) (unit_named behind name)

-- A table takes over what stands first among those behind it.
abbrev pub Adds : (old : List (List ℕ × ℕ)) → (List (List ℕ × ℕ) → List (List ℕ × ℕ)) → (new : List (List ℕ × ℕ)) → Type 0
Adds old with_one new =
    (behind : List (List ℕ × ℕ)) (name : List ℕ) → named_in new behind name ≡ named_in old (with_one behind) name

-- the bodies of packages by name
abbrev pub with_body : ℕ → LibraryItem → List (List ℕ × ℕ) → List (List ℕ × ℕ)
with_body n (library.PackageBody b) names = (key b.name, n) ∷ names
with_body n i names = names

-- the bodies of packages among units, of which the first has this number
abbrev pub bodies_from : ℕ → List LibraryUnit → List (List ℕ × ℕ)
bodies_from n [] = []
bodies_from n (u ∷ us) = with_body n u.item (bodies_from (n + 1) us)
