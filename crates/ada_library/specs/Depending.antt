-- What units name and their order, as the code works them out.
use Rattle.std.specs.Prelude.{◌≡◌, ℕ, nat_eq, Bool, List, Option, option_map, length}
use Rattle.ada_syntax.specs.declared.unit.Unit.{Unit as LibraryUnit}
use Rattle.ada_rules.specs.Library.{Picked, is_ready, picked, graph_of, units_but_bodies, dependency_order}
use Rattle.ada_library.specs.declared.dependencies.Dependencies.{Dependencies}
use Rattle.ada_library.specs.Marking.{AreMarked}

-- whether a unit is ready, where the units of the order so far are marked
abbrev pub IsReady : List (List ℕ) → List Bool → ℕ → Bool → Type 0
IsReady graph done unit b = (order : List ℕ) → AreMarked order done → b ≡ is_ready graph order unit

abbrev pub taken : (others : List ℕ) → ℕ → Picked
taken others n = record { first = n; others = others }

-- the first unit that is ready is taken out of those that are left
abbrev pub IsPicked : List (List ℕ) → List Bool → (old : List ℕ) → Option ℕ → (new : List ℕ) → Type 0
IsPicked graph done old unit new =
    (order : List ℕ) → AreMarked order done → picked graph order old ≡ option_map (taken new) unit

-- the dependencies of units with these names
pub record AreDependencies (names : List (List ℕ × ℕ)) (units : List LibraryUnit) (d : Dependencies) : Type 0 where
  pub leads : d.graph ≡ graph_of names units
  pub ordered : d.order ≡ dependency_order (graph_of names units) (units_but_bodies 0 units)
  pub complete : d.is_ordered ≡ nat_eq (length d.order) (length (units_but_bodies 0 units))
