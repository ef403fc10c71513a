-- The generic that a unit is, by what others see of it (Ada RM 2012, 12.1).
use Rattle.std.specs.Prelude.{◌≡◌, ℕ, List, map, Option}
use Rattle.ada_rules.specs.Entities.{Actual}
use Rattle.ada_rules.specs.Environment as environment
use Rattle.ada_rules.specs.Environment.{World}
use Rattle.ada_rules.specs.Units as rules
use Rattle.ada_entities.specs.declared.units.Interface.{Interface}
use Rattle.ada_entities.specs.EntityViews.{Tables}
use Rattle.ada_entities.specs.UnitViews.{interface_of}

abbrev pub IsGenericIn : Interface → ℕ → Option ℕ → Type 0
IsGenericIn i n g =
    (k : Tables) (actuals : ℕ → List Actual) → g ≡ rules.is_generic_interface (interface_of k actuals i) n

-- the same of the unit with a number, in each world that has what is seen of these units
abbrev pub IsGenericOf : List Interface → ℕ → Option ℕ → Type 0
IsGenericOf units n g =
    (k : Tables) (actuals : ℕ → List Actual) (w : World) → w.interfaces ≡ map (interface_of k actuals) units
    → g ≡ rules.is_generic_interface (environment.interface_of w n) n
