-- What the code's units are of the rules' definitions, and what names denote in them.
use Rattle.std.specs.Prelude.{◌≡◌, ℕ, List, map, Option, option_map, slice_get}
use Rattle.ada_rules.specs.Entities as rules
use Rattle.ada_rules.specs.Entities.{Actual, given_type, seen}
use Rattle.ada_rules.specs.Environment as environment
use Rattle.ada_rules.specs.Environment.{World, no_interface, package_interface, generic_interface, instance_interface, subprogram_interface, entity_of_interface, entity_of_unit}
use Rattle.ada_rules.specs.Expressions.{unless_formal, part_of_interface, part_of_generic}
use Rattle.ada_entities.specs.declared.entity.Entity.{Entity}
use Rattle.ada_entities.specs.declared.units.Interface.{Interface}
use Rattle.ada_entities.specs.declared.units.Interface.TheVariants as interface
use Rattle.ada_entities.specs.Views.{TypeTables, actuals_of}
use Rattle.ada_entities.specs.EntityViews.{Tables, routine_of, entity_of, region_of}

-- what is seen of a unit, where instances have these actuals
abbrev pub interface_of : Tables → (ℕ → List Actual) → Interface → environment.Interface
interface_of k actuals interface.Unknown = no_interface
interface_of k actuals (interface.Package r) = package_interface (region_of k r)
interface_of k actuals (interface.Generic formals r) = generic_interface (region_of k formals) (region_of k r)
interface_of k actuals (interface.Instance g n) = instance_interface g n (actuals n)
interface_of k actuals (interface.Subprogram r) = subprogram_interface (routine_of k r)

-- lists of actuals that give the same types
abbrev pub GiveSame : (xs ys : List Actual) → Type 0
GiveSame xs ys = (place : ℕ) → given_type (slice_get xs place) ≡ given_type (slice_get ys place)

-- The units of a world, with the tables that their numbers lead to, and what its instances have for formals, of which the
-- table of types keeps the types.
pub record AreUnits (types : TypeTables) (units : List Interface) (k : Tables) (actuals : ℕ → List Actual) (w : World) : Type 0 where
  pub typed : k.types ≡ types
  pub given : (n : ℕ) → GiveSame (actuals n) (actuals_of types n)
  pub interfaces : w.interfaces ≡ map (interface_of k actuals) units

abbrev pub IsUnit : List Interface → ℕ → Entity → Type 0
IsUnit units n x =
    (k : Tables) (actuals : ℕ → List Actual) (w : World) → w.interfaces ≡ map (interface_of k actuals) units → entity_of k x ≡ entity_of_unit w n

abbrev pub IsPart : TypeTables → List Interface → ℕ → List ℕ → Option Entity → Type 0
IsPart types units n name x =
    (k : Tables) (actuals : ℕ → List Actual) (w : World) → AreUnits types units k actuals w
    → option_map (entity_of k) x ≡ part_of_interface w name (environment.interface_of w n)

abbrev pub IsPartOfGeneric : TypeTables → List Interface → (instance generic : ℕ) → List ℕ → Option Entity → Type 0
IsPartOfGeneric types units n g name x =
    (k : Tables) (actuals : ℕ → List Actual) (w : World) → AreUnits types units k actuals w
    → option_map (entity_of k) x ≡ part_of_generic n (actuals n) name (environment.interface_of w g)

abbrev pub IsSeenPart : TypeTables → ℕ → (own through : Option Entity) → Type 0
IsSeenPart types n own through =
    (k : Tables) → k.types ≡ types → option_map (entity_of k) through ≡ option_map (seen n (actuals_of types n)) (option_map (entity_of k) own)

-- a part of a generic's text, seen through an instance
abbrev pub IsPartOfText : TypeTables → ℕ → (formals declarations : List (List ℕ × Entity)) → List ℕ → Option Entity → Type 0
IsPartOfText types n formals declarations name x =
    (k : Tables) → k.types ≡ types
    → option_map (entity_of k) x ≡ option_map (seen n (actuals_of types n))
    (unless_formal (region_of k formals) name (rules.shown (rules.entity_of name (region_of k declarations))))

abbrev pub IsPartOfInstance : TypeTables → List Interface → (generic : Option ℕ) → (instance : ℕ) → List ℕ → Option Entity → Type 0
IsPartOfInstance types units g n name x =
    (k : Tables) (actuals : ℕ → List Actual) (w : World) → AreUnits types units k actuals w
    → option_map (entity_of k) x ≡ part_of_interface w name (instance_interface g n (actuals n))

-- the same of an interface that is at hand
abbrev pub IsPartIn : TypeTables → List Interface → Interface → List ℕ → Option Entity → Type 0
IsPartIn types units i name x =
    (k : Tables) (actuals : ℕ → List Actual) (w : World) → AreUnits types units k actuals w
    → option_map (entity_of k) x ≡ part_of_interface w name (interface_of k actuals i)

abbrev pub IsPartThrough : TypeTables → ℕ → Interface → List ℕ → Option Entity → Type 0
IsPartThrough types n i name x =
    (k : Tables) (actuals : ℕ → List Actual) → k.types ≡ types → GiveSame (actuals n) (actuals_of types n)
    → option_map (entity_of k) x ≡ part_of_generic n (actuals n) name (interface_of k actuals i)

abbrev pub IsEntityOf : ℕ → Interface → Entity → Type 0
IsEntityOf n i x = (k : Tables) (actuals : ℕ → List Actual) → entity_of k x ≡ entity_of_interface n (interface_of k actuals i)
