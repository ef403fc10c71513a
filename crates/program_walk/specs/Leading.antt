-- How places and worlds follow a symbol table that changes.
use Rattle.std.specs.Prelude.{◌≡◌, ℕ, List, Option, None, Some}
use Rattle.ada_rules.specs.Entities.{Actual}
use Rattle.ada_rules.specs.Environment.{World, instance_interface, Env, entity_of_unit}
use Rattle.ada_rules.specs.Units.{env_of, in_package, with_interface}
use Rattle.ada_entities.specs.declared.entity.Entity.{Entity}
use Rattle.ada_entities.specs.declared.units.Interface.{Interface}
use Rattle.ada_entities.specs.Views.{actuals_of}
use Rattle.ada_entities.specs.EntityViews.{Tables, entity_of, region_of}
use Rattle.ada_entities.specs.UnitViews.{GiveSame, interface_of}
use Rattle.ada_phrases.specs.declared.scope.Step.{Step}
use Rattle.ada_phrases.specs.Scopes.{step_of}
use Rattle.program_walk.specs.declared.symbols.Symbols.{Symbols}
use Rattle.program_walk.specs.SymbolViews.{Begins}
use Rattle.program_walk.specs.Sites.{HoldsUnits, Holds}

-- what stood in an environment stands in this one
abbrev pub Leads : (old new : Symbols) → (Tables → Env → Env) → Type 0
Leads old new f =
    (now : Step) (own : Option ℕ) (k : Tables) (env : Env) → Holds now own old k env → Begins new k
    → Holds now own new k (f k env)

-- another unit is seen
abbrev pub Shows : (old new : Symbols) → ℕ → Interface → Type 0
Shows old new n i =
    (k : Tables) (w : World) → (held : HoldsUnits old k w) → Begins new k
    → HoldsUnits new k (with_interface w n (interface_of k held.actuals i))

-- an instance is seen, which was not there before, with these actuals
abbrev pub ShowsInstance : (old new : Symbols) → ℕ → Option ℕ → ℕ → Type 0
ShowsInstance old new n g j =
    (k : Tables) (w : World) (xs : List Actual) → HoldsUnits old k w → Begins new k
    → GiveSame xs (actuals_of k.types j) → HoldsUnits new k (with_interface w n (instance_interface g j xs))

-- where a unit is looked at that sees this of the library, and where the text of a package is
abbrev pub StandsInUnit : Symbols → (seen : List (List ℕ × Entity)) → Type 0
StandsInUnit symbols seen =
    (now : Step) (k : Tables) (w : World) (n : ℕ) (name : List ℕ) → HoldsUnits symbols k w
    → Holds now None symbols k (env_of (step_of now) w n name (region_of k seen))

abbrev pub StandsInPackage : Symbols → (text seen : List (List ℕ × Entity)) → Type 0
StandsInPackage symbols text seen =
    (now : Step) (k : Tables) (w : World) (n : ℕ) (name : List ℕ) (g : Option ℕ) (own : ℕ) → HoldsUnits symbols k w
    → Holds now (Some own) symbols k
    (in_package (env_of (step_of now) w n name (region_of k seen)) g own (region_of k text))

-- what a unit is named as by others
abbrev pub IsUnitEntity : Symbols → ℕ → Entity → Type 0
IsUnitEntity symbols n x = (k : Tables) (w : World) → HoldsUnits symbols k w → entity_of k x ≡ entity_of_unit w n
