-- What stands between units, of the rules' definitions.
use Rattle.std.specs.Prelude.{◌≡◌, ℕ, List}
use Rattle.ada_rules.specs.Environment.{World}
use Rattle.ada_rules.specs.Statics.{Facts}
use Rattle.ada_rules.specs.Units.{with_interface}
use Rattle.ada_entities.specs.declared.entity.Entity.{Entity}
use Rattle.ada_entities.specs.declared.units.Interface.{Interface}
use Rattle.ada_entities.specs.EntityViews.{Tables, entity_of}
use Rattle.ada_entities.specs.UnitViews.{interface_of}
use Rattle.ada_library.specs.declared.library.Library.{Library}
use Rattle.ada_demands.specs.SpanViews as spans
use Rattle.ada_demands.specs.SpanViews.{listed}
use Rattle.program_walk.specs.declared.extent.Extent.{Extent}
use Rattle.program_walk.specs.Alike.{AreAllAlike}
use Rattle.program_walk.specs.Sites.{HoldsUnits}
use Rattle.program_walk.specs.declared.walk.Walk.{Walk}
use Rattle.program_walk.specs.Walks.{Begins, HasLibrary}

-- a world that has what the walk keeps, with this library and these instances
pub record StandsBefore (x : Library) (facts : List Facts) (w : Walk) (k : Tables) (world : World) : Type 0 where
  pub units : HoldsUnits w.symbols k world
  pub spans : spans.Begins (listed w.spans) k
  pub instances : world.instances ≡ facts
  pub library : HasLibrary x world

-- the same in all tables that are alike up to here
abbrev pub IsKnownEntity : Extent → Entity → Type 0
IsKnownEntity e x = (k l : Tables) → AreAllAlike e k l → entity_of k x ≡ entity_of l x

-- a world that stood before stands now
abbrev pub Follows : (old new : Walk) → Type 0
Follows old new =
    (x : Library) (facts : List Facts) (k : Tables) (world : World) → StandsBefore x facts old k world
    → Begins new k → StandsBefore x facts new k world

-- with this for the unit with a number
abbrev pub FollowsShown : (old new : Walk) → ℕ → Interface → Type 0
FollowsShown old new n i =
    (x : Library) (facts : List Facts) (k : Tables) (world : World) → (b : StandsBefore x facts old k world)
    → Begins new k → StandsBefore x facts new k (with_interface world n (interface_of k b.units.actuals i))
