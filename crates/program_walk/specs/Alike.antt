-- Tables that have the same under the numbers of what is there, and what is the same in each of them.
use Rattle.std.specs.Prelude.{◌≡◌, ℕ, ◌<◌, true, List, map, slice_get}
use Rattle.ada_rules.specs.Entities.{Actual}
use Rattle.ada_entities.specs.declared.entity.Entity.{Entity}
use Rattle.ada_entities.specs.declared.routines.Routine.{Routine}
use Rattle.ada_entities.specs.declared.units.Interface.{Interface}
use Rattle.ada_entities.specs.Views.{actuals_of, shape_at}
use Rattle.ada_entities.specs.EntityViews.{Tables, region_of}
use Rattle.ada_entities.specs.RegionCode.{regions_of}
use Rattle.ada_entities.specs.RoutineViews.{routine_in}
use Rattle.ada_entities.specs.UnitViews.{interface_of}
use Rattle.program_walk.specs.declared.extent.Extent.{Extent}
use Rattle.program_walk.specs.Known.{knows_instance}

pub record AreAlike (e : Extent) (k l : Tables) : Type 0 where
  pub shapes : (j : ℕ) → j < e.types → shape_at k.types j ≡ shape_at l.types j
  pub instances : (i : ℕ) → knows_instance e i ≡ true → actuals_of k.types i ≡ actuals_of l.types i
  pub spans : k.spans ≡ l.spans

-- in their subprograms too
pub record AreAllAlike (e : Extent) (k l : Tables) : Type 0 where
  pub typed : AreAlike e k l
  pub routines : (j : ℕ) → j < e.routines → slice_get k.routines j ≡ slice_get l.routines j

-- instances that have the same
abbrev pub GiveAlike : Extent → (actuals others : ℕ → List Actual) → Type 0
GiveAlike e actuals others = (n : ℕ) → knows_instance e n ≡ true → actuals n ≡ others n

-- what leads only to what is there
abbrev pub IsKnownRegion : Extent → List (List ℕ × Entity) → Type 0
IsKnownRegion e r = (k l : Tables) → AreAllAlike e k l → region_of k r ≡ region_of l r

abbrev pub AreKnownRegions : Extent → List (List (List ℕ × Entity)) → Type 0
AreKnownRegions e rs = (k l : Tables) → AreAllAlike e k l → regions_of k rs ≡ regions_of l rs

abbrev pub IsKnownInterface : Extent → Interface → Type 0
IsKnownInterface e i =
    (k l : Tables) (actuals others : ℕ → List Actual) → AreAllAlike e k l → GiveAlike e actuals others
    → interface_of k actuals i ≡ interface_of l others i

abbrev pub AreKnownInterfaces : Extent → List Interface → Type 0
AreKnownInterfaces e is =
    (k l : Tables) (actuals others : ℕ → List Actual) → AreAllAlike e k l → GiveAlike e actuals others
    → map (interface_of k actuals) is ≡ map (interface_of l others) is

abbrev pub AreKnownRoutines : Extent → List Routine → Type 0
AreKnownRoutines e rs =
    (k l : Tables) → AreAlike e k l → (j : ℕ) → j < e.routines
    → slice_get (map (routine_in k) rs) j ≡ slice_get (map (routine_in l) rs) j
