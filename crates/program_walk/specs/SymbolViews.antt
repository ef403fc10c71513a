-- What a symbol table keeps, and the tables that begin with it.
use Rattle.std.specs.Prelude.{◌≡◌, ℕ, ◌≤◌, true, List, ◌++◌, length, map}
use Rattle.ada_entities.specs.declared.routines.Routine.{Routine}
use Rattle.ada_entities.specs.Views.{TypeTables, is_made, actuals_of}
use Rattle.ada_entities.specs.TypeTable.{tables}
use Rattle.ada_entities.specs.EntityViews.{Tables}
use Rattle.ada_entities.specs.RoutineViews.{routine_in, AreTestIo}
use Rattle.program_walk.specs.declared.symbols.Symbols.{Symbols}
use Rattle.program_walk.specs.Known.{knows_instance}
use Rattle.program_walk.specs.Alike.{AreKnownRegions, AreKnownInterfaces, AreKnownRoutines}

-- a list with others behind it
pub record IsFront {A : Type 0} (front whole : List A) : Type 0 where
  pub behind : List A
  pub joined : whole ≡ front ++ behind

-- instances that were made have the same in these tables
abbrev pub AreMadeAlike : TypeTables → TypeTables → Type 0
AreMadeAlike types k = (i : ℕ) → is_made types.instances i ≡ true → actuals_of types i ≡ actuals_of k i

-- tables that have these types, instances and subprograms, and others
pub record HasFront (types : TypeTables) (routines : List Routine) (k : Tables) : Type 0 where
  pub shapes : IsFront types.shapes k.types.shapes
  pub instances : AreMadeAlike types k.types
  pub subprograms : IsFront (map (routine_in k) routines) k.routines

abbrev pub Begins : Symbols → Tables → Type 0
Begins symbols k = HasFront (tables symbols.types) symbols.routines k

-- the numbers in a symbol table lead to what is there
pub record IsKnown (symbols : Symbols) : Type 0 where
  pub types : symbols.extent.types ≡ length (tables symbols.types).shapes
  pub instances : (i : ℕ) → knows_instance symbols.extent i ≡ is_made (tables symbols.types).instances i
  pub routines : symbols.extent.routines ≤ length symbols.routines
  pub subprograms : AreKnownRoutines symbols.extent symbols.routines
  pub test_io : AreTestIo symbols.routines
  pub regions : AreKnownRegions symbols.extent symbols.regions
  pub interfaces : AreKnownInterfaces symbols.extent symbols.units
