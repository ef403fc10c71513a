-- How a symbol table changes: what comes behind, and what opens, closes and changes inside.
use Rattle.std.specs.Prelude.{◌≡◌, ℕ, ◌<◌, false, List, [], ◌∷◌, length, map, replicate, set, Some, Option, option_map, slice_get, IfSome, Result, Ok, Err}
use Rattle.std.specs.Borrow.{Bor}
use Rattle.cov_base.specs.declared.failure.Failure.{Failure}
use Rattle.cov_base.specs.declared.failure.Failure.TheVariants.{Fault, WantOfMemory}
use Rattle.cov_base.specs.declared.position.Pos.{Pos}
use Rattle.ada_syntax.specs.declared.name.Identifier.{Identifier}
use Rattle.ada_rules.specs.Environment.{hide_all}
use Rattle.ada_rules.specs.Entities as rules
use Rattle.ada_entities.specs.declared.composite.Definition.{Definition}
use Rattle.ada_entities.specs.declared.entity.Entity.{Entity}
use Rattle.ada_entities.specs.declared.fault.Refusal.{Refusal}
use Rattle.ada_entities.specs.declared.routines.Routine.{Routine}
use Rattle.ada_entities.specs.Answers.{Refuses}
use Rattle.ada_entities.specs.declared.types.ScalarType.{ScalarType}
use Rattle.ada_entities.specs.declared.units.Interface.{Interface}
use Rattle.ada_entities.specs.declared.units.Interface.TheVariants as interface
use Rattle.ada_entities.specs.Views.{actuals_of, shape_at, given_of}
use Rattle.ada_entities.specs.Tables.{shape_of}
use Rattle.ada_entities.specs.EntityViews.{Tables, entity_of, region_of}
use Rattle.ada_entities.specs.RegionCode.{Declares, Redefines, innermost, enclosing, region_at}
use Rattle.ada_entities.specs.RoutineViews.{routine_in}
use Rattle.ada_phrases.specs.Scopes.{text_depth}
use Rattle.program_walk.specs.declared.extent.Extent.{Extent}
use Rattle.program_walk.specs.declared.symbols.Symbols.{Symbols}
use Rattle.program_walk.specs.Known.{knows_instance}
use Rattle.program_walk.specs.Alike.{AreAllAlike, IsKnownRegion}
use Rattle.program_walk.specs.SymbolViews.{Begins, IsKnown}

-- A symbol table that keeps what there was, has these regions and units, and leads where it led: what leads only to what
-- was there does so still.
pub record Becomes (old new : Symbols) (open_now : List (List (List ℕ × Entity))) (seen_now : List Interface) : Type 0 where
  pub known : IsKnown old → IsKnown new
  pub stays : IsKnown old → (k l : Tables) → AreAllAlike new.extent k l → AreAllAlike old.extent k l
  pub begins : (k : Tables) → Begins new k → Begins old k
  pub regions : new.regions ≡ open_now
  pub units : new.units ≡ seen_now

-- what holds behind an answer, of whatever kind but want of memory
abbrev pub UnlessMemory : {A : Type 0} → Type 0 → Result A (Failure Refusal) → Type 0
UnlessMemory P (Ok x) = P
UnlessMemory P (Err (Fault f)) = P
UnlessMemory P (Err WantOfMemory) = Unit {0}

-- tables that begin with what there is now began with what there was
abbrev pub Continues : (old new : Symbols) → Type 0
Continues old new = (k : Tables) → Begins new k → Begins old k

-- more types or subprograms
abbrev pub Grows : (old new : Symbols) → Type 0
Grows old new = Becomes old new old.regions old.units

-- a change of the innermost region
abbrev pub ChangesInside : (old new : Symbols) → Type 0
ChangesInside old new = Becomes old new (innermost new.regions ∷ enclosing old.regions) old.units

-- which declares a name there, or lets it denote something else
abbrev pub DeclaresInside : (old new : Symbols) → Identifier → Entity → Type 0
DeclaresInside old new i x = Declares (innermost old.regions) i x (innermost new.regions)

abbrev pub RedefinesInside : (old new : Symbols) → List ℕ → Entity → Type 0
RedefinesInside old new name x = Redefines (innermost old.regions) name x (innermost new.regions)

-- which hides the names of a list, where a region is open; or refuses one of them
abbrev pub IsOpen : Symbols → Type 0
IsOpen symbols = 0 < length symbols.regions

abbrev pub HidesAll : (old new : Symbols) → List Identifier → Type 0
HidesAll old new is =
    (k : Tables) (p : Pos)
    → (hide_all p (region_of k (innermost old.regions)) is).answer ≡ Ok (region_of k (innermost new.regions))

abbrev pub RefusesNames : Symbols → List Identifier → Failure Refusal → Type 0
RefusesNames symbols is f =
    (k : Tables) (p : Pos) → Refuses (hide_all p (region_of k (innermost symbols.regions)) is).answer f

-- a region that opens inside the others, also one that has declarations already, and the innermost one that closes
abbrev pub Reopens : (old new : Symbols) → List (List ℕ × Entity) → Type 0
Reopens old new r = Becomes old new (r ∷ old.regions) old.units

abbrev pub Opens : (old new : Symbols) → Type 0
Opens old new = Reopens old new []

abbrev pub Closes : (old new : Symbols) → Type 0
Closes old new = Becomes old new (enclosing old.regions) old.units

-- this is seen of the unit with this number
abbrev pub ShowsUnit : (old new : Symbols) → ℕ → Interface → Type 0
ShowsUnit old new n i = Becomes old new old.regions (set old.units n i)

-- before any unit was looked at
pub record IsFresh (count : ℕ) (symbols : Symbols) : Type 0 where
  pub known : IsKnown symbols
  pub regions : symbols.regions ≡ []
  pub units : symbols.units ≡ replicate count interface.Unknown

-- the type with this number has this definition, whatever comes behind
abbrev pub IsTypeOf : (old new : Symbols) → Definition → ℕ → Type 0
IsTypeOf old new d n = IsKnown old → (k : Tables) → Begins new k → shape_at k.types n ≡ shape_of k.types d

-- an instance that was not made before, which has this for the formals of its generic
pub record IsInstance (old new : Symbols) (n : ℕ) (types : List (Option ScalarType)) : Type 0 where
  pub fresh : knows_instance old.extent n ≡ false
  pub given : IsKnown old → (k : Tables) → Begins new k → actuals_of k.types n ≡ map given_of types

abbrev pub IsSubprogram : (new : Symbols) → Routine → ℕ → Type 0
IsSubprogram new r n = (k : Tables) → Begins new k → slice_get k.routines n ≡ Some (routine_in k r)

-- what the text of a package has declared so far under a name
abbrev pub IsInOwnText : Symbols → List ℕ → Option Entity → Type 0
IsInOwnText symbols name x =
    (k : Tables)
    → option_map (entity_of k) x ≡ rules.entity_of name (region_of k (region_at text_depth symbols.regions))

-- the subprogram with this number, where one is answered
abbrev pub IsNumbered : Symbols → ℕ → Option (Bor Routine) → Type 0
IsNumbered symbols n o =
    (k : Tables) → IsKnown symbols → Begins symbols k
    → IfSome o (λ r. slice_get k.routines n ≡ Some (routine_in k r.now))

-- what is seen of a unit leads only to what is there, as far as it has regions
abbrev pub ShowsKnown : Extent → Interface → Type 0
ShowsKnown e (interface.Package r) = IsKnownRegion e r
ShowsKnown e (interface.Generic formals r) = IsKnownRegion e formals × IsKnownRegion e r
ShowsKnown e i = Unit {0}
