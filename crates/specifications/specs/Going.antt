-- How a walk goes on over bodies: the innermost region changes, and what was there stays.
use Rattle.std.specs.Prelude.{◌∷◌, Result, Ok, Err}
use Rattle.cov_base.specs.declared.failure.Failure.{Failure}
use Rattle.ada_entities.specs.declared.fault.Refusal.{Refusal}
use Rattle.ada_entities.specs.RegionCode.{innermost, enclosing}
use Rattle.program_walk.specs.SymbolViews.{IsKnown}
use Rattle.program_walk.specs.Changes.{Becomes, ChangesInside}
use Rattle.program_walk.specs.declared.walk.Walk.{Walk}
use Rattle.program_walk.specs.Walks.{Continues}
use Rattle.program_walk.specs.Going.{IsWalkOpen, Stays}

-- a walk in which a region is open, and whose numbers lead to what is there
pub record IsSound (w : Walk) : Type 0 where
  pub known : IsKnown w.symbols
  pub open_now : IsWalkOpen w

-- the innermost region changes, and what was declared stays, with the values that were listed
pub record Advances (old new : Walk) : Type 0 where
  pub symbols : ChangesInside old.symbols new.symbols
  pub continues : Continues old new

abbrev pub AdvancesOn : {A : Type 0} → (old new : Walk) → Result A (Failure Refusal) → Type 0
AdvancesOn old new (Ok x) = Advances old new
AdvancesOn old new (Err f) = Stays old new f

-- the innermost region changes, and a region opens inside it
pub record GoesInto (old new : Walk) : Type 0 where
  pub symbols : Becomes old.symbols new.symbols
      (innermost new.symbols.regions ∷ innermost (enclosing new.symbols.regions) ∷ enclosing old.symbols.regions)
      old.symbols.units
  pub continues : Continues old new

abbrev pub GoesIntoOn : {A : Type 0} → (old new : Walk) → Result A (Failure Refusal) → Type 0
GoesIntoOn old new (Ok x) = GoesInto old new
GoesIntoOn old new (Err f) = Stays old new f
