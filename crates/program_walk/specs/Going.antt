-- How a walk goes on over declarations: the innermost region changes, and what was there stays.
use Rattle.std.specs.Prelude.{◌≡◌, Result, Ok, Err}
use Rattle.cov_base.specs.declared.failure.Failure.{Failure}
use Rattle.cov_base.specs.declared.failure.Failure.TheVariants.{Fault, WantOfMemory}
use Rattle.ada_entities.specs.declared.fault.Refusal.{Refusal}
use Rattle.ada_entities.specs.EntityViews.{Tables, region_of}
use Rattle.ada_entities.specs.RegionCode.{innermost}
use Rattle.ada_rules.specs.Entities.{Region}
use Rattle.program_walk.specs.Changes.{IsOpen, Becomes, ChangesInside}
use Rattle.program_walk.specs.declared.walk.Walk.{Walk}
use Rattle.program_walk.specs.Walks.{Continues}

-- the innermost region of the walk, as the rules have it
abbrev pub region_in : Tables → Walk → Region
region_in k w = region_of k (innermost w.symbols.regions)

-- the innermost region changes, and what was declared stays
pub record GoesInside (old new : Walk) : Type 0 where
  pub symbols : ChangesInside old.symbols new.symbols
  pub spans : new.spans ≡ old.spans

-- the regions are as they were, and there may be more types
pub record Keeps (old new : Walk) : Type 0 where
  pub symbols : Becomes old.symbols new.symbols old.symbols.regions old.symbols.units
  pub spans : new.spans ≡ old.spans

-- Where a declaration is refused, all that was declared before it is there still. Of want of memory nothing is said.
abbrev pub Stays : (old new : Walk) → Failure Refusal → Type 0
Stays old new (Fault f) = Continues old new
Stays old new WantOfMemory = Unit {0}

abbrev pub GoesOn : {A : Type 0} → (old new : Walk) → Result A (Failure Refusal) → Type 0
GoesOn old new (Ok x) = GoesInside old new
GoesOn old new (Err f) = Stays old new f

abbrev pub KeepsOn : {A : Type 0} → (old new : Walk) → Result A (Failure Refusal) → Type 0
KeepsOn old new (Ok x) = Keeps old new
KeepsOn old new (Err f) = Stays old new f

abbrev pub IsWalkOpen : Walk → Type 0
IsWalkOpen w = IsOpen w.symbols
