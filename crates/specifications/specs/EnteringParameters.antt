-- How a walk goes on into a region that opens inside the others, and stays open.
use Rattle.std.specs.Prelude.{◌≡◌, ◌∷◌, Result, Ok, Err}
use Rattle.cov_base.specs.declared.failure.Failure.{Failure}
use Rattle.ada_rules.specs.Subprograms as rules
use Rattle.ada_entities.specs.declared.fault.Refusal.{Refusal}
use Rattle.ada_entities.specs.EntityViews.{Tables}
use Rattle.ada_entities.specs.RegionCode.{innermost}
use Rattle.program_walk.specs.Changes.{Becomes}
use Rattle.specifications.specs.declared.conformance.Profile.{Profile}
use Rattle.specifications.specs.Profiles.{profile_of}
use Rattle.program_walk.specs.declared.walk.Walk.{Walk}
use Rattle.program_walk.specs.Going.{region_in, Stays}

-- a profile whose parameters the innermost region of the walk declares
abbrev pub profile_in : Walk → Tables → Profile → rules.Profile
profile_in w k q = profile_of k (region_in k w) q

-- a region has opened inside those of before, and what was declared stays
pub record Enters (old new : Walk) : Type 0 where
  pub symbols : Becomes old.symbols new.symbols (innermost new.symbols.regions ∷ old.symbols.regions) old.symbols.units
  pub spans : new.spans ≡ old.spans

abbrev pub EntersOn : {A : Type 0} → (old new : Walk) → Result A (Failure Refusal) → Type 0
EntersOn old new (Ok x) = Enters old new
EntersOn old new (Err f) = Stays old new f
