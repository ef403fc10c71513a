-- Where the walk over all units begins, and what it leaves at its end.
use Rattle.std.specs.Prelude.{◌≡◌, ℕ, List, map, Result, Ok, Err}
use Rattle.cov_base.specs.declared.failure.Failure.{Failure}
use Rattle.cov_base.specs.declared.failure.Failure.TheVariants.{WantOfMemory}
use Rattle.ada_rules.specs.Statics.{Facts}
use Rattle.ada_rules.specs.Units.{all_with_constants}
use Rattle.ada_tree.specs.Programs.{constant_of}
use Rattle.ada_entities.specs.declared.fault.Refusal.{Refusal}
use Rattle.typed_program.specs.program_walk.specs.Walks.{IsBeginning}
use Rattle.walked_program.specs.declared.whole_walk.WholeWalk.{WholeWalk}

-- Nothing was looked at of so many units, and instances have this.
pub record BeginsWith (before : List Facts) (units : ℕ) (w : WholeWalk) : Type 0 where
  pub walk : IsBeginning units w.walk
  pub instances : w.instances ≡ before

-- The walk is the same, and its instances have all constants.
pub record IsEnded (old new : WholeWalk) : Type 0 where
  pub walk : new.walk ≡ old.walk
  pub instances : new.instances
      ≡ all_with_constants old.instances (map constant_of old.walk.notes.statics.constants) 1 old.instances

-- It ends so where it passed all units, and is refused as it was, or for want of memory.
abbrev pub EndsWith : WholeWalk → Result (Unit {0}) (Failure Refusal) → Result WholeWalk (Failure Refusal) → Type 0
EndsWith old (Ok u) (Ok new) = IsEnded old new
EndsWith old (Ok u) (Err f) = f ≡ WantOfMemory
EndsWith old (Err f) (Ok new) = ⊥
EndsWith old (Err f) (Err g) = g ≡ f
