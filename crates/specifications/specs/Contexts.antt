-- Where the declarations and the statements of a body stand.
use Rattle.std.specs.Prelude.{◌≡◌, ℕ, false, List}
use Rattle.ada_rules.specs.Statics.{Facts}
use Rattle.ada_library.specs.declared.library.Library.{Library}
use Rattle.program_walk.specs.declared.context.Context.{Context}
use Rattle.program_walk.specs.declared.context.Level.TheVariants as level
use Rattle.program_walk.specs.declared.context.Returning.{Returning}

-- Inside the body of a subprogram with this name, whose `return` gives this, where these are the library, what
-- instances have, and the name of the unit.
pub record IsInBody (c : Context) (x : Library) (facts : List Facts) (own : List ℕ) (name : List ℕ) (r : Returning)
    (d : Context) : Type 0 where
  pub step : d.step ≡ c.step
  pub library : d.library.now ≡ x
  pub instances : d.instances.now ≡ facts
  pub unit : d.unit ≡ c.unit
  pub unit_name : d.unit_name.now ≡ own
  pub subprogram_name : d.subprogram_name.now ≡ name
  pub generic : d.generic ≡ c.generic
  pub own_package : d.own_package ≡ c.own_package
  pub level : d.level ≡ level.Inside
  pub looping : d.is_looping ≡ false
  pub handling : d.is_handling ≡ false
  pub returning : d.returning ≡ r

-- where they are those of before
abbrev pub IsBodyContext : Context → List ℕ → Returning → Context → Type 0
IsBodyContext c name r d = IsInBody c c.library.now c.instances.now c.unit_name.now name r d
