-- What a refusal says: where it stands, and what is broken there.
use Rattle.std.specs.Prelude.{◌≡◌, ℕ, false, List, [], ◌∷◌, reverse, Ok}
use Rattle.cov_base.specs.declared.position.Pos.{Pos}
use Rattle.ada_rules.specs.Plan.{Judgement, Offends}
use Rattle.ada_rules.specs.Statics.{Demand, Asked, asked, Facts, holds}
use Rattle.ada_rules.specs.Environment.{Step, naming, typing}
use Rattle.ada_rules.specs.Library.{Library}
use Rattle.ada_rules.specs.Units.{Walked, judged_in}

-- one of these demands is made at this place, and fails in an instance
pub data Fails (instances : List Facts) (p : Pos) : List Demand → Type 0 where
  this_fails : {d : Demand} {ds : List Demand} → (inst : ℕ) → d.place ≡ p
      → holds instances inst d.test ≡ false → Fails instances p (d ∷ ds)
  later_fails : {d : Demand} {ds : List Demand} → Fails instances p ds → Fails instances p (d ∷ ds)

abbrev pub demands_of : List Asked → List Demand
demands_of [] = []
demands_of (asked d ∷ rest) = d ∷ demands_of rest
demands_of (x ∷ rest) = demands_of rest

-- a whole program as it is looked at in a step
abbrev pub looked_at : Step → Library → List ℕ → Judgement Walked
looked_at step l main = judged_in step l main

-- a library breaks a rule on names here: a construct fails its case while its parts pass theirs, and begins here
abbrev pub BreaksNames : Library → List ℕ → Pos → Type 0
BreaksNames l main p = Offends (looked_at naming l main).looked_at p

-- a library breaks a rule on types here: a construct fails its case while its parts pass theirs; or all do, and a
-- demand on static values that is made here fails in some instance
pub data BreaksTypes (l : Library) (main : List ℕ) (p : Pos) : Type 0 where
  by_form : Offends (looked_at typing l main).looked_at p → BreaksTypes l main p
  by_value : (x : Walked) → (looked_at typing l main).answer ≡ Ok x
      → Fails x.world.instances p (demands_of (reverse x.next.demands))
      → BreaksTypes l main p
