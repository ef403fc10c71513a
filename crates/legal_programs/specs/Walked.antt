-- What the walks of a legal program come to.
use Rattle.std.specs.Prelude.{◌≡◌, ℕ, true, List, reverse, None, Ok}
use Rattle.ada_meaning.specs.Program.{Program}
use Rattle.ada_rules.specs.Environment.{Step, typing, beginning_state}
use Rattle.ada_rules.specs.Legal.{program_of}
use Rattle.ada_rules.specs.Library.{Library}
use Rattle.ada_rules.specs.Limits.{first_excess}
use Rattle.ada_rules.specs.Statics.{first_unmet}
use Rattle.ada_rules.specs.Units.{Walked, all_headings, all_interfaces, all_bodies_judged, world_before, has_main, resolved}

-- all passes in a step: headings, what other units see of units, bodies; and there is a main unit
pub record IsWalked (step : Step) (l : Library) (main : List ℕ) (x : Walked) : Type 0 where
  pub headings : (all_headings l 0 l.units).answer ≡ Ok tt
  pub seen : Walked
  pub interfaces :
      (all_interfaces step l (record { world = world_before l; next = beginning_state }) l.order).answer ≡ Ok seen
  pub bodies : (all_bodies_judged step l seen.world seen.next 0 l.units).answer ≡ Ok x.next
  pub main_unit : has_main main l.units ≡ true
  pub world : x.world ≡ resolved seen.world x.next

-- a legal program: the walk in the step of types passes, each demand is met, and no limit is passed
pub record IsLegal (l : Library) (main : List ℕ) (p : Program) : Type 0 where
  pub walked : Walked
  pub walk : IsWalked typing l main walked
  pub met : first_unmet walked.world.instances (reverse walked.next.demands) ≡ None
  pub limited : first_excess walked.world walked.next l.units ≡ None
  pub made : p ≡ program_of walked.world walked.next main
