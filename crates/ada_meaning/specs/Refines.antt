-- What more fuel changes: an execution that ended stays the same, and one that was cut off goes on.
use Rattle.std.specs.Prelude.{◌≡◌, ◌≤◌, ℤ, List, ◌++◌}
use Rattle.cov_base.specs.declared.event.Event.{Event}
use Rattle.ada_meaning.specs.State.{Seen, Outcome, Gives, Raises, OutOfFuel, world_of}

-- later goes on from sooner: its events, its output and its cost are those, and maybe more
pub record Extends (sooner later : Seen) : Type 0 where
  pub more_events : List Event
  pub more_output : List ℤ
  pub events : later.events ≡ more_events ++ sooner.events
  pub output : later.output ≡ more_output ++ sooner.output
  pub cost : sooner.cost ≤ later.cost

-- o with more fuel may be this: the same outcome, or, where o was cut off, one that goes on from what was observed
abbrev pub Refines : {A : Type 0} → Outcome A → Outcome A → Type 0
Refines (Gives a w) more = more ≡ Gives a w
Refines (Raises e w) more = more ≡ Raises e w
Refines (OutOfFuel w) more = Extends w.seen (world_of more).seen
