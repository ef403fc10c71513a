-- Where demands are not met, where the table of listed values begins with what it has so far.
use Rattle.std.specs.Prelude.{◌≡◌, ℕ, List, map, Option}
use Rattle.cov_base.specs.declared.position.Pos.{Pos}
use Rattle.ada_rules.specs.Statics.{Facts, failing, first_unmet}
use Rattle.ada_judged.specs.ada_entities.specs.EntityViews.{Tables}
use Rattle.ada_demands.specs.declared.demand.Demand.{Demand}
use Rattle.ada_demands.specs.declared.demand.Asked.{Asked}
use Rattle.ada_demands.specs.DemandViews.{demand_of, asked_of}
use Rattle.ada_demands.specs.Past.{Past, unmet_next}
use Rattle.ada_demands.specs.declared.spans.ListedSpans.{ListedSpans}
use Rattle.ada_demands.specs.SpanViews.{Begins}

abbrev pub IsUnmet : List Facts → List ListedSpans → List ℕ → Demand → Option Pos → Type 0
IsUnmet instances spans places d o = (k : Tables) → Begins spans k → o ≡ failing instances places (demand_of k d)

abbrev pub IsUnmetNext : List Facts → List ListedSpans → (ℕ → Past) → Asked → Option Pos → Type 0
IsUnmetNext instances spans past next o = (k : Tables) → Begins spans k → o ≡ unmet_next instances k past next

abbrev pub IsFirstUnmet : List Facts → List ListedSpans → List Asked → Option Pos → Type 0
IsFirstUnmet instances spans all o =
    (k : Tables) → Begins spans k → o ≡ first_unmet instances (map (asked_of k) all)
