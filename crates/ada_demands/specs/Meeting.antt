-- Whether demands are met, where the table of listed values begins with what it has so far.
use Rattle.std.specs.Prelude.{◌≡◌, ℕ, Bool, List, [], ◌∷◌, map, Option, None}
use Rattle.std.specs.Borrow.{Bor}
use Rattle.std.specs.List.{list_all}
use Rattle.std.specs.Option.{option_or}
use Rattle.cov_base.specs.declared.position.Pos.{Pos}
use Rattle.ada_rules.specs.Statics as rules
use Rattle.ada_rules.specs.Statics.{Facts, holds, failing}
use Rattle.ada_judged.specs.ada_entities.specs.EntityViews.{Tables}
use Rattle.ada_demands.specs.declared.demand.Test.{Test}
use Rattle.ada_demands.specs.declared.demand.Demand.{Demand}
use Rattle.ada_demands.specs.DemandViews.{test_of, demand_of}
use Rattle.ada_demands.specs.declared.spans.ListedSpans.{ListedSpans}
use Rattle.ada_demands.specs.SpanViews.{Begins}

abbrev pub Holds : List Facts → List ListedSpans → ℕ → Test → Bool → Type 0
Holds instances spans n test b = (k : Tables) → Begins spans k → b ≡ holds instances n (test_of k test)

abbrev pub AllHold : List Facts → List ListedSpans → List ℕ → Test → Bool → Type 0
AllHold instances spans places test b =
    (k : Tables) → Begins spans k → b ≡ list_all (λ n. holds instances n (test_of k test)) places

-- where the first of these demands is made that fails in an instance
abbrev pub failing_of : List Facts → ℕ → List rules.Demand → Option Pos
failing_of instances n [] = None
failing_of instances n (d ∷ ds) = option_or (failing instances (n ∷ []) d) (failing_of instances n ds)

-- those that are lent
abbrev pub lent : List (Bor Demand) → List Demand
lent ds = map (λ d. d.now) ds

abbrev pub IsUnmetOf : List Facts → List ListedSpans → ℕ → List (Bor Demand) → Option Pos → Type 0
IsUnmetOf instances spans n demands o =
    (k : Tables) → Begins spans k → o ≡ failing_of instances n (map (demand_of k) (lent demands))
