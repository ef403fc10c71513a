-- What was asked so far of a generic.
use Rattle.std.specs.Prelude.{ℕ, nat_eq, List, [], ◌∷◌, ◌++◌, map, slice_index_or, Option, Some, None, if◌then◌else◌}
use Rattle.std.specs.Borrow.{Bor}
use Rattle.cov_base.specs.declared.position.Pos.{Pos}
use Rattle.ada_rules.specs.Statics.{Facts, failing, stands_in}
use Rattle.ada_judged.specs.ada_entities.specs.EntityViews.{Tables}
use Rattle.ada_demands.specs.declared.demand.Demand.{Demand}
use Rattle.ada_demands.specs.declared.demand.Asked.{Asked}
use Rattle.ada_demands.specs.declared.demand.Asked.TheVariants as ask
use Rattle.ada_demands.specs.declared.history.Group.{Group}
use Rattle.ada_demands.specs.declared.history.History.{History}
use Rattle.ada_demands.specs.DemandViews.{demand_of}
use Rattle.ada_demands.specs.Meeting.{lent, failing_of}

-- the demands of its text, and its instances, in the order in which they came
pub record Past : Type 0 where
  pub demands : List Demand
  pub instances : List ℕ

abbrev pub nothing : Past
nothing = record { demands = []; instances = [] }

abbrev pub past_of : Group → Past
past_of g = record { demands = lent g.demands.items; instances = g.instances.items }

abbrev pub past_at : History → ℕ → Past
past_at h g = slice_index_or (map past_of h.groups.items) g nothing

-- where there may be none
abbrev pub past_from : Option (Bor Group) → Past
past_from None = nothing
past_from (Some g) = past_of g.now

abbrev pub with_demand : Demand → Past → Past
with_demand d p = record p { demands = p.demands ++ d ∷ [] }

abbrev pub with_instance : ℕ → Past → Past
with_instance n p = record p { instances = p.instances ++ n ∷ [] }

-- what was asked of the generic with this number, behind one more
abbrev pub past_behind : Asked → ℕ → Past → Past
past_behind (ask.Demand d) g p = if stands_in (Some g) d.generic then with_demand d p else p
past_behind (ask.Instantiated m) g p = if nat_eq m.generic g then with_instance m.instance p else p

-- the instances so far in which a demand of a generic's text is asked
abbrev pub asked_in : (ℕ → Past) → Option ℕ → List ℕ
asked_in past None = 0 ∷ []
asked_in past (Some g) = (past g).instances

-- where what comes next is not met
abbrev pub unmet_next : List Facts → Tables → (ℕ → Past) → Asked → Option Pos
unmet_next instances k past (ask.Demand d) = failing instances (asked_in past d.generic) (demand_of k d)
unmet_next instances k past (ask.Instantiated m) =
    failing_of instances m.instance (map (demand_of k) (past m.generic).demands)
