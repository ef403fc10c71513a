-- What the code's demands are of the rules' definitions.
use Rattle.std.specs.Prelude.{Bool, true, false, map}
use Rattle.ada_tree.specs.View.{choice_of, scalar_range_of, static_value_of}
use Rattle.ada_rules.specs.Statics as rules
use Rattle.ada_rules.specs.Statics.{lies_in, chosen_in, in_order, covers, asked, instantiated}
use Rattle.ada_judged.specs.ada_entities.specs.EntityViews.{Tables, values_of}
use Rattle.ada_demands.specs.declared.demand.Others.{Others}
use Rattle.ada_demands.specs.declared.demand.Others.TheVariants as others
use Rattle.ada_demands.specs.declared.demand.Test.{Test}
use Rattle.ada_demands.specs.declared.demand.Test.TheVariants as test
use Rattle.ada_demands.specs.declared.demand.Demand.{Demand}
use Rattle.ada_demands.specs.declared.demand.Asked.{Asked}
use Rattle.ada_demands.specs.declared.demand.Asked.TheVariants as ask

abbrev pub is_present : Others → Bool
is_present others.Present = true
is_present others.Absent = false

-- where the numbers of listed values lead to these
abbrev pub test_of : Tables → Test → rules.Test
test_of k (test.Lies e r) = lies_in (record { value = e; range = scalar_range_of r })
test_of k (test.Chosen e v) = chosen_in e (values_of k v)
test_of k (test.Ordered a b) = in_order (static_value_of a) (static_value_of b)
test_of k (test.Covers v o cs) = covers (values_of k v) (is_present o) (map choice_of cs)

abbrev pub demand_of : Tables → Demand → rules.Demand
demand_of k d = record { place = d.pos; generic = d.generic; test = test_of k d.test }

abbrev pub asked_of : Tables → Asked → rules.Asked
asked_of k (ask.Demand d) = asked (demand_of k d)
asked_of k (ask.Instantiated m) = instantiated m.generic m.instance
