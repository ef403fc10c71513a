-- What is left of the `others` stands round the component so far.
use Rattle.std.proofs.Common.{◌≡◌, drop, option_map}
use Rattle.ada_tree.specs.View.{others_of}
use Rattle.ada_rules.specs.Denoted as rules
use Rattle.ada_rules.specs.Declarations.{value_for}
use Rattle.ada_entities.specs.Views.{subtype_of}
use Rattle.ada_entities.specs.EntityViews.{Tables}
use Rattle.program_walk.specs.SymbolViews.{Begins, IsKnown}
use Rattle.object_values.proofs.reach.reached.Given as goal

abbrev pub invariant-loop : goal.invariant-loop
invariant-loop l =
    IsKnown l.fn.symbols → (k : Tables) → Begins l.fn.symbols k → (e : rules.Judged)
    → value_for (subtype_of k.types l.fn.subtype) l.fn.others e
    ≡ option_map (others_of l.indices.items) (value_for (subtype_of k.types l.component) (drop l.index l.fn.others) e)
