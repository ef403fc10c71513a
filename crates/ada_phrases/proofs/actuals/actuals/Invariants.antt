-- The actuals so far, with those of what is left, are all.
use Rattle.std.proofs.Common.{◌≡◌, drop, map, option_map}
use Rattle.ada_tree.specs.View.{owner_of}
use Rattle.ada_rules.specs.Denoted.{actuals_for}
use Rattle.ada_entities.specs.EntityViews.{Tables}
use Rattle.ada_entities.specs.TypeTable.{tables}
use Rattle.ada_judged.specs.JudgedView.{judged_of}
use Rattle.ada_phrases.specs.Actuals.{with_actuals, left_of, parameter_as}
use Rattle.ada_phrases.proofs.actuals.actuals.Given as goal

abbrev pub invariant-loop-parameter : goal.invariant-loop-parameter
invariant-loop-parameter l =
    (k : Tables) → k.types ≡ tables l.types
    → actuals_for (map (parameter_as k (owner_of l.fn.seen)) l.parameters) (map (judged_of k) l.fn.values.items)
    ≡ option_map (with_actuals l.actuals.items)
    (actuals_for (map (parameter_as k (owner_of l.fn.seen)) (drop l.parameter-index l.parameters)) (left_of k l.values.items))
