-- What was named, and what the choices that are left name, is what all name.
use Rattle.std.proofs.Common.{◌≡◌, ◌++◌, map, drop}
use Rattle.ada_tree.specs.Programs.{bounds_of}
use Rattle.ada_tree.specs.View.{choice_of}
use Rattle.ada_rules.specs.Statics.{all_named}
use Rattle.ada_demands.proofs.facts.Instances.all_named.Given as goal

abbrev pub invariant-loop-choice : goal.invariant-loop-choice
invariant-loop-choice l =
    map bounds_of l.all.items ++ all_named l.self l.instance (map choice_of (drop l.choice-index l.choices))
    ≡ all_named l.self l.instance (map choice_of l.choices)
