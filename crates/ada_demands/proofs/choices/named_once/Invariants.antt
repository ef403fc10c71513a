-- What is left, behind the values that were named so far, is right if the whole is.
use Rattle.std.proofs.Common.{◌≡◌, List, map, drop}
use Rattle.ada_tree.specs.Programs.{bounds_of}
use Rattle.ada_rules.specs.Statics.{Facts, named_once}
use Rattle.ada_demands.specs.DemandViews.{is_present}
use Rattle.ada_demands.proofs.choices.named_once.Given as goal

abbrev pub invariant-loop-range : goal.invariant-loop-range
invariant-loop-range l =
    (instances : List Facts) → named_once instances (is_present l.others) l.next l.values.last (map bounds_of (drop l.range-index l.named))
    ≡ named_once instances (is_present l.others) l.values.first l.values.last (map bounds_of l.named)
