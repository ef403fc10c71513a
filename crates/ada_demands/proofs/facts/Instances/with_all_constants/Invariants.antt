-- The instances so far, and those that are left, are the whole.
use Rattle.std.proofs.Common.{◌≡◌, ◌++◌, ◌+◌, map, drop}
use Rattle.ada_tree.specs.Programs.{constant_of}
use Rattle.ada_rules.specs.Units.{all_with_constants}
use Rattle.ada_demands.specs.FactViews.{facts_of}
use Rattle.ada_demands.proofs.facts.Instances.with_all_constants.Given as goal

abbrev pub invariant-loop-facts : goal.invariant-loop-facts
invariant-loop-facts l =
    l.resolved ++ all_with_constants l.self (map constant_of l.constants) (l.number + 1) (map facts_of (drop l.facts-index l.facts-items))
    ≡ all_with_constants l.self (map constant_of l.constants) 1 (map facts_of l.facts-items)
