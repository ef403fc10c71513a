-- The instances so far, and those of the rest.
use Rattle.std.proofs.Common.{◌≡◌, ◌+◌, ◌++◌, map, drop}
use Rattle.ada_rules.specs.Statics.{instances_from}
use Rattle.ada_demands.specs.FactViews.{facts_of}
use Rattle.word_limits.proofs.table.instances_of.Given as goal

abbrev pub invariant-loop-index : goal.invariant-loop-index
invariant-loop-index l =
    l.places.items ++ instances_from l.instances (l.index + 1) l.generic (map facts_of (drop l.index l.facts-items))
    ≡ instances_from l.instances 1 l.generic (map facts_of l.facts-items)
