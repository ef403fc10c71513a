-- The first in the instances from `index` on.
use Rattle.std.proofs.Common.{◌≡◌, map, drop}
use Rattle.ada_rules.specs.Limits as rules
use Rattle.ada_tree.specs.Programs.{types_of}
use Rattle.word_limits.specs.Counting.{most_of, word_by}
use Rattle.word_limits.proofs.excess.first_in_some.Given as goal

abbrev pub invariant-loop-index : goal.invariant-loop-index
invariant-loop-index l =
    l.first ≡ rules.first_in_some l.table.instances.now (most_of l.limit) (drop l.index l.places) (map (word_by (types_of l.table.types.now)) l.words)
