-- The exceptions so far are others.
use Rattle.std.proofs.Common.{◌≡◌, ◌+◌, drop, map}
use Rattle.ada_meaning.specs.Resolved.{rank_of}
use Rattle.ada_tree.specs.Programs.{raisable_of}
use Rattle.ada_resolved.proofs.names.rank_of.Given as goal

abbrev pub invariant-loop-exception : goal.invariant-loop-exception
invariant-loop-exception l =
    (l.rank ≡ l.exception-index)
    × (l.rank + rank_of l.instance l.declaration (map raisable_of (drop l.exception-index l.exceptions)) ≡ rank_of l.instance l.declaration (map raisable_of l.exceptions))
