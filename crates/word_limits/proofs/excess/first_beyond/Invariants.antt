-- The objects that are left, behind the words so far, pass the limit where all do.
use Rattle.std.proofs.Common.{◌≡◌, map, drop}
use Rattle.ada_rules.specs.Limits as rules
use Rattle.ada_tree.specs.Programs.{types_of}
use Rattle.word_limits.specs.Counting.{most_of, word_by}
use Rattle.word_limits.proofs.excess.first_beyond.Given as goal

abbrev pub invariant-loop-word : goal.invariant-loop-word
invariant-loop-word l =
    let f = word_by (types_of l.table.types.now) in
    rules.first_beyond l.table.instances.now (most_of l.limit) l.instance l.before (map f (drop l.word-index l.words))
    ≡ rules.first_beyond l.table.instances.now (most_of l.limit) l.instance 0 (map f l.words)
