-- The first of the types so far.
use Rattle.std.proofs.Common.{◌≡◌, map, take}
use Rattle.std.specs.Prelude.{reverse}
use Rattle.ada_rules.specs.Limits as rules
use Rattle.ada_tree.specs.Programs.{types_of}
use Rattle.word_limits.specs.Counting.{type_by}
use Rattle.word_limits.proofs.excess.first_type.Given as goal

abbrev pub invariant-loop-declared : goal.invariant-loop-declared
invariant-loop-declared l =
    l.first ≡ rules.first_declared l.table.instances.now rules.most_words_of_type
    (reverse (map (type_by (types_of l.table.types.now)) (take l.declared-index l.types)))
