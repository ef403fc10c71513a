-- The first of the subprograms so far.
use Rattle.std.proofs.Common.{◌≡◌, map, take}
use Rattle.std.specs.Prelude.{reverse}
use Rattle.ada_rules.specs.Limits as rules
use Rattle.ada_tree.specs.Programs.{types_of}
use Rattle.word_limits.specs.Counting.{subprogram_by}
use Rattle.word_limits.proofs.excess.first_object.Given as goal

abbrev pub invariant-loop-declared : goal.invariant-loop-declared
invariant-loop-declared l =
    l.first ≡ rules.first_declared l.table.instances.now rules.most_words_of_subprogram
    (reverse (map (subprogram_by (types_of l.table.types.now)) (take l.declared-index l.subprograms)))
