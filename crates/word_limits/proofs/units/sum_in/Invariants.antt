-- The words of the subtypes so far.
use Rattle.std.proofs.Common.{◌≡◌, map, take}
use Rattle.std.specs.Prelude.{reverse}
use Rattle.ada_rules.specs.Limits as rules
use Rattle.ada_tree.specs.Programs.{types_of}
use Rattle.word_limits.specs.Capped.{capped}
use Rattle.word_limits.specs.Counting.{subtype_by}
use Rattle.word_limits.proofs.units.sum_in.Given as goal

abbrev pub invariant-loop-subtype : goal.invariant-loop-subtype
invariant-loop-subtype l =
    l.words ≡ capped (rules.sum_in l.table.instances.now l.instance
    (reverse (map (subtype_by (types_of l.table.types.now)) (take l.subtype-index l.subtypes))))
