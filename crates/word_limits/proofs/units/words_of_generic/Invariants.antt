-- The words of the generic's text so far.
use Rattle.std.proofs.Common.{◌≡◌, map, take}
use Rattle.std.specs.Prelude.{reverse}
use Rattle.ada_rules.specs.Limits as rules
use Rattle.ada_tree.specs.Programs.{types_of}
use Rattle.word_limits.specs.Capped.{capped}
use Rattle.word_limits.specs.Counting.{unit_by}
use Rattle.word_limits.proofs.units.words_of_generic.Given as goal

abbrev pub invariant-loop-unit : goal.invariant-loop-unit
invariant-loop-unit l =
    l.words ≡ capped (rules.words_of_generic l.table.instances.now l.instance l.generic
    (reverse (map (unit_by (types_of l.table.types.now)) (take l.unit-index l.units))))
