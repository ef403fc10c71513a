-- The units that are left, behind the words so far, pass the limit where all do.
use Rattle.std.proofs.Common.{◌≡◌, map, drop}
use Rattle.std.specs.Prelude.{reverse}
use Rattle.ada_rules.specs.Environment.{World}
use Rattle.ada_rules.specs.Limits as rules
use Rattle.ada_tree.specs.Programs.{types_of}
use Rattle.word_limits.specs.Counting.{unit_by}
use Rattle.word_limits.specs.Excess.{HasUnits}
use Rattle.word_limits.proofs.units.first_unit.Given as goal

abbrev pub invariant-loop-index : goal.invariant-loop-index
invariant-loop-index l =
    (w : World) → HasUnits l.table.instances.now l.symbols.units w
    → rules.first_unit w (reverse (map (unit_by (types_of l.table.types.now)) l.found)) l.index l.before (drop l.index l.units)
    ≡ rules.first_unit w (reverse (map (unit_by (types_of l.table.types.now)) l.found)) 0 0 l.units
