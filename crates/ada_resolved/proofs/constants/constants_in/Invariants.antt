-- The values so far, and those of the rest.
use Rattle.std.proofs.Common.{◌≡◌, [], map, drop}
use Rattle.ada_meaning.specs.Statics.{constant_values, constants_of, values_of}
use Rattle.ada_tree.specs.Programs.{constant_of, program_of}
use Rattle.ada_resolved.proofs.constants.constants_in.Given as goal

abbrev pub invariant-loop-constant : goal.invariant-loop-constant
invariant-loop-constant l =
    constant_values (values_of (program_of l.program)) l.instance l.values.items (constants_of l.generic (map constant_of (drop l.constant-index l.constant-items)))
    ≡ constant_values (values_of (program_of l.program)) l.instance [] (constants_of l.generic (map constant_of l.program.constants))
