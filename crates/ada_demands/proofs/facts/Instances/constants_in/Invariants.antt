-- The values so far, and those of the rest.
use Rattle.std.proofs.Common.{◌≡◌, [], map, drop}
use Rattle.ada_meaning.specs.Statics.{constant_values}
use Rattle.ada_tree.specs.Programs.{constant_of}
use Rattle.ada_rules.specs.Statics.{instance_values}
use Rattle.ada_demands.proofs.facts.Instances.constants_in.Given as goal

abbrev pub invariant-loop-constant : goal.invariant-loop-constant
invariant-loop-constant l =
    constant_values (instance_values l.self) l.instance l.values.items (map constant_of (drop l.constant-index l.constant-items))
    ≡ constant_values (instance_values l.self) l.instance [] (map constant_of l.constant-items)
