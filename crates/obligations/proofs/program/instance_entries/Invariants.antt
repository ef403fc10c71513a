-- The entries of the instances so far, behind that of no instance.
use Rattle.std.proofs.Common.{◌≡◌, ◌∷◌, map, take}
use Rattle.ada_meaning.specs.Obligations.{instance_entry, no_instance}
use Rattle.ada_tree.specs.Programs.{instance_of}
use Rattle.obligations.proofs.program.instance_entries.Given as goal

abbrev pub invariant-loop-instance : goal.invariant-loop-instance
invariant-loop-instance l = l.entries.items ≡ no_instance ∷ map instance_entry (map instance_of (take l.instance-index l.instances))
