-- What the words so far and those of the instances to come add up to.
use Rattle.std.proofs.Common.{◌≡◌, ◌+◌, ◌-◌, length}
use Rattle.ada_tree.specs.Programs.{program_of}
use Rattle.ada_resolved.specs.Library.{program_size, with_instances}
use Rattle.ada_resolved.proofs.sizes.TypeSizes.program_size.Given as goal

abbrev pub invariant-loop-instance : goal.invariant-loop-instance
invariant-loop-instance l =
    let p = program_of l.self.program.now in
    with_instances p l.words (length p.instances + 1 - l.instance) l.instance ≡ program_size p
