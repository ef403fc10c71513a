-- What the words so far and the rest come to.
use Rattle.std.proofs.Common.{◌≡◌, map, drop}
use Rattle.ada_tree.specs.Programs.{library_object_of, program_of, types_of}
use Rattle.ada_resolved.specs.Library.{instance_size, with_objects}
use Rattle.ada_resolved.proofs.sizes.TypeSizes.instance_size.Given as goal

abbrev pub invariant-loop-object : goal.invariant-loop-object
invariant-loop-object l =
    let p = l.self.program.now in
    with_objects (program_of p) l.instance l.words (map (library_object_of (types_of p.types)) (drop l.object-index l.object-items))
    ≡ instance_size (program_of p) l.instance
