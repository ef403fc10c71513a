-- The bodies so far, and those of the rest.
use Rattle.std.proofs.Common.{◌≡◌, ◌++◌, drop}
use Rattle.lower.specs.Kernel as spec
use Rattle.lower.proofs.kernels.lower_bodies.Given as goal

abbrev pub invariant-loop-copy : goal.invariant-loop-copy
invariant-loop-copy l =
    let p = l.parts.sizes.now.program.now in
    l.bodies.items ++ spec.bodies_of_copies p l.parts.library.now l.parts.bodies.now l.parts.layouts.now (drop l.copy-index l.copy-items)
    ≡ spec.bodies_of_copies p l.parts.library.now l.parts.bodies.now l.parts.layouts.now l.copy-items
