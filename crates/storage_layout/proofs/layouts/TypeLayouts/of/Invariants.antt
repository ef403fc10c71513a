-- The layouts so far, with those of the types to come.
use Rattle.std.proofs.Common.{◌≡◌, drop}
use Rattle.storage_layout.specs.Layouts as spec
use Rattle.storage_layout.proofs.layouts.TypeLayouts.of.Given as goal

abbrev pub invariant-loop-place : goal.invariant-loop-place
invariant-loop-place l =
    let p = l.sizes.program.now in
    spec.with_types p l.place (drop l.place p.types) l.layouts ≡ spec.layouts_of p
