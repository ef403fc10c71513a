-- The layouts so far, with those of the instances to come.
use Rattle.std.proofs.Common.{◌≡◌, ◌+◌, ◌-◌, length}
use Rattle.storage_layout.specs.Layouts as spec
use Rattle.storage_layout.proofs.layouts.TypeLayouts.push_type_in_all.Given as goal

abbrev pub invariant-loop-instance : goal.invariant-loop-instance
invariant-loop-instance l =
    let p = l.sizes.program.now in
    spec.with_type_in_all p (length p.instances + 1 - l.instance) l.instance l.number l.declaration l.self
    ≡ spec.with_type_in_all p (length p.instances + 1) 0 l.number l.declaration l.fn.self
