-- How many stand before the one that is looked for: those so far, and those of the rest.
use Rattle.std.proofs.Common.{◌≡◌, ◌+◌, drop}
use Rattle.storage_layout.specs.Layouts as spec
use Rattle.storage_layout.proofs.layouts.layouts_before.Given as goal

abbrev pub invariant-loop-one : goal.invariant-loop-one
invariant-loop-one l = l.before + spec.layouts_before l.instance l.number (drop l.one-index l.laid) ≡ spec.layouts_before l.instance l.number l.laid
