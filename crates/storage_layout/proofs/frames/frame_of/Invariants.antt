-- The objects so far, and those of the rest; and the base behind all.
use Rattle.std.proofs.Common.{◌≡◌, ◌++◌, drop}
use Rattle.storage_layout.specs.Frames as spec
use Rattle.storage_layout.proofs.frames.frame_of.Given as goal

abbrev pub invariant-loop-number : goal.invariant-loop-number
invariant-loop-number l =
    (l.objects.items ++ spec.placed l.sizes.program.now l.instance l.parameters l.number l.base (drop l.number l.subtypes)
    ≡ spec.objects_of_frame l.sizes.program.now l.instance l.parameters l.subtypes)
    × (spec.base_behind l.sizes.program.now l.instance l.parameters l.number l.base (drop l.number l.subtypes)
    ≡ spec.base_of_frame l.sizes.program.now l.instance l.parameters l.subtypes)
