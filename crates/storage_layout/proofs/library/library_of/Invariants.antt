-- The places and words so far, and those of the instances to come.
use Rattle.std.proofs.Common.{◌≡◌, ◌+◌, ◌-◌, ◌++◌, length}
use Rattle.storage_layout.specs.Library as spec
use Rattle.storage_layout.proofs.library.library_of.Given as goal

abbrev pub invariant-loop-instance : goal.invariant-loop-instance
invariant-loop-instance l =
    let p = l.sizes.program.now in
    let left = length p.instances + 1 - l.instance in
    (l.places.items ++ spec.places_of_instances p left l.instance (length l.words.items) ≡ spec.library_places p)
    × (l.words.items ++ spec.words_of_instances p left l.instance ≡ spec.library_words p)
