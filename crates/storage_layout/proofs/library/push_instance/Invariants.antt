-- The places and words so far, and those of the rest.
use Rattle.std.proofs.Common.{◌≡◌, ◌++◌, length, drop}
use Rattle.storage_layout.specs.Library as spec
use Rattle.storage_layout.proofs.library.push_instance.Given as goal

abbrev pub invariant-loop-object : goal.invariant-loop-object
invariant-loop-object l =
    let p = l.sizes.program.now in
    (l.places.items ++ spec.places_from p l.instance (length l.words.items) (drop l.object-index l.object-items)
    ≡ spec.places_from p l.fn.instance (length l.fn.words.items) l.object-items)
    × (l.words.items ++ spec.all_words_in p l.instance (drop l.object-index l.object-items)
    ≡ l.fn.words.items ++ spec.all_words_in p l.fn.instance l.object-items)
