-- Components are smaller than what they are components of.
use Rattle.std.proofs.Common.{◌≡◌, ◌*◌, ◌+◌, ◌-◌, ◌++◌, drop}
use Rattle.ada_meaning.specs.Arithmetic.{count_between}
use Rattle.ada_resolved.specs.Forms.{shape_of, shapes_of}
use Rattle.storage_layout.specs.Initial.{initial_words, all_initial_words, repeated}
use Rattle.storage_layout.proofs.Sizes.{shape_size, shapes_size}
use Rattle.storage_layout.proofs.initial.+words.Given as goal

abbrev pub decreases-push_words : goal.decreases-push_words
decreases-push_words l = 2 * shape_size (shape_of l.sizes.now.program.now l.of)

abbrev pub decreases-push_array : goal.decreases-push_array
decreases-push_array l = 2 * shape_size (shape_of l.sizes.now.program.now l.component) + 1

abbrev pub decreases-push_record : goal.decreases-push_record
decreases-push_record l = 2 * shapes_size (shapes_of l.sizes.now.program.now l.record.instance l.record.below l.record.components.now) + 1

-- what is left to add, behind what was added, is the whole
abbrev pub invariant-push_array-loop : goal.invariant-push_array-loop
invariant-push_array-loop l =
    let words = initial_words (shape_of l.sizes.program.now l.component) l.first in
    let all = count_between l.fn.range.first l.fn.range.last in
    l.words.items ++ repeated (all - l.counter) words ≡ l.fn.words.items ++ repeated all words

abbrev pub invariant-push_record-loop-subtype : goal.invariant-push_record-loop-subtype
invariant-push_record-loop-subtype l =
    l.words.items ++ all_initial_words (shapes_of l.sizes.program.now l.fn.record.instance l.fn.record.below (drop l.subtype-index l.fn.record.components.now))
    ≡ l.fn.words.items ++ all_initial_words (shapes_of l.sizes.program.now l.fn.record.instance l.fn.record.below l.fn.record.components.now)
