use Rattle.std.proofs.Common.{arith}
use Rattle.std.proofs.lemmas.Grind.{common_steps}
use Rattle.ada_meaning.specs.Arithmetic.{count_between}
use Rattle.ada_resolved.specs.Forms.{shape_of}
use Rattle.storage_layout.specs.Initial.{initial_words}
use Rattle.storage_layout.proofs.Repeated.{once_more}
use Rattle.storage_layout.proofs.Sizes.{component_smaller}
use Rattle.storage_layout.proofs.initial.+words.Goals as goal

pub push_array-loop-preserved : goal.push_array-loop-preserved
push_array-loop-preserved t c =
    let words = initial_words (shape_of c.args.sizes.now.program.now c.args.component) c.args.first in
    once_more (count_between c.args.range.first c.args.range.last) c.loop.counter words c.loop.words.items _ _ (omega (arith, c.loop-test.true, c.values_in-end.ensures))
    c.in_ok-push_words.ensures c.loop.invariant

pub push_record-push_words-requires : goal.push_record-push_words-requires
push_record-push_words-requires t c =
    let p = c.args.sizes.now.program.now in
    let r = c.args.record in (
      omega (
        arith,
        c.decreases,
        component_smaller p r.instance r.below c.subtypes-subtype-items.result.now r.components.now c.loop-subtype.subtype-index _ c.component_type.result
            c.subtypes-subtype-items.ensures c.component_type.ensures c.loop-subtype-test.true,
      ),
      tt,
    )

pub push_record-loop-subtype-preserved : goal.push_record-loop-subtype-preserved
push_record-loop-subtype-preserved t c = grind (arith, common_steps)
