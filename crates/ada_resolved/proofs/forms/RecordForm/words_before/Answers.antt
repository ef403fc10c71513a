use Rattle.std.proofs.Common.{◌+◌, ◌≤◌, ap, ◌∙◌, arith, drop}
use Rattle.std.proofs.lemmas.Grind.{common_steps}
use Rattle.ada_resolved.specs.Forms.{shape_of, shapes_of}
use Rattle.ada_resolved.specs.Sizes.{all_words, word_limit, words}
use Rattle.ada_resolved.proofs.TypeForms.{next_within, within_limit}
use Rattle.ada_resolved.proofs.forms.RecordForm.words_before.Goals as goal

pub overflow_add-words : goal.overflow_add-words
overflow_add-words c =
    let p = c.args.self.now.sizes.now.program.now in
    let small : c.loop-component.words + c.words-words.result ≤ word_limit =
    next_within p c.args.self.now.instance c.args.self.now.below c.loop-component.words c.words-words.result c.loop-component.component-index
    c.first_of-component-items.result.now _ c.loop-component-test.true (c.words-words.ensures.words ∙ ap (λ t. words (shape_of p t)) c.component_type.ensures)
    (within_limit p c.args.self.now.instance c.args.self.now.below c.args.place c.loop-component.words c.args.self.now.components.now
    c.first_of-component-items.result.now (drop c.loop-component.component-index c.first_of-component-items.result.now) c.first_of-component-items.ensures
    c.args.self.now.small c.loop-component.invariant) in
    omega (arith, small)

pub returns-clause-small : goal.returns-clause-small
returns-clause-small c =
    let p = c.args.self.now.sizes.now.program.now in
    let small : c.loop-component.words
    + all_words (shapes_of p c.args.self.now.instance c.args.self.now.below (drop c.loop-component.component-index c.first_of-component-items.result.now)) ≤ word_limit =
    within_limit p c.args.self.now.instance c.args.self.now.below c.args.place c.loop-component.words c.args.self.now.components.now
    c.first_of-component-items.result.now (drop c.loop-component.component-index c.first_of-component-items.result.now) c.first_of-component-items.ensures
    c.args.self.now.small c.loop-component.invariant in
    omega (arith, small)

pub loop-component-preserved : goal.loop-component-preserved
loop-component-preserved c = grind (arith, common_steps)
