use Rattle.std.proofs.Common.{rules, Ok, sym, ap, ◌∙◌}
use Rattle.ada_meaning.specs.Tree.{range_choice}
use Rattle.ada_tree.specs.View.{static_value_of}
use Rattle.ada_rules.specs.Statics.{in_order}
use Rattle.ada_rules.specs.Environment.{given, demanded}
use Rattle.ada_phrases.specs.Answers.{counted}
use Rattle.ada_demands.specs.StaticsViews.{noted}
use Rattle.object_values.specs.program_walk.specs.Places.{with_notes}
use Rattle.object_values.specs.program_walk.specs.Parts.{valued_of}
use Rattle.statement_parts.specs.Selectors.{selector_in}
use Rattle.statement_parts.proofs.ChoiceLaws.{low_refused, high_refused, range_passes}
use Rattle.statement_parts.proofs.choices.range_chosen.Goals as goal

pub returns-in_err-low : goal.returns-in_err-low
returns-in_err-low c k env s h =
    let r = low_refused env (selector_in k c.args.selector.now) (with_notes k c.args.notes.now s) c.args.bounds.now c.in_err-low.field-0.0
    (c.in_err-low.ensures k env s h) in
    search (rules, r)

pub returns-in_err-high : goal.returns-in_err-high
returns-in_err-high c k env s h =
    let x = given (valued_of k c.in_ok-low.low) (with_notes k c.static_part.new.notes s) in
    let r = high_refused env (selector_in k c.args.selector.now) (with_notes k c.args.notes.now s) c.args.bounds.now x (c.in_ok-low.ensures k env s h)
    c.in_err-high.field-0.0 (c.in_err-high.ensures k env s h) in
    search (rules, r)

pub returns : goal.returns
returns c k env s h =
    let x = given (valued_of k c.in_ok-low.low) (with_notes k c.static_part.new.notes s) in
    let y = given (valued_of k c.in_ok-high.high) (with_notes k c.static_part-2.new.notes s) in
    let d = counted c.static_part-2.new.notes.decisions s in
    let test = in_order (static_value_of c.in_ok-low.low.value) (static_value_of c.in_ok-high.high.value) in
    let made = c.in_ok-demand.ensures k env d h.generic
    ∙ ap (λ p. demanded env p test (noted k c.static_part-2.new.notes.statics d)) c.pos.ensures in
    range_passes env (selector_in k c.args.selector.now) (with_notes k c.args.notes.now s) c.args.bounds.now x (c.in_ok-low.ensures k env s h)
    y (c.in_ok-high.ensures k env s h)
    ∙ (λ z. Ok (given (range_choice (sym c.static_of.ensures z) (sym c.static_of-2.ensures z)) (sym made z)))
