use Rattle.std.proofs.Common.{Ok, sym, ap, ◌∙◌, rules}
use Rattle.ada_rules.specs.Types.{range_in}
use Rattle.ada_rules.specs.Environment.{naming, typing, given}
use Rattle.ada_demands.specs.StaticsViews.{noted}
use Rattle.ada_phrases.specs.Answers.{counted}
use Rattle.ada_phrases.specs.Scopes.{step_of}
use Rattle.ada_phrases.proofs.Parts.{answers_as}
use Rattle.program_walk.specs.Places.{with_notes}
use Rattle.program_walk.specs.Parts.{valued_of}
use Rattle.program_walk.specs.Subtypes.{subtype_in}
use Rattle.program_walk.proofs.IndexLaws.{low_refused, high_refused, both_pass}
use Rattle.program_walk.proofs.place.Place.index_between.Goals as goal

pub returns-in_err-low : goal.returns-in_err-low
returns-in_err-low c k env s h =
    let r = low_refused env (with_notes k c.args.notes.now s) c.args.bounds.now _ (ap range_in (c.integer.ensures k.types))
    c.in_err-low.field-0.0 (c.in_err-low.ensures k env s h) in
    search (rules, r)

pub returns-in_err-high : goal.returns-in_err-high
returns-in_err-high c k env s h =
    let x = given (valued_of k c.in_ok-low.low) (with_notes k c.static_part.new.notes s) in
    let r = high_refused env (with_notes k c.args.notes.now s) c.args.bounds.now _ (ap range_in (c.integer.ensures k.types))
    x (c.in_ok-low.ensures k env s h) c.in_err-high.field-0.0 (c.in_err-high.ensures k env s h) in
    search (rules, r)

pub returns-in-Naming : goal.returns-in-Naming
returns-in-Naming c k env s h =
    let x = given (valued_of k c.in_ok-low.low) (with_notes k c.static_part.new.notes s) in
    let y = given (valued_of k c.in_ok-high.high) (with_notes k c.static_part-2.new.notes s) in
    both_pass env (with_notes k c.args.notes.now s) c.args.bounds.now _ (ap range_in (c.integer.ensures k.types)) x (c.in_ok-low.ensures k env s h)
    y naming (c.in_ok-high.ensures k env s h) (h.site.step ∙ ap step_of c.in-Naming.is)
    ∙ ap (λ t. Ok (given t y.next)) (sym (c.integer-in-Naming.ensures k.types))

pub returns-in-Typing : goal.returns-in-Typing
returns-in-Typing c k env s h =
    let x = given (valued_of k c.in_ok-low.low) (with_notes k c.static_part.new.notes s) in
    let y = given (valued_of k c.in_ok-high.high) (with_notes k c.static_part-2.new.notes s) in
    let d = counted c.static_part-2.new.notes.decisions s in
    answers_as (λ t. given (subtype_in k t) (noted k c.between_of.new.statics d)) _ _ c.between_of.result
    (both_pass env (with_notes k c.args.notes.now s) c.args.bounds.now _ (ap range_in (c.integer.ensures k.types)) x (c.in_ok-low.ensures k env s h)
    y typing (c.in_ok-high.ensures k env s h) (h.site.step ∙ ap step_of c.in-Typing.is))
    (rw (sym c.pos.ensures) (c.between_of.ensures k env d h.generic))
