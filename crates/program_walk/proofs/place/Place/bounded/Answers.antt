use Rattle.std.proofs.Common.{Ok, sym, ap, ◌∙◌, rules}
use Rattle.ada_tree.specs.View.{scalar_range_of, static_value_of}
use Rattle.ada_rules.specs.Statics.{in_order}
use Rattle.ada_rules.specs.Environment.{given, demanded}
use Rattle.ada_phrases.specs.Answers.{counted}
use Rattle.ada_demands.specs.StaticsViews.{noted}
use Rattle.program_walk.specs.Places.{with_notes}
use Rattle.program_walk.specs.Parts.{accepts_of, valued_of}
use Rattle.program_walk.proofs.BoundLaws.{low_refused, high_refused, both_pass}
use Rattle.program_walk.proofs.place.Place.bounded.Goals as goal

pub returns-in_err-low : goal.returns-in_err-low
returns-in_err-low c k env s h =
    let r = low_refused env (with_notes k c.args.notes.now s) (accepts_of k.types c.args.accepted) (scalar_range_of c.args.within) c.args.bounds.now
    c.in_err-low.field-0.0 (c.in_err-low.ensures k env s h) in
    search (rules, r)

pub returns-in_err-high : goal.returns-in_err-high
returns-in_err-high c k env s h =
    let x = given (valued_of k c.in_ok-low.low) (with_notes k c.static_part.new.notes s) in
    let r = high_refused env (with_notes k c.args.notes.now s) (accepts_of k.types c.args.accepted) (scalar_range_of c.args.within) c.args.bounds.now
    x (c.in_ok-low.ensures k env s h) c.in_err-high.field-0.0 (c.in_err-high.ensures k env s h) in
    search (rules, r)

pub returns : goal.returns
returns c k env s h =
    let x = given (valued_of k c.in_ok-low.low) (with_notes k c.static_part.new.notes s) in
    let y = given (valued_of k c.in_ok-high.high) (with_notes k c.static_part-2.new.notes s) in
    let pass = both_pass env (with_notes k c.args.notes.now s) (accepts_of k.types c.args.accepted) (scalar_range_of c.args.within) c.args.bounds.now
    x (c.in_ok-low.ensures k env s h) y (c.in_ok-high.ensures k env s h) in
    let d = counted c.static_part-2.new.notes.decisions s in
    let test = in_order (static_value_of c.in_ok-low.low.value) (static_value_of c.in_ok-high.high.value) in
    let made = c.in_ok-demand.ensures k env d h.generic
    ∙ ap (λ p. demanded env p test (noted k c.static_part-2.new.notes.statics d)) c.pos.ensures in
    pass ∙ (λ z. Ok (given (sym c.between.ensures z) (sym made z)))
