use Rattle.std.proofs.Common.{Some, None, sym, ◌∙◌, rules}
use Rattle.ada_syntax.specs.Tree.{name_pos}
use Rattle.ada_rules.specs.Environment.{given}
use Rattle.ada_phrases.specs.Answers.{counted}
use Rattle.ada_phrases.proofs.Parts.{answers_as}
use Rattle.ada_demands.specs.StaticsViews.{noted}
use Rattle.program_walk.specs.Marks.{marked_of}
use Rattle.program_walk.specs.Places.{with_notes}
use Rattle.program_walk.specs.Subtypes.{subtype_in}
use Rattle.program_walk.proofs.IndicationLaws.{mark_refused, mark_passes, same_narrowing}
use Rattle.program_walk.proofs.place.Place.indicated.Goals as goal

pub returns-in_err-marked : goal.returns-in_err-marked
returns-in_err-marked c k env s h =
    let n = c.args.notes.now in
    let r = mark_refused env (with_notes k n s) c.args.indication.now c.in_err-marked.field-0.0
    (c.in_err-marked.ensures k env (noted k n.statics s) h.site) in
    search (rules, r)

pub returns-in-Some : goal.returns-in-Some
returns-in-Some c k env s h =
    let n = c.args.notes.now in
    let x = given (marked_of k c.in_ok-marked.marked) (counted c.mark.new.decisions (noted k n.statics s)) in
    answers_as (λ t. given (subtype_in k t) (with_notes k c.narrowed.new.notes s)) _ _ c.narrowed.result
    (mark_passes env (with_notes k n s) c.args.indication.now x (Some c.in-Some.bounds) (c.in_ok-marked.ensures k env (noted k n.statics s) h.site) c.in-Some.is
    ∙ sym (same_narrowing env x (name_pos c.args.indication.now.mark) c.in-Some.bounds))
    (rw (sym c.pos-pos.ensures) (c.narrowed.ensures k env s h))

pub returns-in-None : goal.returns-in-None
returns-in-None c k env s h =
    let n = c.args.notes.now in
    let x = given (marked_of k c.in_ok-marked.marked) (counted c.mark.new.decisions (noted k n.statics s)) in
    mark_passes env (with_notes k n s) c.args.indication.now x None (c.in_ok-marked.ensures k env (noted k n.statics s) h.site) c.in-None.is
