use Rattle.std.proofs.lemmas.Grind.{common_steps}
use Rattle.specifications.proofs.PassingLaws.{parts}
use Rattle.std.proofs.Common.{◌+◌, length, map, nat_eq, option_map, arith, rules, sym, ap, ◌∙◌}
use Rattle.ada_syntax.specs.Tree.{expr_pos}
use Rattle.ada_rules.specs.Environment.{given}
use Rattle.ada_rules.specs.Plan.{answer_at}
use Rattle.ada_entities.specs.EntityViews.{entity_of}
use Rattle.ada_phrases.proofs.Parts.{answers_as, refused_as}
use Rattle.program_walk.specs.Places.{with_notes}
use Rattle.specifications.specs.Actuals.{actual_of, actuals_of, actuals_in}
use Rattle.specifications.specs.Passing.{plan_for, formals_seen, counted_rule}
use Rattle.specifications.proofs.CountingLaws.{whole, from_start, turn_refused, turn_passes, all_counted, kept_seen}
use Rattle.specifications.proofs.passing.InstanceWalk.actuals.Goals as goal

pub loop-place-init : goal.loop-place-init
loop-place-init c k env s h =
    let n = c.args.self.now.number in
    let fs = formals_seen k c.args.formals in
    let xs = c.args.exprs.now in
    let st = with_notes k c.args.notes.now s in
    ap (λ ys. whole env c.args.pos n fs xs st (actuals_of k ys) 0) c.new-actuals.ensures.items ∙ from_start env c.args.pos n fs xs st _

pub returns-in_err-actual : goal.returns-in_err-actual
returns-in_err-actual c k env s h =
    let n = c.args.self.now.number in
    let p = c.args.pos in
    let fs = formals_seen k c.args.formals in
    let xs = c.args.exprs.now in
    let st = with_notes k c.loop-place.notes s in
    let before = c.loop-place.actuals.items in
    let x = c.index-exprs-place.result in
    let o = option_map (entity_of k) c.formal_at-formal.result in
    let fault = c.in_err-actual.field-0.0 in
    let r = refused_as _ _ fault (sym (c.loop-place.invariant k env s h))
    (turn_refused env p n fs xs st (actuals_of k before) c.loop-place.place x (omega arith) c.index-exprs-place.is o (sym (c.formal_at-formal.ensures k)) fault
    (refused_as _ _ fault (ap (λ ys. answer_at (expr_pos x) (plan_for env st n (actuals_of k ys) o x).outcome) (sym c.as_slice.ensures.value))
    (c.in_err-actual.ensures k env s h))) in
    search (rules, r)

pub loop-place-preserved : goal.loop-place-preserved
loop-place-preserved c k env s h =
    let n = c.args.self.now.number in
    let p = c.args.pos in
    let fs = formals_seen k c.args.formals in
    let xs = c.args.exprs.now in
    let st = with_notes k c.loop-place.notes s in
    let before = c.loop-place.actuals.items in
    let i = c.loop-place.place in
    let x = c.index-exprs-place.result in
    let o = option_map (entity_of k) c.formal_at-formal.result in
    let a = given (actual_of k c.in_ok-actual.actual) (with_notes k c.actual_or_any.new.notes s) in
    ap (λ ys. whole env p n fs xs a.next ys (i + 1))
    (ap (map (actual_of k)) c.in_ok-keep.ensures ∙ kept_seen (actual_of k) (entity_of k) c.formal_at-formal.result before c.in_ok-actual.actual)
    ∙ sym (turn_passes env p n fs xs st (actuals_of k before) i x (omega arith) c.index-exprs-place.is o (sym (c.formal_at-formal.ensures k)) a
    (ap (λ ys. answer_at (expr_pos x) (plan_for env st n (actuals_of k ys) o x).outcome) (sym c.as_slice.ensures.value) ∙ c.in_ok-actual.ensures k env s h))
    ∙ c.loop-place.invariant k env s h

pub returns : goal.returns
returns c k env s h =
    let n = c.args.self.now.number in
    let p = c.args.pos in
    let fs = formals_seen k c.args.formals in
    let xs = c.args.exprs.now in
    let st = with_notes k c.loop-place.notes s in
    let before = actuals_of k c.loop-place.actuals.items in
    answers_as (λ ys. given (actuals_in k ys) st) _ _ c.counted.result
    (sym (c.loop-place.invariant k env s h)
    ∙ all_counted env p n fs xs st before c.loop-place.place (omega arith)
    ∙ ap (λ m. counted_rule env.step p (nat_eq m (length xs)) (given before st)) (sym (c.count_formals.ensures k))
    ∙ ap (λ t. counted_rule t p (nat_eq c.count_formals.result (length xs)) (given before st)) h.site.step)
    (c.counted.ensures k st)

pub returns-in_err-keep : goal.returns-in_err-keep
returns-in_err-keep c = grind (arith, common_steps, parts)
