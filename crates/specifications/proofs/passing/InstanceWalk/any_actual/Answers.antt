use Rattle.std.proofs.Common.{sym, ap, ◌∙◌}
use Rattle.ada_syntax.specs.Tree.{expr_pos}
use Rattle.ada_syntax.specs.TreeView.{expr_at}
use Rattle.ada_rules.specs.Instances.{any_plan}
use Rattle.ada_rules.specs.Plan.{answer_at}
use Rattle.ada_judged.specs.JudgedView.{judged_of}
use Rattle.ada_phrases.specs.DenotedView.{denotes}
use Rattle.ada_phrases.proofs.Parts.{answers_as}
use Rattle.ada_demands.specs.StaticsViews.{noted}
use Rattle.program_walk.specs.Places.{with_notes}
use Rattle.specifications.specs.Actuals.{actual_of}
use Rattle.specifications.proofs.PassingLaws.{is_named, no_name, any_named, any_unnamed}
use Rattle.specifications.proofs.passing.InstanceWalk.any_actual.Goals as goal

pub returns-in-Name : goal.returns-in-Name
returns-in-Name c k env s h =
    let n = c.args.notes.now in
    let p = c.expr.inside.pos in
    let next = with_notes k (record n { decisions = c.denoted.new.decisions }) s in
    let is = ap (λ z. expr_at p z) (sym c.in-Name.is) ∙ c.expr.view_is in
    answers_as _ _ _ c.and.result (ap (λ x. answer_at (expr_pos x) (any_plan env (with_notes k n s) x).outcome) (sym is))
    (any_named env (with_notes k n s) p p c.in-Name.name next (denotes k) (actual_of k) c.any-any.result c.and.result c.denoted.result
    (c.any-any.ensures k) c.and.ensures (c.denoted.ensures k env (noted k n.statics s) h.site))

pub returns-in_default : goal.returns-in_default
returns-in_default c k env s h =
    let n = c.args.notes.now in
    let x = c.args.expr.now in
    let next = with_notes k (record n { decisions = c.judged.new.decisions }) s in
    let other = ap is_named (sym c.expr.view_is) ∙ no_name c.expr.inside.pos c.expr.inside.kind c.expr.invariant c.in_default.not-Name in
    any_unnamed env (with_notes k n s) (expr_pos x) x next (judged_of k) (actual_of k) c.any-any.result c.and-in_default.result c.judged.result
    other (c.any-any.ensures k) c.and-in_default.ensures (c.judged.ensures k env (noted k n.statics s) h.site)
