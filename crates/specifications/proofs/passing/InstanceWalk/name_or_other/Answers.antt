use Rattle.std.proofs.Common.{sym, ap, ◌∙◌}
use Rattle.ada_syntax.specs.Tree.{expr_pos}
use Rattle.ada_syntax.specs.TreeView.{expr_at}
use Rattle.ada_rules.specs.Entities.{Actual}
use Rattle.ada_rules.specs.Environment.{Given, given}
use Rattle.ada_rules.specs.Plan.{Plan, answer_at}
use Rattle.ada_entities.specs.EntityViews.{entity_of}
use Rattle.ada_phrases.proofs.Parts.{answers_as}
use Rattle.program_walk.specs.Places.{with_notes}
use Rattle.specifications.specs.Actuals.{actual_of, actuals_of}
use Rattle.specifications.specs.Passing.{name_plan}
use Rattle.specifications.proofs.PassingLaws.{is_named, no_name, other_plan}
use Rattle.specifications.proofs.passing.InstanceWalk.name_or_other.Goals as goal

pub returns-in-Name : goal.returns-in-Name
returns-in-Name c k env s h =
    let f = entity_of k c.args.formal in
    let is = ap (λ z. expr_at c.expr.inside.pos z) (sym c.in-Name.is) ∙ c.expr.view_is in
    answers_as (λ a. given (actual_of k a) (with_notes k c.named_actual.new.notes s)) _ _ c.named_actual.result
    (ap (λ x. answer_at (expr_pos x) (name_plan env (with_notes k c.args.notes.now s) c.args.self.now.number (actuals_of k c.args.actuals.now) f x).outcome) (sym is))
    (c.named_actual.ensures k env s h)

pub returns-in_default : goal.returns-in_default
returns-in_default c k env s h =
    let x = c.args.expr.now in
    let other = ap is_named (sym c.expr.view_is) ∙ no_name c.expr.inside.pos c.expr.inside.kind c.expr.invariant c.in_default.not-Name in
    answers_as (λ a. given (actual_of k a) (with_notes k c.other_actual.new.notes s)) _ _ c.other_actual.result
    (ap (λ (q : Plan (Given Actual)). answer_at (expr_pos x) q.outcome) (other_plan env (with_notes k c.args.notes.now s) c.args.self.now.number
    (actuals_of k c.args.actuals.now) (entity_of k c.args.formal) x other))
    (c.other_actual.ensures k env s h)
