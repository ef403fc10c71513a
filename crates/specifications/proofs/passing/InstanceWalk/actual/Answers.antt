use Rattle.std.proofs.Common.{ap}
use Rattle.ada_syntax.specs.Tree.{expr_pos}
use Rattle.ada_tree.specs.View.{static_by, static_value_of}
use Rattle.ada_rules.specs.Entities.{Actual}
use Rattle.ada_rules.specs.Environment.{Given, given}
use Rattle.ada_rules.specs.Instances.{actual_plan}
use Rattle.ada_rules.specs.Plan.{Plan, answer_at}
use Rattle.ada_entities.specs.EntityViews.{entity_of}
use Rattle.ada_phrases.proofs.Parts.{answers_as}
use Rattle.program_walk.specs.Places.{with_notes}
use Rattle.specifications.specs.Actuals.{actual_of, actuals_of}
use Rattle.specifications.proofs.PassingLaws.{formal_plan}
use Rattle.specifications.proofs.passing.InstanceWalk.actual.Goals as goal

pub returns-in-FormalObject : goal.returns-in-FormalObject
returns-in-FormalObject c k env s h =
    let x = c.args.expr.now in
    let i = c.in-FormalObject in
    answers_as (λ a. given (actual_of k a) (with_notes k c.object_actual.new.notes s)) _ _ c.object_actual.result
    (ap (λ f. answer_at (expr_pos x) (actual_plan env (with_notes k c.args.notes.now s) c.args.self.now.number (actuals_of k c.args.actuals.now)
    (entity_of k f) x).outcome) i.is)
    (c.object_actual.ensures (static_by i.field-1 (static_value_of i.field-2)) k env s h)

pub returns-in_default : goal.returns-in_default
returns-in_default c k env s h =
    let x = c.args.expr.now in
    answers_as (λ a. given (actual_of k a) (with_notes k c.name_or_other.new.notes s)) _ _ c.name_or_other.result
    (ap (λ (q : Plan (Given Actual)). answer_at (expr_pos x) q.outcome) (formal_plan env (with_notes k c.args.notes.now s) c.args.self.now.number
    (actuals_of k c.args.actuals.now) k c.args.formal x c.in_default.not-FormalObject))
    (c.name_or_other.ensures k env s h)
