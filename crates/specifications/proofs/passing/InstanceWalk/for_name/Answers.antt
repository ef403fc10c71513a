use Rattle.std.proofs.Common.{arith}
use Rattle.std.proofs.lemmas.Grind.{common_steps}
use Rattle.specifications.proofs.PassingLaws.{parts}
use Rattle.std.proofs.Common.{ap, ◌∙◌}
use Rattle.std.specs.Option.{ok_or}
use Rattle.ada_rules.specs.Instances.{any_actual, actual_for_name}
use Rattle.ada_entities.specs.EntityViews.{entity_of}
use Rattle.ada_phrases.specs.DenotedView.{denotes}
use Rattle.ada_phrases.specs.Scopes.{step_of}
use Rattle.specifications.specs.Actuals.{actual_of, actuals_of}
use Rattle.specifications.proofs.PassingLaws.{found_typed}
use Rattle.specifications.proofs.passing.InstanceWalk.for_name.Goals as goal

pub returns-in_ok-found-in-Typing : goal.returns-in_ok-found-in-Typing
returns-in_ok-found-in-Typing c k env s h =
    let o = actual_for_name c.args.self.now.number (actuals_of k c.args.actuals.now) (entity_of k c.args.formal) (denotes k c.args.denoted.now) in
    found_typed (actual_of k) s env.step c.args.pos any_actual c.in_ok-found-in-Typing.found o c.ok_or.result (h.site.step ∙ ap step_of c.in-Typing.is)
    (c.in_ok-found-in-Typing.ensures h.site.units.known k h.site.units.begins)
    (c.ok_or.ensures.value ∙ ap (ok_or c.in_ok-found-in-Typing.found) c.refused.ensures)

pub returns-in_err-found-in-Typing : goal.returns-in_err-found-in-Typing
returns-in_err-found-in-Typing c = grind (arith, common_steps, parts)
