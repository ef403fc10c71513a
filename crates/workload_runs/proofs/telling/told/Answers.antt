use Rattle.std.proofs.Common.{◌≡◌, ◌↔◌, List, subst, sym}
use Rattle.std.proofs.lemmas.Result.{IfOk-weaker}
use Rattle.cov_base.specs.declared.event.Event.{Event}
use Rattle.cov_base.specs.Lists.{Somewhere}
use Rattle.coverage_set.specs.Consolidated.{IsPossibleEvent}
use Rattle.coverage_set.specs.Covered.{Has}
use Rattle.object_format.specs.declared.object.Object.{Object}
use Rattle.workload_runs.proofs.Judged.{evaluations_known, statements_known}
use Rattle.workload_runs.proofs.telling.told.Goals as goal

pub covered_totals-requires-clause-statements : goal.covered_totals-requires-clause-statements
covered_totals-requires-clause-statements c = statements_known c.args.object.now c.requires.sound

pub covered_totals-requires-clause-evaluated : goal.covered_totals-requires-clause-evaluated
covered_totals-requires-clause-evaluated c =
    evaluations_known c.args.object.now c.as_slice.result.now c.requires.sound
    (λ e there. subst (λ (o : Object). IsPossibleEvent o e) c.requires.own
    (c.in_ok-events.ensures.possible e
    ((c.in_ok-events.ensures.all e).0 (subst (λ (events : List Event). Somewhere (λ x. x ≡ e) events) c.as_slice.ensures.value there))))

pub returns : goal.returns
returns c = IfOk-weaker c.covered_totals.result _ _ (λ text told. record {
  events = c.as_slice.result.now;
  all_events = subst (λ (events : List Event). (e : Event) → Somewhere (λ x. x ≡ e) events ↔ Has c.args.coverage.now e) (sym c.as_slice.ensures.value)
      c.in_ok-events.ensures.all;
  told = told;
}) c.covered_totals.ensures
