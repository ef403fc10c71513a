use Rattle.std.proofs.Common.{List, subst, sym, ◌↔◌, ◌≡◌}
use Rattle.coverage_set.specs.Covered.{Has}
use Rattle.cov_base.specs.Lists.{Somewhere}
use Rattle.std.proofs.lemmas.Result.{IfOk-weaker}
use Rattle.cov_base.specs.declared.event.Event.{Event}
use Rattle.commands.proofs.CoveringLaws.{report_made}
use Rattle.commands.proofs.DecisionLaws.{statements_known, evaluations_known, possible_paths, named_in_utf8, explained_in_utf8}
use Rattle.commands.proofs.ready.printing.printed.Goals as goal

pub returns : goal.returns
returns c = IfOk-weaker c.in_form.result _ _ (λ text told.
    report_made c.args.level c.args.annotate c.args.object.now c.args.sources.now c.args.coverage.now c.runs.result c.as_slice.result.now text.items
    (subst (λ (events : List Event). (e : Event) → Somewhere (λ x. x ≡ e) events ↔ Has c.args.coverage.now e) (sym c.as_slice.ensures.value) c.in_ok-events.ensures.all)
    c.runs.ensures told) c.in_form.ensures

pub in_form-requires-clause-statements : goal.in_form-requires-clause-statements
in_form-requires-clause-statements c = statements_known c.args.object.now c.requires.sound

pub in_form-requires-clause-evaluated : goal.in_form-requires-clause-evaluated
in_form-requires-clause-evaluated c =
    evaluations_known c.args.object.now c.args.coverage.now c.as_slice.result.now c.requires.sound
    (possible_paths c.args.object.now c.args.coverage.now c.requires.own c.in_ok-events.ensures.possible)
    (λ e there. (c.in_ok-events.ensures.all e).0 (subst (λ (events : List Event). Somewhere (λ x. x ≡ e) events) c.as_slice.ensures.value there))

pub in_form-requires-clause-named : goal.in_form-requires-clause-named
in_form-requires-clause-named c = named_in_utf8 c.args.object.now c.args.sources.now c.requires.sound c.requires.named

pub in_form-requires-clause-explained : goal.in_form-requires-clause-explained
in_form-requires-clause-explained c = explained_in_utf8 c.args.object.now c.requires.sound
