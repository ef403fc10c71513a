use Rattle.std.proofs.Common.{◌∙◌, refl, map, subst, sym}
use Rattle.std.proofs.lemmas.Result.{err_from_is_err_and}
use Rattle.commands.specs.Content.{IsFileOf}
use Rattle.commands.specs.Products.{IsMadeOf}
use Rattle.commands.specs.Ready.{answer_view}
use Rattle.object_format.specs.declared.object.Object.{Object}
use Rattle.commands.proofs.MadeLaws.{coverage_made}
use Rattle.commands.proofs.ObjectLaws.{has_map}
use Rattle.commands.proofs.StopLaws.{coverage_stops}
use Rattle.commands.proofs.ready.coverage.over_object.Goals as goal

pub of-requires : goal.of-requires
of-requires g c = has_map c.args.object.now c.requires.object

pub returns-in_err-add_traces-clause-prepares : goal.returns-in_err-add_traces-clause-prepares
returns-in_err-add_traces-clause-prepares g c =
    let p = err_from_is_err_and c.from_residual-in_err-add_traces.result c.from_residual-in_err-add_traces.ensures.1 in
    λ name bytes holds is.
    let of_map : IsFileOf c.in_ok-decisions.decisions bytes = subst (λ (o : Object). IsFileOf o bytes) (sym c.in_ok-decisions.ensures) is in
    rw (p.1, p.2.0) (coverage_stops _ _ _ _ _ c.args.product name bytes
    (map (λ name. name.now) c.args.traces.now) c.in_ok-decisions.decisions c.in_err-add_traces.field-0.0
    refl refl holds of_map c.in_err-add_traces.ensures.stopped)

pub made-requires-clause-sound : goal.made-requires-clause-sound
made-requires-clause-sound g c = c.requires.object.sound

pub made-requires-clause-own : goal.made-requires-clause-own
made-requires-clause-own g c = c.in_ok-add_traces.ensures.object ∙ c.new-coverage.ensures.object

pub returns-clause-prepares : goal.returns-clause-prepares
returns-clause-prepares g c =
    let made = subst (λ (o : Object). IsMadeOf c.args.product o c.add_traces.new.coverage (g.F.Files.held c.add_traces.new.files)
    (g.F.Files.reads_failed c.add_traces.new.files) (g.F.Files.reads_failed c.made.new.files) (answer_view c.made.result))
    (sym c.in_ok-decisions.ensures) c.made.ensures.made in
    λ name bytes holds is.
    let of_map : IsFileOf c.in_ok-decisions.decisions bytes = subst (λ (o : Object). IsFileOf o bytes) (sym c.in_ok-decisions.ensures) is in
    coverage_made _ _ _ _ _ c.args.product name bytes (map (λ name. name.now) c.args.traces.now)
    c.in_ok-decisions.decisions _ _ _ c.in_ok-add_traces.ensures.same c.in_ok-add_traces.ensures.reads holds of_map c.in_ok-add_traces.ensures.added
    (c.new-coverage.ensures.object ∙ sym c.in_ok-decisions.ensures) c.new-coverage.ensures.events c.new-coverage.ensures.runs made
