use Rattle.std.proofs.Common.{◌≡◌, [], Ok, rules, subst}
use Rattle.ada_rules.specs.Environment.{given}
use Rattle.ada_rules.specs.Instances.{actuals_judged}
use Rattle.ada_entities.specs.Answers.{Refuses}
use Rattle.program_walk.specs.Places.{with_notes}
use Rattle.specifications.specs.Actuals.{actuals_in}
use Rattle.specifications.specs.Passing.{formals_seen}
use Rattle.unit_walk.proofs.InstantiatingLaws.{generic_refused, actuals_refused, instance_passes}
use Rattle.unit_walk.proofs.instantiation.instance_actuals.Goals as goal

pub returns-in_err-generic : goal.returns-in_err-generic
returns-in_err-generic c k env s h =
    let r = generic_refused env (with_notes k c.args.notes.now s) c.args.pos c.args.number c.args.instance.now c.in_err-generic.field-0.0
    (c.in_err-generic.ensures k env h.site) in
    search (rules, r)

pub returns-in_err-actuals : goal.returns-in_err-actuals
returns-in_err-actuals c k env s h =
    let r = actuals_refused env (with_notes k c.args.notes.now s) c.args.pos c.args.number c.args.instance.now c.in_ok-generic.generic
    (formals_seen k c.formals_of-formals.result) c.in_err-actuals.field-0.0 (c.in_ok-generic.ensures k env h.site)
    (c.formals_of-formals.ensures k env.world h.site.units)
    (subst (λ xs. Refuses (actuals_judged env (with_notes k c.args.notes.now s) c.args.pos c.args.number []
    (formals_seen k c.formals_of-formals.result) xs).answer c.in_err-actuals.field-0.0) c.as_slice.ensures
    (c.in_err-actuals.ensures k env s h)) in
    search (rules, r)

pub returns : goal.returns
returns c k env s h =
    let a = given (actuals_in k c.in_ok-actuals.actuals) (with_notes k c.actuals.new.notes s) in
    instance_passes env (with_notes k c.args.notes.now s) c.args.pos c.args.number c.args.instance.now c.in_ok-generic.generic
    (formals_seen k c.formals_of-formals.result) a
    (c.in_ok-generic.ensures k env h.site) (c.formals_of-formals.ensures k env.world h.site.units)
    (subst (λ xs. (actuals_judged env (with_notes k c.args.notes.now s) c.args.pos c.args.number []
    (formals_seen k c.formals_of-formals.result) xs).answer ≡ Ok a) c.as_slice.ensures
    (c.in_ok-actuals.ensures k env s h))
