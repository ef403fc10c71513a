use Rattle.std.proofs.Common.{[], sym, ◌∙◌, subst}
use Rattle.ada_entities.specs.EntityViews.{region_of}
use Rattle.ada_library.specs.Seeing.{IsSeenInBody}
use Rattle.ada_phrases.specs.Scopes.{step_of}
use Rattle.program_walk.specs.States.{state_of}
use Rattle.library_units.proofs.UnitBodyLaws.{walked_to, body_between, body_seen, named_as, unnamed_as, goes_nowhere}
use Rattle.library_units.proofs.unit_bodies.named_body.Goals as goal

pub returns-in_ok-seen-in-Some-clause-comes : goal.returns-in_ok-seen-in-Some-clause-comes
returns-in_ok-seen-in-Some-clause-comes c named all l idle same k world before begins =
    let p = c.args.place in
    let x = p.library.now in
    let w = c.args.walk.now in
    let u = c.args.unit.now in
    let units = c.args.units.now in
    let n = c.in-Some.package in
    let region = c.in_ok-seen-in-Some.seen in
    let seen : IsSeenInBody x w.symbols.units units n u region = subst (λ us. IsSeenInBody x us units n u region) c.units-interfaces.ensures c.in_ok-seen-in-Some.ensures in
    let is = sym c.in-Some.is ∙ c.unit_named.ensures all l idle.library in
    walked_to c.package_body.new.walk k _ _ c.package_body.result
    (named_as (step_of p.step) l world (state_of k w) p.unit u p.unit_name.now (region_of k region) c.args.body.now n named is
    (body_seen x all l w idle units same c.args.instances.now k world before n u region seen))
    (c.package_body.ensures.comes u.item_pos (body_between x all l w idle units same n u region seen) k world before begins)

pub returns-in_ok-seen-in-Some-clause-passes : goal.returns-in_ok-seen-in-Some-clause-passes
returns-in_ok-seen-in-Some-clause-passes c all l idle same =
    let x = c.args.place.library.now in
    let w = c.args.walk.now in
    let u = c.args.unit.now in
    let units = c.args.units.now in
    let n = c.in-Some.package in
    let region = c.in_ok-seen-in-Some.seen in
    let seen : IsSeenInBody x w.symbols.units units n u region = subst (λ us. IsSeenInBody x us units n u region) c.units-interfaces.ensures c.in_ok-seen-in-Some.ensures in
    c.package_body.ensures.passes (body_between x all l w idle units same n u region seen)

pub returns-in-None-clause-comes : goal.returns-in-None-clause-comes
returns-in-None-clause-comes c named all l idle same k world before begins =
    let p = c.args.place in
    record {
      comes = unnamed_as (step_of p.step) l world (state_of k c.args.walk.now) p.unit c.args.unit.now p.unit_name.now [] c.args.body.now named
          (sym c.in-None.is ∙ c.unit_named.ensures all l idle.library);
    }

pub returns-in-None-clause-passes : goal.returns-in-None-clause-passes
returns-in-None-clause-passes c all l idle same = goes_nowhere c.args.walk.now idle.closed
