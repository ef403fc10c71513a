use Rattle.std.proofs.Common.{[], ap, ◌∙◌, subst}
use Rattle.ada_rules.specs.Entities.{key}
use Rattle.ada_rules.specs.Library.{item_name}
use Rattle.ada_rules.specs.Units.{seen_in}
use Rattle.ada_entities.specs.EntityViews.{region_of, entity_of}
use Rattle.ada_library.specs.Seeing.{IsSeen}
use Rattle.ada_phrases.specs.Scopes.{step_of}
use Rattle.program_walk.specs.States.{state_of}
use Rattle.library_units.proofs.BodyLaws.{routine_known}
use Rattle.unit_interfaces.proofs.InterfaceLaws.{between, seen_there}
use Rattle.library_units.proofs.UnitBodyLaws.{walked_to, package_as, subprogram_as, goes_nowhere}
use Rattle.library_units.proofs.unit_bodies.unit_body.Goals as goal

pub returns-in-PackageBody-clause-comes : goal.returns-in-PackageBody-clause-comes
returns-in-PackageBody-clause-comes c all l idle same k world before begins =
    let w = c.args.walk.now in
    let u = c.args.unit.now in
    let named = c.as_slice.ensures.value ∙ (c.in_ok-name.ensures ∙ (ap key c.item_name.ensures ∙ ap (λ i. key (item_name i)) c.in-PackageBody.is)) in
    walked_to c.named_body.new.walk k _ _ c.named_body.result
    (package_as (step_of c.args.step) l world (state_of k w) c.args.number u [] [] c.in-PackageBody.body c.in-PackageBody.is)
    (c.named_body.ensures.comes named all l idle same k world before begins)

pub returns-in-PackageBody-clause-passes : goal.returns-in-PackageBody-clause-passes
returns-in-PackageBody-clause-passes c = c.named_body.ensures.passes

pub returns-in-Subprogram-clause-comes : goal.returns-in-Subprogram-clause-comes
returns-in-Subprogram-clause-comes c all l idle same k world before begins =
    let x = c.args.library.now in
    let w = c.args.walk.now in
    let u = c.args.unit.now in
    let n = c.args.number in
    let region = c.in_ok-seen-in-Subprogram.seen in
    let own = c.routine_of-own.result in
    let known = routine_known w.symbols n own idle.known c.routine_of-own.ensures in
    let seen : IsSeen x w.symbols.units u own region = subst (λ us. IsSeen x us u own region) c.units.ensures c.in_ok-seen-in-Subprogram.ensures in
    let named = c.as_slice.ensures.value ∙ (c.in_ok-name.ensures ∙ ap key c.item_name.ensures) in
    let sees = seen_there x all l w idle c.args.instances.now k world before u own region seen
    ∙ ap (seen_in world l u) (c.routine_of-own.ensures k before.units.actuals world before.units.interfaces) in
    walked_to c.subprogram_body.new.walk k _ _ c.subprogram_body.result
    (subprogram_as (step_of c.args.step) l world (state_of k w) n u _ (region_of k region) c.in-Subprogram.body c.in-Subprogram.is named sees)
    (c.subprogram_body.ensures.comes.comes (between x all l w idle u own region known seen) k world before begins)

pub returns-in-Subprogram-clause-passes : goal.returns-in-Subprogram-clause-passes
returns-in-Subprogram-clause-passes c all l idle same =
    let x = c.args.library.now in
    let w = c.args.walk.now in
    let u = c.args.unit.now in
    let n = c.args.number in
    let region = c.in_ok-seen-in-Subprogram.seen in
    let own = c.routine_of-own.result in
    let known = routine_known w.symbols n own idle.known c.routine_of-own.ensures in
    let seen : IsSeen x w.symbols.units u own region = subst (λ us. IsSeen x us u own region) c.units.ensures c.in_ok-seen-in-Subprogram.ensures in
    c.subprogram_body.ensures.passes (between x all l w idle u own region known seen)
