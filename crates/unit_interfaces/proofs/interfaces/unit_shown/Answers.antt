use Rattle.std.proofs.Common.{ap, ◌∙◌, subst}
use Rattle.ada_rules.specs.Entities.{key}
use Rattle.ada_entities.specs.declared.entity.Entity.TheVariants as entity
use Rattle.ada_entities.specs.EntityViews.{region_of}
use Rattle.ada_library.specs.Seeing.{IsSeen}
use Rattle.ada_phrases.specs.Scopes.{step_of}
use Rattle.program_walk.specs.States.{state_of}
use Rattle.unit_interfaces.proofs.InterfaceLaws.{walked_as, between, seen_there, package_as, instance_as, subprogram_as, unit_known, hidden_known}
use Rattle.unit_interfaces.proofs.interfaces.unit_shown.Goals as goal

pub returns-in-Package-clause-comes : goal.returns-in-Package-clause-comes
returns-in-Package-clause-comes c all l idle k world before begins =
    let x = c.args.library.now in
    let w = c.args.walk.now in
    let u = c.args.unit.now in
    let n = c.args.number in
    let region = c.in_ok-seen-in-Package.seen in
    let own = entity.Unit n in
    let seen : IsSeen x w.symbols.units u own region = subst (λ us. IsSeen x us u own region) c.units.ensures c.in_ok-seen-in-Package.ensures in
    walked_as x _ _ k _ _ _
    (package_as (step_of c.args.step) l world (state_of k w) n u _ (c.as_slice.ensures.value ∙ (c.in_ok-name.ensures ∙ ap key c.item_name.ensures)) (region_of k region)
    c.in-Package.package c.in-Package.is (seen_there x all l w idle c.args.instances.now k world before u own region seen))
    (c.package_shown.ensures.comes u.item_pos (between x all l w idle u own region (unit_known w n) seen) k world before begins)

pub returns-in-Package-clause-passes : goal.returns-in-Package-clause-passes
returns-in-Package-clause-passes c all l idle =
    let x = c.args.library.now in
    let w = c.args.walk.now in
    let u = c.args.unit.now in
    let n = c.args.number in
    let region = c.in_ok-seen-in-Package.seen in
    let own = entity.Unit n in
    let seen : IsSeen x w.symbols.units u own region = subst (λ us. IsSeen x us u own region) c.units.ensures c.in_ok-seen-in-Package.ensures in
    c.package_shown.ensures.passes (between x all l w idle u own region (unit_known w n) seen)

pub returns-in-Instance-clause-comes : goal.returns-in-Instance-clause-comes
returns-in-Instance-clause-comes c all l idle k world before begins =
    let x = c.args.library.now in
    let w = c.args.walk.now in
    let u = c.args.unit.now in
    let n = c.args.number in
    let region = c.in_ok-seen-in-Instance.seen in
    let own = entity.Hidden in
    let seen : IsSeen x w.symbols.units u own region = subst (λ us. IsSeen x us u own region) c.units-in-Instance.ensures c.in_ok-seen-in-Instance.ensures in
    walked_as x _ _ k _ _ _
    (instance_as (step_of c.args.step) l world (state_of k w) n u _ (c.as_slice.ensures.value ∙ (c.in_ok-name.ensures ∙ ap key c.item_name.ensures)) (region_of k region)
    c.in-Instance.instance c.instance_number-own.result c.in-Instance.is (c.instance_number-own.ensures all l idle.library) (seen_there x all l w idle c.args.instances.now k world before u own region seen))
    (c.instance_shown.ensures.comes (between x all l w idle u own region (hidden_known w) seen) k world before begins)

pub returns-in-Instance-clause-passes : goal.returns-in-Instance-clause-passes
returns-in-Instance-clause-passes c all l idle =
    let x = c.args.library.now in
    let w = c.args.walk.now in
    let u = c.args.unit.now in
    let n = c.args.number in
    let region = c.in_ok-seen-in-Instance.seen in
    let own = entity.Hidden in
    let seen : IsSeen x w.symbols.units u own region = subst (λ us. IsSeen x us u own region) c.units-in-Instance.ensures c.in_ok-seen-in-Instance.ensures in
    c.instance_shown.ensures.passes (between x all l w idle u own region (hidden_known w) seen)

pub returns-in-Subprogram-clause-comes : goal.returns-in-Subprogram-clause-comes
returns-in-Subprogram-clause-comes c all l idle k world before begins =
    let x = c.args.library.now in
    let w = c.args.walk.now in
    let u = c.args.unit.now in
    let n = c.args.number in
    let region = c.in_ok-seen-in-Subprogram.seen in
    let own = entity.Hidden in
    let seen : IsSeen x w.symbols.units u own region = subst (λ us. IsSeen x us u own region) c.units-in-Subprogram.ensures c.in_ok-seen-in-Subprogram.ensures in
    walked_as x _ _ k _ _ _
    (subprogram_as (step_of c.args.step) l world (state_of k w) n u _ (c.as_slice.ensures.value ∙ (c.in_ok-name.ensures ∙ ap key c.item_name.ensures)) (region_of k region)
    c.in-Subprogram.body c.in-Subprogram.is (seen_there x all l w idle c.args.instances.now k world before u own region seen))
    (c.subprogram_shown.ensures.comes (between x all l w idle u own region (hidden_known w) seen) k world before begins)

pub returns-in-Subprogram-clause-passes : goal.returns-in-Subprogram-clause-passes
returns-in-Subprogram-clause-passes c all l idle =
    let x = c.args.library.now in
    let w = c.args.walk.now in
    let u = c.args.unit.now in
    let n = c.args.number in
    let region = c.in_ok-seen-in-Subprogram.seen in
    let own = entity.Hidden in
    let seen : IsSeen x w.symbols.units u own region = subst (λ us. IsSeen x us u own region) c.units-in-Subprogram.ensures c.in_ok-seen-in-Subprogram.ensures in
    c.subprogram_shown.ensures.passes (between x all l w idle u own region (hidden_known w) seen)
