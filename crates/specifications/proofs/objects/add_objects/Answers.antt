use Rattle.std.proofs.Common.{refl, sym, ◌∙◌}
use Rattle.program_walk.specs.States.{state_of}
use Rattle.program_walk.specs.Going.{region_in}
use Rattle.program_walk.proofs.GoingLaws.{goes_nowhere, then_goes}
use Rattle.program_walk.proofs.ObjectLaws.{turn_counted, all_counted}
use Rattle.specifications.specs.Objects.{mode_in_form, subtype_in_form}
use Rattle.specifications.proofs.ObjectLaws.{turn_object, all_objects}
use Rattle.specifications.proofs.objects.add_objects.Goals as goal

pub loop-name-init : goal.loop-name-init
loop-name-init c = record {
  region = λ k has. refl;
  state = λ k has. refl;
  inside = goes_nowhere c.args.walk.now;
}

pub loop-name-preserved : goal.loop-name-preserved
loop-name-preserved c =
    let f = c.args.form in
    let old = c.loop-name.walk in
    let new = c.add_object.new.walk in
    record {
      region = λ k has.
          let a = c.in_ok-add_object.ensures.added k has in
          sym (turn_object c.args.names.now c.loop-name.name-index _ c.loop-name-test.true c.name-item.is (mode_in_form f) (subtype_in_form k f)
          old.counts.objects new.counts.objects (region_in k old) (region_in k new) a.number a.region)
          ∙ c.loop-name.invariant.region k has;
      state = λ k has.
          sym (turn_counted c.args.names.now c.loop-name.name-index _ c.loop-name-test.true c.name-item.is (subtype_in_form k f)
          (state_of k old) (state_of k new) (c.in_ok-add_object.ensures.added k has).state)
          ∙ c.loop-name.invariant.state k has;
      inside = λ h. then_goes _ _ _ (c.loop-name.invariant.inside h) c.in_ok-add_object.ensures.inside;
    }

pub returns-clause-added : goal.returns-clause-added
returns-clause-added c k has =
    let f = c.args.form in
    let w = c.loop-name.walk in
    record {
      region =
          sym (all_objects c.args.names.now c.loop-name.name-index c.loop-name-test.false (mode_in_form f) (subtype_in_form k f) w.counts.objects (region_in k w))
          ∙ c.loop-name.invariant.region k has;
      state =
          sym (all_counted c.args.names.now c.loop-name.name-index c.loop-name-test.false (subtype_in_form k f) (state_of k w))
          ∙ c.loop-name.invariant.state k has;
    }

pub returns-clause-inside : goal.returns-clause-inside
returns-clause-inside c = c.loop-name.invariant.inside
