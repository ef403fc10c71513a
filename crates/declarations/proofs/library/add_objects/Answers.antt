use Rattle.std.proofs.Common.{option_map, refl, sym, ◌∙◌}
use Rattle.ada_tree.specs.Programs.{initial_of}
use Rattle.ada_entities.specs.EntityViews.{constant_of}
use Rattle.program_walk.specs.States.{state_of}
use Rattle.program_walk.specs.Going.{region_in}
use Rattle.declarations.specs.Locals.{subtype_in_form}
use Rattle.program_walk.proofs.GoingLaws.{goes_nowhere, then_goes}
use Rattle.program_walk.proofs.ObjectLaws.{turn_library, turn_found, all_library, all_found}
use Rattle.declarations.proofs.library.add_objects.Goals as goal

pub loop-name-init : goal.loop-name-init
loop-name-init c = record {
  region = λ k env is has. refl;
  state = λ k env is has. refl;
  inside = goes_nowhere c.args.walk.now;
}

pub loop-name-preserved : goal.loop-name-preserved
loop-name-preserved c =
    let f = c.args.form in
    let old = c.loop-name.walk in
    let new = c.add_object.new.walk in
    record {
      region = λ k env is has.
          let a = c.in_ok-add_object.ensures.added k env is has in
          sym (turn_library c.args.names.now c.loop-name.name-index _ c.loop-name-test.true c.name-item.is env f.constancy (subtype_in_form k f)
          (option_map constant_of f.known) old.counts.library_objects new.counts.library_objects (region_in k old) (region_in k new) a.number a.region)
          ∙ c.loop-name.invariant.region k env is has;
      state = λ k env is has.
          sym (turn_found c.args.names.now c.loop-name.name-index _ c.loop-name-test.true c.name-item.is env (subtype_in_form k f)
          (initial_of c.args.initial) (state_of k old) (state_of k new) (c.in_ok-add_object.ensures.added k env is has).state)
          ∙ c.loop-name.invariant.state k env is has;
      inside = λ h. then_goes _ _ _ (c.loop-name.invariant.inside h) c.in_ok-add_object.ensures.inside;
    }

pub returns-clause-added : goal.returns-clause-added
returns-clause-added c k env is has =
    let f = c.args.form in
    let w = c.loop-name.walk in
    record {
      region =
          sym (all_library c.args.names.now c.loop-name.name-index c.loop-name-test.false env f.constancy (subtype_in_form k f)
          (option_map constant_of f.known) w.counts.library_objects (region_in k w))
          ∙ c.loop-name.invariant.region k env is has;
      state =
          sym (all_found c.args.names.now c.loop-name.name-index c.loop-name-test.false env (subtype_in_form k f) (initial_of c.args.initial) (state_of k w))
          ∙ c.loop-name.invariant.state k env is has;
    }

pub returns-clause-inside : goal.returns-clause-inside
returns-clause-inside c = c.loop-name.invariant.inside
