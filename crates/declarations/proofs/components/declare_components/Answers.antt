use Rattle.std.proofs.Common.{refl, sym, ◌∙◌}
use Rattle.ada_entities.specs.EntityViews.{region_of}
use Rattle.ada_entities.specs.RegionCode.{innermost}
use Rattle.program_walk.proofs.HideLaws.{then_inside}
use Rattle.program_walk.proofs.InsideLaws.{grows_inside, grows_itself}
use Rattle.declarations.proofs.FieldLaws.{turn_component, all_components}
use Rattle.declarations.proofs.components.declare_components.Goals as goal

pub loop-name-init : goal.loop-name-init
loop-name-init c = record {
  rest = λ k. refl;
  inside = λ h. grows_inside c.args.symbols.now c.args.symbols.now h (grows_itself c.args.symbols.now);
}

pub loop-name-preserved : goal.loop-name-preserved
loop-name-preserved c = record {
  rest = λ k.
      sym (turn_component (region_of k (innermost c.loop-name.symbols.regions)) (region_of k (innermost c.redefine.new.self.regions))
      c.args.names.now c.loop-name.name-index _ c.loop-name-test.true c.name-item.is (c.in_ok-redefine.ensures.redefined k))
      ∙ c.loop-name.invariant.rest k;
  inside = λ h. then_inside _ _ _ (c.loop-name.invariant.inside h) c.in_ok-redefine.ensures.inside;
}

pub returns-clause-components : goal.returns-clause-components
returns-clause-components c k =
    sym (all_components (region_of k (innermost c.loop-name.symbols.regions)) c.args.names.now c.loop-name.name-index c.loop-name-test.false)
    ∙ c.loop-name.invariant.rest k

pub returns-clause-inside : goal.returns-clause-inside
returns-clause-inside c = c.loop-name.invariant.inside
