use Rattle.std.proofs.Common.{refl, sym, ap, ◌∙◌}
use Rattle.ada_rules.specs.Entities.{key, redefined}
use Rattle.ada_entities.specs.Views.{type_of}
use Rattle.ada_entities.specs.EntityViews.{region_of}
use Rattle.ada_entities.specs.RegionCode.{innermost}
use Rattle.program_walk.proofs.HideLaws.{then_inside}
use Rattle.declarations.proofs.LiteralLaws.{turn_literal, all_literals}
use Rattle.program_walk.proofs.InsideLaws.{grows_inside, grows_itself}
use Rattle.declarations.proofs.literals.declare_literals.Goals as goal

pub loop-place-init : goal.loop-place-init
loop-place-init c = record {
  rest = λ k. refl;
  inside = λ h. grows_inside c.args.symbols.now c.args.symbols.now h (grows_itself c.args.symbols.now);
}

pub loop-place-preserved : goal.loop-place-preserved
loop-place-preserved c = record {
  rest = λ k.
      let t = type_of k.types c.args.of in
      let old = region_of k (innermost c.loop-place.symbols.regions) in
      sym (turn_literal t c.loop-place.place old (region_of k (innermost c.redefine.new.self.regions)) c.args.names.now c.loop-place.place
      c.index-names-place.result c.loop-place-test.true c.index-names-place.is
      (c.in_ok-redefine.ensures.redefined k
      ∙ ap (λ x. redefined (key c.index-names-place.result) x old) (c.in_ok-literal.ensures k)))
      ∙ c.loop-place.invariant.rest k;
  inside = λ h. then_inside _ _ _ (c.loop-place.invariant.inside h) c.in_ok-redefine.ensures.inside;
}

pub returns-clause-literals : goal.returns-clause-literals
returns-clause-literals c k =
    sym (all_literals (type_of k.types c.args.of) c.loop-place.place (region_of k (innermost c.loop-place.symbols.regions)) c.args.names.now
    c.loop-place.place c.loop-place-test.false)
    ∙ c.loop-place.invariant.rest k

pub returns-clause-inside : goal.returns-clause-inside
returns-clause-inside c = c.loop-place.invariant.inside
