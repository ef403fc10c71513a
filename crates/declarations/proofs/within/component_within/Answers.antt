use Rattle.std.proofs.Common.{◌≡◌, option_map, length, refl, sym, ap, ◌∙◌, arith}
use Rattle.std.proofs.lemmas.List.{drop_all}
use Rattle.ada_tree.specs.Programs.{in_others}
use Rattle.ada_rules.specs.Declarations.{innermost, initial_for}
use Rattle.ada_entities.specs.Tables.{parts_of}
use Rattle.ada_entities.specs.Views.{subtype_of}
use Rattle.declarations.specs.Within.{fitting_value}
use Rattle.declarations.proofs.WithinLaws.{innermost_end, initial_end, alone, innermost_in, innermost_stops, initial_in, initial_stops}
use Rattle.declarations.proofs.within.component_within.Goals as goal

pub loop-init : goal.loop-init
loop-init c = record {
  count = omega arith;
  subtype = λ known k b. refl;
  initial = λ known k b e. alone (initial_for (subtype_of k.types c.args.subtype) c.args.others.now e);
}

pub loop-preserved : goal.loop-preserved
loop-preserved c = record {
  count = omega (arith, c.loop-test.true);
  subtype = λ known k b.
      let parts = sym (c.in_ok-inner.ensures known k b) ∙ ap (option_map (parts_of k.types)) c.in-Some.is in
      c.loop.invariant.subtype known k b
      ∙ innermost_in (subtype_of k.types c.loop.component) c.args.others.now c.loop.index c.loop-test.true _ _ parts;
  initial = λ known k b e.
      let parts = sym (c.in_ok-inner.ensures known k b) ∙ ap (option_map (parts_of k.types)) c.in-Some.is in
      c.loop.invariant.initial known k b e
      ∙ initial_in (subtype_of k.types c.loop.component) c.args.others.now c.loop.index c.loop-test.true e _ _ parts;
}

pub returns-in_default : goal.returns-in_default
returns-in_default c known k b =
    let parts = sym (c.in_ok-inner.ensures known k b) ∙ ap (option_map (parts_of k.types)) c.in_default.is in
    let t = subtype_of k.types c.loop.component in
    record {
      subtype = c.loop.invariant.subtype known k b ∙ innermost_stops t c.args.others.now c.loop.index c.loop-test.true parts;
      initial = λ e. c.loop.invariant.initial known k b e ∙ initial_stops t c.args.others.now c.loop.index c.loop-test.true e parts;
    }

pub returns : goal.returns
returns c known k b =
    let t = subtype_of k.types c.loop.component in
    let whole : c.loop.index ≡ length c.args.others.now = omega (arith, c.loop-test.false, c.loop.invariant.count) in
    let none = drop_all c.loop.index c.args.others.now c.loop-test.false in
    record {
      subtype = c.loop.invariant.subtype known k b ∙ (ap (innermost t) none ∙ innermost_end t);
      initial = λ e.
          c.loop.invariant.initial known k b e
          ∙ (ap (λ ps. option_map (in_others c.loop.index) (initial_for t ps e)) none
          ∙ (ap (option_map (in_others c.loop.index)) (initial_end t e) ∙ ap (λ n. option_map (in_others n) (fitting_value t e)) whole));
    }
