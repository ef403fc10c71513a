use Rattle.std.proofs.Common.{sym, ◌∙◌, subst, arith}
use Rattle.std.proofs.lemmas.Result.{err_from_is_err_and}
use Rattle.ada_entities.specs.Answers.{Refuses}
use Rattle.ada_entities.specs.EntityViews.{region_of}
use Rattle.ada_entities.specs.RegionCode.{innermost}
use Rattle.program_walk.proofs.HideLaws.{rest_passes, rest_refused, then_inside}
use Rattle.program_walk.proofs.symbols.Symbols.hide_all.Goals as goal

pub returns-in_err-declare-clause-refused : goal.returns-in_err-declare-clause-refused
returns-in_err-declare-clause-refused c =
    let e = err_from_is_err_and c.from_residual.result c.from_residual.ensures.1 in
    rw (e.1, e.2) (λ k p.
    subst (λ a. Refuses a c.in_err-declare.field-0.0) (c.loop-name.invariant.rest k p)
    (rest_refused p (region_of k (innermost c.loop-name.self.regions)) c.args.names.now c.loop-name.name-index _ c.in_err-declare.field-0.0
    (omega arith) c.name-item.is (c.in_err-declare.ensures.refused k)))

pub loop-name-preserved : goal.loop-name-preserved
loop-name-preserved c = record {
  rest = λ k p.
      sym (rest_passes p (region_of k (innermost c.loop-name.self.regions)) c.args.names.now c.loop-name.name-index
      (region_of k (innermost c.declare.new.self.regions)) _ (omega arith) c.name-item.is (c.in_ok-declare.ensures.declared k))
      ∙ c.loop-name.invariant.rest k p;
  inside = λ h. then_inside _ _ _ (c.loop-name.invariant.inside h) c.in_ok-declare.ensures.inside;
  continues = λ k h. c.loop-name.invariant.continues k (c.declare.ensures.continues k h);
}
