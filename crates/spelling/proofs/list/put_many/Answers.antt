use Rattle.std.proofs.lemmas.Grind.{common_steps}
use Rattle.std.proofs.Common.{◌++◌, ◌∷◌, ◌∙◌, [], All, arith, take, sym, ap, subst}
use Rattle.std.specs.List.{flat_map}
use Rattle.std.proofs.lemmas.List.{take_all, take_more, flat_map_more}
use Rattle.std.proofs.lemmas.List.Elements.{All-push, recursion_from_All}
use Rattle.spelling.proofs.list.put_many.Goals as goal

-- the values so far, and one more
pub loop-value-preserved : goal.loop-value-preserved
loop-value-preserved g c =
    let spell = g.T.Formatted.format.spell in
    let before = take c.loop-value.value-index c.args.values.now in
    let x = c.value-item.result in
    let more = ap (λ y. before ++ y ∷ []) c.value-item.is ∙ sym (take_more c.args.values.now c.loop-value.value-index x (omega arith)) in
    record {
      spelled = c.in_ok-write.ensures.spelled
          ∙ (ap (λ bytes. bytes ++ spell x) c.loop-value.invariant.spelled
          ∙ (flat_map_more spell c.args.into.now.items before x ∙ ap (λ xs. c.args.into.now.items ++ flat_map spell xs) more));
      fits = subst (All g.T.Formatted.format.Fits) more (All-push g.T.Formatted.format.Fits before x c.loop-value.invariant.fits c.in_ok-write.ensures.fits);
    }

pub returns-clause-spelled : goal.returns-clause-spelled
returns-clause-spelled c = grind (arith, common_steps) steps 2000000

pub returns-clause-fits : goal.returns-clause-fits
returns-clause-fits g c =
    let all = take_all c.loop-value.value-index c.args.values.now c.loop-value-test.false in
    recursion_from_All g.T.Formatted.format.Fits c.args.values.now (subst (All g.T.Formatted.format.Fits) all c.loop-value.invariant.fits)
