use Rattle.std.proofs.Common.{◌++◌, ◌∷◌, ◌∙◌, [], All, arith, take, sym, ap, subst}
use Rattle.std.specs.List.{flat_map}
use Rattle.std.proofs.lemmas.List.{take_more, take_all, flat_map_more}
use Rattle.std.proofs.lemmas.List.Elements.{All-push, recursion_from_All}
use Rattle.object_format.proofs.layout.list.put_values.Goals as goal

-- the values so far, and one more
pub loop-value-preserved : goal.loop-value-preserved
loop-value-preserved g c =
    let spell = g.T.Stored.format.spell in
    let before = take c.loop-value.value-index c.args.values.now in
    let x = c.value-item.result in
    let more = ap (λ y. before ++ y ∷ []) c.value-item.is ∙ sym (take_more c.args.values.now c.loop-value.value-index x (omega arith)) in
    record {
      appended = c.in_ok-write.ensures.appends
          ∙ (ap (λ bytes. bytes ++ spell x) c.loop-value.invariant.appended
          ∙ (flat_map_more spell c.args.into.now.items before x ∙ ap (λ xs. c.args.into.now.items ++ flat_map spell xs) more));
      fits = subst (All g.T.Stored.format.Fits) more (All-push g.T.Stored.format.Fits before x c.loop-value.invariant.fits c.in_ok-write.ensures.fits);
    }

pub returns-clause-appends : goal.returns-clause-appends
returns-clause-appends g c =
    c.loop-value.invariant.appended
    ∙ ap (λ xs. c.args.into.now.items ++ flat_map g.T.Stored.format.spell xs) (take_all c.loop-value.value-index c.args.values.now c.loop-value-test.false)

pub returns-clause-fits : goal.returns-clause-fits
returns-clause-fits g c =
    let values = c.args.values.now in
    recursion_from_All g.T.Stored.format.Fits values
    (subst (All g.T.Stored.format.Fits) (take_all c.loop-value.value-index values c.loop-value-test.false) c.loop-value.invariant.fits)
