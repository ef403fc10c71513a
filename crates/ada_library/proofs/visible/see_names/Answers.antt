use Rattle.std.proofs.Common.{◌+◌, ◌++◌, drop, arith, sym, ◌∙◌}
use Rattle.std.proofs.lemmas.List.{at_drop_all}
use Rattle.ada_rules.specs.Library.{seen_more}
use Rattle.ada_entities.specs.EntityViews.{region_of}
use Rattle.ada_library.proofs.NameLaws.{drop_item}
use Rattle.ada_library.proofs.visible.see_names.Goals as goal

pub loop-name-preserved : goal.loop-name-preserved
loop-name-preserved c all k w l s more =
    let names = c.args.names.now in
    let i = c.loop-name.name-index in
    let region = region_of k c.loop-name.region in
    c.in_ok-see_name.ensures all k w l s (drop (i + 1) names ++ more)
    ∙ (sym (drop_item (λ ys. seen_more w l (ys ++ more) region) names i c.name-item.result (omega arith) c.name-item.is)
    ∙ c.loop-name.invariant all k w l s more)

pub returns : goal.returns
returns c all k w l s more =
    sym (at_drop_all (λ ys. seen_more w l (ys ++ more) (region_of k c.loop-name.region)) c.args.names.now c.loop-name.name-index (omega arith))
    ∙ c.loop-name.invariant all k w l s more
