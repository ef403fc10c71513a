use Rattle.std.proofs.Common.{ap, ◌∙◌}
use Rattle.ada_rules.specs.Entities.{key}
use Rattle.ada_rules.specs.Library.{seen_too}
use Rattle.ada_entities.specs.EntityViews.{entity_of, region_of}
use Rattle.ada_library.specs.Seeing.{IsOwn}
use Rattle.ada_library.proofs.NameLaws.{kept}
use Rattle.ada_library.proofs.visible.own_region.Goals as goal

pub returns : goal.returns
returns c =
    let i = c.args.item.now in
    let entity = c.args.entity in
    let name = c.in_ok-name.ensures ∙ ap key c.item_name.ensures in
    kept (IsOwn i entity) c.see-told.result c.see-told.new.self c.and.result c.and.ensures c.see-told.ensures
    (λ sees k. sees k ∙ (λ z. seen_too (name z) (entity_of k entity) (region_of k (c.new-region.ensures z))))
