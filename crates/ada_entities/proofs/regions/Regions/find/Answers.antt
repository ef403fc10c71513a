use Rattle.std.proofs.lemmas.Grind.{common_steps}
use Rattle.std.proofs.Common.{None, arith, sym, ap, ◌∙◌, option_map}
use Rattle.std.proofs.lemmas.List.{at_drop_all}
use Rattle.ada_rules.specs.Entities.{found}
use Rattle.ada_entities.specs.EntityViews.{entity_of}
use Rattle.ada_entities.specs.RegionCode.{found_behind, regions_of}
use Rattle.ada_entities.proofs.NestingLaws.{found_from_nothing}
use Rattle.ada_entities.proofs.regions.Regions.find.Goals as goal

pub returns : goal.returns
returns c k =
    let name = c.args.name.now in
    let items = c.as_slice-region-items.result.now in
    let last =
    at_drop_all (λ rs. found_behind k name (option_map (entity_of k) c.loop-region.denoted) rs) items c.loop-region.region-index (omega arith) in
    sym last ∙ (c.loop-region.invariant k ∙ (ap (λ rs. found_behind k name None rs) c.as_slice-region-items.ensures.value
    ∙ (found_from_nothing k name c.self.inside.regions.items ∙ ap (λ rs. found name (regions_of k rs)) c.self.view_is)))

pub loop-region-preserved : goal.loop-region-preserved
loop-region-preserved c = grind (arith, common_steps)
