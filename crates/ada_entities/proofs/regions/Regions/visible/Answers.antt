use Rattle.std.proofs.Common.{ap, ◌∙◌, option_map}
use Rattle.std.specs.Option.{option_or}
use Rattle.ada_rules.specs.Entities as rules
use Rattle.ada_rules.specs.Entities.{found}
use Rattle.ada_entities.specs.EntityViews.{entity_of}
use Rattle.ada_entities.specs.RegionCode.{regions_of}
use Rattle.ada_entities.proofs.NestingLaws.{or_seen, found_or}
use Rattle.ada_entities.proofs.regions.Regions.visible.Goals as goal

pub returns : goal.returns
returns c k =
    let name = c.args.name.now in
    let rs = regions_of k c.args.self.now in
    c.shown.ensures k
    ∙ ap rules.shown
    (ap (option_map (entity_of k)) c.or.ensures
    ∙ (or_seen k c.find.result c.predefined.result
    ∙ (ap (λ o. option_or o (option_map (entity_of k) c.predefined.result)) (c.find.ensures k)
    ∙ (ap (λ o. option_or (found name rs) o) (c.predefined.ensures k) ∙ found_or name rs rules.predefined_region))))
