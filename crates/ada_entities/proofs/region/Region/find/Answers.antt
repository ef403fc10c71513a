use Rattle.std.proofs.Common.{◌∙◌, ap, option_map}
use Rattle.std.specs.Map.{lookup}
use Rattle.ada_rules.specs.Entities.{same_name}
use Rattle.ada_entities.specs.EntityViews.{entity_of}
use Rattle.ada_entities.proofs.RegionLaws.{lookup_entries, lookup_seen}
use Rattle.ada_entities.proofs.region.Region.find.Goals as goal

pub returns : goal.returns
returns c k =
    let name = c.args.name.now in
    ap (λ o. option_map (entity_of k) o)
    (c.copied.ensures ∙ (c.get.ensures.value ∙ (lookup_entries name c.self.inside.table.entries ∙ ap (λ r. lookup (same_name name) r) c.self.view_is)))
    ∙ lookup_seen k name c.args.self.now
