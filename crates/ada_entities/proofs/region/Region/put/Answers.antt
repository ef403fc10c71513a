use Rattle.std.proofs.Common.{◌∙◌, ap, map}
use Rattle.ada_entities.specs.RegionView.{entry_of}
use Rattle.ada_entities.specs.RegionCode.{with_entry}
use Rattle.ada_entities.proofs.RegionLaws.{put_seen}
use Rattle.ada_entities.proofs.region.Region.put.Goals as goal

pub returns : goal.returns
returns c =
    ap (λ es. map entry_of es) c.in_ok-insert.ensures.entries
    ∙ (put_seen c.args.name c.args.entity c.self.inside.table.entries ∙ ap (λ r. with_entry c.args.name.items c.args.entity r) c.self.view_is)
