use Rattle.std.proofs.Common.{sym, ap, ◌∙◌}
use Rattle.ada_rules.specs.Entities.{visible}
use Rattle.ada_entities.specs.RegionCode.{in_standard}
use Rattle.program_walk.proofs.site.Site.visible.Goals as goal

pub returns : goal.returns
returns c k env h =
    c.visible.ensures k
    ∙ (ap (λ name. visible name (in_standard k c.args.self.now.symbols.now.regions)) (c.as_slice.ensures.value ∙ c.in_ok-name.ensures)
    ∙ ap (visible _) (sym h.regions))
