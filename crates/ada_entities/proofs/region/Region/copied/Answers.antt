use Rattle.std.proofs.Common.{◌∙◌}
use Rattle.std.specs.List.{each_same}
use Rattle.ada_entities.proofs.Copies.{copies}
use Rattle.ada_entities.proofs.region.Region.copied.Goals as goal

pub returns : goal.returns
returns c =
    copies _ _ (λ v w h. each_same v.items w.items h.0) (λ x y h. h) _ c.in_ok-clone.field-0.entries c.in_ok-clone.ensures.cases
    ∙ c.self.view_is
