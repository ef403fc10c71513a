use Rattle.std.proofs.Common.{refl, ap, ◌∙◌}
use Rattle.std.specs.Option.{option_map}
use Rattle.vector_rebuild.specs.Kept.{same}
use Rattle.vector_rebuild.specs.Rebuilt.{half_as, key_in}
use Rattle.vector_rebuild.proofs.Keys.{half_as_cond}
use Rattle.vector_rebuild.proofs.rebuild.Rebuild.keep.Goals as goal

pub returns-in_ok-put-in-Node-clause-after : goal.returns-in_ok-put-in-Node-clause-after
returns-in_ok-put-in-Node-clause-after c =
    λ k. ap (option_map half_as) (c.in_ok-put-in-Node.ensures.after (key_in k)) ∙ half_as_cond (same c.args.key (key_in k)) _ _
    ∙ rw c.in-Node.is refl

pub returns-in_ok-put-in-Leaf-clause-after : goal.returns-in_ok-put-in-Leaf-clause-after
returns-in_ok-put-in-Leaf-clause-after c =
    λ k. ap (option_map half_as) (c.in_ok-put-in-Leaf.ensures.after (key_in k)) ∙ half_as_cond (same c.args.key (key_in k)) _ _
    ∙ rw c.in-Leaf.is refl
