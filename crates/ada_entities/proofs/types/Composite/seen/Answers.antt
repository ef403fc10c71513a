use Rattle.std.proofs.Common.{ap, ◌∙◌}
use Rattle.ada_tree.specs.View.{owner_of}
use Rattle.ada_entities.specs.Views.{identity_of, shaped, shape_at, type_by}
use Rattle.ada_entities.proofs.SeenLaws.{type_after}
use Rattle.ada_entities.proofs.types.Composite.seen.Goals as goal

pub returns : goal.returns
returns c k =
    let t = shaped (identity_of c.args.self.identity) (shape_at k c.args.self.number) in
    ap (λ o. type_by k o t) c.owner_seen.ensures ∙ type_after k c.args.instance (owner_of c.args.self.seen) t
