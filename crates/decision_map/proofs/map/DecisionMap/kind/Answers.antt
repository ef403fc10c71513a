use Rattle.std.proofs.Common.{List, ap, ◌∙◌}
use Rattle.object_format.specs.declared.object.Object.{Object}
use Rattle.decision_map.specs.declared.kind.WordKind.{WordKind}
use Rattle.decision_map.specs.Kinds.{kind_in}
use Rattle.decision_map.specs.Roles.{kind_at}
use Rattle.decision_map.proofs.Meant.{kind_law}
use Rattle.decision_map.proofs.map.DecisionMap.kind.Goals as goal

pub returns : goal.returns
returns c =
    let kinds = c.self.inside.kinds.items in
    c.kind_in.ensures
    ∙ ap (λ (ks : List WordKind). kind_in ks c.args.pc) c.as_slice.ensures.value
    ∙ kind_law c.self.inside.object.now c.self.invariant.mappable kinds c.self.invariant.words c.args.pc
    ∙ ap (λ (o : Object). kind_at o c.args.pc) c.self.view_is
