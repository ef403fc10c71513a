use Rattle.std.proofs.Common.{◌≡◌, List, ap, sym, ◌∙◌}
use Rattle.object_format.specs.declared.object.Object.{Object}
use Rattle.decision_map.specs.declared.kind.WordKind.{WordKind}
use Rattle.decision_map.specs.Kinds.{kind_in, keeps_history}
use Rattle.decision_map.specs.Roles.{needs_history}
use Rattle.decision_map.proofs.Meant.{keeps_law}
use Rattle.decision_map.proofs.Needed.{needed_law}
use Rattle.decision_map.proofs.map.DecisionMap.needs_history.Goals as goal

pub returns : goal.returns
returns c =
    let kinds = c.self.inside.kinds.items in
    let pc = c.args.pc in
    let exact : c.keeps_history.result ≡ needs_history c.args.self.now pc =
    c.keeps_history.ensures
    ∙ ap keeps_history (c.kind_in.ensures ∙ ap (λ (ks : List WordKind). kind_in ks pc) c.as_slice.ensures.value)
    ∙ keeps_law c.self.inside.object.now c.self.invariant.mappable kinds c.self.invariant.words pc
    ∙ ap (λ (o : Object). needs_history o pc) c.self.view_is in
    let law = needed_law c.args.self.now pc in
    record { exact = exact; meaning = (λ is. law.0 (sym exact ∙ is), λ needs. exact ∙ law.1 needs) }
