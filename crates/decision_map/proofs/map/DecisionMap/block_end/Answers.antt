use Rattle.std.proofs.Common.{List, ap, sym, ◌∙◌}
use Rattle.object_format.specs.declared.object.Object.{Object}
use Rattle.decision_map.specs.declared.kind.WordKind.{WordKind}
use Rattle.decision_map.specs.Blocks.{block_end}
use Rattle.decision_map.specs.Kinds.{kinds_of_text}
use Rattle.decision_map.proofs.Meant.{plain_end}
use Rattle.decision_map.proofs.map.DecisionMap.block_end.Goals as goal

pub returns : goal.returns
returns c =
    let kinds = c.self.inside.kinds.items in
    let start = c.args.start in
    c.block_end.ensures
    ∙ ap (λ (ks : List WordKind). block_end ks start) c.as_slice.ensures.value
    ∙ sym (plain_end kinds start)
    ∙ ap (λ (ks : List WordKind). block_end ks start) c.self.invariant.words.flow
    ∙ ap (λ (o : Object). block_end (kinds_of_text o.text) start) c.self.view_is
