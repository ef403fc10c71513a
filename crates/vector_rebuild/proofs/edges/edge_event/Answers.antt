use Rattle.std.proofs.Common.{Option, option_map, ap, sym, ◌∙◌}
use Rattle.decision_map.specs.declared.condition.Condition.{Condition}
use Rattle.object_facts.specs.Object.{facts_of, condition_of}
use Rattle.vector_rebuild.specs.Entries.{block_of}
use Rattle.vector_rebuild.proofs.LeafEdges.{says_ended}
use Rattle.vector_rebuild.proofs.edges.edge_event.Goals as goal

pub returns : goal.returns
returns c =
    let m = c.args.map.now in
    says_ended (facts_of m) (block_of c.args.block) (condition_of c.in_ok-condition.field-0) c.args.taken c.ended_by.result
    (ap (λ (found : Option Condition). option_map condition_of found) (sym c.condition.ensures ∙ c.in_ok-condition.was))
    (sym c.has_flag.ensures ∙ c.if-not-has_flag.false) c.ended_by.ensures
