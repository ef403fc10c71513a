use Rattle.std.proofs.Common.{◌≡◌, ◌↔◌, Some}
use Rattle.cov_base.specs.declared.event.Event.{Event}
use Rattle.object_facts.specs.Object.{facts_of}
use Rattle.vector_rebuild.specs.Entries.{block_of}
use Rattle.vector_rebuild.specs.Flagged.{EdgeSays}
use Rattle.vector_rebuild.proofs.LeafEdges.{one_more, no_more}
use Rattle.vector_rebuild.proofs.edges.add_edge.Goals as goal

pub returns-in_ok-push : goal.returns-in_ok-push
returns-in_ok-push c =
    let law : (e : Event) → (Some c.in-Some.event ≡ Some e) ↔ EdgeSays (facts_of c.args.map.now) (block_of c.args.block) c.args.taken e =
    rw c.in-Some.is at c.edge_event.ensures in
    rw c.in_ok-push.ensures.items
    (one_more (EdgeSays (facts_of c.args.map.now) (block_of c.args.block) c.args.taken) c.args.events.now.items c.in-Some.event law)

pub returns-in_default : goal.returns-in_default
returns-in_default c =
    no_more (EdgeSays (facts_of c.args.map.now) (block_of c.args.block) c.args.taken) c.args.events.now.items c.in_default.ensures
