use Rattle.std.proofs.lemmas.Result.{on_ok_weaker}
use Rattle.object_facts.specs.Object.{facts_of}
use Rattle.std.proofs.Common.{true, false}
use Rattle.vector_rebuild.specs.Entries.{block_of}
use Rattle.vector_rebuild.specs.Flagged.{EdgeSays}
use Rattle.coverage_set.proofs.FoundSeen.{edges_added}
use Rattle.coverage_set.proofs.found.add_flagged.Goals as goal

pub returns : goal.returns
returns c =
    on_ok_weaker c.add-2.result (λ added.
    edges_added (EdgeSays (facts_of c.args.map.now) (block_of c.args.block) true) (EdgeSays (facts_of c.args.map.now) (block_of c.args.block) false)
    c.edge_event.result c.edge_event-2.result c.args.events.now c.add.new.events c.add-2.new.events
    c.edge_event.ensures c.edge_event-2.ensures c.in_ok-add.ensures added) c.add-2.ensures
