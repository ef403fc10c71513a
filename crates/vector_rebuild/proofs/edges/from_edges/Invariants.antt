use Rattle.std.proofs.Common.{◌≡◌, ◌↔◌, ◌⊎◌, drop}
use Rattle.cov_base.specs.declared.event.Event.{Event}
use Rattle.cov_base.specs.Lists.{Somewhere}
use Rattle.object_facts.specs.Object.{facts_of}
use Rattle.vector_rebuild.proofs.LeafEdges.{SomeSays}
use Rattle.vector_rebuild.proofs.edges.from_edges.Given as goal

-- the events so far, with what the blocks that are left say, are what all say
abbrev pub invariant-loop-at : goal.invariant-loop-at
invariant-loop-at l =
    (e : Event) → (Somewhere (λ x. x ≡ e) l.events.items ⊎ SomeSays (facts_of l.map) (drop l.at l.view.blocks) e)
    ↔ SomeSays (facts_of l.map) l.view.blocks e
