use Rattle.std.proofs.Common.{◌≡◌, ◌↔◌, ◌≤◌, drop, length, arith, sym, subst}
use Rattle.std.proofs.lemmas.List.{drop_all}
use Rattle.cov_base.specs.declared.event.Event.{Event}
use Rattle.cov_base.specs.declared.event.Event.TheVariants.{Done}
use Rattle.cov_base.specs.Lists.{Somewhere}
use Rattle.object_facts.proofs.Fair.{fair}
use Rattle.object_facts.specs.Object.{facts_of}
use Rattle.transcript.proofs.SaidLaw.{flags_tell}
use Rattle.transcript.specs.Trace.{Trace, IsFlagged}
use Rattle.vector_rebuild.specs.Flagged.{FlagsSay}
use Rattle.vector_rebuild.specs.Entries.{trace_in}
use Rattle.vector_rebuild.proofs.LeafEdges.{block_more, flags_law, all_said}
use Rattle.vector_rebuild.proofs.edges.from_edges.Goals as goal

pub loop-at-preserved : goal.loop-at-preserved
loop-at-preserved c =
    block_more (facts_of c.args.map.now) c.loop-at.events.items c.add_edge.new.events.items c.add_edge-in-loop-at.new.events.items
    c.args.view.now.blocks c.loop-at.at c.block-block.result c.block-block.ensures c.in_ok-add_edge.ensures c.in_ok-add_edge-2.ensures c.loop-at.invariant

-- the events are what the flags say
said : (c : goal.After-loop-at) (e : Event) → Somewhere (λ x. x ≡ e) c.loop-at.events.items ↔ FlagsSay (facts_of c.args.map.now) (trace_in c.args.view.now) e
said c e =
    let o = facts_of c.args.map.now in
    let past : length c.args.view.now.blocks ≤ c.loop-at.at = omega arith in
    let all = all_said o c.loop-at.events.items c.args.view.now.blocks (drop c.loop-at.at c.args.view.now.blocks)
    (drop_all c.loop-at.at c.args.view.now.blocks past) c.loop-at.invariant e in
    let law = flags_law o (trace_in c.args.view.now) e in
    (λ here. law.0 (all.0 here), λ says. all.1 (law.1 says))

pub returns-clause-said : goal.returns-clause-said
returns-clause-said c e = said c e

pub returns-clause-run : goal.returns-clause-run
returns-clause-run c ss disciplined is d i vector tree =
    let o = facts_of c.args.map.now in
    let law = flags_tell o ss d i vector (fair c.args.map.now c.requires) disciplined tree in
    let told = said c (Done d i vector) in (
      λ here. law.0 (subst (λ (t : Trace). IsFlagged o t d i vector) is (told.0 here)),
      λ completed. told.1 (subst (λ (t : Trace). IsFlagged o t d i vector) (sym is) (law.1 completed)),
    )
