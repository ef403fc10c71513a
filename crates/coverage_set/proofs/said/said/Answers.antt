use Rattle.std.proofs.Common.{arith}
use Rattle.std.proofs.lemmas.Grind.{common_steps}
use Rattle.std.proofs.Common.{◌≡◌, ◌↔◌, ◌⊎◌, List, [], ap, subst, ◌∙◌}
use Rattle.cov_base.specs.declared.event.Event.{Event}
use Rattle.cov_base.specs.Lists.{Somewhere}
use Rattle.object_facts.specs.Object.{facts_of}
use Rattle.object_format.specs.declared.object.Object.{Object}
use Rattle.transcript.specs.Computed.{done_of}
use Rattle.transcript.specs.Trace.{Says}
use Rattle.vector_rebuild.specs.Entries.{trace_in}
use Rattle.vector_rebuild.specs.Rebuilt.{visits_of}
use Rattle.coverage_set.specs.Said.{starts_in}
use Rattle.coverage_set.proofs.Members.{all_gathered}
use Rattle.coverage_set.proofs.SaidLaw.{said_law}
use Rattle.coverage_set.proofs.said.said.Goals as goal

-- what one list more adds, where that list is known
abbrev Added : (before after more : List Event) → Type 0
Added before after more = (e : Event) → Somewhere (λ x. x ≡ e) after ↔ (Somewhere (λ x. x ≡ e) before ⊎ Somewhere (λ x. x ≡ e) more)

pub returns-clause-said : goal.returns-clause-said
returns-clause-said c =
    let o = c.args.map.now in
    let t = c.args.view.now in
    let starts : c.as_slice-2.result.now ≡ starts_in t.blocks o.rows =
    c.as_slice-2.ensures.value ∙ c.in_ok-starts.ensures ∙ ap (λ (known : Object). starts_in t.blocks known.rows) c.object.ensures in
    all_gathered (Says (facts_of o) (trace_in t)) (done_of (facts_of o) [] (visits_of (facts_of o) t.history)) c.in_ok-flagged.flagged.items
    (starts_in t.blocks o.rows) c.in_ok-events.events c.add_all.new.self c.add_all-2.new.self c.into_set.result
    c.in_ok-events.ensures.events
    (subst (Added c.in_ok-events.events c.add_all.new.self) c.as_slice.ensures.value c.in_ok-add_all.ensures)
    (subst (Added c.add_all.new.self c.add_all-2.new.self) starts c.in_ok-add_all-2.ensures)
    c.into_set.ensures
    (said_law o c.requires.sound t c.requires.kept c.in_ok-flagged.flagged.items c.in_ok-flagged.ensures.said)

pub starts_in-requires : goal.starts_in-requires
starts_in-requires c = grind (arith, common_steps)

pub returns-clause-follow : goal.returns-clause-follow
returns-clause-follow c = grind (arith, common_steps)
