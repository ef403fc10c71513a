use Rattle.std.proofs.Common.{◌≡◌, ◌↔◌, ◌⊎◌, ◌++◌, List, subst}
use Rattle.cov_base.specs.declared.event.Event.{Event}
use Rattle.cov_base.specs.Lists.{Somewhere}
use Rattle.coverage_set.proofs.Members.{all_gathered}
use Rattle.coverage_set.proofs.found.Found.into_events.Goals as goal

-- what one list more adds
abbrev Added : (before after more : List Event) → Type 0
Added before after more = (e : Event) → Somewhere (λ x. x ≡ e) after ↔ (Somewhere (λ x. x ≡ e) before ⊎ Somewhere (λ x. x ≡ e) more)

pub returns : goal.returns
returns c =
    all_gathered (λ e. Somewhere (λ x. x ≡ e) ((c.args.self.replay.events ++ c.args.self.flagged) ++ c.args.self.starts.events.items))
    c.args.self.replay.events c.args.self.flagged c.args.self.starts.events.items
    c.into_events-events.result c.add_all.new.self c.add_all-2.new.self c.into_set.result
    (rw c.into_events-events.ensures (λ e. (λ some. some, λ some. some)))
    (subst (Added c.into_events-events.result c.add_all.new.self) c.as_slice.ensures c.in_ok-add_all.ensures)
    (subst (Added c.add_all.new.self c.add_all-2.new.self) c.as_slice-2.ensures c.in_ok-add_all-2.ensures)
    c.into_set.ensures
    (λ e. (λ some. some, λ some. some))
