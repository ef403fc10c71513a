-- A history that is replayed, one entry more.
use Rattle.std.proofs.Common.{◌≡◌, ◌↔◌, ◌⊎◌, ℕ, ◌-◌, ◌^◌, ◌<◌, ◌≤◌, true, false, List, [], ◌∷◌, ◌++◌, take, length, slice_get, Option, Some, None, refl, sym, ap, subst, ◌∙◌, arith, append_assoc, inl, inr, map, option_to_list}
use Rattle.std.specs.Prelude.{IfSome, is_some}
use Rattle.std.specs.List.{filter_map}
use Rattle.std.proofs.lemmas.List.{map-append}
use Rattle.std.proofs.lemmas.List.Elements.{filter_map-append}
use Rattle.cov_base.specs.declared.event.Event.{Event}
use Rattle.cov_base.specs.declared.failure.Failure.TheVariants.{Fault}
use Rattle.cov_base.specs.Lists.{Somewhere}
use Rattle.decision_map.specs.Roles.{needs_history}
use Rattle.object_facts.specs.Object.{facts_of}
use Rattle.object_format.specs.declared.object.Object.{Object}
use Rattle.trace_format.specs.declared.trace.HistoryEntry.{HistoryEntry}
use Rattle.transcript.specs.Computed.{done_at}
use Rattle.transcript.specs.Facts.{Facts}
use Rattle.transcript.specs.Replay.{BreaksAt}
use Rattle.transcript.specs.Trace.{visit_in}
use Rattle.transcript.specs.Visit.{Visit, onto}
use Rattle.vector_rebuild.specs.declared.fault.BrokenHistory.{BrokenHistory}
use Rattle.vector_rebuild.specs.declared.rebuild.Rebuild.{Rebuild}
use Rattle.vector_rebuild.specs.Entries.{branched_of}
use Rattle.vector_rebuild.specs.Rebuilt.{Rebuilds, IsAsBefore, IsRefusedAfter, count_of, visits_of}
use Rattle.coverage_set.specs.declared.replay.Replay.{Replay}
use Rattle.coverage_set.specs.Read.{AreKept, Replays}
use Rattle.coverage_set.proofs.Replayed.{replayed_one, breaks}

-- ---- lists

pub kept_front : (o : Object) (history : List HistoryEntry) (entry : HistoryEntry) → AreKept o (history ++ entry ∷ []) → AreKept o history
kept_front o [] entry kept = tt
kept_front o (h ∷ history) entry kept = (kept.0, kept_front o history entry kept.1)

pub kept_last : (o : Object) (history : List HistoryEntry) (entry : HistoryEntry) → AreKept o (history ++ entry ∷ []) → needs_history o entry.address ≡ true
kept_last o [] entry kept = kept.0
kept_last o (h ∷ history) entry kept = kept_last o history entry kept.1

pub kept_more : (o : Object) (history : List HistoryEntry) (entry : HistoryEntry) → AreKept o history → needs_history o entry.address ≡ true
    → AreKept o (history ++ entry ∷ [])
kept_more o [] entry kept needed = (needed, tt)
kept_more o (h ∷ history) entry kept needed = (kept.0, kept_more o history entry kept.1 needed)

last_there : {X : Type 0} (xs : List X) (x : X) → slice_get (xs ++ x ∷ []) (length xs) ≡ Some x
last_there [] x = refl
last_there (y ∷ xs) x = last_there xs x

front_taken : {X : Type 0} (xs : List X) (x : X) → take (length xs) (xs ++ x ∷ []) ≡ xs
front_taken [] x = refl
front_taken (y ∷ xs) x = ap (λ (ys : List _). y ∷ ys) (front_taken xs x)

-- an option by its test
pub some_is : (found : Option ℕ) → is_some found ≡ true → (at : ℕ) × (found ≡ Some at)
some_is None is = absurd (cc is)
some_is (Some at) is = (at, refl)

pub none_is : (found : Option ℕ) → is_some found ≡ false → found ≡ None
none_is None is = refl
none_is (Some at) is = absurd (cc is)

-- ---- where it breaks

visits_more : (o : Facts) (history : List HistoryEntry) (entry : HistoryEntry)
    → visits_of o (history ++ entry ∷ []) ≡ visits_of o history ++ visits_of o (entry ∷ [])
visits_more o history entry =
    ap (λ (bs : List _). filter_map (visit_in o) bs) (map-append branched_of history (entry ∷ []))
    ∙ filter_map-append (visit_in o) (map branched_of history) (branched_of entry ∷ [])

-- a history that breaks goes on to break there
breaks_still : (o : Facts) (history : List HistoryEntry) (entry : HistoryEntry) (at : ℕ) → BreaksAt o (visits_of o history) at
    → BreaksAt o (visits_of o (history ++ entry ∷ [])) at
breaks_still o history entry at broken = record {
  earlier = broken.earlier;
  visit = broken.visit;
  later = broken.later ++ visits_of o (entry ∷ []);
  whole = visits_more o history entry ∙ ap (λ (vs : List Visit). vs ++ visits_of o (entry ∷ [])) broken.whole
      ∙ append_assoc broken.earlier (broken.visit ∷ broken.later) (visits_of o (entry ∷ []));
  follow = broken.follow;
  off = broken.off;
  place = broken.place;
}

-- it breaks at an entry that was refused
breaks_here : (o : Object) (r : Rebuild) (fed : List HistoryEntry) (entry : HistoryEntry) (broken : BrokenHistory)
    → AreKept o (fed ++ entry ∷ []) → Rebuilds (facts_of o) r fed → IsRefusedAfter (facts_of o) fed entry (Fault broken)
    → BreaksAt (facts_of o) (visits_of (facts_of o) (fed ++ entry ∷ [])) broken.at
breaks_here o r fed entry broken kept holds refused =
    let front : take (length fed) (fed ++ entry ∷ []) ≡ fed = front_taken fed entry in
    breaks o r (fed ++ entry ∷ []) (length fed) entry (Fault broken) kept (last_there fed entry)
    (subst (λ (xs : List HistoryEntry). Rebuilds (facts_of o) r xs) (sym front) holds)
    (subst (λ (xs : List HistoryEntry). IsRefusedAfter (facts_of o) xs entry (Fault broken)) (sym front) refused)

-- ---- one entry more

-- where it stopped before, no entry is looked at
pub replay_stopped : (o : Object) (r : Replay) (history : List HistoryEntry) (entry : HistoryEntry) (at : ℕ) → r.stopped ≡ Some at
    → Replays o r history → Replays o r (history ++ entry ∷ [])
replay_stopped o r history entry at is so_far = record {
  fed = so_far.fed;
  replayed = so_far.replayed;
  kept = so_far.kept;
  all = λ none. absurd (cc (sym none ∙ is));
  broken = subst (λ (found : Option ℕ). IfSome found (λ at. AreKept o (history ++ entry ∷ []) → BreaksAt (facts_of o) (visits_of (facts_of o) (history ++ entry ∷ [])) at))
      (sym is) (λ kept. breaks_still (facts_of o) history entry at (known (kept_front o history entry kept)));
}
  where
    known : AreKept o history → BreaksAt (facts_of o) (visits_of (facts_of o) history) at
    known = subst (λ (found : Option ℕ). IfSome found (λ at. AreKept o history → BreaksAt (facts_of o) (visits_of (facts_of o) history) at)) is so_far.broken

-- an entry that isn't kept of any run, or for which there is no number
pub replay_stops : (o : Object) (old new : Replay) (history : List HistoryEntry) (entry : HistoryEntry) (at : ℕ)
    → ((2 ^ 32 - 1 ≤ count_of old.rebuild) ⊎ (needs_history o entry.address ≡ false))
    → new.rebuild ≡ old.rebuild → new.events ≡ old.events → new.stopped ≡ Some at → old.stopped ≡ None
    → length history < 2 ^ 32 - 1 → Replays o old history → Replays o new (history ++ entry ∷ [])
replay_stops o old new history entry at cause rebuild events stopped going few so_far = record {
  fed = so_far.fed;
  replayed = rw (rebuild, events) so_far.replayed;
  kept = so_far.kept;
  all = λ none. absurd (cc (sym none ∙ stopped));
  broken = subst (λ (found : Option ℕ). IfSome found (λ at. AreKept o (history ++ entry ∷ []) → BreaksAt (facts_of o) (visits_of (facts_of o) (history ++ entry ∷ [])) at))
      (sym stopped) (λ kept. absurd (elim cause [
        | inl full ↦ too_many full
        | inr other ↦ cc (sym other ∙ kept_last o history entry kept)
      ]));
}
  where
    too_many : 2 ^ 32 - 1 ≤ count_of old.rebuild → ⊥
    too_many full =
        let count : count_of old.rebuild ≡ length history = so_far.replayed.holds.count ∙ ap (λ (hs : List HistoryEntry). length hs) (so_far.all going) in
        absurd (omega (arith, few, count, full))

-- an entry that was fed
pub replay_fed : (o : Object) (old new : Replay) (history : List HistoryEntry) (entry : HistoryEntry) (event : Option Event)
    → needs_history o entry.address ≡ true
    → ((list : List HistoryEntry) → Rebuilds (facts_of o) old.rebuild list → Rebuilds (facts_of o) new.rebuild (list ++ entry ∷ []))
    → ((list : List HistoryEntry) → Rebuilds (facts_of o) old.rebuild list
    → option_to_list event ≡ done_at (facts_of o) (onto (visits_of (facts_of o) list) []) (visit_in (facts_of o) (branched_of entry)))
    → ((e : Event) → Somewhere (λ x. x ≡ e) new.events ↔ (Somewhere (λ x. x ≡ e) old.events ⊎ Somewhere (λ x. x ≡ e) (option_to_list event)))
    → new.stopped ≡ None → old.stopped ≡ None → Replays o old history → Replays o new (history ++ entry ∷ [])
replay_fed o old new history entry event needed holds computed added going was so_far = record {
  fed = so_far.fed ++ entry ∷ [];
  replayed = replayed_one (facts_of o) old.rebuild new.rebuild old.events new.events so_far.fed entry event so_far.replayed holds computed added;
  kept = kept_more o so_far.fed entry so_far.kept needed;
  all = λ none. ap (λ (hs : List HistoryEntry). hs ++ entry ∷ []) (so_far.all was);
  broken = rw going tt;
}

-- an entry that was refused
same_held : (o : Facts) (old new : Rebuild) (fed : List HistoryEntry) → IsAsBefore old new → Rebuilds o old fed → Rebuilds o new fed
same_held o old new fed same holds = record {
  follow = holds.follow;
  kept = λ k. same.kept k ∙ holds.kept k;
  count = same.count ∙ holds.count;
}

pub replay_refused : (o : Object) (old new : Replay) (history : List HistoryEntry) (entry : HistoryEntry) (broken : BrokenHistory)
    → IsAsBefore old.rebuild new.rebuild → new.events ≡ old.events
    → ((fed : List HistoryEntry) → Rebuilds (facts_of o) old.rebuild fed → IsRefusedAfter (facts_of o) fed entry (Fault broken))
    → new.stopped ≡ Some broken.at → old.stopped ≡ None → Replays o old history → Replays o new (history ++ entry ∷ [])
replay_refused o old new history entry broken same events refused stopped was so_far =
    let all : so_far.fed ≡ history = so_far.all was in
    record {
      fed = so_far.fed;
      replayed = record {
        holds = same_held (facts_of o) old.rebuild new.rebuild so_far.fed same so_far.replayed.holds;
        told = rw events so_far.replayed.told;
      };
      kept = so_far.kept;
      all = λ none. absurd (cc (sym none ∙ stopped));
      broken = subst (λ (found : Option ℕ). IfSome found (λ at. AreKept o (history ++ entry ∷ []) → BreaksAt (facts_of o) (visits_of (facts_of o) (history ++ entry ∷ [])) at))
          (sym stopped) (subst (λ (hs : List HistoryEntry). AreKept o (hs ++ entry ∷ []) → BreaksAt (facts_of o) (visits_of (facts_of o) (hs ++ entry ∷ [])) broken.at) all
          (λ kept. breaks_here o old.rebuild so_far.fed entry broken kept so_far.replayed.holds (refused so_far.fed so_far.replayed.holds)));
    }

-- nothing was seen
pub none_replayed : (o : Object) (r : Replay) → Rebuilds (facts_of o) r.rebuild [] → r.events ≡ [] → r.stopped ≡ None → Replays o r []
none_replayed o r holds events going = record {
  fed = [];
  replayed = record { holds = holds; told = λ e. rw events (λ some. some, λ some. some) };
  kept = tt;
  all = λ none. refl;
  broken = rw going tt;
}
