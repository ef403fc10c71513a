-- A history that is replayed entry by entry.
use Rattle.std.proofs.Common.{◌≡◌, ◌↔◌, ◌⊎◌, inl, inr, ℕ, suc, zero, ◌≤◌, ◌+◌, Bool, true, false, not, ◌==◌, take-append-drop, List, [], ◌∷◌, ◌++◌, map, length, take, drop, slice_get, option_map, option_to_list, Option, Some, None, refl, sym, ap, subst, ◌∙◌, append_assoc, append-nil, arith}
use Rattle.std.proofs.lemmas.List.{map-append}
use Rattle.std.proofs.lemmas.List.Elements.{filter_map-append}
use Rattle.std.specs.List.{filter_map, cons_option}
use Rattle.std.specs.Option.{option_map_or}
use Rattle.cov_base.specs.declared.event.Event.{Event}
use Rattle.decision_map.specs.Decisions.{is_tree_at}
use Rattle.decision_map.specs.Roles.{condition_at, needs_history}
use Rattle.decision_map.specs.declared.condition.Condition.{Condition as Decided}
use Rattle.cov_base.specs.Lists.{Somewhere, Everywhere}
use Rattle.object_facts.specs.Object.{facts_of, condition_of}
use Rattle.object_format.specs.declared.object.Object.{Object}
use Rattle.trace_format.specs.declared.trace.HistoryEntry.{HistoryEntry}
use Rattle.transcript.proofs.Lists.{in_append, in_left, in_right}
use Rattle.transcript.specs.Computed.{completed, done_by, done_at, done_of}
use Rattle.transcript.specs.Facts.{Facts}
use Rattle.transcript.specs.Trace.{visit_in, Branched}
use Rattle.transcript.specs.Visit.{Visit, visit_by, visit_at, onto}
use Rattle.vector_rebuild.specs.declared.rebuild.Rebuild.{Rebuild}
use Rattle.vector_rebuild.specs.Entries.{branched_of}
use Rattle.vector_rebuild.specs.Rebuilt.{Rebuilds, visits_of, IsRefusedAfter}
use Rattle.vector_rebuild.specs.declared.fault.BrokenHistory.{BrokenHistory}
use Rattle.vector_rebuild.proofs.LeafEdges.{left_at}
use Rattle.coverage_set.specs.Read.{AreKept, HasReplayed}
use Rattle.coverage_set.specs.Said.{IsBrokenBy}
use Rattle.cov_base.specs.declared.failure.Failure.{Failure}
use Rattle.cov_base.specs.declared.failure.Failure.TheVariants.{Fault, WantOfMemory}

-- the events of visits that come after others
pub done_append : (o : Facts) (xs ys past : List Visit) → done_of o past (xs ++ ys) ≡ done_of o past xs ++ done_of o (onto xs past) ys
done_append o [] ys past = refl
done_append o (x ∷ xs) ys past =
    ap (λ (es : List Event). done_by x.key (completed o past x) ++ es) (done_append o xs ys (x ∷ past))
    ∙ sym (append_assoc (done_by x.key (completed o past x)) (done_of o (x ∷ past) xs) (done_of o (onto xs (x ∷ past)) ys))

-- the events of one entry more
pub done_more : (o : Facts) (fed : List HistoryEntry) (entry : HistoryEntry)
    → done_of o [] (visits_of o (fed ++ entry ∷ [])) ≡ done_of o [] (visits_of o fed) ++ done_at o (onto (visits_of o fed) []) (visit_in o (branched_of entry))
done_more o fed entry =
    ap (λ (bs : List Branched). done_of o [] (filter_map (visit_in o) bs)) (map-append branched_of fed (entry ∷ []))
    ∙ ap (λ (vs : List Visit). done_of o [] vs) (filter_map-append (visit_in o) (map branched_of fed) (branched_of entry ∷ []))
    ∙ done_append o (visits_of o fed) (cons_option (visit_in o (branched_of entry)) []) []
    ∙ ap (λ (es : List Event). done_of o [] (visits_of o fed) ++ es) (one (visit_in o (branched_of entry)))
  where
    one : (found : Option Visit) → done_of o (onto (visits_of o fed) []) (cons_option found []) ≡ done_at o (onto (visits_of o fed) []) found
    one None = refl
    one (Some v) = append-nil (done_by v.key (completed o (onto (visits_of o fed) []) v))

-- what is taken goes on with the entry at the next place
taken_from : {X : Type 0} (xs : List X) (at : ℕ) (x : X) → slice_get xs at ≡ Some x → take (suc at) xs ≡ take at xs ++ x ∷ []
taken_from [] at x is = absurd (cc is)
taken_from (first ∷ xs) zero x is = cc is
taken_from (first ∷ xs) (suc at) x is = ap (λ (ys : List _). first ∷ ys) (taken_from xs at x is)

pub taken_at : {X : Type 0} (xs : List X) (at : ℕ) (x : X) → slice_get xs at ≡ Some x → take (at + 1) xs ≡ take at xs ++ x ∷ []
taken_at xs at x is =
    let next : at + 1 ≡ suc at = omega arith in
    ap (λ (k : ℕ). take k xs) next ∙ taken_from xs at x is

-- all is taken
pub taken_whole : {X : Type 0} (xs : List X) (at : ℕ) → length xs ≤ at → take at xs ≡ xs
taken_whole [] zero all = refl
taken_whole [] (suc at) all = refl
taken_whole (x ∷ xs) zero all = absurd (omega arith)
taken_whole (x ∷ xs) (suc at) all = ap (λ (ys : List _). x ∷ ys) (taken_whole xs at (omega arith))

-- one entry more
pub replayed_one : (o : Facts) (old new : Rebuild) (before after : List Event) (fed : List HistoryEntry) (entry : HistoryEntry) (event : Option Event)
    → HasReplayed o old before fed
    → ((list : List HistoryEntry) → Rebuilds o old list → Rebuilds o new (list ++ entry ∷ []))
    → ((list : List HistoryEntry) → Rebuilds o old list → option_to_list event ≡ done_at o (onto (visits_of o list) []) (visit_in o (branched_of entry)))
    → ((e : Event) → Somewhere (λ x. x ≡ e) after ↔ (Somewhere (λ x. x ≡ e) before ⊎ Somewhere (λ x. x ≡ e) (option_to_list event)))
    → HasReplayed o new after (fed ++ entry ∷ [])
replayed_one o old new before after fed entry event so_far holds computed added = record {
  holds = holds fed so_far.holds;
  told = λ e. subst (λ (es : List Event). Somewhere (λ x. x ≡ e) after ↔ Somewhere (λ x. x ≡ e) es)
      (ap (λ (es : List Event). earlier ++ es) (computed fed so_far.holds) ∙ sym (done_more o fed entry))
      (of_both e);
}
  where
    earlier : List Event
    earlier = done_of o [] (visits_of o fed)

    of_both : (e : Event) → Somewhere (λ x. x ≡ e) after ↔ Somewhere (λ x. x ≡ e) (earlier ++ option_to_list event)
    of_both e = (
      λ some. elim ((added e).0 some) [
        | inl old ↦ in_left (λ x. x ≡ e) earlier (option_to_list event) ((so_far.told e).0 old)
        | inr here ↦ in_right (λ x. x ≡ e) earlier (option_to_list event) here
      ],
      λ some. (added e).1 (elim (in_append (λ x. x ≡ e) earlier (option_to_list event) some) [
        | inl old ↦ inl ((so_far.told e).1 old)
        | inr here ↦ inr here
      ]),
    )

-- the same of a history at a place
pub replayed_more : (o : Facts) (old new : Rebuild) (before after : List Event) (history : List HistoryEntry) (at : ℕ) (entry : HistoryEntry) (event : Option Event)
    → slice_get history at ≡ Some entry → HasReplayed o old before (take at history)
    → ((fed : List HistoryEntry) → Rebuilds o old fed → Rebuilds o new (fed ++ entry ∷ []))
    → ((fed : List HistoryEntry) → Rebuilds o old fed → option_to_list event ≡ done_at o (onto (visits_of o fed) []) (visit_in o (branched_of entry)))
    → ((e : Event) → Somewhere (λ x. x ≡ e) after ↔ (Somewhere (λ x. x ≡ e) before ⊎ Somewhere (λ x. x ≡ e) (option_to_list event)))
    → HasReplayed o new after (take (at + 1) history)
replayed_more o old new before after history at entry event is so_far holds computed added =
    subst (HasReplayed o new after) (sym (taken_at history at entry is))
    (replayed_one o old new before after (take at history) entry event so_far holds computed added)

-- ---- where it breaks

-- what holds everywhere holds at a place
pub everywhere_at : {X : Type 0} (P : X → Type 0) (xs : List X) (at : ℕ) (x : X) → Everywhere P xs → slice_get xs at ≡ Some x → P x
everywhere_at P [] at x all is = absurd (cc is)
everywhere_at P (first ∷ xs) zero x all is = let same : first ≡ x = cc is in subst P same all.0
everywhere_at P (first ∷ xs) (suc at) x all is = everywhere_at P xs at x all.1 is

pub everywhere_taken : {X : Type 0} (P : X → Type 0) (xs : List X) (at : ℕ) → Everywhere P xs → Everywhere P (take at xs)
everywhere_taken P xs zero all = tt
everywhere_taken P [] (suc at) all = tt
everywhere_taken P (first ∷ xs) (suc at) all = (all.0, everywhere_taken P xs at all.1)

-- an entry whose executions are kept is a visit of a decision that is no tree
pub record IsVisit (o : Object) (entry : HistoryEntry) : Type 0 where
  pub visit : Visit
  pub sees : visit_in (facts_of o) (branched_of entry) ≡ Some visit
  pub no_tree : is_tree_at o visit.key.decision.0 ≡ false

pub visit_there : (o : Object) (entry : HistoryEntry) → needs_history o entry.address ≡ true → IsVisit o entry
visit_there o entry needed = by_condition (condition_at o entry.address) refl needed
  where
    by_condition : (found : Option Decided) → condition_at o entry.address ≡ found
        → option_map_or (λ (c : Decided). not (is_tree_at o c.decision.0)) found false ≡ true → IsVisit o entry
    by_condition None is kept = absurd (cc kept)
    by_condition (Some c) is kept = record {
      visit = visit_by (condition_of c) entry.x8 (entry.edge == 1);
      sees = ap (λ (found : Option Decided). visit_at (option_map condition_of found) entry.x8 (Some (entry.edge == 1))) is;
      no_tree = by_tree (is_tree_at o c.decision.0) kept;
    }
      where
        by_tree : (b : Bool) → not b ≡ true → b ≡ false
        by_tree true other = absurd (cc other)
        by_tree false other = refl

-- each entry is one visit
pub visits_long : (o : Object) (history : List HistoryEntry) → AreKept o history → length (visits_of (facts_of o) history) ≡ length history
visits_long o [] kept = refl
visits_long o (entry ∷ history) kept =
    let there = visit_there o entry kept.0 in
    ap (λ (found : Option Visit). length (cons_option found (visits_of (facts_of o) history))) there.sees
    ∙ ap suc (visits_long o history kept.1)

-- of decisions that are no trees
pub visits_flat : (o : Object) (history : List HistoryEntry) → AreKept o history
    → Everywhere (λ (v : Visit). (facts_of o).tree v.key.decision ≡ false) (visits_of (facts_of o) history)
visits_flat o [] kept = tt
visits_flat o (entry ∷ history) kept =
    let there = visit_there o entry kept.0 in
    subst (λ (found : Option Visit). Everywhere (λ (v : Visit). (facts_of o).tree v.key.decision ≡ false) (cons_option found (visits_of (facts_of o) history)))
    (sym there.sees) (there.no_tree, visits_flat o history kept.1)

-- the history is what was fed, the entry that is refused, and what comes after
pub history_parts : (o : Object) (history : List HistoryEntry) (at : ℕ) (entry : HistoryEntry) (v : Visit) → slice_get history at ≡ Some entry
    → visit_in (facts_of o) (branched_of entry) ≡ Some v
    → visits_of (facts_of o) history ≡ visits_of (facts_of o) (take at history) ++ (v ∷ visits_of (facts_of o) (drop (at + 1) history))
history_parts o history at entry v is sees =
    let f = facts_of o in
    let whole : history ≡ take at history ++ (entry ∷ drop (at + 1) history) =
    sym (take-append-drop at history) ∙ ap (λ (later : List HistoryEntry). take at history ++ later) (left_at history at entry is) in
    ap (visits_of f) whole
    ∙ ap (λ (bs : List Branched). filter_map (visit_in f) bs) (map-append branched_of (take at history) (entry ∷ drop (at + 1) history))
    ∙ filter_map-append (visit_in f) (map branched_of (take at history)) (map branched_of (entry ∷ drop (at + 1) history))
    ∙ ap (λ (found : Option Visit). visits_of f (take at history) ++ cons_option found (visits_of f (drop (at + 1) history))) sees

pub breaks : (o : Object) (r : Rebuild) (history : List HistoryEntry) (at : ℕ) (entry : HistoryEntry) (failure : Failure BrokenHistory)
    → AreKept o history → slice_get history at ≡ Some entry → Rebuilds (facts_of o) r (take at history)
    → IsRefusedAfter (facts_of o) (take at history) entry failure → IsBrokenBy (facts_of o) (visits_of (facts_of o) history) failure
breaks o r history at entry (Fault broken) kept is holds refused =
    let there = visit_there o entry (everywhere_at (λ (h : HistoryEntry). needs_history o h.address ≡ true) history at entry kept is) in
    record {
      earlier = visits_of (facts_of o) (take at history);
      visit = there.visit;
      later = visits_of (facts_of o) (drop (at + 1) history);
      whole = history_parts o history at entry there.visit is there.sees;
      follow = holds.follow;
      off = refused.1 there.visit there.sees;
      place = refused.0 ∙ sym (visits_long o (take at history) (everywhere_taken (λ (h : HistoryEntry). needs_history o h.address ≡ true) history at kept));
    }
breaks o r history at entry WantOfMemory kept is holds refused = tt
