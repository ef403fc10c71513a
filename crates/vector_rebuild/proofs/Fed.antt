-- What a rebuild holds after one entry more.
use Rattle.std.proofs.Common.{◌≡◌, ◌+◌, List, [], ◌∷◌, ◌++◌, map, filter_map, option_to_list, Option, Some, None, refl, sym, ap, subst, ◌∙◌, inl, inr, arith}
use Rattle.std.specs.List.{cons_option}
use Rattle.std.proofs.lemmas.List.{length-append, map-append}
use Rattle.std.proofs.lemmas.List.Elements.{filter_map-append}
use Rattle.cov_base.specs.declared.event.Vector.{Vector}
use Rattle.cov_base.specs.declared.failure.Failure.{Failure}
use Rattle.cov_base.specs.declared.failure.Failure.TheVariants.{Fault, WantOfMemory}
use Rattle.cov_base.specs.Graph.{Next, next_in}
use Rattle.trace_format.specs.declared.trace.HistoryEntry.{HistoryEntry}
use Rattle.transcript.proofs.Joined.{follow_append}
use Rattle.transcript.proofs.Kept.{kept_follows, kept_completes, kept_keeps}
use Rattle.transcript.proofs.Paths.{completed_law}
use Rattle.transcript.specs.Computed.{completed, done_by, done_at}
use Rattle.transcript.specs.Facts.{Facts, AreFair}
use Rattle.transcript.specs.Reading.{Follows, AllFollow, AreDoneAt}
use Rattle.transcript.specs.Replay.{begun, with_step, half_by, over_by, put_half, Keeps}
use Rattle.transcript.specs.Trace.{visit_in, Branched}
use Rattle.transcript.specs.Visit.{Key, Visit, onto}
use Rattle.vector_rebuild.specs.declared.fault.BrokenHistory.{BrokenHistory}
use Rattle.vector_rebuild.specs.declared.rebuild.Rebuild.{Rebuild}
use Rattle.vector_rebuild.specs.Entries.{branched_of}
use Rattle.vector_rebuild.specs.Rebuilt.{kept_of, count_of, visits_of, taken_by, under_way, event_by, IsOff, IsEventOf, IsRefusedAfter, Rebuilds}

-- the visits of a history with one entry more
pub visits_more : (o : Facts) (fed : List HistoryEntry) (entry : HistoryEntry) (v : Visit) → visit_in o (branched_of entry) ≡ Some v
    → visits_of o (fed ++ entry ∷ []) ≡ visits_of o fed ++ v ∷ []
visits_more o fed entry v sees =
    ap (λ (bs : List Branched). filter_map (visit_in o) bs) (map-append branched_of fed (entry ∷ []))
    ∙ filter_map-append (visit_in o) (map branched_of fed) (branched_of entry ∷ [])
    ∙ ap (λ (found : Option Visit). visits_of o fed ++ cons_option found []) sees

-- where the edge of a visit leads
abbrev pub edge_of : Facts → Visit → Next
edge_of o v = next_in (o.graph v.key.decision) v.step.at_node v.step.value

-- with what an evaluation comes to a visit's node
abbrev pub coming_to : Rebuild → Visit → Option Vector
coming_to r v = begun (kept_of r v.key) v.step.at_node

-- a step that is taken: with what an evaluation comes there, and what it completes
pub record IsTaken (o : Facts) (old : Rebuild) (v : Visit) (completion : Option Vector) : Type 0 where
  pub vector : Vector
  pub comes : coming_to old v ≡ Some vector
  pub completes : completion ≡ over_by (edge_of o v) (with_step vector v.step)

taken_as : (o : Facts) (old : Rebuild) (v : Visit) (coming : Option Vector) (completion : Option Vector) → coming_to old v ≡ coming
    → taken_by (edge_of o v) v.step coming ≡ Some completion → IsTaken o old v completion
taken_as o old v None completion is answer = absurd (cc answer)
taken_as o old v (Some vector) completion is answer = record { vector = vector; comes = is; completes = cc answer }

pub taken : (o : Facts) (old : Rebuild) (v : Visit) (completion : Option Vector) → taken_by (edge_of o v) v.step (coming_to old v) ≡ Some completion → IsTaken o old v completion
taken o old v completion answer = taken_as o old v (coming_to old v) completion refl answer

-- ---- the entry is taken

pub now_holds : (o : Facts) (old new : Rebuild) (fed : List HistoryEntry) (entry : HistoryEntry) (v : Visit) (completion : Option Vector)
    → visit_in o (branched_of entry) ≡ Some v → IsTaken o old v completion
    → ((k : Key) → kept_of new k ≡ put_half (kept_of old) v.key (under_way (edge_of o v) v.step (coming_to old v)) k)
    → count_of new ≡ count_of old + 1 → Rebuilds o old fed → Rebuilds o new (fed ++ entry ∷ [])
now_holds o old new fed entry v completion sees taken after count holds =
    let vs = visits_of o fed in
    let more : visits_of o (fed ++ entry ∷ []) ≡ vs ++ v ∷ [] = visits_more o fed entry v sees in
    let follows = (kept_follows o vs (kept_of old) v holds.follow holds.kept).1 (taken.vector, taken.comes) in
    let keeps = kept_keeps o vs (kept_of old) v taken.vector holds.follow holds.kept taken.comes in
    let kept_after : (k : Key) → kept_of new k ≡ put_half (kept_of old) v.key (half_by (edge_of o v) (with_step taken.vector v.step)) k =
    λ k. after k ∙ ap (λ (coming : Option Vector). put_half (kept_of old) v.key (under_way (edge_of o v) v.step coming) k) taken.comes in
    record {
      follow = subst (λ (all : List Visit). AllFollow o [] all) (sym more) ((follow_append o vs (v ∷ []) []).1 (holds.follow, (follows, tt)));
      kept = subst (λ (all : List Visit). Keeps o (kept_of new) (onto all [])) (sym more) (λ k. kept_after k ∙ keeps k);
      count = omega (arith, holds.count, count, length-append fed (entry ∷ []));
    }

-- it is listed
event_listed : (v : Visit) (completion : Option Vector) → option_to_list (event_by v completion) ≡ done_by v.key completion
event_listed v None = refl
event_listed v (Some vector) = refl

event_is : (o : Facts) → AreFair o → (past : List Visit) (v : Visit) (completion : Option Vector) → completed o past v ≡ completion
    → AreDoneAt o past (Some v) (done_by v.key completion)
event_is o fair past v None is = inr (λ vector completes. absurd (cc (sym is ∙ (completed_law o fair past v vector).0 completes)), refl)
event_is o fair past v (Some vector) is = inl (vector, (completed_law o fair past v vector).1 is, refl)

pub answers : (o : Facts) → AreFair o → (old : Rebuild) (fed : List HistoryEntry) (entry : HistoryEntry) (v : Visit) (completion : Option Vector)
    → visit_in o (branched_of entry) ≡ Some v → IsTaken o old v completion → Rebuilds o old fed → IsEventOf o fed entry (event_by v completion)
answers o fair old fed entry v completion sees taken holds =
    let completes = kept_completes o (visits_of o fed) (kept_of old) v taken.vector holds.follow holds.kept taken.comes in
    rw (sees, event_listed v completion)
    (event_is o fair (onto (visits_of o fed) []) v completion (sym (taken.completes ∙ completes)))

pub answers_computed : (o : Facts) (old : Rebuild) (fed : List HistoryEntry) (entry : HistoryEntry) (v : Visit) (completion : Option Vector)
    → visit_in o (branched_of entry) ≡ Some v → IsTaken o old v completion → Rebuilds o old fed
    → option_to_list (event_by v completion) ≡ done_at o (onto (visits_of o fed) []) (visit_in o (branched_of entry))
answers_computed o old fed entry v completion sees taken holds =
    let completes = kept_completes o (visits_of o fed) (kept_of old) v taken.vector holds.follow holds.kept taken.comes in
    event_listed v completion ∙ ap (done_by v.key) (taken.completes ∙ completes)
    ∙ sym (ap (λ (found : Option Visit). done_at o (onto (visits_of o fed) []) found) sees)

-- ---- the entry is refused

pub refuses : (o : Facts) (old : Rebuild) (fed : List HistoryEntry) (entry : HistoryEntry) (v : Visit) (failure : Failure BrokenHistory)
    → visit_in o (branched_of entry) ≡ Some v → IsOff (count_of old) (coming_to old v) failure → Rebuilds o old fed → IsRefusedAfter o fed entry failure
refuses o old fed entry v (Fault broken) sees off holds = (
  off.0 ∙ holds.count,
  λ w seen follows.
      let one : v ≡ w = cc (sym sees ∙ seen) in
      let comes = (kept_follows o (visits_of o fed) (kept_of old) v holds.follow holds.kept).0
      (subst (λ (x : Visit). Follows o (onto (visits_of o fed) []) x) (sym one) follows) in
      cc (sym off.1 ∙ comes.1),
)
refuses o old fed entry v WantOfMemory sees off holds = tt
