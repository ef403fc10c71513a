-- The history holds the visits of decisions whose graph is no tree, and tells the same of them.
use Rattle.std.proofs.Common.{◌≡◌, inl, inr, ⊎_elim, ◌↔◌, Bool, true, false, cond, not, List, [], ◌∷◌, Option, Some, None, filter_map, refl, sym, ap, subst, ◌∙◌}
use Rattle.std.specs.List.{cons_option}
use Rattle.cov_base.specs.declared.position.DecId.{DecId}
use Rattle.cov_base.specs.declared.position.InstId.{InstId}
use Rattle.cov_base.specs.declared.event.Vector.{Vector}
use Rattle.rv_semantics.specs.declared.stepped.Seen.{Seen}
use Rattle.cov_base.specs.Path.{Step}
use Rattle.transcript.specs.Facts.{Facts, Condition}
use Rattle.transcript.specs.Visit.{Key, Visit, visit_at, visit_by, visits, same_key, steps}
use Rattle.transcript.specs.Reading.{Completes, IsCompletedFrom, Led, Follows, AllFollow}
use Rattle.transcript.specs.Trace.{kept_of, branched_by, visits_in, without_trees}
use Rattle.transcript.proofs.Keys.{same_key_true, own_step}

-- the visits of the history are those of decisions whose graph is no tree
pub history_visits : (o : Facts) (ss : List Seen) → visits_in o (filter_map (kept_of o) ss) ≡ without_trees o (visits o ss)
history_visits o [] = refl
history_visits o (s ∷ ss) = by_condition (o.condition s.pc) refl (history_visits o ss)
  where
    by_edge : (c : Condition) → o.condition s.pc ≡ Some c → (b : Bool) → o.tree c.decision ≡ b → (edge : Option Bool)
        → visits_in o (filter_map (kept_of o) ss) ≡ without_trees o (visits o ss)
        → visits_in o (cons_option (cond b None (branched_by s.pc s.x8 edge)) (filter_map (kept_of o) ss))
        ≡ without_trees o (cons_option (visit_at (Some c) s.x8 edge) (visits o ss))
    by_edge c is true tree None rest = rest
    by_edge c is true tree (Some taken) rest = rw tree rest
    by_edge c is false tree None rest = rest
    by_edge c is false tree (Some taken) rest = rw (tree, is) (ap (λ (vs : List Visit). visit_by c s.x8 taken ∷ vs) rest)

    by_condition : (c : Option Condition) → o.condition s.pc ≡ c
        → visits_in o (filter_map (kept_of o) ss) ≡ without_trees o (visits o ss)
        → visits_in o (filter_map (kept_of o) (s ∷ ss)) ≡ without_trees o (visits o (s ∷ ss))
    by_condition None is rest = rw is rest
    by_condition (Some c) is rest = rw is (by_edge c is (o.tree c.decision) refl s.edge rest)

-- the steps of a key of such a decision are the same
pub flat_steps : (o : Facts) (k : Key) (past : List Visit) → o.tree k.decision ≡ false → steps k (without_trees o past) ≡ steps k past
flat_steps o k [] flat = refl
flat_steps o k (v ∷ past) flat = by_key (o.tree v.key.decision) refl (same_key k v.key) refl (flat_steps o k past flat)
  where
    by_key : (t : Bool) → o.tree v.key.decision ≡ t → (b : Bool) → same_key k v.key ≡ b → steps k (without_trees o past) ≡ steps k past
        → steps k (without_trees o (v ∷ past)) ≡ cond b (v.step ∷ steps k past) (steps k past)
    by_key false tree true is rest = rw (tree, is) (ap (λ (ss : List Step). v.step ∷ ss) rest)
    by_key false tree false is rest = rw (tree, is) rest
    by_key true tree false is rest = rw tree rest
    by_key true tree true is rest =
        let same : k ≡ v.key = same_key_true k v.key is in
        let off : true ≡ false = sym tree ∙ ap (λ (l : Key). o.tree l.decision) (sym same) ∙ flat in
        absurd (cc off)

-- the same, with a visit of its own
with_own : (o : Facts) (v : Visit) (past : List Visit) → o.tree v.key.decision ≡ false → steps v.key (v ∷ without_trees o past) ≡ steps v.key (v ∷ past)
with_own o v past flat =
    own_step v (without_trees o past)
    ∙ ap (λ (ss : List Step). v.step ∷ ss) (flat_steps o v.key past flat)
    ∙ sym (own_step v past)

completes_same : (o : Facts) (past past' : List Visit) (v : Visit) (vector : Vector) → steps v.key (v ∷ past) ≡ steps v.key (v ∷ past') → Completes o past v vector → Completes o past' v vector
completes_same o past past' v vector same c =
    record { path = c.path; older = c.older; outcome = c.outcome; ends = sym same ∙ c.ends; leads = c.leads; shown = c.shown }

-- evaluations that the visits of the history complete are those of all visits
pub flat_completed : (o : Facts) (vs past : List Visit) (d : DecId) (i : InstId) (vector : Vector) → o.tree d ≡ false
    → IsCompletedFrom o (without_trees o past) (without_trees o vs) d i vector ↔ IsCompletedFrom o past vs d i vector
flat_completed o [] past d i vector flat = (λ is. is, λ is. is)
flat_completed o (v ∷ vs) past d i vector flat = by_tree (o.tree v.key.decision) refl (flat_completed o vs (v ∷ past) d i vector flat)
  where
    Rest : Bool → Type 0
    Rest t = IsCompletedFrom o (cond (not t) (v ∷ without_trees o past) (without_trees o past)) (without_trees o vs) d i vector
        ↔ IsCompletedFrom o (v ∷ past) vs d i vector

    by_tree : (t : Bool) → o.tree v.key.decision ≡ t
        → (IsCompletedFrom o (without_trees o (v ∷ past)) (without_trees o vs) d i vector ↔ IsCompletedFrom o (v ∷ past) vs d i vector)
        → IsCompletedFrom o (without_trees o past) (without_trees o (v ∷ vs)) d i vector ↔ IsCompletedFrom o past (v ∷ vs) d i vector
    by_tree true tree rest =
        let later : Rest true = rw tree at rest in
        rw tree (
          λ is. inr (later.0 is),
          λ is. ⊎_elim (λ here. let off : true ≡ false = sym tree ∙ ap o.tree here.0 ∙ flat in absurd (cc off)) (λ there. later.1 there) is,
        )
    by_tree false tree rest =
        let later : Rest false = rw tree at rest in
        rw tree (
          λ is. ⊎_elim (λ here. inl (here.0, here.1, completes_same o (without_trees o past) past v vector (with_own o v past tree) here.2)) (λ there. inr (later.0 there)) is,
          λ is. ⊎_elim (λ here. inl (here.0, here.1, completes_same o past (without_trees o past) v vector (sym (with_own o v past tree)) here.2)) (λ there. inr (later.1 there)) is,
        )

-- where each visit follows those before it, so does each visit of the history
pub flat_follow : (o : Facts) (vs past : List Visit) → AllFollow o past vs → AllFollow o (without_trees o past) (without_trees o vs)
flat_follow o [] past all = tt
flat_follow o (v ∷ vs) past all = by_tree (o.tree v.key.decision) refl (flat_follow o vs (v ∷ past) all.1)
  where
    by_tree : (t : Bool) → o.tree v.key.decision ≡ t → AllFollow o (without_trees o (v ∷ past)) (without_trees o vs)
        → AllFollow o (without_trees o past) (without_trees o (v ∷ vs))
    by_tree true tree rest = rw tree (rw tree at rest)
    by_tree false tree rest =
        let now : Follows o (without_trees o past) v = ⊎_elim (λ root. inl root)
        (λ led. inr (subst (λ (ss : List Step). Led (o.graph v.key.decision) ss v.step.at_node) (sym (flat_steps o v.key past tree)) led)) all.0 in
        rw tree (now, rw tree at rest)
