-- What the branch of a condition adds to what was told.
use Rattle.std.proofs.Common.{◌≡◌, ℕ, Bool, true, false, List, ◌∷◌, Some, None, refl, sym, subst}
use Rattle.cov_base.specs.declared.event.Event.TheVariants.{Done}
use Rattle.rv_semantics.specs.declared.stepped.Seen.{Seen}
use Rattle.cov_base.specs.Graph.{node, leaf, next_in}
use Rattle.cov_base.specs.Path.{Step, vector_of}
use Rattle.transcript.specs.Facts.{Facts, AreFair}
use Rattle.transcript.specs.Visit.{Key, Visit, visit_of, visits, same_key, steps}
use Rattle.transcript.specs.Computed.{path_to, completed}
use Rattle.transcript.proofs.Replays.{reached_follows}
use Rattle.transcript.proofs.Vectors.{goes_on, comes_to_leaf}
use Rattle.transcript.proofs.Keys.{same_key_true}
use Rattle.kernel_code.specs.Behind.{told, InOrder, FollowsIfAny, come_to}

-- an executed branch of a condition
pub record Decides (o : Facts) (s : Seen) (v : Visit) : Type 0 where
  pub row : o.row s.pc ≡ None
  pub visit : visit_of o s ≡ Some v

-- other evaluations stand where they stood
pub others_stay : (o : Facts) (s : Seen) (v : Visit) (past : List Seen) → Decides o s v
    → (k : Key) → (k ≡ v.key → ⊥) → (n : ℕ) → come_to o k (s ∷ past) n ≡ come_to o k past n
others_stay o s v past is k other n = rw is.visit (by_test (same_key k v.key) refl)
  where
    by_test : (b : Bool) → same_key k v.key ≡ b → path_to (o.graph k.decision) (steps k (v ∷ visits o past)) n ≡ come_to o k past n
    by_test true e = absurd (other (same_key_true k v.key e))
    by_test false e = rw e refl

-- the visits of the past with this one
pub visits_with : (o : Facts) (s : Seen) (v : Visit) (past : List Seen) → Decides o s v → visits o (s ∷ past) ≡ v ∷ visits o past
visits_with o s v past is = rw (is.visit) refl

-- an evaluation that has come to the node of the branch is in order there
pub in_order_with : (o : Facts) (s : Seen) (v : Visit) (past : List Seen) (path : List Step) → Decides o s v
    → come_to o v.key past v.step.at_node ≡ Some path → InOrder o past → InOrder o (s ∷ past)
in_order_with o s v past path is has order =
    (subst (λ x. FollowsIfAny o (visits o past) x) (sym is.visit) (reached_follows o (visits o past) v path has), order)

-- it goes on to the node to which the branch leads, and nothing is told
pub leads_to_node : (o : Facts) → AreFair o → (s : Seen) (v : Visit) (past : List Seen) (path : List Step) (n : ℕ) → Decides o s v
    → come_to o v.key past v.step.at_node ≡ Some path → next_in (o.graph v.key.decision) v.step.at_node v.step.value ≡ node n
    → (come_to o v.key (s ∷ past) n ≡ Some (v.step ∷ path)) × (told o (s ∷ past) ≡ told o past)
leads_to_node o fair s v past path n is has leads =
    let on = goes_on o fair (visits o past) v path n has leads in
    (subst (λ vs. path_to (o.graph v.key.decision) (steps v.key vs) n ≡ Some (v.step ∷ path)) (sym (visits_with o s v past is)) on.0, tells on.1)
  where
    tells : completed o (visits o past) v ≡ None → told o (s ∷ past) ≡ told o past
    tells none = rw (is.row, is.visit, none) refl

-- or it is completed where the branch leads to an outcome, and that is told
pub leads_to_leaf : (o : Facts) (s : Seen) (v : Visit) (past : List Seen) (path : List Step) (outcome : Bool) → Decides o s v
    → come_to o v.key past v.step.at_node ≡ Some path → next_in (o.graph v.key.decision) v.step.at_node v.step.value ≡ leaf outcome
    → told o (s ∷ past) ≡ Done v.key.decision v.key.instance (vector_of (v.step ∷ path)) ∷ told o past
leads_to_leaf o s v past path outcome is has leads = tells (comes_to_leaf o (visits o past) v path outcome has leads)
  where
    tells : completed o (visits o past) v ≡ Some (vector_of (v.step ∷ path)) → told o (s ∷ past) ≡ Done v.key.decision v.key.instance (vector_of (v.step ∷ path)) ∷ told o past
    tells some = rw (is.row, is.visit, some) refl
