-- Vectors that are told are of paths; an evaluation goes visit by visit.
use Rattle.std.proofs.Common.{◌≡◌, ℕ, zero, suc, ⊎_elim, Bool, true, List, [], ◌∷◌, Some, None, eq-eqb, refl, sym, ap, subst, ◌∙◌}
use Rattle.cov_base.specs.declared.position.DecId.{DecId}
use Rattle.cov_base.specs.declared.position.InstId.{InstId}
use Rattle.cov_base.specs.declared.event.Event.TheVariants.{Done}
use Rattle.cov_base.specs.declared.event.Vector.{Vector}
use Rattle.rv_semantics.specs.declared.stepped.Seen.{Seen}
use Rattle.cov_base.specs.Graph.{node, leaf, Edges, next_in}
use Rattle.cov_base.specs.Path.{Step, vector_of, IsPathVector, IsVectorOfLeaf}
use Rattle.transcript.specs.Facts.{Facts, AreFair}
use Rattle.transcript.specs.Visit.{Visit, visits, steps}
use Rattle.transcript.specs.Reading.{IsCompletedFrom, Tells}
use Rattle.transcript.specs.Computed.{path_to, completed}
use Rattle.transcript.specs.Trace.{Trace, visits_in, Says}
use Rattle.transcript.proofs.Keys.{own_step}
use Rattle.transcript.proofs.Paths.{IsRooted, fair_rooted}
use Rattle.transcript.proofs.Flags.{tree_path}

completed_path : (o : Facts) (vs past : List Visit) (d : DecId) (i : InstId) (vector : Vector) → IsCompletedFrom o past vs d i vector → IsPathVector (o.graph d) vector
completed_path o [] past d i vector is = absurd is
completed_path o (v ∷ vs) past d i vector is =
    ⊎_elim
    (λ here. subst (λ (e : DecId). IsPathVector (o.graph e) vector) here.0
    (record { path = here.2.path; ends = here.2.outcome; leads = here.2.leads; shown = here.2.shown }))
    (λ there. completed_path o vs (v ∷ past) d i vector there) is

pub told_path : (o : Facts) (ss : List Seen) (d : DecId) (i : InstId) (vector : Vector) → Tells o ss (Done d i vector) → IsPathVector (o.graph d) vector
told_path o ss d i vector tells = completed_path o (visits o ss) [] d i vector tells

pub said_path : (o : Facts) (t : Trace) (d : DecId) (i : InstId) (vector : Vector) → Says o t (Done d i vector) → IsPathVector (o.graph d) vector
said_path o t d i vector says =
    ⊎_elim
    (λ flagged. record {
      path = record { at_node = flagged.condition.at_node; value = _ } ∷ flagged.ends.older;
      ends = flagged.ends.ends;
      leads = flagged.ends.leads;
      shown = flagged.ends.shown;
    })
    (λ history. completed_path o (visits_in o t.history) [] d i vector history.1) says

pub one_vector : (o : Facts) → AreFair o → (d : DecId) → o.tree d ≡ true → (k : ℕ) (value : Bool) (v w : Vector)
    → IsVectorOfLeaf (o.graph d) k value v → IsVectorOfLeaf (o.graph d) k value w → v ≡ w
one_vector o fair d tree k value v w is_v is_w =
    is_v.shown
    ∙ ap (λ (older : List Step). vector_of (record { at_node = k; value = value } ∷ older)) (tree_path o fair d tree is_v.older is_w.older k is_v.leads.1 is_w.leads.1)
    ∙ sym is_w.shown

path_on : (g : List Edges) → IsRooted g → (s : Step) (all path : List Step) (n : ℕ) → path_to g all s.at_node ≡ Some path → next_in g s.at_node s.value ≡ node n
    → path_to g (s ∷ all) n ≡ Some (s ∷ path)
path_on g rooted s all path zero is to = absurd (rooted s.at_node s.value to)
path_on g rooted s all path (suc n) is to = rw (to, eq-eqb (suc n) (suc n) refl, is) refl

pub goes_on : (o : Facts) → AreFair o → (past : List Visit) (v : Visit) (path : List Step) (n : ℕ)
    → path_to (o.graph v.key.decision) (steps v.key past) v.step.at_node ≡ Some path
    → next_in (o.graph v.key.decision) v.step.at_node v.step.value ≡ node n
    → (path_to (o.graph v.key.decision) (steps v.key (v ∷ past)) n ≡ Some (v.step ∷ path)) × (completed o past v ≡ None)
goes_on o fair past v path n is to = (
  ap (λ (all : List Step). path_to (o.graph v.key.decision) all n) (own_step v past)
      ∙ path_on (o.graph v.key.decision) (fair_rooted o fair v.key.decision) v.step (steps v.key past) path n is to,
  rw to refl,
)

pub comes_to_leaf : (o : Facts) (past : List Visit) (v : Visit) (path : List Step) (outcome : Bool)
    → path_to (o.graph v.key.decision) (steps v.key past) v.step.at_node ≡ Some path
    → next_in (o.graph v.key.decision) v.step.at_node v.step.value ≡ leaf outcome → completed o past v ≡ Some (vector_of (v.step ∷ path))
comes_to_leaf o past v path outcome is to = rw (to, is) refl
