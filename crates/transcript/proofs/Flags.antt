-- A completed evaluation of a tree decision is one whose last edge was taken.
use Rattle.std.proofs.Common.{◌≡◌, ℕ, inl, inr, ⊎_elim, Bool, true, false, ◌&&◌, ◌||◌, List, [], ◌∷◌, ◌++◌, Option, Some, None, eqb, eqb-true, eq-eqb, refl, sym, ap, subst, ◌∙◌}
use Rattle.cov_base.specs.declared.position.DecId.{DecId}
use Rattle.cov_base.specs.declared.position.InstId.{InstId}
use Rattle.cov_base.specs.declared.event.Vector.{Vector}
use Rattle.rv_semantics.specs.declared.stepped.Seen.{Seen}
use Rattle.cov_base.specs.Graph.{node, leaf, Edges, IsTree}
use Rattle.cov_base.specs.Lists.{Somewhere}
use Rattle.cov_base.specs.Path.{Step, LeadsTo, vector_of, IsVectorOfLeaf}
use Rattle.cov_base.proofs.Reached.{one_path}
use Rattle.transcript.specs.Facts.{Facts, Condition, AreFair}
use Rattle.transcript.specs.Visit.{Visit, visit_by, visit_of, visits, steps}
use Rattle.transcript.specs.Reading.{Completes, IsCompletedFrom, Follows, AllFollow}
use Rattle.transcript.specs.Trace.{is_edge, took}
use Rattle.transcript.proofs.Keys.{own_step}
use Rattle.transcript.proofs.Paths.{path_found}
use Rattle.transcript.proofs.Orderly.{Orderly, orderly_more, path_there}

-- on a tree one path leads to a node
abbrev pub HasOnePath : List Edges → Type 0
HasOnePath g = (p q : List Step) (k : ℕ) → LeadsTo g p (node k) → LeadsTo g q (node k) → p ≡ q

pub tree_path : (o : Facts) → AreFair o → (d : DecId) → o.tree d ≡ true → HasOnePath (o.graph d)
tree_path o fair d tree =
    let is = fair.graphs d in
    subst HasOnePath (sym is.1) (one_path is.0 (subst IsTree is.1 (fair.trees d tree)))

-- a completed evaluation ends with the visit's edge to a leaf
completes_leaf : (o : Facts) (past : List Visit) (v : Visit) (vector : Vector) → Completes o past v vector
    → IsVectorOfLeaf (o.graph v.key.decision) v.step.at_node v.step.value vector
completes_leaf o past v vector c = by_path c.path c.ends c.leads c.shown
  where
    by_path : (path : List Step) → steps v.key (v ∷ past) ≡ path ++ c.older → LeadsTo (o.graph v.key.decision) path (leaf c.outcome) → vector ≡ vector_of path
        → IsVectorOfLeaf (o.graph v.key.decision) v.step.at_node v.step.value vector
    by_path [] ends leads shown = let off : leaf c.outcome ≡ node 0 = leads in absurd (cc off)
    by_path (s ∷ path) ends leads shown =
        let whole : v.step ∷ steps v.key past ≡ s ∷ (path ++ c.older) = sym (own_step v past) ∙ ends in
        let first : s ≡ v.step = cc in
        record {
          older = path;
          ends = c.outcome;
          leads = subst (λ (t : Step). LeadsTo (o.graph v.key.decision) (t ∷ path) (leaf c.outcome)) first leads;
          shown = shown ∙ ap (λ (t : Step). vector_of (t ∷ path)) first;
        }

leaf_completes : (o : Facts) → AreFair o → (past : List Visit) (v : Visit) (vector : Vector) → Orderly o past → Follows o past v → o.tree v.key.decision ≡ true
    → IsVectorOfLeaf (o.graph v.key.decision) v.step.at_node v.step.value vector → Completes o past v vector
leaf_completes o fair past v vector orderly follows tree is_leaf =
    let reached = path_there (o.graph v.key.decision) (steps v.key past) v.step.at_node (orderly v.key) follows in
    let ends = path_found (o.graph v.key.decision) (steps v.key past) v.step.at_node reached.path reached.is in
    let one : reached.path ≡ is_leaf.older = tree_path o fair v.key.decision tree reached.path is_leaf.older v.step.at_node ends.leads is_leaf.leads.1 in
    record {
      path = v.step ∷ reached.path;
      older = ends.older;
      outcome = is_leaf.ends;
      ends = own_step v past ∙ ap (λ (ss : List Step). v.step ∷ ss) ends.ends;
      leads = (is_leaf.leads.0, ends.leads);
      shown = is_leaf.shown ∙ ap (λ (ss : List Step). vector_of (v.step ∷ ss)) (sym one);
    }

-- a visit takes the edge that ends such an evaluation
pub record EndsOne (o : Facts) (d : DecId) (i : InstId) (vector : Vector) (v : Visit) : Type 0 where
  pub of_decision : v.key.decision ≡ d
  pub of_instance : v.key.instance ≡ i
  pub ends : IsVectorOfLeaf (o.graph d) v.step.at_node v.step.value vector

pub completed_ends : (o : Facts) (vs past : List Visit) (d : DecId) (i : InstId) (vector : Vector) → IsCompletedFrom o past vs d i vector
    → Somewhere (EndsOne o d i vector) vs
completed_ends o [] past d i vector is = absurd is
completed_ends o (v ∷ vs) past d i vector is =
    ⊎_elim
    (λ here. inl (record {
      of_decision = here.0;
      of_instance = here.1;
      ends = subst (λ (e : DecId). IsVectorOfLeaf (o.graph e) v.step.at_node v.step.value vector) here.0 (completes_leaf o past v vector here.2);
    }))
    (λ there. inr (completed_ends o vs (v ∷ past) d i vector there)) is

pub ends_completed : (o : Facts) → AreFair o → (vs past : List Visit) (d : DecId) (i : InstId) (vector : Vector) → o.tree d ≡ true → Orderly o past → AllFollow o past vs
    → Somewhere (EndsOne o d i vector) vs → IsCompletedFrom o past vs d i vector
ends_completed o fair [] past d i vector tree orderly all s = absurd s
ends_completed o fair (v ∷ vs) past d i vector tree orderly all s =
    ⊎_elim
    (λ here. inl (
      here.of_decision,
      here.of_instance,
      leaf_completes o fair past v vector orderly all.0 (ap o.tree here.of_decision ∙ tree)
          (subst (λ (e : DecId). IsVectorOfLeaf (o.graph e) v.step.at_node v.step.value vector) (sym here.of_decision) here.ends),
    ))
    (λ there. inr (ends_completed o fair vs (v ∷ past) d i vector tree (orderly_more o past v orderly all.0) all.1 there)) s

-- the branch that made a visit
pub record MadeBy (o : Facts) (P : Visit → Type 0) (s : Seen) : Type 0 where
  pub condition : Condition
  pub taken : Bool
  pub role : o.condition s.pc ≡ Some condition
  pub edge : s.edge ≡ Some taken
  pub is_so : P (visit_by condition s.x8 taken)

pub from_visits : (o : Facts) (P : Visit → Type 0) (ss : List Seen) → Somewhere P (visits o ss) → Somewhere (MadeBy o P) ss
from_visits o P [] v = absurd v
from_visits o P (s ∷ ss) v = by_role (o.condition s.pc) refl s.edge refl (from_visits o P ss) v
  where
    by_role : (c : Option Condition) → o.condition s.pc ≡ c → (edge : Option Bool) → s.edge ≡ edge → (Somewhere P (visits o ss) → Somewhere (MadeBy o P) ss)
        → Somewhere P (visits o (s ∷ ss)) → Somewhere (MadeBy o P) (s ∷ ss)
    by_role None role edge took rest v = inr (rest (rw role at v))
    by_role (Some c) role None took rest v = inr (rest (rw (role, took) at v))
    by_role (Some c) role (Some taken) took rest v =
        ⊎_elim (λ here. inl (record { condition = c; taken = taken; role = role; edge = took; is_so = here })) (λ there. inr (rest there)) (rw (role, took) at v)

pub to_visits : (o : Facts) (P : Visit → Type 0) (ss : List Seen) → Somewhere (MadeBy o P) ss → Somewhere P (visits o ss)
to_visits o P [] s = absurd s
to_visits o P (x ∷ ss) s =
    ⊎_elim (λ here. rw (here.role, here.edge) (inl here.is_so)) (λ there. by_visit (visit_of o x) refl (to_visits o P ss there)) s
  where
    by_visit : (visit : Option Visit) → visit_of o x ≡ visit → Somewhere P (visits o ss) → Somewhere P (visits o (x ∷ ss))
    by_visit None is rest = rw is rest
    by_visit (Some v) is rest = rw is (inr rest)

-- an edge was taken where some executed branch took it
pub record Took (pc : ℕ) (taken : Bool) (s : Seen) : Type 0 where
  pub address : s.pc ≡ pc
  pub edge : s.edge ≡ Some taken

edge_is : (edge : Option Bool) (taken : Bool) → is_edge edge taken ≡ true → edge ≡ Some taken
edge_is None taken is = absurd (cc is)
edge_is (Some true) true is = refl
edge_is (Some true) false is = absurd (cc is)
edge_is (Some false) true is = absurd (cc is)
edge_is (Some false) false is = refl

is_own_edge : (taken : Bool) → is_edge (Some taken) taken ≡ true
is_own_edge true = refl
is_own_edge false = refl

pub took_true : (ss : List Seen) (pc : ℕ) (taken : Bool) → took ss pc taken ≡ true → Somewhere (Took pc taken) ss
took_true [] pc taken is = absurd (cc is)
took_true (s ∷ ss) pc taken is = by_place (eqb s.pc pc) refl (is_edge s.edge taken) refl is (took_true ss pc taken)
  where
    by_place : (a : Bool) → eqb s.pc pc ≡ a → (b : Bool) → is_edge s.edge taken ≡ b → ((a && b) || took ss pc taken) ≡ true → (took ss pc taken ≡ true → Somewhere (Took pc taken) ss)
        → Somewhere (Took pc taken) (s ∷ ss)
    by_place true here true edge is rest = inl (record { address = eqb-true s.pc pc here; edge = edge_is s.edge taken edge })
    by_place true here false edge is rest = inr (rest is)
    by_place false here b edge is rest = inr (rest is)

pub true_took : (ss : List Seen) (pc : ℕ) (taken : Bool) → Somewhere (Took pc taken) ss → took ss pc taken ≡ true
true_took [] pc taken s = absurd s
true_took (x ∷ ss) pc taken s =
    ⊎_elim (λ here. rw (eq-eqb x.pc pc here.address, here.edge, is_own_edge taken) refl) (λ there. rw (true_took ss pc taken there) (or_true (eqb x.pc pc && is_edge x.edge taken))) s
  where
    or_true : (b : Bool) → (b || true) ≡ true
    or_true true = refl
    or_true false = refl
