-- Each edge is the first that leads to its node exactly where no node has two incoming edges.
use Rattle.std.proofs.Common.{◌≡◌, ℕ, ◌≤◌, suc, Bool, true, false, cond, List, [], ◌∷◌, Option, Some, None, eqb, refl, sym, ap, subst, ◌∙◌, eq-eqb, ne_eqb, eqb-true, arith}
use Rattle.std.proofs.lemmas.Bool.{and_parts, and_from, both_ways}
use Rattle.cov_base.specs.Graph.{Next, node, leaf, Edges, target, next_from, next_in, IsTree}
use Rattle.cov_base.specs.Marks.{same}
use Rattle.cov_base.specs.Path.{Step}
use Rattle.condition_graph.specs.Entry.{is_node, entry_from, is_step, is_first, all_first}

is_node_true : (x : Next) (k : ℕ) → is_node x k ≡ true → x ≡ node k
is_node_true (node j) k is = ap node (eqb-true j k is)
is_node_true (leaf ends) k is = cc

same_true : (a b : Bool) → same a b ≡ true → a ≡ b
same_true true b is = sym is
same_true false true is = cc
same_true false false is = refl

same_self : (a : Bool) → same a a ≡ true
same_self true = refl
same_self false = refl

-- the edge that is found leads there, from a node that is not before the first
pub record IsEntry (n : ℕ) (es : List Edges) (k : ℕ) (s : Step) : Type 0 where
  pub leads : next_from n es s.at_node s.value ≡ node k
  pub from : n ≤ s.at_node

entry_step : (n : ℕ) (edges : Edges) (rest : List Edges) (k : ℕ) (s : Step) (x y : Bool) → is_node edges.on_true k ≡ x → is_node edges.on_false k ≡ y
    → (entry_from (suc n) rest k ≡ Some s → IsEntry (suc n) rest k s)
    → cond x (Some (record { at_node = n; value = true })) (cond y (Some (record { at_node = n; value = false })) (entry_from (suc n) rest k)) ≡ Some s
    → IsEntry n (edges ∷ rest) k s
entry_step n edges rest k s true y is_x is_y later found =
    let this : record { at_node = n; value = true } ≡ s = cc in
    subst (IsEntry n (edges ∷ rest) k) this
    (record { leads = rw (eq-eqb n n refl) (is_node_true edges.on_true k is_x); from = omega arith })
entry_step n edges rest k s false true is_x is_y later found =
    let this : record { at_node = n; value = false } ≡ s = cc in
    subst (IsEntry n (edges ∷ rest) k) this
    (record { leads = rw (eq-eqb n n refl) (is_node_true edges.on_false k is_y); from = omega arith })
entry_step n edges rest k s false false is_x is_y later found =
    let there = later found in
    let after : s.at_node ≡ n → ⊥ = λ e. absurd (omega (arith, there.from)) in
    record { leads = rw (ne_eqb s.at_node n after) there.leads; from = omega (arith, there.from) }

pub entry_leads : (n : ℕ) (es : List Edges) (k : ℕ) (s : Step) → entry_from n es k ≡ Some s → IsEntry n es k s
entry_leads n [] k s found = cc
entry_leads n (edges ∷ rest) k s found =
    entry_step n edges rest k s _ _ refl refl (entry_leads (suc n) rest k s) found

-- an edge that leads to a node is one of these nodes
leads_from : (n : ℕ) (es : List Edges) (j : ℕ) (a : Bool) (k : ℕ) → next_from n es j a ≡ node k → n ≤ j
leads_from n [] j a k leads = cc
leads_from n (edges ∷ rest) j a k leads = leads_by (leads_from (suc n) rest j a k) (eqb j n) refl leads
  where
    leads_by : (next_from (suc n) rest j a ≡ node k → suc n ≤ j) → (b : Bool) → eqb j n ≡ b → cond b (target edges a) (next_from (suc n) rest j a) ≡ node k → n ≤ j
    leads_by later true is leads = let here : j ≡ n = eqb-true j n is in omega arith
    leads_by later false is leads = omega (arith, later leads)

-- an edge that leads there is found, maybe another one
pub entry_found : (n : ℕ) (es : List Edges) (j : ℕ) (a : Bool) (k : ℕ) → next_from n es j a ≡ node k → (s : Step) × (entry_from n es k ≡ Some s)
entry_found n [] j a k leads = cc
entry_found n (edges ∷ rest) j a k leads =
    found (entry_found (suc n) rest j a k) (is_node edges.on_true k) (is_node edges.on_false k) (eqb j n) refl refl leads
  where
    no_other : (a : Bool) → is_node edges.on_true k ≡ false → is_node edges.on_false k ≡ false → target edges a ≡ node k → ⊥
    no_other true is_x is_y here = let this : is_node (node k) k ≡ false = subst (λ (x : Next). is_node x k ≡ false) here is_x in absurd (both_ways (eqb k k) this (eq-eqb k k refl))
    no_other false is_x is_y here = let this : is_node (node k) k ≡ false = subst (λ (x : Next). is_node x k ≡ false) here is_y in absurd (both_ways (eqb k k) this (eq-eqb k k refl))

    found : (next_from (suc n) rest j a ≡ node k → (s : Step) × (entry_from (suc n) rest k ≡ Some s))
        → (x y b : Bool) → is_node edges.on_true k ≡ x → is_node edges.on_false k ≡ y → cond b (target edges a) (next_from (suc n) rest j a) ≡ node k
        → (s : Step) × (cond x (Some (record { at_node = n; value = true })) (cond y (Some (record { at_node = n; value = false })) (entry_from (suc n) rest k)) ≡ Some s)
    found later true y b is_x is_y leads = (record { at_node = n; value = true }, refl)
    found later false true b is_x is_y leads = (record { at_node = n; value = false }, refl)
    found later false false true is_x is_y leads = absurd (no_other a is_x is_y leads)
    found later false false false is_x is_y leads = later leads

-- if all are the first, then an edge that leads to a node is the first that does
first_there : (graph : List Edges) (n : ℕ) (es : List Edges) (j : ℕ) (a : Bool) (k : ℕ) → all_first graph n es ≡ true → next_from n es j a ≡ node k
    → is_step (entry_from 0 graph k) j a ≡ true
first_there graph n [] j a k all leads = cc
first_there graph n (edges ∷ rest) j a k all leads =
    by_place (first_there graph (suc n) rest j a k (and_parts _ _ (and_parts _ _ all).1).1) (eqb j n) refl leads
  where
    here : (a : Bool) → target edges a ≡ node k → is_step (entry_from 0 graph k) n a ≡ true
    here true leads = subst (λ (x : Next). is_first graph n true x ≡ true) leads (and_parts _ _ all).0
    here false leads = subst (λ (x : Next). is_first graph n false x ≡ true) leads (and_parts _ _ (and_parts _ _ all).1).0

    by_place : (next_from (suc n) rest j a ≡ node k → is_step (entry_from 0 graph k) j a ≡ true) → (b : Bool) → eqb j n ≡ b → cond b (target edges a) (next_from (suc n) rest j a) ≡ node k → is_step (entry_from 0 graph k) j a ≡ true
    by_place later true is leads =
        subst (λ (i : ℕ). is_step (entry_from 0 graph k) i a ≡ true) (sym (eqb-true j n is)) (here a leads)
    by_place later false is leads = later leads

-- if each edge that leads to a node is the first that does, then all are
all_there : (graph : List Edges) (n : ℕ) (es : List Edges)
    → ((j : ℕ) (a : Bool) (k : ℕ) → next_from n es j a ≡ node k → is_step (entry_from 0 graph k) j a ≡ true) → all_first graph n es ≡ true
all_there graph n [] each = refl
all_there graph n (edges ∷ rest) each =
    and_from _ _ (one true edges.on_true (λ k is. each n true k (rw (eq-eqb n n refl) is)))
    (and_from _ _ (one false edges.on_false (λ k is. each n false k (rw (eq-eqb n n refl) is)))
    (all_there graph (suc n) rest (λ j a k leads.
    let after : j ≡ n → ⊥ = λ e. absurd (omega (arith, leads_from (suc n) rest j a k leads)) in
    each j a k (rw (ne_eqb j n after) leads))))
  where
    one : (a : Bool) (x : Next) → ((k : ℕ) → x ≡ node k → is_step (entry_from 0 graph k) n a ≡ true) → is_first graph n a x ≡ true
    one a (node k) each = each k refl
    one a (leaf ends) each = refl

one_step : (o : Option Step) (j k : ℕ) (a b : Bool) → is_step o j a ≡ true → is_step o k b ≡ true → (j ≡ k) × (a ≡ b)
one_step None j k a b first second = cc
one_step (Some s) j k a b first second =
    let p = and_parts _ _ first in
    let q = and_parts _ _ second in
    (sym (eqb-true s.at_node j p.0) ∙ eqb-true s.at_node k q.0, sym (same_true s.value a p.1) ∙ same_true s.value b q.1)

pub tree_from_first : (graph : List Edges) → all_first graph 0 graph ≡ true → IsTree graph
tree_from_first graph all j k to a b first second =
    one_step (entry_from 0 graph to) j k a b (first_there graph 0 graph j a to all first) (first_there graph 0 graph k b to all second)

pub first_from_tree : (graph : List Edges) → IsTree graph → all_first graph 0 graph ≡ true
first_from_tree graph tree = all_there graph 0 graph (λ j a k leads. the_first j a k leads (entry_found 0 graph j a k leads))
  where
    the_first : (j : ℕ) (a : Bool) (k : ℕ) → next_in graph j a ≡ node k → (s : Step) × (entry_from 0 graph k ≡ Some s) → is_step (entry_from 0 graph k) j a ≡ true
    the_first j a k leads found =
        let s : Step = found.0 in
        let one = tree s.at_node j k s.value a (entry_leads 0 graph k s found.1).leads leads in
        rw found.1 (and_from _ _ (eq-eqb s.at_node j one.0) (subst (λ (b : Bool). same s.value b ≡ true) one.1 (same_self s.value)))
