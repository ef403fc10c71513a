-- The path with which the steps of a key end.
use Rattle.std.proofs.Common.{◌≡◌, ℕ, zero, suc, Bool, true, false, cond, ◌↔◌, List, [], ◌∷◌, ◌++◌, Option, Some, None, option_map, refl, sym, ap, subst, ◌∙◌, eqb-true, eq-eqb}
use Rattle.cov_base.specs.declared.position.DecId.{DecId}
use Rattle.cov_base.specs.declared.event.Vector.{Vector}
use Rattle.cov_base.specs.Graph.{Next, node, leaf, Edges, next_in}
use Rattle.cov_base.specs.Path.{Step, LeadsTo, vector_of}
use Rattle.cov_base.proofs.Reached.{root_not_entered}
use Rattle.transcript.specs.Facts.{Facts, AreFair}
use Rattle.transcript.specs.Visit.{Visit, steps}
use Rattle.transcript.specs.Reading.{Completes, EndsWith}
use Rattle.transcript.specs.Computed.{is_node, path_to, vector_by, completed}
use Rattle.transcript.proofs.Keys.{own_step}

-- no edge leads to the root
abbrev pub IsRooted : List Edges → Type 0
IsRooted g = (k : ℕ) (b : Bool) → next_in g k b ≡ node 0 → ⊥

pub fair_rooted : (o : Facts) → AreFair o → (d : DecId) → IsRooted (o.graph d)
fair_rooted o fair d =
    let is = fair.graphs d in
    subst IsRooted (sym is.1) (root_not_entered is.0)

pub some_one : {X : Type 0} (x y : X) → Some x ≡ Some y → x ≡ y
some_one x y e = cc

is_node_true : (x : Next) (n : ℕ) → is_node x n ≡ true → x ≡ node n
is_node_true (node j) n is = ap node (eqb-true j n is)
is_node_true (leaf b) n is = absurd (cc is)

pub path_found : (g : List Edges) (all : List Step) (n : ℕ) (path : List Step) → path_to g all n ≡ Some path → EndsWith g all n path
path_found g all zero path is =
    let none : [] ≡ path = some_one [] path is in
    subst (EndsWith g all 0) none (record { older = all; ends = refl; leads = refl })
path_found g [] (suc n) path is = absurd (cc is)
path_found g (s ∷ older) (suc n) path is =
    by_place (path_found g older s.at_node) (is_node (next_in g s.at_node s.value) (suc n)) refl (path_to g older s.at_node) refl is
  where
    by_place : ((p : List Step) → path_to g older s.at_node ≡ Some p → EndsWith g older s.at_node p)
        → (b : Bool) → is_node (next_in g s.at_node s.value) (suc n) ≡ b → (found : Option (List Step)) → path_to g older s.at_node ≡ found
        → cond b (option_map (λ (p : List Step). s ∷ p) found) None ≡ Some path → EndsWith g (s ∷ older) (suc n) path
    by_place before true here (Some p) found e =
        let ends = before p found in
        let whole : s ∷ p ≡ path = some_one (s ∷ p) path e in
        subst (EndsWith g (s ∷ older) (suc n)) whole (record {
          older = ends.older;
          ends = ap (λ (xs : List Step). s ∷ xs) ends.ends;
          leads = (is_node_true (next_in g s.at_node s.value) (suc n) here, ends.leads);
        })
    by_place before true here None found e = absurd (cc e)
    by_place before false here found is e = absurd (cc e)

pub path_of : (g : List Edges) → IsRooted g → (path older : List Step) (n : ℕ) → LeadsTo g path (node n) → path_to g (path ++ older) n ≡ Some path
path_of g rooted [] older n leads =
    let here : node n ≡ node 0 = leads in
    let root : n ≡ 0 = cc in
    subst (λ (m : ℕ). path_to g older m ≡ Some []) (sym root) refl
path_of g rooted (s ∷ path) older zero leads = absurd (rooted s.at_node s.value leads.0)
path_of g rooted (s ∷ path) older (suc n) leads =
    rw (leads.0, eq-eqb (suc n) (suc n) refl, path_of g rooted path older s.at_node leads.1) refl

-- the path that is computed is the one that steps end with
pub path_law : (o : Facts) → AreFair o → (d : DecId) (all : List Step) (n : ℕ) (path : List Step) → (path_to (o.graph d) all n ≡ Some path) ↔ EndsWith (o.graph d) all n path
path_law o fair d all n path = (
  λ is. path_found (o.graph d) all n path is,
  λ ends. subst (λ (xs : List Step). path_to (o.graph d) xs n ≡ Some path) (sym ends.ends) (path_of (o.graph d) (fair_rooted o fair d) path ends.older n ends.leads),
)

vector_found : (g : List Edges) → IsRooted g → (s : Step) (path older all : List Step) (outcome : Bool) → all ≡ path ++ older → LeadsTo g (s ∷ path) (leaf outcome)
    → vector_by (next_in g s.at_node s.value) s (path_to g all s.at_node) ≡ Some (vector_of (s ∷ path))
vector_found g rooted s path older all outcome is leads =
    rw (leads.0, is, path_of g rooted path older s.at_node leads.1) refl

-- what a visit completes is what is computed
pub completes_computed : (o : Facts) → AreFair o → (past : List Visit) (v : Visit) (vector : Vector) → Completes o past v vector → completed o past v ≡ Some vector
completes_computed o fair past v vector c = by_path c.path c.ends c.leads c.shown
  where
    by_path : (path : List Step) → steps v.key (v ∷ past) ≡ path ++ c.older → LeadsTo (o.graph v.key.decision) path (leaf c.outcome) → vector ≡ vector_of path → completed o past v ≡ Some vector
    by_path [] ends leads shown = let off : leaf c.outcome ≡ node 0 = leads in absurd (cc off)
    by_path (s ∷ path) ends leads shown =
        let whole : v.step ∷ steps v.key past ≡ s ∷ (path ++ c.older) = sym (own_step v past) ∙ ends in
        let first : s ≡ v.step = cc in
        let rest : steps v.key past ≡ path ++ c.older = cc in
        let own : LeadsTo (o.graph v.key.decision) (v.step ∷ path) (leaf c.outcome) = subst (λ (t : Step). LeadsTo (o.graph v.key.decision) (t ∷ path) (leaf c.outcome)) first leads in
        vector_found (o.graph v.key.decision) (fair_rooted o fair v.key.decision) v.step path c.older (steps v.key past) c.outcome rest own
        ∙ ap Some (ap (λ (t : Step). vector_of (t ∷ path)) (sym first) ∙ sym shown)

pub computed_completes : (o : Facts) (past : List Visit) (v : Visit) (vector : Vector) → completed o past v ≡ Some vector → Completes o past v vector
computed_completes o past v vector is =
    by_place (next_in (o.graph v.key.decision) v.step.at_node v.step.value) refl (path_to (o.graph v.key.decision) (steps v.key past) v.step.at_node) refl is
  where
    by_place : (x : Next) → next_in (o.graph v.key.decision) v.step.at_node v.step.value ≡ x → (found : Option (List Step)) → path_to (o.graph v.key.decision) (steps v.key past) v.step.at_node ≡ found
        → vector_by x v.step found ≡ Some vector → Completes o past v vector
    by_place (node j) to found is e = absurd (cc e)
    by_place (leaf outcome) to None is e = absurd (cc e)
    by_place (leaf outcome) to (Some path) is e =
        let ends = path_found (o.graph v.key.decision) (steps v.key past) v.step.at_node path is in
        record {
          path = v.step ∷ path;
          older = ends.older;
          outcome = outcome;
          ends = own_step v past ∙ ap (λ (xs : List Step). v.step ∷ xs) ends.ends;
          leads = (to, ends.leads);
          shown = sym (some_one (vector_of (v.step ∷ path)) vector e);
        }

pub completed_law : (o : Facts) → AreFair o → (past : List Visit) (v : Visit) (vector : Vector) → Completes o past v vector ↔ (completed o past v ≡ Some vector)
completed_law o fair past v vector =
    (λ c. completes_computed o fair past v vector c, λ is. computed_completes o past v vector is)
