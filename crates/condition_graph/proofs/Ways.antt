-- How the walk by a vector's values finds the path of the vector again.
use Rattle.std.proofs.Common.{◌≡◌, ℕ, ◌+◌, ◌<◌, ◌≤◌, ◌^◌, suc, Bool, true, false, ◌&&◌, ◌||◌, List, [], ◌∷◌, ◌++◌, nat_eq, bit_or, eqb-true, eq-eqb, refl, ap, subst, sym, ◌∙◌, append-nil, arith, if◌then◌else◌}
use Rattle.std.proofs.lemmas.Bool.{eqb-false}
use Rattle.cov_base.specs.declared.event.Vector.{Vector}
use Rattle.cov_base.specs.Expr.{Expr, size}
use Rattle.cov_base.specs.Graph.{Edges, Next as Place, node, leaf, graph, next_in}
use Rattle.cov_base.specs.Marks.{bit}
use Rattle.cov_base.specs.Path.{Step, LeadsTo, vector_of, IsPathVector}
use Rattle.cov_base.proofs.Walks.{IsAhead}
use Rattle.cov_base.proofs.Edges.{edges_rise, size_some}
use Rattle.cov_base.proofs.Bits.{some_step, is_true_at, bit_value}
use Rattle.cov_base.proofs.Follows.{Runs, onto, forward, some_onto, none_at, apart_true, at_leaf, rises_ahead}
use Rattle.decision_meaning.proofs.AllEdges.{value_at}
use Rattle.condition_graph.specs.Entry.{is_node}

-- a path leads to a place, and its vector is this one
pub record IsWalk (es : List Edges) (at : Place) (taken : Vector) : Type 0 where
  pub path : List Step
  pub leads : LeadsTo es path at
  pub shown : taken ≡ vector_of path

-- a vector with one step more
abbrev pub longer : Vector → ℕ → Bool → Vector
longer v k value = record {
  seen = bit_or v.seen (2 ^ k);
  value = if value then bit_or v.value (2 ^ k) else v.value;
}

pub walk_starts : (es : List Edges) → IsWalk es (node 0) (record { seen = 0; value = 0 })
walk_starts es = record { path = []; leads = refl; shown = refl }

pub walk_on : (es : List Edges) (at to : Place) (k : ℕ) (value : Bool) (taken more : Vector) → IsWalk es at taken → at ≡ node k
    → to ≡ next_in es k value → more ≡ longer taken k value → IsWalk es to more
walk_on es at to k value taken more walk is next one_more = record {
  path = record { at_node = k; value = value } ∷ walk.path;
  leads = (sym next, subst (λ (x : Place). LeadsTo es walk.path x) is walk.leads);
  shown = one_more ∙ ap (λ (u : Vector). longer u k value) walk.shown;
}

pub walk_ends : (es : List Edges) (at : Place) (ends : Bool) (taken v : Vector) → IsWalk es at taken → at ≡ leaf ends → taken ≡ v → IsPathVector es v
walk_ends es at ends taken v walk is same = record {
  path = walk.path;
  ends = ends;
  leads = subst (λ (x : Place). LeadsTo es walk.path x) is walk.leads;
  shown = sym same ∙ walk.shown;
}

-- the walk stands on a path, and at no node before n: some of its steps were taken, and the later ones are left
pub record OnWay (e : Expr) (path : List Step) (ends : Bool) (n : ℕ) (at : Place) (taken : Vector) : Type 0 where
  pub older : List Step
  pub later : List Step
  pub whole : path ≡ onto later older
  pub leads : LeadsTo (graph e) older at
  pub runs : Runs (next_in (graph e)) at later (leaf ends)
  pub shown : taken ≡ vector_of older
  pub ahead : IsAhead n at

onto_onto : (xs ys zs : List Step) → onto (onto xs ys) zs ≡ onto ys (xs ++ zs)
onto_onto [] ys zs = refl
onto_onto (x ∷ xs) ys zs = onto_onto xs (x ∷ ys) zs

-- at the root no step was taken
pub way_out : (e : Expr) (path : List Step) (ends : Bool) → LeadsTo (graph e) path (leaf ends) → OnWay e path ends 0 (node 0) (record { seen = 0; value = 0 })
way_out e path ends leads = record {
  older = [];
  later = onto path [];
  whole = sym (onto_onto path [] [] ∙ append-nil path);
  leads = refl;
  runs = forward (graph e) path [] (leaf ends) (leaf ends) leads refl;
  shown = refl;
  ahead = omega arith;
}

-- a path has its own value at a step
own_value : (e : Expr) (path : List Step) (ends : Bool) (step : Step) (rest older : List Step) → path ≡ onto rest (step ∷ older)
    → LeadsTo (graph e) older (node step.at_node) → Runs (next_in (graph e)) (next_in (graph e) step.at_node step.value) rest (leaf ends)
    → bit (vector_of path).value step.at_node ≡ step.value
own_value e path ends step rest older whole leads runs =
    let k : ℕ = step.at_node in
    let ahead = (rises_ahead (next_in (graph e)) (size e) (edges_rise e) k step.value (next_in (graph e) k step.value) refl).0 in
    let none : some_step (is_true_at k) rest ≡ false =
    none_at is_true_at apart_true (next_in (graph e)) (size e) (edges_rise e) rest k (next_in (graph e) k step.value) (leaf ends) runs ahead in
    bit_value path k
    ∙ ap (some_step (is_true_at k)) whole
    ∙ some_onto (is_true_at k) rest (step ∷ older)
    ∙ ap (λ (b : Bool). b || some_step (is_true_at k) (step ∷ older)) none
    ∙ value_at e step older leads

-- the walk takes the step at node n
take_step : (e : Expr) (path : List Step) (ends : Bool) (n : ℕ) (to : Place) (value : Bool) (more : Vector) (older : List Step) (step : Step) (rest : List Step)
    → path ≡ onto rest (step ∷ older) → LeadsTo (graph e) older (node n) → node n ≡ node step.at_node
    → Runs (next_in (graph e)) (next_in (graph e) step.at_node step.value) rest (leaf ends)
    → value ≡ bit (vector_of path).value n → to ≡ next_in (graph e) n value → more ≡ longer (vector_of older) n value
    → OnWay e path ends (n + 1) to more
take_step e path ends n to value more older step rest whole leads first runs is_value is_next one_more =
    let here : n ≡ step.at_node = cc first in
    let to_step : LeadsTo (graph e) older (node step.at_node) = subst (λ (k : ℕ). LeadsTo (graph e) older (node k)) here leads in
    let same_value : value ≡ step.value =
    is_value ∙ ap (bit (vector_of path).value) here ∙ own_value e path ends step rest older whole to_step runs in
    let next : to ≡ next_in (graph e) step.at_node step.value =
    is_next ∙ ap (λ (k : ℕ). next_in (graph e) k value) here ∙ ap (next_in (graph e) step.at_node) same_value in
    let ahead : IsAhead (suc step.at_node) (next_in (graph e) step.at_node step.value) =
    (rises_ahead (next_in (graph e)) (size e) (edges_rise e) step.at_node step.value (next_in (graph e) step.at_node step.value) refl).0 in
    let after : suc step.at_node ≡ n + 1 = omega arith in
    record {
      older = step ∷ older;
      later = rest;
      whole = whole;
      leads = (sym next, to_step);
      runs = subst (λ (x : Place). Runs (next_in (graph e)) x rest (leaf ends)) (sym next) runs;
      shown = one_more ∙ ap (λ (k : ℕ). longer (vector_of older) k value) here ∙ ap (longer (vector_of older) step.at_node) same_value;
      ahead = subst (λ (k : ℕ). IsAhead k to) after (subst (IsAhead (suc step.at_node)) (sym next) ahead);
    }

pub way_on : (e : Expr) (path : List Step) (ends : Bool) (n : ℕ) (at to : Place) (value : Bool) (taken more : Vector) → OnWay e path ends n at taken
    → at ≡ node n → value ≡ bit (vector_of path).value n → to ≡ next_in (graph e) n value → more ≡ longer taken n value
    → OnWay e path ends (n + 1) to more
way_on e path ends n at to value taken more way is is_value is_next one_more =
    by_steps way.later way.whole (subst (λ (x : Place). Runs (next_in (graph e)) x way.later (leaf ends)) is way.runs)
  where
    by_steps : (later : List Step) → path ≡ onto later way.older → Runs (next_in (graph e)) (node n) later (leaf ends) → OnWay e path ends (n + 1) to more
    by_steps [] whole runs = let off : node n ≡ leaf ends = runs in absurd (cc)
    by_steps (step ∷ rest) whole runs =
        take_step e path ends n to value more way.older step rest whole (subst (λ (x : Place). LeadsTo (graph e) way.older x) is way.leads) runs.0 runs.1
        is_value is_next (one_more ∙ ap (λ (u : Vector). longer u n value) way.shown)

-- vectors that are equal are found to be so
pub found_equal : (v w : Vector) → v ≡ w → (nat_eq v.seen w.seen && nat_eq v.value w.value) ≡ true
found_equal v w is = rw (← is, eq-eqb v.seen v.seen refl, eq-eqb v.value v.value refl) refl

-- a place at no node before n that isn't node n is at no node up to n
past_node : (n : ℕ) (x : Place) → is_node x n ≡ false → IsAhead n x → IsAhead (n + 1) x
past_node n (node k) off ahead = let other : k ≡ n → ⊥ = eqb-false k n off in omega arith
past_node n (leaf ends) off ahead = tt

pub way_by : (e : Expr) (path : List Step) (ends : Bool) (n : ℕ) (at : Place) (taken : Vector) → OnWay e path ends n at taken
    → is_node at n ≡ false → OnWay e path ends (n + 1) at taken
way_by e path ends n at taken way off = record {
  older = way.older;
  later = way.later;
  whole = way.whole;
  leads = way.leads;
  runs = way.runs;
  shown = way.shown;
  ahead = past_node n at off way.ahead;
}

pub is_at_node : (x : Place) (n : ℕ) → is_node x n ≡ true → x ≡ node n
is_at_node (node k) n on = ap node (eqb-true k n on)
is_at_node (leaf ends) n on = absurd (cc on)

-- the nodes of a path are nodes of the graph
within : (e : Expr) (path : List Step) (k : ℕ) → LeadsTo (graph e) path (node k) → k < size e
within e [] k leads = let root : k ≡ 0 = cc in let some = size_some e in omega arith
within e (step ∷ older) k leads = (edges_rise e step.at_node step.value k leads.0).1

-- past the last node the walk is at no node
pub never_at_node : (e : Expr) (path : List Step) (ends : Bool) (n : ℕ) (at : Place) (taken : Vector) (k : ℕ) → OnWay e path ends n at taken
    → size e ≤ n → at ≡ node k → ⊥
never_at_node e path ends n at taken k way past is =
    let below : k < size e = within e way.older k (subst (λ (x : Place). LeadsTo (graph e) way.older x) is way.leads) in
    let ahead : n ≤ k = subst (IsAhead n) is way.ahead in
    absurd (omega arith)

-- at an outcome all steps were taken
pub way_ends : (e : Expr) (path : List Step) (ends : Bool) (n : ℕ) (at : Place) (taken : Vector) (x : Bool) → OnWay e path ends n at taken
    → at ≡ leaf x → taken ≡ vector_of path
way_ends e path ends n at taken x way is =
    let none : way.later ≡ [] =
    (at_leaf (next_in (graph e)) way.later x ends (subst (λ (y : Place). Runs (next_in (graph e)) y way.later (leaf ends)) is way.runs)).1 in
    way.shown ∙ ap vector_of (sym (way.whole ∙ ap (λ (steps : List Step). onto steps way.older) none))
