-- Both outcomes can be reached from each node, and by both edges of a node two different ones.
use Rattle.std.proofs.Common.{◌≡◌, ◌≢◌, ℕ, ◌+◌, ◌<◌, ◌≤◌, zero, suc, Bool, true, false, not, List, [], ◌∷◌, ◌++◌, length, refl, sym, ap, subst, ◌∙◌, eq-eqb, arith, ⊎_elim}
use Rattle.std.proofs.lemmas.Bool.{cases_lt}
use Rattle.cov_base.specs.Expr.{Expr, condition, negation, operator, size}
use Rattle.cov_base.specs.Graph.{Next, node, leaf, Edges, nodes, graph, next_from, next_in}
use Rattle.cov_base.specs.Path.{Step, LeadsTo}
use Rattle.cov_base.proofs.Walks.{IsAhead, ahead_before, ahead_at}
use Rattle.cov_base.proofs.Edges.{length-nodes, size_some, edges_rise}
use Rattle.cov_base.proofs.Reached.{next_left, next_right, node_entered}

-- steps that lead from x to y, the latest first
abbrev pub Leads : (ℕ → Bool → Next) → Next → List Step → Next → Type 0
Leads next x [] y = y ≡ x
Leads next x (step ∷ older) y = (next step.at_node step.value ≡ y) × Leads next x older (node step.at_node)

leads_on : (next : ℕ → Bool → Next) (x y z : Next) (more older : List Step) → Leads next y more z → Leads next x older y → Leads next x (more ++ older) z
leads_on next x y z [] older second first = subst (λ (end : Next). Leads next x older end) (sym second) first
leads_on next x y z (step ∷ more) older second first = (second.0, leads_on next x y (node step.at_node) more older second.1 first)

pub record CanReach (next : ℕ → Bool → Next) (x y : Next) : Type 0 where
  pub steps : List Step
  pub leads : Leads next x steps y

reach_on : (next : ℕ → Bool → Next) (x y z : Next) → CanReach next x y → CanReach next y z → CanReach next x z
reach_on next x y z first second = record {
  steps = second.steps ++ first.steps;
  leads = leads_on next x y z second.steps first.steps second.leads first.leads;
}

reach_by : (next : ℕ → Bool → Next) (k : ℕ) (b : Bool) (y : Next) → next k b ≡ y → CanReach next (node k) y
reach_by next k b y is = record { steps = record { at_node = k; value = b } ∷ []; leads = (is, refl) }

-- these nodes, from number n on, are those of the whole
abbrev Stands : (ℕ → Bool → Next) → ℕ → ℕ → List Edges → Type 0
Stands next n m es = (k : ℕ) (b : Bool) → n ≤ k → k < m → next k b ≡ next_from n es k b

stands_left : (next : ℕ → Bool → Next) (n m m' : ℕ) (xs ys : List Edges) → m ≡ n + length xs → m ≤ m' → Stands next n m' (xs ++ ys) → Stands next n m xs
stands_left next n m m' xs ys is few stands k b from below = stands k b from (omega arith) ∙ next_left n xs ys k b from (omega arith)

stands_right : (next : ℕ → Bool → Next) (n m m' : ℕ) (xs ys : List Edges) → m ≡ n + length xs → Stands next n m' (xs ++ ys) → Stands next m m' ys
stands_right next n m m' xs ys is stands k b from below = stands k b (omega arith) below ∙ next_right n m xs ys k b is from

-- from each node of an expression both its exits can be reached
pub exits_reached : (next : ℕ → Bool → Next) (e : Expr) (n : ℕ) (t f : Next) → Stands next n (n + size e) (nodes e n t f) → (k : ℕ) → n ≤ k → k < n + size e
    → CanReach next (node k) t × CanReach next (node k) f
exits_reached next condition n t f stands k from below =
    let here : k ≡ n = omega arith in
    (reach_by next k true t (stands k true from below ∙ rw (eq-eqb k n here) refl), reach_by next k false f (stands k false from below ∙ rw (eq-eqb k n here) refl))
exits_reached next (negation e) n t f stands k from below = let both = exits_reached next e n f t stands k from below in (both.1, both.0)
exits_reached next (operator true left right) n t f stands k from below =
    let middle : ℕ = n + size left in
    let same : n + (size left + size right) ≡ middle + size right = omega arith in
    let lefts : List Edges = nodes left n (node middle) f in
    let rights : List Edges = nodes right middle t f in
    let is : middle ≡ n + length lefts = omega (arith, length-nodes left n (node middle) f) in
    let stands' : Stands next n (middle + size right) (lefts ++ rights) = subst (λ (m : ℕ). Stands next n m (lefts ++ rights)) same stands in
    let in_right = exits_reached next right middle t f (stands_right next n middle (middle + size right) lefts rights is stands') in
    let some = size_some right in
    let at_middle = in_right middle (omega arith) (omega arith) in
    ⊎_elim (λ before.
    let in_left = exits_reached next left n (node middle) f (stands_left next n middle (middle + size right) lefts rights is (omega arith) stands') k from before in
    (reach_on next (node k) (node middle) t in_left.0 at_middle.0, in_left.1))
    (λ past. in_right k past (omega arith)) (cases_lt k middle)
exits_reached next (operator false left right) n t f stands k from below =
    let middle : ℕ = n + size left in
    let same : n + (size left + size right) ≡ middle + size right = omega arith in
    let lefts : List Edges = nodes left n t (node middle) in
    let rights : List Edges = nodes right middle t f in
    let is : middle ≡ n + length lefts = omega (arith, length-nodes left n t (node middle)) in
    let stands' : Stands next n (middle + size right) (lefts ++ rights) = subst (λ (m : ℕ). Stands next n m (lefts ++ rights)) same stands in
    let in_right = exits_reached next right middle t f (stands_right next n middle (middle + size right) lefts rights is stands') in
    let some = size_some right in
    let at_middle = in_right middle (omega arith) (omega arith) in
    ⊎_elim (λ before.
    let in_left = exits_reached next left n t (node middle) (stands_left next n middle (middle + size right) lefts rights is (omega arith) stands') k from before in
    (in_left.0, reach_on next (node k) (node middle) f in_left.1 at_middle.1))
    (λ past. in_right k past (omega arith)) (cases_lt k middle)

pub outcome_reached : (e : Expr) (k : ℕ) (b : Bool) → k < size e → CanReach (next_in (graph e)) (node k) (leaf b)
outcome_reached e k true below = (exits_reached (next_in (graph e)) e 0 (leaf true) (leaf false) (λ j b from less. refl) k (omega arith) (omega arith)).0
outcome_reached e k false below = (exits_reached (next_in (graph e)) e 0 (leaf true) (leaf false) (λ j b from less. refl) k (omega arith) (omega arith)).1

-- the two edges of a node lead to different places
pub edges_differ : (next : ℕ → Bool → Next) (e : Expr) (n : ℕ) (t f : Next) → Stands next n (n + size e) (nodes e n t f)
    → IsAhead (n + size e) t → IsAhead (n + size e) f → t ≢ f → (k : ℕ) → n ≤ k → k < n + size e → next k true ≢ next k false
edges_differ next condition n t f stands ahead_t ahead_f apart k from below equal =
    let here : k ≡ n = omega arith in
    let is_t : next k true ≡ t = stands k true from below ∙ rw (eq-eqb k n here) refl in
    let is_f : next k false ≡ f = stands k false from below ∙ rw (eq-eqb k n here) refl in
    apart (sym is_t ∙ equal ∙ is_f)
edges_differ next (negation e) n t f stands ahead_t ahead_f apart k from below equal =
    edges_differ next e n f t stands ahead_f ahead_t (λ same. apart (sym same)) k from below equal
edges_differ next (operator true left right) n t f stands ahead_t ahead_f apart k from below equal =
    let middle : ℕ = n + size left in
    let same : n + (size left + size right) ≡ middle + size right = omega arith in
    let lefts : List Edges = nodes left n (node middle) f in
    let rights : List Edges = nodes right middle t f in
    let is : middle ≡ n + length lefts = omega (arith, length-nodes left n (node middle) f) in
    let stands' : Stands next n (middle + size right) (lefts ++ rights) = subst (λ (m : ℕ). Stands next n m (lefts ++ rights)) same stands in
    let some = size_some right in
    let inside : node middle ≢ f = λ e. not_ahead right middle f some e (ahead_at _ _ f same ahead_f) in
    ⊎_elim (λ before. edges_differ next left n (node middle) f (stands_left next n middle (middle + size right) lefts rights is (omega arith) stands')
    (omega arith) (ahead_before _ _ f (omega arith) ahead_f) inside k from before equal)
    (λ past. edges_differ next right middle t f (stands_right next n middle (middle + size right) lefts rights is stands')
    (ahead_at _ _ t same ahead_t) (ahead_at _ _ f same ahead_f) apart k past (omega arith) equal) (cases_lt k middle)
  where
    not_ahead : (right : Expr) (m : ℕ) (x : Next) → 0 < size right → node m ≡ x → IsAhead (m + size right) x → ⊥
    not_ahead right m (node j) some is ahead = let here : m ≡ j = cc is in absurd (omega arith)
    not_ahead right m (leaf ends) some is ahead = absurd (cc is)
edges_differ next (operator false left right) n t f stands ahead_t ahead_f apart k from below equal =
    let middle : ℕ = n + size left in
    let same : n + (size left + size right) ≡ middle + size right = omega arith in
    let lefts : List Edges = nodes left n t (node middle) in
    let rights : List Edges = nodes right middle t f in
    let is : middle ≡ n + length lefts = omega (arith, length-nodes left n t (node middle)) in
    let stands' : Stands next n (middle + size right) (lefts ++ rights) = subst (λ (m : ℕ). Stands next n m (lefts ++ rights)) same stands in
    let some = size_some right in
    let inside : t ≢ node middle = λ e. not_ahead right middle t some (sym e) (ahead_at _ _ t same ahead_t) in
    ⊎_elim (λ before. edges_differ next left n t (node middle) (stands_left next n middle (middle + size right) lefts rights is (omega arith) stands')
    (ahead_before _ _ t (omega arith) ahead_t) (omega arith) inside k from before equal)
    (λ past. edges_differ next right middle t f (stands_right next n middle (middle + size right) lefts rights is stands')
    (ahead_at _ _ t same ahead_t) (ahead_at _ _ f same ahead_f) apart k past (omega arith) equal) (cases_lt k middle)
  where
    not_ahead : (right : Expr) (m : ℕ) (x : Next) → 0 < size right → node m ≡ x → IsAhead (m + size right) x → ⊥
    not_ahead right m (node j) some is ahead = let here : m ≡ j = cc is in absurd (omega arith)
    not_ahead right m (leaf ends) some is ahead = absurd (cc is)

-- by the two edges of a node two different outcomes can be reached
pub record Parts (next : ℕ → Bool → Next) (k : ℕ) : Type 0 where
  pub by_true : Bool
  pub on_true : CanReach next (next k true) (leaf by_true)
  pub on_false : CanReach next (next k false) (leaf (not by_true))

no_steps : (next : ℕ → Bool → Next) (x y : Next) → y ≡ x → CanReach next x y
no_steps next x y is = record { steps = []; leads = is }

from_place : (e : Expr) (x : Next) (b : Bool) → ((j : ℕ) → x ≡ node j → j < size e) → (x ≡ leaf (not b) → ⊥) → CanReach (next_in (graph e)) x (leaf b)
from_place e (node j) b below other = outcome_reached e j b (below j refl)
from_place e (leaf true) true below other = no_steps _ _ _ refl
from_place e (leaf false) false below other = no_steps _ _ _ refl
from_place e (leaf true) false below other = absurd (other refl)
from_place e (leaf false) true below other = absurd (other refl)

twice : (b : Bool) → not (not b) ≡ b
twice true = refl
twice false = refl

pub parts : (e : Expr) (k : ℕ) → k < size e → Parts (next_in (graph e)) k
parts e k below =
    chosen (next_in (graph e) k true) (next_in (graph e) k false) (λ j is. (edges_rise e k true j is).1) (λ j is. (edges_rise e k false j is).1)
    (edges_differ (next_in (graph e)) e 0 (leaf true) (leaf false) (λ j b from less. refl) tt tt (λ same. absurd (cc same)) k (omega arith) (omega arith))
    refl refl
  where
    chosen : (x y : Next) → ((j : ℕ) → next_in (graph e) k true ≡ node j → j < size e) → ((j : ℕ) → next_in (graph e) k false ≡ node j → j < size e)
        → next_in (graph e) k true ≢ next_in (graph e) k false → next_in (graph e) k true ≡ x → next_in (graph e) k false ≡ y → Parts (next_in (graph e)) k
    chosen (node j) (node i) below_t below_f apart is_t is_f = record {
      by_true = true;
      on_true = from_place e (next_in (graph e) k true) true below_t (λ is. absurd (let both : node j ≡ leaf false = sym is_t ∙ is in cc both));
      on_false = from_place e (next_in (graph e) k false) false below_f (λ is. absurd (let both : node i ≡ leaf true = sym is_f ∙ is in cc both));
    }
    chosen (node j) (leaf b) below_t below_f apart is_t is_f = record {
      by_true = not b;
      on_true = from_place e (next_in (graph e) k true) (not b) below_t (λ is. absurd (let both : node j ≡ leaf (not (not b)) = sym is_t ∙ is in cc both));
      on_false = no_steps _ _ _ (ap leaf (twice b) ∙ sym is_f);
    }
    chosen (leaf b) y below_t below_f apart is_t is_f = record {
      by_true = b;
      on_true = no_steps _ _ _ (sym is_t);
      on_false = from_place e (next_in (graph e) k false) (not b) below_f (λ is. apart (is_t ∙ ap leaf (sym (twice b)) ∙ sym is));
    }

-- there is a path to each node
pub path_to : (e : Expr) (most k : ℕ) → k ≤ most → k < size e → (p : List Step) × LeadsTo (graph e) p (node k)
path_to e most zero few below = ([], refl)
path_to e zero (suc k) few below = absurd (omega arith)
path_to e (suc most) (suc k) few below =
    let enters = node_entered e (suc k) (omega arith) below in
    let rise = edges_rise e enters.at_node enters.value (suc k) enters.leads in
    let older = path_to e most enters.at_node (omega (arith, rise.0)) (omega (arith, rise.0)) in
    (record { at_node = enters.at_node; value = enters.value } ∷ older.0, (enters.leads, older.1))
