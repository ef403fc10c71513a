-- A path in the order in which it is walked, and the nodes at which its vector says that conditions were evaluated.
use Rattle.std.proofs.Common.{◌≡◌, ℕ, ◌+◌, ◌<◌, ◌≤◌, suc, Bool, true, false, ◌&&◌, ◌||◌, List, [], ◌∷◌, length, eqb, refl, sym, ap, subst, ◌∙◌, eqb-true, eq-eqb, ne_eqb, add-one, arith}
use Rattle.std.proofs.lemmas.Bool.{eqb-false}
use Rattle.cov_base.specs.Expr.{Expr, size, value_of}
use Rattle.cov_base.specs.Graph.{Next, node, leaf, Edges, target, graph, next_from, next_in}
use Rattle.cov_base.specs.Marks.{Marks, marks, outcome}
use Rattle.cov_base.specs.Path.{Step, LeadsTo, vector_of, passed, walked_from, walked}
use Rattle.cov_base.proofs.Walks.{IsAhead, ahead_at, passes_by, walk_law}
use Rattle.cov_base.proofs.Edges.{edges_rise, size_some, length-nodes}
use Rattle.cov_base.proofs.Bits.{some_step, is_at, is_true_at, bit_seen, bit_value}

-- steps that lead from x to y, the earliest first
abbrev pub Runs : (ℕ → Bool → Next) → Next → List Step → Next → Type 0
Runs next x [] y = x ≡ y
Runs next x (step ∷ later) y = (x ≡ node step.at_node) × Runs next (next step.at_node step.value) later y

abbrev pub onto : List Step → List Step → List Step
onto [] later = later
onto (step ∷ older) later = onto older (step ∷ later)

-- a path from its earliest step on
pub forward : (es : List Edges) (path later : List Step) (x y : Next) → LeadsTo es path x → Runs (next_in es) x later y → Runs (next_in es) (node 0) (onto path later) y
forward es [] later x y leads runs = subst (λ (z : Next). Runs (next_in es) z later y) leads runs
forward es (step ∷ older) later x y leads runs =
    forward es older (step ∷ later) (node step.at_node) y leads.1
    (refl, subst (λ (z : Next). Runs (next_in es) z later y) (sym leads.0) runs)

or_moves : (x y z : Bool) → (y || (x || z)) ≡ ((x || y) || z)
or_moves true true z = refl
or_moves true false z = refl
or_moves false true z = refl
or_moves false false z = refl

pub some_onto : (test : Step → Bool) (path later : List Step) → some_step test (onto path later) ≡ (some_step test path || some_step test later)
some_onto test [] later = refl
some_onto test (step ∷ older) later =
    some_onto test older (step ∷ later) ∙ or_moves (test step) (some_step test older) (some_step test later)

or_false : (x : Bool) → (x || false) ≡ x
or_false true = refl
or_false false = refl

-- edges lead to later nodes, below the last number
abbrev pub AllRise : (ℕ → Bool → Next) → ℕ → Type 0
AllRise next m = (k : ℕ) (b : Bool) (j : ℕ) → next k b ≡ node j → (k < j) × (j < m)

-- a walk that is ahead of node n has no step there
pub none_at : (test : ℕ → Step → Bool) → ((n : ℕ) (s : Step) → n < s.at_node → test n s ≡ false)
    → (next : ℕ → Bool → Next) (m : ℕ) → AllRise next m → (steps : List Step) (n : ℕ) (x y : Next) → Runs next x steps y → IsAhead (suc n) x
    → some_step (test n) steps ≡ false
none_at test apart next m rises [] n x y runs ahead = refl
none_at test apart next m rises (step ∷ later) n x y runs ahead =
    let here : suc n ≤ step.at_node = subst (IsAhead (suc n)) runs.0 ahead in
    rw (apart n step (omega arith)) (none_at test apart next m rises later n (next step.at_node step.value) y runs.1
    (then_ahead (next step.at_node step.value) (rises step.at_node step.value) here))
  where
    then_ahead : (z : Next) → ((j : ℕ) → z ≡ node j → (step.at_node < j) × (j < m)) → suc n ≤ step.at_node → IsAhead (suc n) z
    then_ahead (node j) rise here = omega (arith, (rise j refl).0)
    then_ahead (leaf ends) rise here = tt

apart_at : (n : ℕ) (s : Step) → n < s.at_node → is_at n s ≡ false
apart_at n s below = ne_eqb n s.at_node (λ e. absurd (omega arith))

pub apart_true : (n : ℕ) (s : Step) → n < s.at_node → is_true_at n s ≡ false
apart_true n s below = rw (ne_eqb n s.at_node (λ e. absurd (omega arith))) refl

-- whether a walk is at node n
abbrev pub stands_at : Next → ℕ → Bool
stands_at (node k) n = eqb k n
stands_at (leaf ends) n = false

-- a walk by a vector's values through nodes that are numbered from n on is at just the nodes of the conditions that were evaluated
abbrev pub IsWalked : ℕ → List Edges → Next → Marks → Type 0
IsWalked n [] x v = Unit {0}
IsWalked n (edges ∷ rest) x v = (v.seen n ≡ stands_at x n) × IsWalked (suc n) rest (passed n edges v.value x) v

abbrev pub IsBelow : ℕ → Next → Type 0
IsBelow m (node k) = k < m
IsBelow m (leaf ends) = Unit {0}

-- the walk by a vector's values from a place, through nodes that are numbered from n on
pub record Follows (n : ℕ) (es : List Edges) (x : Next) (v : Marks) (ends : Bool) : Type 0 where
  pub is_walked : IsWalked n es x v
  pub comes_to : walked_from n es v.value x ≡ leaf ends

-- from condition n on, a vector says what these steps do
pub record Says (n : ℕ) (v : Marks) (steps : List Step) : Type 0 where
  pub of_seen : (c : ℕ) → n ≤ c → v.seen c ≡ some_step (is_at c) steps
  pub of_value : (c : ℕ) → n ≤ c → v.value c ≡ some_step (is_true_at c) steps

says_later : (n : ℕ) (v : Marks) (steps : List Step) → Says n v steps → Says (suc n) v steps
says_later n v steps says =
    record { of_seen = λ c from. says.of_seen c (omega arith); of_value = λ c from. says.of_value c (omega arith) }

says_rest : (n : ℕ) (v : Marks) (step : Step) (later : List Step) → step.at_node ≡ n → Says n v (step ∷ later) → Says (suc n) v later
says_rest n v step later here says = record {
  of_seen = λ c from. says.of_seen c (omega arith)
      ∙ ap (λ (b : Bool). b || some_step (is_at c) later) (ne_eqb c step.at_node (λ e. absurd (omega arith)));
  of_value = λ c from. says.of_value c (omega arith)
      ∙ ap (λ (b : Bool). (b && step.value) || some_step (is_true_at c) later) (ne_eqb c step.at_node (λ e. absurd (omega arith)));
}

-- a walk at a leaf has no steps left
pub at_leaf : (next : ℕ → Bool → Next) (steps : List Step) (x ends : Bool) → Runs next (leaf x) steps (leaf ends) → (x ≡ ends) × (steps ≡ [])
at_leaf next [] x ends runs = (cc, refl)
at_leaf next (step ∷ later) x ends runs = let off : leaf x ≡ node step.at_node = runs.0 in absurd (cc)

pub rises_ahead : (next : ℕ → Bool → Next) (m : ℕ) → AllRise next m → (k : ℕ) (b : Bool) (x : Next) → next k b ≡ x → IsAhead (suc k) x × IsBelow m x
rises_ahead next m rises k b (node j) is = let rise = rises k b j is in (omega (arith, rise.0), rise.1)
rises_ahead next m rises k b (leaf ends) is = (tt, tt)

value_here : (x : Bool) (b : Bool) → x ≡ true → ((x && b) || false) ≡ b
value_here x true is = rw is refl
value_here x false is = rw is refl

-- the walk takes the step at node n
takes_step : (next : ℕ → Bool → Next) (m : ℕ) → AllRise next m → (n : ℕ) (edges : Edges) (rest : List Edges)
    → ((b : Bool) → next n b ≡ target edges b) → (v : Marks) (ends : Bool) (steps : List Step)
    → Runs next (node n) steps (leaf ends) → Says n v steps
    → ((x : Next) → IsAhead (suc n) x → IsBelow m x → (later : List Step) → Runs next x later (leaf ends) → Says (suc n) v later → Follows (suc n) rest x v ends)
    → Follows n (edges ∷ rest) (node n) v ends
takes_step next m rises n edges rest here v ends [] runs says later =
    let off : node n ≡ leaf ends = runs in absurd (cc)
takes_step next m rises n edges rest here v ends (step ∷ steps) runs says later =
    let first : node n ≡ node step.at_node = runs.0 in
    let at_step : step.at_node ≡ n = cc first in
    let after = rises_ahead next m rises step.at_node step.value (next step.at_node step.value) refl in
    let ahead : IsAhead (suc n) (next step.at_node step.value) = subst (λ (k : ℕ). IsAhead (suc k) (next step.at_node step.value)) at_step after.0 in
    let go : Follows (suc n) rest (next step.at_node step.value) v ends = later (next step.at_node step.value) ahead after.1 steps runs.1 (says_rest n v step steps at_step says) in
    let none : some_step (is_true_at n) steps ≡ false = none_at is_true_at apart_true next m rises steps n (next step.at_node step.value) (leaf ends) runs.1 ahead in
    let is_value : v.value n ≡ step.value =
    says.of_value n (omega arith)
    ∙ ap (λ (b : Bool). (eqb n step.at_node && step.value) || b) none
    ∙ value_here (eqb n step.at_node) step.value (eq-eqb n step.at_node (sym at_step)) in
    let goes : passed n edges v.value (node n) ≡ next step.at_node step.value =
    rw (eq-eqb n n refl)
    (ap (target edges) is_value ∙ sym (here step.value) ∙ ap (λ (k : ℕ). next k step.value) (sym at_step)) in
    let is_seen : v.seen n ≡ stands_at (node n) n =
    says.of_seen n (omega arith)
    ∙ ap (λ (b : Bool). b || some_step (is_at n) steps) (eq-eqb n step.at_node (sym at_step))
    ∙ sym (eq-eqb n n refl) in
    record {
      is_walked = (is_seen, subst (λ (x : Next). IsWalked (suc n) rest x v) (sym goes) go.is_walked);
      comes_to = ap (walked_from (suc n) rest v.value) goes ∙ go.comes_to;
    }

-- the walk is ahead of node n, and passes it by
passes_on : (next : ℕ → Bool → Next) (m : ℕ) → AllRise next m → (n : ℕ) (edges : Edges) (rest : List Edges) (x : Next) → IsAhead (suc n) x → IsBelow m x
    → (v : Marks) (ends : Bool) (steps : List Step) → Runs next x steps (leaf ends) → Says n v steps
    → ((x : Next) → IsAhead (suc n) x → IsBelow m x → (later : List Step) → Runs next x later (leaf ends) → Says (suc n) v later → Follows (suc n) rest x v ends)
    → Follows n (edges ∷ rest) x v ends
passes_on next m rises n edges rest x ahead below v ends steps runs says later =
    let go : Follows (suc n) rest x v ends = later x ahead below steps runs (says_later n v steps says) in
    let by : passed n edges v.value x ≡ x = passes_by n edges v.value x (ahead_at (suc n) (n + 1) x (sym (add-one n)) ahead) in
    let unseen : v.seen n ≡ false = says.of_seen n (omega arith) ∙ none_at is_at apart_at next m rises steps n x (leaf ends) runs ahead in
    record {
      is_walked = (unseen ∙ sym (not_there x ahead), subst (λ (z : Next). IsWalked (suc n) rest z v) (sym by) go.is_walked);
      comes_to = ap (walked_from (suc n) rest v.value) by ∙ go.comes_to;
    }
  where
    not_there : (x : Next) → IsAhead (suc n) x → stands_at x n ≡ false
    not_there (node k) ahead = ne_eqb k n (λ e. absurd (omega arith))
    not_there (leaf ends) ahead = refl

-- the nodes after the first one
follow_rest : (next : ℕ → Bool → Next) (m : ℕ) → AllRise next m → (edges : Edges) (rest : List Edges) (n : ℕ) → m ≡ n + suc (length rest)
    → ((k : ℕ) (b : Bool) → n ≤ k → next k b ≡ next_from n (edges ∷ rest) k b) → (v : Marks) (ends : Bool)
    → (m ≡ suc n + length rest → ((k : ℕ) (b : Bool) → suc n ≤ k → next k b ≡ next_from (suc n) rest k b) → (v : Marks) (ends : Bool) (x : Next)
    → IsAhead (suc n) x → IsBelow m x → (steps : List Step) → Runs next x steps (leaf ends) → Says (suc n) v steps → Follows (suc n) rest x v ends)
    → (x : Next) → IsAhead (suc n) x → IsBelow m x → (later : List Step) → Runs next x later (leaf ends) → Says (suc n) v later → Follows (suc n) rest x v ends
follow_rest next m rises edges rest n is agree v ends go =
    go (omega arith) (λ k b from. agree k b (omega arith) ∙ later k b (λ e. absurd (omega arith))) v ends
  where
    later : (k : ℕ) (b : Bool) → (k ≡ n → ⊥) → next_from n (edges ∷ rest) k b ≡ next_from (suc n) rest k b
    later k b other = rw (ne_eqb k n other) refl

follow_node : (next : ℕ → Bool → Next) (m : ℕ) → AllRise next m → (edges : Edges) (rest : List Edges) (n : ℕ)
    → ((k : ℕ) (b : Bool) → n ≤ k → next k b ≡ next_from n (edges ∷ rest) k b) → (v : Marks) (ends : Bool) (k : ℕ) → n ≤ k → k < m
    → (steps : List Step) → Runs next (node k) steps (leaf ends) → Says n v steps → (b : Bool) → eqb k n ≡ b
    → ((x : Next) → IsAhead (suc n) x → IsBelow m x → (later : List Step) → Runs next x later (leaf ends) → Says (suc n) v later → Follows (suc n) rest x v ends)
    → Follows n (edges ∷ rest) (node k) v ends
follow_node next m rises edges rest n agree v ends k ahead below steps runs says true is later =
    let here : k ≡ n = eqb-true k n is in
    let runs_here : Runs next (node n) steps (leaf ends) = subst (λ (i : ℕ). Runs next (node i) steps (leaf ends)) here runs in
    subst (λ (i : ℕ). Follows n (edges ∷ rest) (node i) v ends) (sym here)
    (takes_step next m rises n edges rest (λ b. agree n b (omega arith) ∙ first b) v ends steps runs_here says later)
  where
    first : (b : Bool) → next_from n (edges ∷ rest) n b ≡ target edges b
    first b = rw (eq-eqb n n refl) refl
follow_node next m rises edges rest n agree v ends k ahead below steps runs says false is later =
    let other : k ≡ n → ⊥ = eqb-false k n is in
    passes_on next m rises n edges rest (node k) (omega arith) below v ends steps runs says later

-- steps from a place to an outcome are the walk by the values of a vector that says what they do
follow : (next : ℕ → Bool → Next) (m : ℕ) → AllRise next m → (es : List Edges) (n : ℕ) → m ≡ n + length es
    → ((k : ℕ) (b : Bool) → n ≤ k → next k b ≡ next_from n es k b) → (v : Marks) (ends : Bool) (x : Next) → IsAhead n x → IsBelow m x
    → (steps : List Step) → Runs next x steps (leaf ends) → Says n v steps → Follows n es x v ends
follow next m rises [] n is agree v ends (node k) ahead below steps runs says = absurd (omega arith)
follow next m rises [] n is agree v ends (leaf x) ahead below steps runs says =
    record { is_walked = tt; comes_to = ap leaf (at_leaf next steps x ends runs).0 }
follow next m rises (edges ∷ rest) n is agree v ends (leaf x) ahead below steps runs says =
    passes_on next m rises n edges rest (leaf x) tt tt v ends steps runs says
    (follow_rest next m rises edges rest n is agree v ends (follow next m rises rest (suc n)))
follow next m rises (edges ∷ rest) n is agree v ends (node k) ahead below steps runs says =
    follow_node next m rises edges rest n agree v ends k ahead below steps runs says (eqb k n) refl
    (follow_rest next m rises edges rest n is agree v ends (follow next m rises rest (suc n)))

-- a path to an outcome is the walk by the values of its vector
pub path_follows : (e : Expr) (path : List Step) (ends : Bool) → LeadsTo (graph e) path (leaf ends)
    → Follows 0 (graph e) (node 0) (marks (vector_of path)) ends
path_follows e path ends leads =
    let v : Marks = marks (vector_of path) in
    let steps : List Step = onto path [] in
    let same_steps : (test : Step → Bool) → some_step test path ≡ some_step test steps =
    λ test. sym (some_onto test path [] ∙ or_false (some_step test path)) in
    follow (next_in (graph e)) (size e) (edges_rise e) (graph e) 0 (omega (arith, length-nodes e 0 (leaf true) (leaf false)))
    (λ k b from. refl) v ends (node 0) (omega arith) (size_some e) steps
    (forward (graph e) path [] (leaf ends) (leaf ends) leads refl)
    (record {
      of_seen = λ c from. bit_seen path c ∙ same_steps (is_at c);
      of_value = λ c from. bit_value path c ∙ same_steps (is_true_at c);
    })

-- a path's outcome is the leaf to which it leads
pub outcome_law : (e : Expr) (path : List Step) (ends : Bool) → LeadsTo (graph e) path (leaf ends) → outcome e (marks (vector_of path)) ≡ ends
outcome_law e path ends leads =
    let v : Marks = marks (vector_of path) in
    let by_value : walked (graph e) v.value ≡ leaf (value_of e 0 v.value) = walk_law e v.value in
    let by_path : walked (graph e) v.value ≡ leaf ends = (path_follows e path ends leads).comes_to in
    let both : leaf (value_of e 0 v.value) ≡ leaf ends = sym by_value ∙ by_path in
    cc both
