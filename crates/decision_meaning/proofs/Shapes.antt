-- What the vector of a path says of each part of the expression.
use Rattle.std.proofs.Common.{◌≡◌, ℕ, ◌+◌, ◌<◌, ◌≤◌, suc, Bool, true, false, not, cond, List, [], ◌++◌, refl, sym, subst, ◌∙◌, append_assoc, append-nil, eq-eqb, ne_eqb, add-one, arith}
use Rattle.std.proofs.lemmas.Bool.{cases_lt}
use Rattle.std.proofs.Common.{◌⊎◌, inl, inr}
use Rattle.cov_base.specs.declared.event.Vector.{Vector}
use Rattle.cov_base.specs.Expr.{Expr, condition, negation, operator, size, value_of}
use Rattle.cov_base.specs.Graph.{Next, node, leaf, Edges, nodes, graph}
use Rattle.cov_base.specs.Marks.{Marks, marks}
use Rattle.cov_base.specs.Path.{IsPathVector, vector_of}
use Rattle.cov_base.proofs.Walks.{IsAhead, ahead_before, ahead_at, passes_by, takes}
use Rattle.cov_base.proofs.Follows.{IsWalked, stands_at, path_follows}

-- no condition of an expression was evaluated
abbrev pub IsUntouched : Expr → ℕ → Marks → Type 0
IsUntouched e n v = (c : ℕ) → n ≤ c → c < n + size e → v.seen c ≡ false

-- one fact or the other
abbrev pub Either : Bool → Type 0 → Type 0 → Type 0
Either true P Q = P
Either false P Q = Q

-- an expression was evaluated: its left operand, and its right one just where the left one has the neutral value
abbrev pub IsEvaluated : Expr → ℕ → Marks → Type 0
IsEvaluated condition n v = v.seen n ≡ true
IsEvaluated (negation e) n v = IsEvaluated e n v
IsEvaluated (operator true left right) n v =
    IsEvaluated left n v
    × Either (value_of left n v.value) (IsEvaluated right (n + size left) v) (IsUntouched right (n + size left) v)
IsEvaluated (operator false left right) n v =
    IsEvaluated left n v
    × Either (value_of left n v.value) (IsUntouched right (n + size left) v) (IsEvaluated right (n + size left) v)

-- what a walk that passes all nodes of an expression by says of them, and where it goes on
pub record PassesBy (e : Expr) (n : ℕ) (rest : List Edges) (x : Next) (v : Marks) : Type 0 where
  pub untouched : IsUntouched e n v
  pub goes_on : IsWalked (n + size e) rest x v

not_there : (n : ℕ) (x : Next) → IsAhead (n + 1) x → stands_at x n ≡ false
not_there n (node k) ahead = ne_eqb k n (λ e. absurd (omega arith))
not_there n (leaf ends) ahead = refl

both_untouched : (left right : Expr) (n : ℕ) (v : Marks) → IsUntouched left n v → IsUntouched right (n + size left) v
    → (c : ℕ) → n ≤ c → c < n + (size left + size right) → v.seen c ≡ false
both_untouched left right n v first second c from below = by_place (cases_lt c (n + size left))
  where
    by_place : (c < n + size left) ⊎ (n + size left ≤ c) → v.seen c ≡ false
    by_place (inl before) = first c from before
    by_place (inr after) = second c after (omega arith)

pub passes : (e : Expr) (n : ℕ) (t f : Next) (rest : List Edges) (x : Next) (v : Marks) → IsAhead (n + size e) x
    → IsWalked n (nodes e n t f ++ rest) x v → PassesBy e n rest x v
passes condition n t f rest x v ahead walked = record {
  untouched = λ c from below.
      let here : n ≡ c = omega arith in
      subst (λ (i : ℕ). v.seen i ≡ false) here (walked.0 ∙ not_there n x ahead);
  goes_on = rw (add-one n)
      (subst (λ (y : Next). IsWalked (suc n) rest y v) (passes_by n (record { on_true = t; on_false = f }) v.value x ahead) walked.1);
}
passes (negation e) n t f rest x v ahead walked =
    let by = passes e n f t rest x v ahead walked in record { untouched = by.untouched; goes_on = by.goes_on }
passes (operator true left right) n t f rest x v ahead walked =
    let middle : ℕ = n + size left in
    let same : n + (size left + size right) ≡ middle + size right = omega arith in
    let first : PassesBy left n (nodes right middle t f ++ rest) x v =
    passes left n (node middle) f (nodes right middle t f ++ rest) x v (ahead_before _ _ x (omega arith) ahead)
    (subst (λ (ns : List Edges). IsWalked n ns x v) (append_assoc (nodes left n (node middle) f) (nodes right middle t f) rest) walked) in
    let second : PassesBy right middle rest x v = passes right middle t f rest x v (ahead_at _ _ x same ahead) first.goes_on in
    record {
      untouched = both_untouched left right n v first.untouched second.untouched;
      goes_on = subst (λ (m : ℕ). IsWalked m rest x v) (sym same) second.goes_on;
    }
passes (operator false left right) n t f rest x v ahead walked =
    let middle : ℕ = n + size left in
    let same : n + (size left + size right) ≡ middle + size right = omega arith in
    let first : PassesBy left n (nodes right middle t f ++ rest) x v =
    passes left n t (node middle) (nodes right middle t f ++ rest) x v (ahead_before _ _ x (omega arith) ahead)
    (subst (λ (ns : List Edges). IsWalked n ns x v) (append_assoc (nodes left n t (node middle)) (nodes right middle t f) rest) walked) in
    let second : PassesBy right middle rest x v = passes right middle t f rest x v (ahead_at _ _ x same ahead) first.goes_on in
    record {
      untouched = both_untouched left right n v first.untouched second.untouched;
      goes_on = subst (λ (m : ℕ). IsWalked m rest x v) (sym same) second.goes_on;
    }

-- what a walk from the first node of an expression says of its nodes, and where it goes on
pub record GoesThrough (e : Expr) (n : ℕ) (t f : Next) (rest : List Edges) (v : Marks) : Type 0 where
  pub evaluated : IsEvaluated e n v
  pub goes_on : IsWalked (n + size e) rest (cond (value_of e n v.value) t f) v

not_swaps : (b : Bool) (t f : Next) → cond b f t ≡ cond (not b) t f
not_swaps true t f = refl
not_swaps false t f = refl

-- the right operand after the left one
right_true : (right : Expr) (m : ℕ) (t f : Next) (rest : List Edges) (v : Marks) (x : Bool)
    → IsAhead (m + size right) f
    → (IsWalked m (nodes right m t f ++ rest) (node m) v → GoesThrough right m t f rest v)
    → (IsWalked m (nodes right m t f ++ rest) f v → PassesBy right m rest f v)
    → IsWalked m (nodes right m t f ++ rest) (cond x (node m) f) v
    → Either x (IsEvaluated right m v) (IsUntouched right m v) × IsWalked (m + size right) rest (cond (cond x (value_of right m v.value) false) t f) v
right_true right m t f rest v true ahead through by walked = ((through walked).evaluated, (through walked).goes_on)
right_true right m t f rest v false ahead through by walked = ((by walked).untouched, (by walked).goes_on)

right_false : (right : Expr) (m : ℕ) (t f : Next) (rest : List Edges) (v : Marks) (x : Bool)
    → IsAhead (m + size right) t
    → (IsWalked m (nodes right m t f ++ rest) (node m) v → GoesThrough right m t f rest v)
    → (IsWalked m (nodes right m t f ++ rest) t v → PassesBy right m rest t v)
    → IsWalked m (nodes right m t f ++ rest) (cond x t (node m)) v
    → Either x (IsUntouched right m v) (IsEvaluated right m v) × IsWalked (m + size right) rest (cond (cond x true (value_of right m v.value)) t f) v
right_false right m t f rest v true ahead through by walked = ((by walked).untouched, (by walked).goes_on)
right_false right m t f rest v false ahead through by walked = ((through walked).evaluated, (through walked).goes_on)

pub goes_through : (e : Expr) (n : ℕ) (t f : Next) (rest : List Edges) (v : Marks) → IsAhead (n + size e) t → IsAhead (n + size e) f
    → IsWalked n (nodes e n t f ++ rest) (node n) v → GoesThrough e n t f rest v
goes_through condition n t f rest v ahead_t ahead_f walked = record {
  evaluated = walked.0 ∙ eq-eqb n n refl;
  goes_on = rw (add-one n) (subst (λ (y : Next). IsWalked (suc n) rest y v) (takes n t f v.value) walked.1);
}
goes_through (negation e) n t f rest v ahead_t ahead_f walked =
    let go = goes_through e n f t rest v ahead_f ahead_t walked in record {
      evaluated = go.evaluated;
      goes_on = subst (λ (y : Next). IsWalked (n + size e) rest y v) (not_swaps (value_of e n v.value) t f) go.goes_on;
    }
goes_through (operator true left right) n t f rest v ahead_t ahead_f walked =
    let middle : ℕ = n + size left in
    let same : n + (size left + size right) ≡ middle + size right = omega arith in
    let first : GoesThrough left n (node middle) f (nodes right middle t f ++ rest) v =
    goes_through left n (node middle) f (nodes right middle t f ++ rest) v (omega arith) (ahead_before _ _ f (omega arith) ahead_f)
    (subst (λ (ns : List Edges). IsWalked n ns (node n) v) (append_assoc (nodes left n (node middle) f) (nodes right middle t f) rest) walked) in
    let ahead_f' : IsAhead (middle + size right) f = ahead_at _ _ f same ahead_f in
    let second = right_true right middle t f rest v (value_of left n v.value) ahead_f'
    (goes_through right middle t f rest v (ahead_at _ _ t same ahead_t) ahead_f') (passes right middle t f rest f v ahead_f') first.goes_on in
    record {
      evaluated = (first.evaluated, second.0);
      goes_on = subst (λ (m : ℕ). IsWalked m rest (cond (value_of (operator true left right) n v.value) t f) v) (sym same) second.1;
    }
goes_through (operator false left right) n t f rest v ahead_t ahead_f walked =
    let middle : ℕ = n + size left in
    let same : n + (size left + size right) ≡ middle + size right = omega arith in
    let first : GoesThrough left n t (node middle) (nodes right middle t f ++ rest) v =
    goes_through left n t (node middle) (nodes right middle t f ++ rest) v (ahead_before _ _ t (omega arith) ahead_t) (omega arith)
    (subst (λ (ns : List Edges). IsWalked n ns (node n) v) (append_assoc (nodes left n t (node middle)) (nodes right middle t f) rest) walked) in
    let ahead_t' : IsAhead (middle + size right) t = ahead_at _ _ t same ahead_t in
    let second = right_false right middle t f rest v (value_of left n v.value) ahead_t'
    (goes_through right middle t f rest v ahead_t' (ahead_at _ _ f same ahead_f)) (passes right middle t f rest t v ahead_t') first.goes_on in
    record {
      evaluated = (first.evaluated, second.0);
      goes_on = subst (λ (m : ℕ). IsWalked m rest (cond (value_of (operator false left right) n v.value) t f) v) (sym same) second.1;
    }

-- the decision was evaluated, as the vector of a path says it
pub path_evaluates : (e : Expr) (v : Vector) → IsPathVector (graph e) v → IsEvaluated e 0 (marks v)
path_evaluates e v is =
    let follows = path_follows e is.path is.ends is.leads in
    subst (λ (w : Vector). IsEvaluated e 0 (marks w)) (sym is.shown)
    (goes_through e 0 (leaf true) (leaf false) [] (marks (vector_of is.path)) tt tt
    (subst (λ (ns : List Edges). IsWalked 0 ns (node 0) (marks (vector_of is.path))) (sym (append-nil (graph e))) follows.is_walked)).evaluated
