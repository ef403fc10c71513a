-- A walk on the graph of an expression ends where the expression's value says.
use Rattle.std.proofs.Common.{◌≡◌, ℕ, ◌+◌, ◌≤◌, suc, Bool, true, false, not, cond, List, [], ◌++◌, refl, sym, ap, subst, ◌∙◌, append_assoc, append-nil, eq-eqb, ne_eqb, add-one, arith}
use Rattle.cov_base.specs.Expr.{Expr, condition, negation, operator, size, value_of}
use Rattle.cov_base.specs.Graph.{Next, node, leaf, Edges, target, nodes, graph}
use Rattle.cov_base.specs.Path.{passed, walked_from, walked}

-- a place that no node below m is
abbrev pub IsAhead : ℕ → Next → Type 0
IsAhead m (node k) = m ≤ k
IsAhead m (leaf ends) = Unit {0}

pub ahead_before : (m k : ℕ) (x : Next) → k ≤ m → IsAhead m x → IsAhead k x
ahead_before m k (node j) below ahead = omega arith
ahead_before m k (leaf ends) below ahead = tt

-- a number by which a place is ahead may be written otherwise
pub ahead_at : (m k : ℕ) (x : Next) → m ≡ k → IsAhead m x → IsAhead k x
ahead_at m k x is ahead = subst (λ (i : ℕ). IsAhead i x) is ahead

-- a walk that is ahead passes a node by
pub passes_by : (n : ℕ) (edges : Edges) (value : ℕ → Bool) (x : Next) → IsAhead (n + 1) x → passed n edges value x ≡ x
passes_by n edges value (node k) ahead = rw (ne_eqb k n (λ e. absurd (omega arith))) refl
passes_by n edges value (leaf ends) ahead = refl

pub takes : (n : ℕ) (t f : Next) (value : ℕ → Bool) → passed n (record { on_true = t; on_false = f }) value (node n) ≡ cond (value n) t f
takes n t f value = rw (eq-eqb n n refl) (chosen (value n) t f)
  where
    chosen : (b : Bool) (t f : Next) → target (record { on_true = t; on_false = f }) b ≡ cond b t f
    chosen true t f = refl
    chosen false t f = refl

-- two operands, one after the other
stays_both : (left right : Expr) (n : ℕ) (t f t' f' : Next) (rest : List Edges) (value : ℕ → Bool) (x : Next)
    → IsAhead (n + (size left + size right)) x
    → ((rest : List Edges) (value : ℕ → Bool) (x : Next) → IsAhead (n + size left) x
    → walked_from n (nodes left n t f ++ rest) value x ≡ walked_from (n + size left) rest value x)
    → ((rest : List Edges) (value : ℕ → Bool) (x : Next) → IsAhead (n + size left + size right) x
    → walked_from (n + size left) (nodes right (n + size left) t' f' ++ rest) value x ≡ walked_from (n + size left + size right) rest value x)
    → walked_from n ((nodes left n t f ++ nodes right (n + size left) t' f') ++ rest) value x ≡ walked_from (n + (size left + size right)) rest value x
stays_both left right n t f t' f' rest value x ahead first second =
    let same : n + (size left + size right) ≡ n + size left + size right = omega arith in
    ap (λ (ns : List Edges). walked_from n ns value x) (append_assoc (nodes left n t f) (nodes right (n + size left) t' f') rest)
    ∙ first (nodes right (n + size left) t' f' ++ rest) value x (ahead_before _ _ x (omega arith) ahead)
    ∙ second rest value x (ahead_at _ _ x same ahead)
    ∙ ap (λ (m : ℕ). walked_from m rest value x) (sym same)

-- a walk that is ahead of an expression passes all its nodes by
pub stays : (e : Expr) (n : ℕ) (t f : Next) (rest : List Edges) (value : ℕ → Bool) (x : Next) → IsAhead (n + size e) x
    → walked_from n (nodes e n t f ++ rest) value x ≡ walked_from (n + size e) rest value x
stays condition n t f rest value x ahead =
    rw (add-one n) (ap (walked_from (suc n) rest value) (passes_by n (record { on_true = t; on_false = f }) value x ahead))
stays (negation e) n t f rest value x ahead = stays e n f t rest value x ahead
stays (operator true left right) n t f rest value x ahead =
    stays_both left right n (node (n + size left)) f t f rest value x ahead
    (stays left n (node (n + size left)) f) (stays right (n + size left) t f)
stays (operator false left right) n t f rest value x ahead =
    stays_both left right n t (node (n + size left)) t f rest value x ahead
    (stays left n t (node (n + size left))) (stays right (n + size left) t f)

not_swaps : (b : Bool) (t f : Next) → cond b f t ≡ cond (not b) t f
not_swaps true t f = refl
not_swaps false t f = refl

-- after the left operand the walk is at the right one, or at the exit of both
goes_on_true : (x y : Bool) (middle t f : Next) (walk last : Next → Next) → walk middle ≡ last (cond y t f) → walk f ≡ last f
    → walk (cond x middle f) ≡ last (cond (cond x y false) t f)
goes_on_true true y middle t f walk last there past = there
goes_on_true false y middle t f walk last there past = past

goes_on_false : (x y : Bool) (middle t f : Next) (walk last : Next → Next) → walk middle ≡ last (cond y t f) → walk t ≡ last t
    → walk (cond x t middle) ≡ last (cond (cond x true y) t f)
goes_on_false true y middle t f walk last there past = past
goes_on_false false y middle t f walk last there past = there

-- a walk from the first node of an expression leaves it by the exit of its value
pub walks : (e : Expr) (n : ℕ) (t f : Next) (rest : List Edges) (value : ℕ → Bool) → IsAhead (n + size e) t → IsAhead (n + size e) f
    → walked_from n (nodes e n t f ++ rest) value (node n) ≡ walked_from (n + size e) rest value (cond (value_of e n value) t f)
walks condition n t f rest value ahead_t ahead_f =
    rw (add-one n) (ap (walked_from (suc n) rest value) (takes n t f value))
walks (negation e) n t f rest value ahead_t ahead_f =
    walks e n f t rest value ahead_f ahead_t
    ∙ ap (walked_from (n + size e) rest value) (not_swaps (value_of e n value) t f)
walks (operator true left right) n t f rest value ahead_t ahead_f =
    let middle : ℕ = n + size left in
    let same : n + (size left + size right) ≡ middle + size right = omega arith in
    ap (λ (ns : List Edges). walked_from n ns value (node n)) (append_assoc (nodes left n (node middle) f) (nodes right middle t f) rest)
    ∙ walks left n (node middle) f (nodes right middle t f ++ rest) value (omega arith) (ahead_before _ _ f (omega arith) ahead_f)
    ∙ goes_on_true (value_of left n value) (value_of right middle value) (node middle) t f
    (walked_from middle (nodes right middle t f ++ rest) value) (walked_from (middle + size right) rest value)
    (walks right middle t f rest value (ahead_at _ _ t same ahead_t) (ahead_at _ _ f same ahead_f))
    (stays right middle t f rest value f (ahead_at _ _ f same ahead_f))
    ∙ ap (λ (m : ℕ). walked_from m rest value (cond (value_of (operator true left right) n value) t f)) (sym same)
walks (operator false left right) n t f rest value ahead_t ahead_f =
    let middle : ℕ = n + size left in
    let same : n + (size left + size right) ≡ middle + size right = omega arith in
    ap (λ (ns : List Edges). walked_from n ns value (node n)) (append_assoc (nodes left n t (node middle)) (nodes right middle t f) rest)
    ∙ walks left n t (node middle) (nodes right middle t f ++ rest) value (ahead_before _ _ t (omega arith) ahead_t) (omega arith)
    ∙ goes_on_false (value_of left n value) (value_of right middle value) (node middle) t f
    (walked_from middle (nodes right middle t f ++ rest) value) (walked_from (middle + size right) rest value)
    (walks right middle t f rest value (ahead_at _ _ t same ahead_t) (ahead_at _ _ f same ahead_f))
    (stays right middle t f rest value t (ahead_at _ _ t same ahead_t))
    ∙ ap (λ (m : ℕ). walked_from m rest value (cond (value_of (operator false left right) n value) t f)) (sym same)

pub walk_law : (e : Expr) (value : ℕ → Bool) → walked (graph e) value ≡ leaf (value_of e 0 value)
walk_law e value =
    ap (λ (ns : List Edges). walked ns value) (sym (append-nil (graph e)))
    ∙ walks e 0 (leaf true) (leaf false) [] value tt tt
    ∙ leaves (value_of e 0 value)
  where
    leaves : (b : Bool) → cond b (leaf true) (leaf false) ≡ leaf b
    leaves true = refl
    leaves false = refl
