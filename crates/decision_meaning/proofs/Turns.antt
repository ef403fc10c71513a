-- The unmasked conditions are those that can still turn the outcome.
use Rattle.std.proofs.Common.{◌≡◌, ℕ, ◌+◌, ◌<◌, ◌≤◌, suc, Bool, true, false, not, cond, ◌&&◌, ◌||◌, ◌⊎◌, inl, inr, List, [], ◌∷◌, ◌++◌, eqb, refl, sym, ap, subst, ◌∙◌, ⊎_elim, append_assoc, append-nil, eqb-true, eq-eqb, ne_eqb, add-one, arith}
use Rattle.std.proofs.lemmas.Bool.{cases_lt}
use Rattle.cov_base.specs.declared.event.Vector.{Vector}
use Rattle.cov_base.specs.Expr.{Expr, condition, negation, operator, size, value_of}
use Rattle.cov_base.specs.Graph.{Next, node, leaf, Edges, target, nodes, graph}
use Rattle.cov_base.specs.Marks.{Marks, marks, same, outcome}
use Rattle.decision_meaning.specs.Unmasked.{unmasked_from, unmasked}
use Rattle.cov_base.specs.Path.{IsPathVector}
use Rattle.decision_meaning.specs.Turn.{reaches, open_from, can_turn_from, can_turn}
use Rattle.cov_base.proofs.Walks.{IsAhead, ahead_before, ahead_at}
use Rattle.decision_meaning.proofs.Shapes.{IsUntouched, Either, IsEvaluated, path_evaluates}
use Rattle.cov_base.proofs.Edges.{size_some}

-- the first condition of an expression that was evaluated was evaluated
pub first_seen : (e : Expr) (n : ℕ) (v : Marks) → IsEvaluated e n v → v.seen n ≡ true
first_seen condition n v is = is
first_seen (negation e) n v is = first_seen e n v is
first_seen (operator true left right) n v is = first_seen left n v is.0
first_seen (operator false left right) n v is = first_seen left n v is.0

-- a place ahead of a node is seen in what stands after it
reaches_on : (n : ℕ) (edges : Edges) (rest : List Edges) (v : Marks) (given : Bool) (x : Next) → IsAhead (suc n) x
    → reaches (open_from n (edges ∷ rest) v given) given x ≡ reaches (open_from (suc n) rest v given) given x
reaches_on n edges rest v given (node k) ahead = rw (ne_eqb k n (λ e. absurd (omega arith))) refl
reaches_on n edges rest v given (leaf ends) ahead = refl

-- a place ahead of an expression is seen in what stands after it
pub reaches_after : (e : Expr) (n : ℕ) (t f : Next) (rest : List Edges) (v : Marks) (given : Bool) (x : Next) → IsAhead (n + size e) x
    → reaches (open_from n (nodes e n t f ++ rest) v given) given x ≡ reaches (open_from (n + size e) rest v given) given x
reaches_after condition n t f rest v given x ahead =
    rw (add-one n) (reaches_on n (record { on_true = t; on_false = f }) rest v given x (ahead_at _ _ x (add-one n) ahead))
reaches_after (negation e) n t f rest v given x ahead = reaches_after e n f t rest v given x ahead
reaches_after (operator true left right) n t f rest v given x ahead =
    let middle : ℕ = n + size left in
    let same_end : n + (size left + size right) ≡ middle + size right = omega arith in
    ap (λ (ns : List Edges). reaches (open_from n ns v given) given x) (append_assoc (nodes left n (node middle) f) (nodes right middle t f) rest)
    ∙ reaches_after left n (node middle) f (nodes right middle t f ++ rest) v given x (ahead_before _ _ x (omega arith) ahead)
    ∙ reaches_after right middle t f rest v given x (ahead_at _ _ x same_end ahead)
    ∙ ap (λ (m : ℕ). reaches (open_from m rest v given) given x) (sym same_end)
reaches_after (operator false left right) n t f rest v given x ahead =
    let middle : ℕ = n + size left in
    let same_end : n + (size left + size right) ≡ middle + size right = omega arith in
    ap (λ (ns : List Edges). reaches (open_from n ns v given) given x) (append_assoc (nodes left n t (node middle)) (nodes right middle t f) rest)
    ∙ reaches_after left n t (node middle) (nodes right middle t f ++ rest) v given x (ahead_before _ _ x (omega arith) ahead)
    ∙ reaches_after right middle t f rest v given x (ahead_at _ _ x same_end ahead)
    ∙ ap (λ (m : ℕ). reaches (open_from m rest v given) given x) (sym same_end)

-- from a node that was evaluated only the outcome that was given is reached
closed_at : (n : ℕ) (es : List Edges) (v : Marks) (given : Bool) → v.seen n ≡ true → open_from n es v given n ≡ false
closed_at n [] v given seen = refl
closed_at n (edges ∷ rest) v given seen = rw (eq-eqb n n refl, seen) refl

or_false : (x : Bool) → (x || false) ≡ x
or_false true = refl
or_false false = refl

or_swaps : (x y : Bool) → (x || y) ≡ (y || x)
or_swaps true true = refl
or_swaps true false = refl
or_swaps false true = refl
or_swaps false false = refl

or_absorbs : (x y : Bool) → ((x || y) || y) ≡ (x || y)
or_absorbs true y = refl
or_absorbs false true = refl
or_absorbs false false = refl

or_keeps : (x y : Bool) → (x || (x || y)) ≡ (x || y)
or_keeps true y = refl
or_keeps false y = refl

left_untouched : (left right : Expr) (n : ℕ) (v : Marks) → ((c : ℕ) → n ≤ c → c < n + (size left + size right) → v.seen c ≡ false) → IsUntouched left n v
left_untouched left right n v none c from below = none c from (omega arith)

right_untouched : (left right : Expr) (n : ℕ) (v : Marks) → ((c : ℕ) → n ≤ c → c < n + (size left + size right) → v.seen c ≡ false)
    → IsUntouched right (n + size left) v
right_untouched left right n v none c from below = none c (omega arith) (omega arith)

-- from an expression that was not evaluated both its exits are reached
pub opens : (e : Expr) (n : ℕ) (t f : Next) (rest : List Edges) (v : Marks) (given : Bool) → IsAhead (n + size e) t → IsAhead (n + size e) f
    → IsUntouched e n v
    → open_from n (nodes e n t f ++ rest) v given n
    ≡ (reaches (open_from (n + size e) rest v given) given t || reaches (open_from (n + size e) rest v given) given f)
opens condition n t f rest v given ahead_t ahead_f none =
    rw (eq-eqb n n refl, none n (omega arith) (omega arith), add-one n) refl
opens (negation e) n t f rest v given ahead_t ahead_f none =
    opens e n f t rest v given ahead_f ahead_t none
    ∙ or_swaps (reaches (open_from (n + size e) rest v given) given f) (reaches (open_from (n + size e) rest v given) given t)
opens (operator true left right) n t f rest v given ahead_t ahead_f none =
    let middle : ℕ = n + size left in
    let same_end : n + (size left + size right) ≡ middle + size right = omega arith in
    let later = open_from middle (nodes right middle t f ++ rest) v given in
    let last = open_from (middle + size right) rest v given in
    let at_t : IsAhead (middle + size right) t = ahead_at _ _ t same_end ahead_t in
    let at_f : IsAhead (middle + size right) f = ahead_at _ _ f same_end ahead_f in
    ap (λ (ns : List Edges). open_from n ns v given n) (append_assoc (nodes left n (node middle) f) (nodes right middle t f) rest)
    ∙ opens left n (node middle) f (nodes right middle t f ++ rest) v given (omega arith) (ahead_before _ _ f (omega arith) ahead_f)
    (left_untouched left right n v none)
    ∙ ap (λ (b : Bool). b || reaches later given f) (opens right middle t f rest v given at_t at_f (right_untouched left right n v none))
    ∙ ap (λ (b : Bool). (reaches last given t || reaches last given f) || b) (reaches_after right middle t f rest v given f at_f)
    ∙ or_absorbs (reaches last given t) (reaches last given f)
    ∙ ap (λ (m : ℕ). reaches (open_from m rest v given) given t || reaches (open_from m rest v given) given f) (sym same_end)
opens (operator false left right) n t f rest v given ahead_t ahead_f none =
    let middle : ℕ = n + size left in
    let same_end : n + (size left + size right) ≡ middle + size right = omega arith in
    let later = open_from middle (nodes right middle t f ++ rest) v given in
    let last = open_from (middle + size right) rest v given in
    let at_t : IsAhead (middle + size right) t = ahead_at _ _ t same_end ahead_t in
    let at_f : IsAhead (middle + size right) f = ahead_at _ _ f same_end ahead_f in
    ap (λ (ns : List Edges). open_from n ns v given n) (append_assoc (nodes left n t (node middle)) (nodes right middle t f) rest)
    ∙ opens left n t (node middle) (nodes right middle t f ++ rest) v given (ahead_before _ _ t (omega arith) ahead_t) (omega arith)
    (left_untouched left right n v none)
    ∙ ap (λ (b : Bool). reaches later given t || b) (opens right middle t f rest v given at_t at_f (right_untouched left right n v none))
    ∙ ap (λ (b : Bool). b || (reaches last given t || reaches last given f)) (reaches_after right middle t f rest v given t at_t)
    ∙ or_keeps (reaches last given t) (reaches last given f)
    ∙ ap (λ (m : ℕ). reaches (open_from m rest v given) given t || reaches (open_from m rest v given) given f) (sym same_end)

-- a condition after an expression is looked for in what stands after it
turn_after : (e : Expr) (n : ℕ) (t f : Next) (rest : List Edges) (v : Marks) (given : Bool) (c : ℕ) → n + size e ≤ c
    → can_turn_from n (nodes e n t f ++ rest) v given c ≡ can_turn_from (n + size e) rest v given c
turn_after condition n t f rest v given c after = rw (ne_eqb c n (λ e. absurd (omega arith)), add-one n) refl
turn_after (negation e) n t f rest v given c after = turn_after e n f t rest v given c after
turn_after (operator true left right) n t f rest v given c after =
    let middle : ℕ = n + size left in
    let same_end : n + (size left + size right) ≡ middle + size right = omega arith in
    ap (λ (ns : List Edges). can_turn_from n ns v given c) (append_assoc (nodes left n (node middle) f) (nodes right middle t f) rest)
    ∙ turn_after left n (node middle) f (nodes right middle t f ++ rest) v given c (omega arith)
    ∙ turn_after right middle t f rest v given c (omega arith)
    ∙ ap (λ (m : ℕ). can_turn_from m rest v given c) (sym same_end)
turn_after (operator false left right) n t f rest v given c after =
    let middle : ℕ = n + size left in
    let same_end : n + (size left + size right) ≡ middle + size right = omega arith in
    ap (λ (ns : List Edges). can_turn_from n ns v given c) (append_assoc (nodes left n t (node middle)) (nodes right middle t f) rest)
    ∙ turn_after left n t (node middle) (nodes right middle t f ++ rest) v given c (omega arith)
    ∙ turn_after right middle t f rest v given c (omega arith)
    ∙ ap (λ (m : ℕ). can_turn_from m rest v given c) (sym same_end)

-- a condition that was not evaluated turns nothing, and is not unmasked
pub unseen_turns : (n : ℕ) (es : List Edges) (v : Marks) (given : Bool) (c : ℕ) → v.seen c ≡ false → can_turn_from n es v given c ≡ false
unseen_turns n [] v given c unseen = refl
unseen_turns n (edges ∷ rest) v given c unseen = by_place (unseen_turns (suc n) rest v given c unseen) (eqb c n) refl
  where
    by_place : can_turn_from (suc n) rest v given c ≡ false → (b : Bool) → eqb c n ≡ b
        → cond b (v.seen n && reaches (open_from (suc n) rest v given) given (target edges (not (v.value n)))) (can_turn_from (suc n) rest v given c) ≡ false
    by_place later true is = let here : v.seen n ≡ false = subst (λ (k : ℕ). v.seen k ≡ false) (eqb-true c n is) unseen in rw here refl
    by_place later false is = later

-- a condition outside an expression is not unmasked in it
pub outside : (e : Expr) (n : ℕ) (v : Marks) (c : ℕ) → (n ≤ c → c < n + size e → ⊥) → unmasked_from e n v c ≡ false
outside condition n v c out = rw (ne_eqb c n (λ e. out (omega arith) (omega arith))) refl
outside (negation e) n v c out = outside e n v c out
outside (operator neutral left right) n v c out =
    rw (outside left n v c (λ from below. out from (omega arith)), outside right (n + size left) v c (λ from below. out (omega arith) (omega arith))) refl

pub unseen_masked : (e : Expr) (n : ℕ) (v : Marks) (c : ℕ) → v.seen c ≡ false → unmasked_from e n v c ≡ false
unseen_masked condition n v c unseen = by_place (eqb c n) refl
  where
    by_place : (b : Bool) → eqb c n ≡ b → (b && v.seen n) ≡ false
    by_place true is = subst (λ (k : ℕ). v.seen k ≡ false) (eqb-true c n is) unseen
    by_place false is = refl
unseen_masked (negation e) n v c unseen = unseen_masked e n v c unseen
unseen_masked (operator neutral left right) n v c unseen =
    rw (unseen_masked left n v c unseen, unseen_masked right (n + size left) v c unseen) refl

reaches_chosen : (from : ℕ → Bool) (given b : Bool) (x y : Next) → reaches from given (cond b x y) ≡ cond b (reaches from given x) (reaches from given y)
reaches_chosen from given true x y = refl
reaches_chosen from given false x y = refl

-- a condition in the left operand of `and then`: x and y are the values of the operands, and t, f and middle say whether the outcome
-- that was not given is reached from there
left_true : (x y masked right seen t f middle turned : Bool) → right ≡ false → Either x (seen ≡ true) (seen ≡ false)
    → Either x (Unit {0}) (middle ≡ (t || f)) → cond (cond x y false) t f ≡ false → turned ≡ (masked && cond x f middle)
    → turned ≡ ((masked && (not seen || same y true) || right) && cond (cond x y false) f t)
left_true true true true right seen t f middle turned no_right is_seen opened taken turns = rw is_seen turns
left_true true true false right seen t f middle turned no_right is_seen opened taken turns = rw no_right turns
left_true true false true right seen t f middle turned no_right is_seen opened taken turns = rw (is_seen, no_right) (turns ∙ taken)
left_true true false false right seen t f middle turned no_right is_seen opened taken turns = rw no_right turns
left_true false y true right seen t f middle turned no_right is_seen opened taken turns =
    rw is_seen (turns ∙ opened ∙ ap (λ (b : Bool). t || b) taken ∙ or_false t)
left_true false y false right seen t f middle turned no_right is_seen opened taken turns = rw no_right turns

-- the same of `or else`
left_false : (x y masked right seen t f middle turned : Bool) → right ≡ false → Either x (seen ≡ false) (seen ≡ true)
    → Either x (middle ≡ (t || f)) (Unit {0}) → cond (cond x true y) t f ≡ false → turned ≡ (masked && cond x middle t)
    → turned ≡ ((masked && (not seen || same y false) || right) && cond (cond x true y) f t)
left_false false false true right seen t f middle turned no_right is_seen opened taken turns = rw is_seen turns
left_false false false false right seen t f middle turned no_right is_seen opened taken turns = rw no_right turns
left_false false true true right seen t f middle turned no_right is_seen opened taken turns = rw (is_seen, no_right) (turns ∙ taken)
left_false false true false right seen t f middle turned no_right is_seen opened taken turns = rw no_right turns
left_false true y true right seen t f middle turned no_right is_seen opened taken turns =
    rw is_seen (turns ∙ opened ∙ ap (λ (b : Bool). b || f) taken)
left_false true y false right seen t f middle turned no_right is_seen opened taken turns = rw no_right turns

not_cond : (x a b : Bool) → cond (not x) a b ≡ cond x b a
not_cond true a b = refl
not_cond false a b = refl

pub either_map : (x : Bool) {P Q R S : Type 0} → (P → R) → (Q → S) → Either x P Q → Either x R S
either_map true f g p = f p
either_map false f g q = g q

-- the exit of the left operand that was taken leads to the outcome that was given
taken_left_true : (x y middle on t f : Bool) → Either x (middle ≡ false) (Unit {0}) → on ≡ f → cond (cond x y false) t f ≡ false → cond x middle on ≡ false
taken_left_true true y middle on t f closed is taken = closed
taken_left_true false y middle on t f closed is taken = is ∙ taken

-- what is so of the right operand, as it was evaluated or not
right_fact_true : (x y t f : Bool) {P Q R S : Type 0} → Either x P Q → cond (cond x y false) t f ≡ false → (P → cond y t f ≡ false → R) → (Q → S) → Either x R S
right_fact_true true y t f given taken on off = on given taken
right_fact_true false y t f given taken on off = off given

-- a condition in the right operand
in_right_true : (x y left k right t f turned : Bool) → left ≡ false → Either x (turned ≡ (right && cond y f t)) ((turned ≡ false) × (right ≡ false))
    → turned ≡ ((left && k || right) && cond (cond x y false) f t)
in_right_true true y left k right t f turned no_left fact = rw no_left fact
in_right_true false y left k right t f turned no_left fact = rw (no_left, fact.1) fact.0

-- the exit of the left operand that was taken leads to the outcome that was given
taken_left_false : (x y middle on t f : Bool) → Either x (Unit {0}) (middle ≡ false) → on ≡ t → cond (cond x true y) t f ≡ false → cond x on middle ≡ false
taken_left_false true y middle on t f closed is taken = is ∙ taken
taken_left_false false y middle on t f closed is taken = closed

-- what is so of the right operand, as it was evaluated or not
right_fact_false : (x y t f : Bool) {P Q R S : Type 0} → Either x Q P → cond (cond x true y) t f ≡ false → (P → cond y t f ≡ false → R) → (Q → S) → Either x S R
right_fact_false true y t f given taken on off = off given
right_fact_false false y t f given taken on off = on given taken

-- a condition in the right operand
in_right_false : (x y left k right t f turned : Bool) → left ≡ false → Either x ((turned ≡ false) × (right ≡ false)) (turned ≡ (right && cond y f t))
    → turned ≡ ((left && k || right) && cond (cond x true y) f t)
in_right_false true y left k right t f turned no_left fact = rw (no_left, fact.1) fact.0
in_right_false false y left k right t f turned no_left fact = rw no_left fact

-- a condition of an expression that was evaluated turns the outcome if it is unmasked there, and the other exit leads to the outcome
-- that was not given
pub turns : (e : Expr) (n : ℕ) (t f : Next) (rest : List Edges) (v : Marks) (given : Bool) → IsAhead (n + size e) t → IsAhead (n + size e) f
    → IsEvaluated e n v
    → cond (value_of e n v.value) (reaches (open_from (n + size e) rest v given) given t) (reaches (open_from (n + size e) rest v given) given f) ≡ false
    → (c : ℕ) → n ≤ c → c < n + size e
    → can_turn_from n (nodes e n t f ++ rest) v given c
    ≡ (unmasked_from e n v c
    && cond (value_of e n v.value) (reaches (open_from (n + size e) rest v given) given f) (reaches (open_from (n + size e) rest v given) given t))
turns condition n t f rest v given ahead_t ahead_f is taken c from below =
    let here : c ≡ n = omega arith in
    rw (eq-eqb c n here, is, add-one n) (other (v.value n))
  where
    other : (b : Bool) → reaches (open_from (suc n) rest v given) given (target (record { on_true = t; on_false = f }) (not b))
        ≡ cond b (reaches (open_from (suc n) rest v given) given f) (reaches (open_from (suc n) rest v given) given t)
    other true = refl
    other false = refl
turns (negation e) n t f rest v given ahead_t ahead_f is taken c from below =
    let at_t : Bool = reaches (open_from (n + size e) rest v given) given t in
    let at_f : Bool = reaches (open_from (n + size e) rest v given) given f in
    turns e n f t rest v given ahead_f ahead_t is (sym (not_cond (value_of e n v.value) at_t at_f) ∙ taken) c from below
    ∙ ap (λ (b : Bool). unmasked_from e n v c && b) (sym (not_cond (value_of e n v.value) at_f at_t))
turns (operator true left right) n t f rest v given ahead_t ahead_f is taken c from below =
    let middle : ℕ = n + size left in
    let same_end : n + (size left + size right) ≡ middle + size right = omega arith in
    let x : Bool = value_of left n v.value in
    let y : Bool = value_of right middle v.value in
    let at_t : IsAhead (middle + size right) t = ahead_at _ _ t same_end ahead_t in
    let at_f : IsAhead (middle + size right) f = ahead_at _ _ f same_end ahead_f in
    let after : List Edges = nodes right middle t f ++ rest in
    let later : ℕ → Bool = open_from middle after v given in
    let last_t : Bool = reaches (open_from (middle + size right) rest v given) given t in
    let last_f : Bool = reaches (open_from (middle + size right) rest v given) given f in
    let taken' : cond (cond x y false) last_t last_f ≡ false =
    subst (λ (m : ℕ). cond (cond x y false) (reaches (open_from m rest v given) given t) (reaches (open_from m rest v given) given f) ≡ false) same_end taken in
    let turned : Bool = can_turn_from n (nodes left n (node middle) f ++ after) v given c in
    let other : Bool = unmasked_from (operator true left right) n v c in
    let is_seen : Either x (v.seen middle ≡ true) (v.seen middle ≡ false) = either_map x (first_seen right middle v) (λ none. none middle (omega arith) (omega (arith, size_some right))) is.1 in
    let opened : Either x (Unit {0}) (later middle ≡ (last_t || last_f)) = either_map x (λ evaluated. tt) (opens right middle t f rest v given at_t at_f) is.1 in
    let closed : Either x (later middle ≡ false) (Unit {0}) = either_map x (λ evaluated. closed_at middle after v given (first_seen right middle v evaluated)) (λ none. tt) is.1 in
    let in_left : c < middle → turned ≡ (other && cond (cond x y false) last_f last_t) = λ before.
    let first : turned ≡ (unmasked_from left n v c && cond x (reaches later given f) (later middle)) =
    turns left n (node middle) f after v given (omega arith) (ahead_before _ _ f (omega arith) ahead_f) is.0
    (taken_left_true x y (later middle) (reaches later given f) last_t last_f closed (reaches_after right middle t f rest v given f at_f) taken') c from before in
    left_true x y (unmasked_from left n v c) (unmasked_from right middle v c) (v.seen middle) last_t last_f (later middle) turned
    (outside right middle v c (λ from' below'. absurd (omega arith))) is_seen opened taken'
    (first ∙ ap (λ (b : Bool). unmasked_from left n v c && cond x b (later middle)) (reaches_after right middle t f rest v given f at_f)) in
    let in_right : middle ≤ c → turned ≡ (other && cond (cond x y false) last_f last_t) = λ past.
    let on : turned ≡ can_turn_from middle after v given c = turn_after left n (node middle) f after v given c past in
    let fact : Either x (turned ≡ (unmasked_from right middle v c && cond y last_f last_t)) ((turned ≡ false) × (unmasked_from right middle v c ≡ false)) =
    right_fact_true x y last_t last_f is.1 taken'
    (λ evaluated chosen. on ∙ turns right middle t f rest v given at_t at_f evaluated chosen c past (omega arith))
    (λ none.
    let unseen : v.seen c ≡ false = none c past (omega arith) in
    (on ∙ unseen_turns middle after v given c unseen, unseen_masked right middle v c unseen)) in
    in_right_true x y (unmasked_from left n v c) (not (v.seen middle) || same y true) (unmasked_from right middle v c) last_t last_f turned
    (outside left n v c (λ from' below'. absurd (omega arith))) fact in
    ap (λ (ns : List Edges). can_turn_from n ns v given c) (append_assoc (nodes left n (node middle) f) (nodes right middle t f) rest)
    ∙ ⊎_elim in_left in_right (cases_lt c middle)
    ∙ ap (λ (m : ℕ). other && cond (cond x y false) (reaches (open_from m rest v given) given f) (reaches (open_from m rest v given) given t)) (sym same_end)
turns (operator false left right) n t f rest v given ahead_t ahead_f is taken c from below =
    let middle : ℕ = n + size left in
    let same_end : n + (size left + size right) ≡ middle + size right = omega arith in
    let x : Bool = value_of left n v.value in
    let y : Bool = value_of right middle v.value in
    let at_t : IsAhead (middle + size right) t = ahead_at _ _ t same_end ahead_t in
    let at_f : IsAhead (middle + size right) f = ahead_at _ _ f same_end ahead_f in
    let after : List Edges = nodes right middle t f ++ rest in
    let later : ℕ → Bool = open_from middle after v given in
    let last_t : Bool = reaches (open_from (middle + size right) rest v given) given t in
    let last_f : Bool = reaches (open_from (middle + size right) rest v given) given f in
    let taken' : cond (cond x true y) last_t last_f ≡ false =
    subst (λ (m : ℕ). cond (cond x true y) (reaches (open_from m rest v given) given t) (reaches (open_from m rest v given) given f) ≡ false) same_end taken in
    let turned : Bool = can_turn_from n (nodes left n t (node middle) ++ after) v given c in
    let other : Bool = unmasked_from (operator false left right) n v c in
    let is_seen : Either x (v.seen middle ≡ false) (v.seen middle ≡ true) = either_map x (λ none. none middle (omega arith) (omega (arith, size_some right))) (first_seen right middle v) is.1 in
    let opened : Either x (later middle ≡ (last_t || last_f)) (Unit {0}) = either_map x (opens right middle t f rest v given at_t at_f) (λ evaluated. tt) is.1 in
    let closed : Either x (Unit {0}) (later middle ≡ false) = either_map x (λ none. tt) (λ evaluated. closed_at middle after v given (first_seen right middle v evaluated)) is.1 in
    let in_left : c < middle → turned ≡ (other && cond (cond x true y) last_f last_t) = λ before.
    let first : turned ≡ (unmasked_from left n v c && cond x (later middle) (reaches later given t)) =
    turns left n t (node middle) after v given (ahead_before _ _ t (omega arith) ahead_t) (omega arith) is.0
    (taken_left_false x y (later middle) (reaches later given t) last_t last_f closed (reaches_after right middle t f rest v given t at_t) taken') c from before in
    left_false x y (unmasked_from left n v c) (unmasked_from right middle v c) (v.seen middle) last_t last_f (later middle) turned
    (outside right middle v c (λ from' below'. absurd (omega arith))) is_seen opened taken'
    (first ∙ ap (λ (b : Bool). unmasked_from left n v c && cond x (later middle) b) (reaches_after right middle t f rest v given t at_t)) in
    let in_right : middle ≤ c → turned ≡ (other && cond (cond x true y) last_f last_t) = λ past.
    let on : turned ≡ can_turn_from middle after v given c = turn_after left n t (node middle) after v given c past in
    let fact : Either x ((turned ≡ false) × (unmasked_from right middle v c ≡ false)) (turned ≡ (unmasked_from right middle v c && cond y last_f last_t)) =
    right_fact_false x y last_t last_f is.1 taken'
    (λ evaluated chosen. on ∙ turns right middle t f rest v given at_t at_f evaluated chosen c past (omega arith))
    (λ none.
    let unseen : v.seen c ≡ false = none c past (omega arith) in
    (on ∙ unseen_turns middle after v given c unseen, unseen_masked right middle v c unseen)) in
    in_right_false x y (unmasked_from left n v c) (not (v.seen middle) || same y false) (unmasked_from right middle v c) last_t last_f turned
    (outside left n v c (λ from' below'. absurd (omega arith))) fact in
    ap (λ (ns : List Edges). can_turn_from n ns v given c) (append_assoc (nodes left n t (node middle)) (nodes right middle t f) rest)
    ∙ ⊎_elim in_left in_right (cases_lt c middle)
    ∙ ap (λ (m : ℕ). other && cond (cond x true y) (reaches (open_from m rest v given) given f) (reaches (open_from m rest v given) given t)) (sym same_end)

-- a condition is unmasked just where it can still turn the outcome
pub turn_law : (e : Expr) (v : Vector) (c : ℕ) → IsPathVector (graph e) v → can_turn (graph e) (marks v) (outcome e (marks v)) c ≡ unmasked e (marks v) c
turn_law e v c is = by_place (cases_lt c (size e))
  where
    chosen : (b : Bool) → cond b (not (same true b)) (not (same false b)) ≡ false
    chosen true = refl
    chosen false = refl

    other : (m b : Bool) → (m && cond b (not (same false b)) (not (same true b))) ≡ m
    other true true = refl
    other true false = refl
    other false b = refl

    by_place : (c < size e) ⊎ (size e ≤ c) → can_turn (graph e) (marks v) (outcome e (marks v)) c ≡ unmasked e (marks v) c
    by_place (inl below) =
        ap (λ (ns : List Edges). can_turn_from 0 ns (marks v) (outcome e (marks v)) c) (sym (append-nil (graph e)))
        ∙ turns e 0 (leaf true) (leaf false) [] (marks v) (outcome e (marks v)) tt tt (path_evaluates e v is) (chosen (outcome e (marks v))) c (omega arith) (omega arith)
        ∙ other (unmasked e (marks v) c) (outcome e (marks v))
    by_place (inr past) =
        ap (λ (ns : List Edges). can_turn_from 0 ns (marks v) (outcome e (marks v)) c) (sym (append-nil (graph e)))
        ∙ turn_after e 0 (leaf true) (leaf false) [] (marks v) (outcome e (marks v)) c (omega arith)
        ∙ sym (outside e 0 (marks v) c (λ from below. absurd (omega arith)))
