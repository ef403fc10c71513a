-- Pairs of vectors of paths: every unique-cause pair is a masking pair, and a masking pair has two outcomes.
use Rattle.std.proofs.Common.{◌≡◌, ℕ, ◌+◌, ◌<◌, ◌≤◌, zero, suc, Bool, true, false, not, cond, ◌&&◌, ◌||◌, eqb, refl, sym, ap, subst, ◌∙◌, eqb-true, arith, ⊎_elim}
use Rattle.std.proofs.lemmas.Bool.{eqb-false, cases_lt, and_parts, and_from, or_cases, both_ways}
use Rattle.cov_base.specs.declared.event.Vector.{Vector}
use Rattle.cov_base.specs.Expr.{Expr, condition, negation, operator, size, value_of}
use Rattle.cov_base.specs.Graph.{graph}
use Rattle.cov_base.specs.Marks.{Marks, marks, same, outcome}
use Rattle.decision_meaning.specs.Unmasked.{unmasked_from, unmasked}
use Rattle.cov_base.specs.Path.{IsPathVector}
use Rattle.decision_meaning.specs.Pair.{turns, agrees, others_agree, is_unique_cause, is_masking}
use Rattle.cov_base.proofs.Edges.{size_some}
use Rattle.decision_meaning.proofs.Shapes.{IsUntouched, Either, IsEvaluated, path_evaluates}
use Rattle.decision_meaning.proofs.Turns.{first_seen, outside, unseen_masked, either_map}

-- a right operand that was evaluated since the left one has the neutral value
either_at_true : (e : Expr) (m : ℕ) (v : Marks) (x : Bool) → x ≡ true → Either x (IsEvaluated e m v) (IsUntouched e m v) → IsEvaluated e m v
either_at_true e m v true is p = p
either_at_true e m v false is q = absurd (cc is)

either_at_false : (e : Expr) (m : ℕ) (v : Marks) (x : Bool) → x ≡ false → Either x (IsUntouched e m v) (IsEvaluated e m v) → IsEvaluated e m v
either_at_false e m v true is p = absurd (cc is)
either_at_false e m v false is q = q

same_not : (a b : Bool) → not (same a b) ≡ true → b ≡ not a
same_not true true is = cc is
same_not true false is = refl
same_not false true is = refl
same_not false false is = cc is

not_swap : (a b : Bool) → b ≡ not a → a ≡ not b
not_swap true b is = rw is refl
not_swap false b is = rw is refl

not_same : (a b : Bool) → b ≡ not a → same a b ≡ true → ⊥
not_same true b is equal = let both : true ≡ false = sym equal ∙ is in absurd (cc both)
not_same false true is equal = absurd (cc equal)
not_same false false is equal = absurd (cc is)

pub same_swap : (a b : Bool) → same a b ≡ same b a
same_swap true true = refl
same_swap true false = refl
same_swap false true = refl
same_swap false false = refl

pub and_swap : (a b : Bool) → (a && b) ≡ (b && a)
and_swap true true = refl
and_swap true false = refl
and_swap false true = refl
and_swap false false = refl

left_true_of : (ul k ur : Bool) → ur ≡ false → ((ul && k) || ur) ≡ true → ul ≡ true
left_true_of true k ur none is = refl
left_true_of false k ur none is = sym none ∙ is

masked_here : (ul ur k : Bool) → k ≡ false → ur ≡ false → ((ul && k) || ur) ≡ true → ⊥
masked_here true true k closed none is = absurd (cc none)
masked_here true false true closed none is = absurd (cc closed)
masked_here true false false closed none is = absurd (cc is)
masked_here false ur k closed none is = let both : false ≡ true = sym none ∙ is in absurd (cc both)

right_of : (ul k ur : Bool) → ul ≡ false → ((ul && k) || ur) ≡ true → ur ≡ true
right_of true k ur none is = absurd (cc none)
right_of false k ur none is = is

or_last : (a b : Bool) → b ≡ true → (a || b) ≡ true
or_last true b is = refl
or_last false b is = is

-- a left operand with an unmasked condition decides
by_left_true : (x y ul ur seen : Bool) → ur ≡ false → Either x (seen ≡ true) (seen ≡ false) → ((ul && (not seen || same y true)) || ur) ≡ true → (ul ≡ true) × (cond x y false ≡ x)
by_left_true true true ul ur seen no_right is_seen unmasked = (left_true_of ul (not seen || true) ur no_right unmasked, refl)
by_left_true true false ul ur seen no_right is_seen unmasked = absurd (masked_here ul ur (not seen || false) (rw is_seen refl) no_right unmasked)
by_left_true false y ul ur seen no_right is_seen unmasked = (left_true_of ul (not seen || same y true) ur no_right unmasked, refl)

-- where the values differ, the operand that made them differ is unmasked
caused_true : (x y x' y' ul ur seen : Bool) → Either x (seen ≡ true) (seen ≡ false) → (x' ≡ not x → ul ≡ true) → (x ≡ true → x' ≡ true → y' ≡ not y → ur ≡ true)
    → cond x' y' false ≡ not (cond x y false) → ((ul && (not seen || same y true)) || ur) ≡ true
caused_true true y true y' ul ur seen is_seen from_left from_right differ = or_last (ul && (not seen || same y true)) ur (from_right refl refl differ)
caused_true true true false y' ul ur seen is_seen from_left from_right differ = rw (from_left refl, is_seen) refl
caused_true true false false y' ul ur seen is_seen from_left from_right differ = absurd (cc differ)
caused_true false y true y' ul ur seen is_seen from_left from_right differ = rw (from_left refl, is_seen) refl
caused_true false y false y' ul ur seen is_seen from_left from_right differ = absurd (cc differ)

-- a left operand with an unmasked condition decides
by_left_false : (x y ul ur seen : Bool) → ur ≡ false → Either x (seen ≡ false) (seen ≡ true) → ((ul && (not seen || same y false)) || ur) ≡ true → (ul ≡ true) × (cond x true y ≡ x)
by_left_false false false ul ur seen no_right is_seen unmasked = (left_true_of ul (not seen || true) ur no_right unmasked, refl)
by_left_false false true ul ur seen no_right is_seen unmasked = absurd (masked_here ul ur (not seen || false) (rw is_seen refl) no_right unmasked)
by_left_false true y ul ur seen no_right is_seen unmasked = (left_true_of ul (not seen || same y false) ur no_right unmasked, refl)

-- where the values differ, the operand that made them differ is unmasked
caused_false : (x y x' y' ul ur seen : Bool) → Either x (seen ≡ false) (seen ≡ true) → (x' ≡ not x → ul ≡ true) → (x ≡ false → x' ≡ false → y' ≡ not y → ur ≡ true)
    → cond x' true y' ≡ not (cond x true y) → ((ul && (not seen || same y false)) || ur) ≡ true
caused_false false y false y' ul ur seen is_seen from_left from_right differ = or_last (ul && (not seen || same y false)) ur (from_right refl refl differ)
caused_false false false true y' ul ur seen is_seen from_left from_right differ = rw (from_left refl, is_seen) refl
caused_false false true true y' ul ur seen is_seen from_left from_right differ = absurd (cc differ)
caused_false true y false y' ul ur seen is_seen from_left from_right differ = rw (from_left refl, is_seen) refl
caused_false true y true y' ul ur seen is_seen from_left from_right differ = absurd (cc differ)

-- an unmasked condition of the right operand tells that it was evaluated
right_evaluated_true : (right : Expr) (m : ℕ) (v : Marks) (c : ℕ) (x : Bool) → Either x (IsEvaluated right m v) (IsUntouched right m v) → unmasked_from right m v c ≡ true → (x ≡ true) × IsEvaluated right m v
right_evaluated_true right m v c true is free = (refl, is)
right_evaluated_true right m v c false is free =
    absurd (⊎_elim
    (λ below. ⊎_elim
    (λ before. both_ways (unmasked_from right m v c) (outside right m v c (λ from less. absurd (omega arith))) free)
    (λ from. both_ways (unmasked_from right m v c) (unseen_masked right m v c (is c from below)) free) (cases_lt c m))
    (λ past. both_ways (unmasked_from right m v c) (outside right m v c (λ from less. absurd (omega arith))) free) (cases_lt c (m + size right)))

-- an unmasked condition of the right operand tells that it was evaluated
right_evaluated_false : (right : Expr) (m : ℕ) (v : Marks) (c : ℕ) (x : Bool) → Either x (IsUntouched right m v) (IsEvaluated right m v) → unmasked_from right m v c ≡ true → (x ≡ false) × IsEvaluated right m v
right_evaluated_false right m v c false is free = (refl, is)
right_evaluated_false right m v c true is free =
    absurd (⊎_elim
    (λ below. ⊎_elim
    (λ before. both_ways (unmasked_from right m v c) (outside right m v c (λ from less. absurd (omega arith))) free)
    (λ from. both_ways (unmasked_from right m v c) (unseen_masked right m v c (is c from below)) free) (cases_lt c m))
    (λ past. both_ways (unmasked_from right m v c) (outside right m v c (λ from less. absurd (omega arith))) free) (cases_lt c (m + size right)))

-- two evaluations in which an unmasked condition has different values have different values
pub decides : (e : Expr) (n : ℕ) (v w : Marks) (c : ℕ) → IsEvaluated e n v → IsEvaluated e n w → unmasked_from e n v c ≡ true → unmasked_from e n w c ≡ true
    → w.value c ≡ not (v.value c) → value_of e n w.value ≡ not (value_of e n v.value)
decides condition n v w c is_v is_w free_v free_w turned =
    let here : c ≡ n = eqb-true c n (and_parts (eqb c n) (v.seen n) free_v).0 in
    subst (λ (k : ℕ). w.value k ≡ not (v.value k)) here turned
decides (negation e) n v w c is_v is_w free_v free_w turned = ap not (decides e n v w c is_v is_w free_v free_w turned)
decides (operator true left right) n v w c is_v is_w free_v free_w turned =
    let middle : ℕ = n + size left in
    let before : c < middle → value_of (operator true left right) n w.value ≡ not (value_of (operator true left right) n v.value) = λ less.
    let no_v = outside right middle v c (λ from below. absurd (omega arith)) in
    let no_w = outside right middle w c (λ from below. absurd (omega arith)) in
    let at_v = by_left_true (value_of left n v.value) (value_of right middle v.value) (unmasked_from left n v c) (unmasked_from right middle v c) (v.seen middle) no_v
    (either_map (value_of left n v.value) (first_seen right middle v) (λ none. none middle (omega arith) (omega (arith, size_some right))) is_v.1) free_v in
    let at_w = by_left_true (value_of left n w.value) (value_of right middle w.value) (unmasked_from left n w c) (unmasked_from right middle w c) (w.seen middle) no_w
    (either_map (value_of left n w.value) (first_seen right middle w) (λ none. none middle (omega arith) (omega (arith, size_some right))) is_w.1) free_w in
    at_w.1 ∙ decides left n v w c is_v.0 is_w.0 at_v.0 at_w.0 turned ∙ ap not (sym at_v.1) in
    let past : middle ≤ c → value_of (operator true left right) n w.value ≡ not (value_of (operator true left right) n v.value) = λ more.
    let at_v = right_of (unmasked_from left n v c) (not (v.seen middle) || same (value_of right middle v.value) true) (unmasked_from right middle v c)
    (outside left n v c (λ from below. absurd (omega arith))) free_v in
    let at_w = right_of (unmasked_from left n w c) (not (w.seen middle) || same (value_of right middle w.value) true) (unmasked_from right middle w c)
    (outside left n w c (λ from below. absurd (omega arith))) free_w in
    let on_v = right_evaluated_true right middle v c (value_of left n v.value) is_v.1 at_v in
    let on_w = right_evaluated_true right middle w c (value_of left n w.value) is_w.1 at_w in
    let right_v : value_of (operator true left right) n v.value ≡ value_of right middle v.value = ap (λ (b : Bool). cond b (value_of right middle v.value) false) on_v.0 in
    let right_w : value_of (operator true left right) n w.value ≡ value_of right middle w.value = ap (λ (b : Bool). cond b (value_of right middle w.value) false) on_w.0 in
    right_w ∙ decides right middle v w c on_v.1 on_w.1 at_v at_w turned ∙ ap not (sym right_v) in
    ⊎_elim before past (cases_lt c middle)
decides (operator false left right) n v w c is_v is_w free_v free_w turned =
    let middle : ℕ = n + size left in
    let before : c < middle → value_of (operator false left right) n w.value ≡ not (value_of (operator false left right) n v.value) = λ less.
    let no_v = outside right middle v c (λ from below. absurd (omega arith)) in
    let no_w = outside right middle w c (λ from below. absurd (omega arith)) in
    let at_v = by_left_false (value_of left n v.value) (value_of right middle v.value) (unmasked_from left n v c) (unmasked_from right middle v c) (v.seen middle) no_v
    (either_map (value_of left n v.value) (λ none. none middle (omega arith) (omega (arith, size_some right))) (first_seen right middle v) is_v.1) free_v in
    let at_w = by_left_false (value_of left n w.value) (value_of right middle w.value) (unmasked_from left n w c) (unmasked_from right middle w c) (w.seen middle) no_w
    (either_map (value_of left n w.value) (λ none. none middle (omega arith) (omega (arith, size_some right))) (first_seen right middle w) is_w.1) free_w in
    at_w.1 ∙ decides left n v w c is_v.0 is_w.0 at_v.0 at_w.0 turned ∙ ap not (sym at_v.1) in
    let past : middle ≤ c → value_of (operator false left right) n w.value ≡ not (value_of (operator false left right) n v.value) = λ more.
    let at_v = right_of (unmasked_from left n v c) (not (v.seen middle) || same (value_of right middle v.value) false) (unmasked_from right middle v c)
    (outside left n v c (λ from below. absurd (omega arith))) free_v in
    let at_w = right_of (unmasked_from left n w c) (not (w.seen middle) || same (value_of right middle w.value) false) (unmasked_from right middle w c)
    (outside left n w c (λ from below. absurd (omega arith))) free_w in
    let on_v = right_evaluated_false right middle v c (value_of left n v.value) is_v.1 at_v in
    let on_w = right_evaluated_false right middle w c (value_of left n w.value) is_w.1 at_w in
    let right_v : value_of (operator false left right) n v.value ≡ value_of right middle v.value = ap (λ (b : Bool). cond b true (value_of right middle v.value)) on_v.0 in
    let right_w : value_of (operator false left right) n w.value ≡ value_of right middle w.value = ap (λ (b : Bool). cond b true (value_of right middle w.value)) on_w.0 in
    right_w ∙ decides right middle v w c on_v.1 on_w.1 at_v at_w turned ∙ ap not (sym right_v) in
    ⊎_elim before past (cases_lt c middle)

-- two evaluations that differ, and in which all conditions agree but c, have c unmasked
pub causes : (e : Expr) (n : ℕ) (v w : Marks) (c : ℕ) → IsEvaluated e n v → IsEvaluated e n w
    → ((d : ℕ) → n ≤ d → d < n + size e → (d ≡ c → ⊥) → agrees d v w ≡ true)
    → value_of e n w.value ≡ not (value_of e n v.value) → unmasked_from e n v c ≡ true
causes condition n v w c is_v is_w others differ = by_place (eqb c n) refl
  where
    by_place : (b : Bool) → eqb c n ≡ b → (b && v.seen n) ≡ true
    by_place true is = is_v
    by_place false is =
        let other : n ≡ c → ⊥ = λ e. eqb-false c n is (sym e) in
        let agree : agrees n v w ≡ true = others n (omega arith) (omega arith) other in
        let equal : same (v.value n) (w.value n) ≡ true = rw (is_v, is_w) at agree in
        absurd (not_same (v.value n) (w.value n) differ equal)
causes (negation e) n v w c is_v is_w others differ = causes e n v w c is_v is_w others (not_not (value_of e n v.value) (value_of e n w.value) differ)
  where
    not_not : (a b : Bool) → not b ≡ not (not a) → b ≡ not a
    not_not true true is = cc is
    not_not true false is = refl
    not_not false true is = refl
    not_not false false is = cc is
causes (operator true left right) n v w c is_v is_w others differ =
    let middle : ℕ = n + size left in
    caused_true (value_of left n v.value) (value_of right middle v.value) (value_of left n w.value) (value_of right middle w.value)
    (unmasked_from left n v c) (unmasked_from right middle v c) (v.seen middle)
    (either_map (value_of left n v.value) (first_seen right middle v) (λ none. none middle (omega arith) (omega (arith, size_some right))) is_v.1)
    (λ left_differ. causes left n v w c is_v.0 is_w.0 (λ d from below other. others d from (omega arith) other) left_differ)
    (λ on_v on_w right_differ. causes right middle v w c (either_at_true right middle v (value_of left n v.value) on_v is_v.1) (either_at_true right middle w (value_of left n w.value) on_w is_w.1)
    (λ d from below other. others d (omega arith) (omega arith) other) right_differ)
    differ
causes (operator false left right) n v w c is_v is_w others differ =
    let middle : ℕ = n + size left in
    caused_false (value_of left n v.value) (value_of right middle v.value) (value_of left n w.value) (value_of right middle w.value)
    (unmasked_from left n v c) (unmasked_from right middle v c) (v.seen middle)
    (either_map (value_of left n v.value) (λ none. none middle (omega arith) (omega (arith, size_some right))) (first_seen right middle v) is_v.1)
    (λ left_differ. causes left n v w c is_v.0 is_w.0 (λ d from below other. others d from (omega arith) other) left_differ)
    (λ on_v on_w right_differ. causes right middle v w c (either_at_false right middle v (value_of left n v.value) on_v is_v.1) (either_at_false right middle w (value_of left n w.value) on_w is_w.1)
    (λ d from below other. others d (omega arith) (omega arith) other) right_differ)
    differ

-- the test of the others, for one of them
others_at : (c m : ℕ) (v w : Marks) (d : ℕ) → others_agree c m v w ≡ true → d < m → (d ≡ c → ⊥) → agrees d v w ≡ true
others_at c zero v w d all below other = absurd (omega arith)
others_at c (suc m) v w d all below other =
    let parts = and_parts (eqb m c || agrees m v w) (others_agree c m v w) all in
    ⊎_elim (λ before. others_at c m v w d parts.1 before other)
    (λ past.
    let here : d ≡ m = omega arith in
    let at_m : (m ≡ c → ⊥) = λ e. other (here ∙ e) in
    subst (λ (k : ℕ). agrees k v w ≡ true) (sym here)
    (⊎_elim (λ is_c. absurd (at_m (eqb-true m c is_c))) (λ agree. agree) (or_cases (eqb m c) (agrees m v w) parts.0)))
    (cases_lt d m)

pub agrees_swap : (d : ℕ) (v w : Marks) → agrees d v w ≡ agrees d w v
agrees_swap d v w =
    ap (λ (b : Bool). not b || same (v.value d) (w.value d)) (and_swap (v.seen d) (w.seen d))
    ∙ ap (λ (b : Bool). not (w.seen d && v.seen d) || b) (same_swap (v.value d) (w.value d))

-- every unique-cause pair is a masking pair
pub unique_masks : (e : Expr) (c : ℕ) (v w : Vector) → IsPathVector (graph e) v → IsPathVector (graph e) w
    → is_unique_cause e c (marks v) (marks w) ≡ true → is_masking e c (marks v) (marks w) ≡ true
unique_masks e c v w path_v path_w unique =
    let first = and_parts (not (same (outcome e (marks v)) (outcome e (marks w))) && turns c (marks v) (marks w)) (others_agree c (size e) (marks v) (marks w)) unique in
    let second = and_parts (not (same (outcome e (marks v)) (outcome e (marks w)))) (turns c (marks v) (marks w)) first.0 in
    let third = and_parts ((marks v).seen c && (marks w).seen c) (not (same ((marks v).value c) ((marks w).value c))) second.1 in
    let differ : outcome e (marks w) ≡ not (outcome e (marks v)) = same_not (outcome e (marks v)) (outcome e (marks w)) second.0 in
    let is_v = path_evaluates e v path_v in
    let is_w = path_evaluates e w path_w in
    let others = λ (d : ℕ) (from : 0 ≤ d) (below : d < 0 + size e) (other : d ≡ c → ⊥). others_at c (size e) (marks v) (marks w) d first.1 (omega arith) other in
    let free_v : unmasked e (marks v) c ≡ true = causes e 0 (marks v) (marks w) c is_v is_w others differ in
    let free_w : unmasked e (marks w) c ≡ true =
    causes e 0 (marks w) (marks v) c is_w is_v (λ d from below other. agrees_swap d (marks w) (marks v) ∙ others d from below other)
    (not_swap (outcome e (marks v)) (outcome e (marks w)) differ) in
    and_from (unmasked e (marks v) c && unmasked e (marks w) c) (not (same ((marks v).value c) ((marks w).value c)))
    (and_from (unmasked e (marks v) c) (unmasked e (marks w) c) free_v free_w) third.1

-- a masking pair has two outcomes
pub masking_differs : (e : Expr) (c : ℕ) (v w : Vector) → IsPathVector (graph e) v → IsPathVector (graph e) w
    → is_masking e c (marks v) (marks w) ≡ true → outcome e (marks w) ≡ not (outcome e (marks v))
masking_differs e c v w path_v path_w masking =
    let first = and_parts (unmasked e (marks v) c && unmasked e (marks w) c) (not (same ((marks v).value c) ((marks w).value c))) masking in
    let free = and_parts (unmasked e (marks v) c) (unmasked e (marks w) c) first.0 in
    decides e 0 (marks v) (marks w) c (path_evaluates e v path_v) (path_evaluates e w path_w) free.0 free.1
    (same_not ((marks v).value c) ((marks w).value c) first.1)
