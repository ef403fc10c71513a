-- The bytes of an expression are just those that are read as one.
use Rattle.std.proofs.Common.{◌≡◌, ◌↔◌, IsTrue, ℕ, ◌<◌, ◌≤◌, ◌+◌, ◌-◌, Bool, true, false, not, cond, ◌&&◌, List, [], ◌∷◌, ◌++◌, length, drop, get_or, suc, append_assoc, refl, ap, subst, sym, ◌∙◌, ◌⊎◌, inl, inr, nat_eq, nat_lt, eqb-true, arith}
use Rattle.std.proofs.lemmas.Bool.{and_parts, and_left, and_right, ltb-true, lt-ltb, le-ltb, eq-eqb, ne_eqb, not-true, cond-true, cond-false, cases_lt}
use Rattle.std.proofs.lemmas.List.{append-nil}
use Rattle.std.proofs.Math.Seq.{drop-cons}
use Rattle.std.proofs.Math.ListN.{drop_of_length-le}
use Rattle.cov_base.specs.Expr.{Expr, condition, negation, operator, size, operator_byte, postfix_from, postfix_of, is_negation, negates_once}
use Rattle.object_format.specs.Decisions.{AreExpression}
use Rattle.object_format.proofs.Spelling.{IsRead, read_nothing, read_condition, read_not, read_operator, read_all}

-- a condition is its own number, which is the next
abbrev pub is_next : (n b : ℕ) → Bool
is_next n b = nat_eq b n && nat_lt n 32

-- an operator has two operands
abbrev pub is_operator : (k b : ℕ) → Bool
is_operator k b = nat_lt 32 b && (nat_lt b 35 && nat_lt 1 k)

-- a negation has an operand, which is none itself
abbrev pub is_not : (k : ℕ) (negated : Bool) (b : ℕ) → Bool
is_not k negated b = nat_eq b 32 && (nat_lt 0 k && not negated)

-- after n conditions and with k operands, the latest a negation or not: the bytes make them one expression
abbrev pub completes : (count n k : ℕ) (negated : Bool) → List ℕ → Bool
completes count n k negated [] = nat_eq k 1 && nat_eq n count
completes count n k negated (b ∷ bytes) =
    cond (is_next n b) (completes count (n + 1) (k + 1) false bytes)
    (cond (is_operator k b) (completes count n (k - 1) false bytes)
    (cond (is_not k negated b) (completes count n k true bytes) false))

chosen : (b x y : Bool) → cond b x y ≡ true → ((b ≡ true) × (x ≡ true)) ⊎ ((b ≡ false) × (y ≡ true))
chosen true x y h = inl (refl, h)
chosen false x y h = inr (refl, h)

chosen_of : (b x : Bool) → cond b x false ≡ true → (b ≡ true) × (x ≡ true)
chosen_of true x h = (refl, h)
chosen_of false x h = absurd (let bad : ⊥ = cc in bad)

-- what is read before, and then the rest
reads : (count : ℕ) (before bytes : List ℕ) (n k : ℕ) (negated : Bool) → IsRead before n k negated → n ≤ 32
    → completes count n k negated bytes ≡ true → AreExpression (before ++ bytes) count
reads count before [] n k negated r fits h =
    let both = and_parts (nat_eq k 1) (nat_eq n count) h in
    let one = eqb-true k 1 both.0 in
    let all = eqb-true n count both.1 in
    subst (λ bs. AreExpression bs count) (sym (append-nil before))
    (subst (AreExpression before) all (read_all before n k negated r one fits))
reads count before (b ∷ bytes) n k negated r fits h =
    subst (λ bs. AreExpression bs count) (append_assoc before (b ∷ []) bytes)
    (elim (chosen (is_next n b) (completes count (n + 1) (k + 1) false bytes) (cond (is_operator k b) (completes count n (k - 1) false bytes) (cond (is_not k negated b) (completes count n k true bytes) false)) h) [
      | inl next ↦
          let parts = and_parts (nat_eq b n) (nat_lt n 32) next.0 in
          let less = ltb-true n 32 parts.1 in
          reads count (before ++ b ∷ []) bytes (n + 1) (k + 1) false
          (read_condition before n k b negated r (eqb-true b n parts.0)) (omega arith) next.1
      | inr other ↦
          elim (chosen (is_operator k b) (completes count n (k - 1) false bytes) (cond (is_not k negated b) (completes count n k true bytes) false) other.1) [
            | inl joined ↦
                let parts = and_parts (nat_lt 32 b) (nat_lt b 35 && nat_lt 1 k) joined.0 in
                let more = and_parts (nat_lt b 35) (nat_lt 1 k) parts.1 in
                reads count (before ++ b ∷ []) bytes n (k - 1) false
                (read_operator before n k b negated r (ltb-true 1 k more.1) (ltb-true 32 b parts.0) (ltb-true b 35 more.0)) fits joined.1
            | inr last ↦
                let turned = chosen_of (is_not k negated b) (completes count n k true bytes) last.1 in
                let parts = and_parts (nat_eq b 32) (nat_lt 0 k && not negated) turned.0 in
                let more = and_parts (nat_lt 0 k) (not negated) parts.1 in
                reads count (before ++ b ∷ []) bytes n k true
                (read_not before n k b negated r (not-true negated more.1) (ltb-true 0 k more.0) (eqb-true b 32 parts.0)) fits turned.1
          ]
    ])

-- what is read as an expression is one
pub is_read : (count : ℕ) (bytes : List ℕ) → completes count 0 0 false bytes ≡ true → AreExpression bytes count
is_read count bytes h = reads count [] bytes 0 0 false read_nothing (omega arith) h

takes_next : (count n k : ℕ) (negated : Bool) (bytes : List ℕ) → n < 32
    → completes count n k negated (n ∷ bytes) ≡ completes count (n + 1) (k + 1) false bytes
takes_next count n k negated bytes less =
    cond-true (is_next n n) _ _ (subst (λ b. (b && nat_lt n 32) ≡ true) (sym (eq-eqb n n refl)) (lt-ltb n 32 less))

not_next : (n b : ℕ) → n ≤ 32 → 32 ≤ b → is_next n b ≡ false
not_next n b fits high =
    elim (cases n b fits high) [
      | inl apart ↦ and_left (nat_eq b n) (nat_lt n 32) (ne_eqb b n apart)
      | inr full ↦ and_right (nat_eq b n) (nat_lt n 32) (le-ltb n 32 full)
    ]
  where
    cases : (n b : ℕ) → n ≤ 32 → 32 ≤ b → (b ≡ n → ⊥) ⊎ (32 ≤ n)
    cases n b fits high = elim (cases_lt n 32) [
      | inl less ↦ inl (λ e. let bad : ⊥ = omega arith in bad)
      | inr full ↦ inr full
    ]

takes_operator : (count n k : ℕ) (negated neutral : Bool) (bytes : List ℕ) → n ≤ 32 → 1 < k
    → completes count n k negated (operator_byte neutral ∷ bytes) ≡ completes count n (k - 1) false bytes
takes_operator count n k negated true bytes fits two =
    cond-false (is_next n 33) _ _ (not_next n 33 fits (omega arith))
    ∙ cond-true (is_operator k 33) _ _ (lt-ltb 1 k two)
takes_operator count n k negated false bytes fits two =
    cond-false (is_next n 34) _ _ (not_next n 34 fits (omega arith))
    ∙ cond-true (is_operator k 34) _ _ (lt-ltb 1 k two)

takes_not : (count n k : ℕ) (bytes : List ℕ) → n ≤ 32 → 0 < k
    → completes count n k false (32 ∷ bytes) ≡ completes count n k true bytes
takes_not count n k bytes fits one =
    cond-false (is_next n 32) _ _ (not_next n 32 fits (omega arith))
    ∙ cond-true (is_not k false 32) _ _ (subst (λ b. (b && true) ≡ true) (sym (lt-ltb 0 k one)) refl)

-- the bytes of an expression are read to its end
takes : (e : Expr) (count n k : ℕ) (negated : Bool) (rest : List ℕ) → negates_once e ≡ true → n + size e ≤ 32
    → completes count n k negated (postfix_from n e ++ rest) ≡ completes count (n + size e) (k + 1) (is_negation e) rest
takes condition count n k negated rest once fits = takes_next count n k negated rest (omega arith)
takes (negation e) count n k negated rest once fits =
    let parts = and_parts (not (is_negation e)) (negates_once e) once in
    ap (completes count n k negated) (append_assoc (postfix_from n e) (32 ∷ []) rest)
    ∙ takes e count n k negated (32 ∷ rest) parts.1 fits
    ∙ ap (λ b. completes count (n + size e) (k + 1) b (32 ∷ rest)) (not-true (is_negation e) parts.0)
    ∙ takes_not count (n + size e) (k + 1) rest fits (omega arith)
takes (operator neutral left right) count n k negated rest once fits =
    let parts = and_parts (negates_once left) (negates_once right) once in
    let whole : n + size left + size right ≡ n + (size left + size right) = omega arith in
    let fewer : k + 1 + 1 - 1 ≡ k + 1 = omega arith in
    ap (completes count n k negated)
    (append_assoc (postfix_from n left) (postfix_from (n + size left) right ++ operator_byte neutral ∷ []) rest
    ∙ ap (λ bs. postfix_from n left ++ bs) (append_assoc (postfix_from (n + size left) right) (operator_byte neutral ∷ []) rest))
    ∙ takes left count n k negated (postfix_from (n + size left) right ++ operator_byte neutral ∷ rest) parts.0 (omega arith)
    ∙ takes right count (n + size left) (k + 1) (is_negation left) (operator_byte neutral ∷ rest) parts.1 (omega arith)
    ∙ takes_operator count (n + size left + size right) (k + 1 + 1) (is_negation right) neutral rest (omega arith) (omega arith)
    ∙ subst (λ m. completes count (n + size left + size right) (k + 1 + 1 - 1) false rest ≡ completes count m (k + 1) false rest) whole
    (ap (λ j. completes count (n + size left + size right) j false rest) fewer)

-- an expression is read as one
pub is_taken : (count : ℕ) (bytes : List ℕ) → AreExpression bytes count → completes count 0 0 false bytes ≡ true
is_taken count bytes found =
    let e = found.0 in
    let fits : 0 + size e ≤ 32 = let h = found.1.fits in omega arith in
    let all : 0 + size e ≡ count = let h = found.2 in omega arith in
    ap (completes count 0 0 false) (found.1.spelled ∙ sym (append-nil (postfix_of e)))
    ∙ takes e count 0 0 false [] found.1.once fits
    ∙ eq-eqb (0 + size e) count all

-- what the reading answers
pub answers : (count : ℕ) (bytes : List ℕ) (r : Bool) → r ≡ completes count 0 0 false bytes → IsTrue r ↔ AreExpression bytes count
answers count bytes r e = (λ yes. is_read count bytes (sym e ∙ yes), λ found. e ∙ is_taken count bytes found)

-- at the end of the bytes
pub ends : (count n k : ℕ) (negated whole : Bool) (bytes : List ℕ) (i : ℕ) → length bytes ≤ i
    → completes count n k negated (drop i bytes) ≡ whole → (nat_eq k 1 && nat_eq n count) ≡ whole
ends count n k negated whole bytes i past h =
    subst (λ bs. completes count n k negated bs ≡ whole) (drop_of_length-le bytes past) h

-- at a byte that cannot stand there
pub stops : (count n k : ℕ) (negated whole : Bool) (bytes : List ℕ) (i : ℕ) → i < length bytes
    → is_next n (get_or bytes i 0) ≡ false → is_operator k (get_or bytes i 0) ≡ false → is_not k negated (get_or bytes i 0) ≡ false
    → completes count n k negated (drop i bytes) ≡ whole → false ≡ whole
stops count n k negated whole bytes i within one two three h =
    let rest = drop (suc i) bytes in
    let b = get_or bytes i 0 in
    sym (cond-false (is_next n b) (completes count (n + 1) (k + 1) false rest) _ one
    ∙ cond-false (is_operator k b) (completes count n (k - 1) false rest) _ two
    ∙ cond-false (is_not k negated b) (completes count n k true rest) false three)
    ∙ subst (λ bs. completes count n k negated bs ≡ whole) (drop-cons bytes i 0 within) h
