-- Expressions of decisions, and their postfix bytes.
use Rattle.std.specs.Prelude.{◌≡◌, ℕ, ◌+◌, ◌≤◌, Bool, true, false, not, ◌&&◌, List, [], ◌∷◌, ◌++◌, if◌then◌else◌}

-- The expression of a decision. An operator is `and then` where its neutral value is true, and `or else` where it is false.
-- Conditions have no names: they are numbered from 0 in the order of the text.
pub data Expr : Type 0 where
  condition : Expr
  negation : Expr → Expr
  operator : (neutral : Bool) (left right : Expr) → Expr

-- how many conditions there are
abbrev pub size : Expr → ℕ
size condition = 1
size (negation e) = size e
size (operator neutral left right) = size left + size right

-- the bytes of the operators: 32 is `not`, 33 `and then`, 34 `or else`
abbrev pub operator_byte : Bool → ℕ
operator_byte neutral = if neutral then 33 else 34

-- the postfix bytes of an expression whose first condition has the number n: operands before their operator, and a condition is its number
abbrev pub postfix_from : ℕ → Expr → List ℕ
postfix_from n condition = n ∷ []
postfix_from n (negation e) = postfix_from n e ++ 32 ∷ []
postfix_from n (operator neutral left right) =
    postfix_from n left ++ (postfix_from (n + size left) right ++ operator_byte neutral ∷ [])

-- the postfix bytes of a decision's expression, whose conditions are numbered from 0
abbrev pub postfix_of : Expr → List ℕ
postfix_of e = postfix_from 0 e

-- whether the outermost part is a negation
abbrev pub is_negation : Expr → Bool
is_negation condition = false
is_negation (negation e) = true
is_negation (operator neutral left right) = false

-- whether no negation stands directly in a negation
abbrev pub negates_once : Expr → Bool
negates_once condition = true
negates_once (negation e) = not (is_negation e) && negates_once e
negates_once (operator neutral left right) = negates_once left && negates_once right

-- what ties the bytes of a file to an expression: they are its postfix bytes, it has at most 32 conditions, and no negation stands
-- directly in a negation
pub record IsPostfixOf (bytes : List ℕ) (e : Expr) : Type 0 where
  pub spelled : bytes ≡ postfix_of e
  pub fits : size e ≤ 32
  pub once : negates_once e ≡ true

-- the value of an expression whose first condition has the number n, where condition c has the value `value c`: a right operand is looked
-- at only where the left one is neutral
abbrev pub value_of : Expr → ℕ → (ℕ → Bool) → Bool
value_of condition n value = value n
value_of (negation e) n value = not (value_of e n value)
value_of (operator true left right) n value = if value_of left n value then value_of right (n + size left) value else false
value_of (operator false left right) n value = if value_of left n value then true else value_of right (n + size left) value
