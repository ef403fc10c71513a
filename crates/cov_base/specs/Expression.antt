-- The expression that postfix bytes spell.
use Rattle.std.specs.Prelude.{ℕ, List, [], ◌∷◌, Bool, true, false, ◌==◌, if◌then◌else◌}
use Rattle.cov_base.specs.Expr.{Expr, condition, negation, operator}

-- an operator takes the two latest expressions, the left one below the right one
abbrev pub joined : Bool → List Expr → List Expr
joined neutral [] = []
joined neutral (right ∷ []) = []
joined neutral (right ∷ left ∷ below) = operator neutral left right ∷ below

-- a negation takes the latest expression
abbrev pub negated : List Expr → List Expr
negated [] = []
negated (e ∷ below) = negation e ∷ below

-- the expressions that stand, the latest first, once a byte more is read: 32 is `not`, 33 `and then`, 34 `or else`, any other a condition
abbrev pub read_byte : ℕ → List Expr → List Expr
read_byte byte stack =
    if byte == 32 then negated stack
    else if byte == 33 then joined true stack
    else if byte == 34 then joined false stack
    else condition ∷ stack

-- the same once these bytes are read
abbrev pub read_bytes : List ℕ → List Expr → List Expr
read_bytes [] stack = stack
read_bytes (byte ∷ bytes) stack = read_bytes bytes (read_byte byte stack)

-- the latest expression that stands
abbrev pub latest : List Expr → Expr
latest [] = condition
latest (e ∷ below) = e

-- the expression that a decision's bytes spell
unfoldable pub expression_of : List ℕ → Expr
expression_of bytes = latest (read_bytes bytes [])
