-- Postfix bytes are read as the expression that they spell.
use Rattle.std.proofs.Common.{◌≡◌, ℕ, ◌+◌, ◌<◌, ◌≤◌, true, false, List, [], ◌∷◌, ◌++◌, refl, ap, ◌∙◌, ne_eqb, arith}
use Rattle.cov_base.specs.Expr.{Expr, condition, negation, operator, size, postfix_from, IsPostfixOf}
use Rattle.cov_base.specs.Expression.{negated, joined, read_byte, read_bytes, latest, expression_of}

-- to read one list after another
parts_append : (xs ys : List ℕ) (parts : List Expr) → read_bytes (xs ++ ys) parts ≡ read_bytes ys (read_bytes xs parts)
parts_append [] ys parts = refl
parts_append (x ∷ xs) ys parts = parts_append xs ys (read_byte x parts)

-- a byte that is no operator is a condition
condition_read : (n : ℕ) (parts : List Expr) → n < 32 → read_byte n parts ≡ condition ∷ parts
condition_read n parts small =
    rw (ne_eqb n 32 (λ e. absurd (omega arith)), ne_eqb n 33 (λ e. absurd (omega arith)), ne_eqb n 34 (λ e. absurd (omega arith))) refl

read_expression : (e : Expr) (n : ℕ) (parts : List Expr) → n + size e ≤ 32 → read_bytes (postfix_from n e) parts ≡ e ∷ parts
read_expression condition n parts fits = condition_read n parts (omega arith)
read_expression (negation e) n parts fits =
    parts_append (postfix_from n e) (32 ∷ []) parts
    ∙ ap negated (read_expression e n parts fits)
read_expression (operator true left right) n parts fits =
    let middle : ℕ = n + size left in
    parts_append (postfix_from n left) (postfix_from middle right ++ 33 ∷ []) parts
    ∙ ap (read_bytes (postfix_from middle right ++ 33 ∷ [])) (read_expression left n parts (omega arith))
    ∙ parts_append (postfix_from middle right) (33 ∷ []) (left ∷ parts)
    ∙ ap (joined true) (read_expression right middle (left ∷ parts) (omega arith))
read_expression (operator false left right) n parts fits =
    let middle : ℕ = n + size left in
    parts_append (postfix_from n left) (postfix_from middle right ++ 34 ∷ []) parts
    ∙ ap (read_bytes (postfix_from middle right ++ 34 ∷ [])) (read_expression left n parts (omega arith))
    ∙ parts_append (postfix_from middle right) (34 ∷ []) (left ∷ parts)
    ∙ ap (joined false) (read_expression right middle (left ∷ parts) (omega arith))

-- the expression that postfix bytes spell is the one that is read
pub read_postfix : (bytes : List ℕ) (e : Expr) → IsPostfixOf bytes e → expression_of bytes ≡ e
unfolding expression_of
read_postfix bytes e is =
    ap (λ (xs : List ℕ). latest (read_bytes xs [])) is.spelled ∙ ap latest (read_expression e 0 [] (omega (arith, is.fits)))
