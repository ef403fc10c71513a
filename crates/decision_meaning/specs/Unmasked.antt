-- Which conditions could have turned a decision's outcome, as one evaluation left them.
use Rattle.std.specs.Prelude.{ℕ, ◌+◌, nat_eq, Bool, not, ◌&&◌, ◌||◌}
use Rattle.cov_base.specs.Expr.{Expr, condition, negation, operator, size, value_of}
use Rattle.cov_base.specs.Marks.{Marks, same}

-- whether condition c is unmasked, in an expression whose first condition has the number n: it was evaluated, and at each operator that
-- has it in its left operand, the right operand was not evaluated (its first condition was not) or has the neutral value
abbrev pub unmasked_from : Expr → ℕ → Marks → ℕ → Bool
unmasked_from condition n v c = nat_eq c n && v.seen n
unmasked_from (negation e) n v c = unmasked_from e n v c
unmasked_from (operator neutral left right) n v c =
    let middle = n + size left in
    unmasked_from left n v c && (not (v.seen middle) || same (value_of right middle v.value) neutral)
    || unmasked_from right middle v c

-- whether condition c is unmasked
abbrev pub unmasked : Expr → Marks → ℕ → Bool
unmasked e v c = unmasked_from e 0 v c
