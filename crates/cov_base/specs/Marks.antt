-- Vectors: what one evaluation of a decision gave each condition.
use Rattle.std.specs.Prelude.{ℕ, zero, suc, ◌/◌, ◌%◌, ◌^◌, nat_eq, nat_lt, Bool, true, false, not, ◌&&◌, ◌||◌, if◌then◌else◌}
use Rattle.cov_base.specs.Expr.{Expr, value_of}
use Rattle.cov_base.specs.declared.event.Vector.{Vector}

-- which conditions were evaluated, and the values of those that were
pub record Marks : Type 0 where
  pub seen : ℕ → Bool
  pub value : ℕ → Bool

-- bit c of a word
abbrev pub bit : ℕ → ℕ → Bool
bit word c = nat_eq (word / 2 ^ c % 2) 1

-- what a vector says of each condition
abbrev pub marks : Vector → Marks
marks v = record { seen = bit v.seen; value = bit v.value }

-- whether two truth values are the same
abbrev pub same : Bool → Bool → Bool
same true b = b
same false b = not b

-- the outcome of a vector: the expression's value on it
abbrev pub outcome : Expr → Marks → Bool
outcome e v = value_of e 0 v.value

-- the place of a condition's mark in the order F, T, -
abbrev pub rank : Marks → ℕ → ℕ
rank v c = if v.seen c then (if v.value c then 1 else 0) else 2

-- whether v comes before w in the order of vectors: condition by condition, for this many conditions from c on
abbrev pub precedes_from : ℕ → ℕ → Marks → Marks → Bool
precedes_from c zero v w = false
precedes_from c (suc left) v w =
    nat_lt (rank v c) (rank w c) || nat_eq (rank v c) (rank w c) && precedes_from (suc c) left v w

-- whether v comes before w in the order of vectors of so many conditions
abbrev pub precedes : ℕ → Marks → Marks → Bool
precedes conditions v w = precedes_from 0 conditions v w
