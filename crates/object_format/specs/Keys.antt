-- The order in which a set keeps numbers that belong together.
use Rattle.std.specs.Prelude.{ℕ}
use Rattle.std.specs.declared.cmp.Ordering.{Ordering}
use Rattle.std.specs.Ordering.{ordering_then, nat_cmp}

-- by the first, and then by the second
abbrev pub pair_cmp : ℕ × ℕ → ℕ × ℕ → Ordering
pair_cmp a b = ordering_then (nat_cmp a.0 b.0) (nat_cmp a.1 b.1)

-- by a pair, and then by a third
abbrev pub triple_cmp : (ℕ × ℕ) × ℕ → (ℕ × ℕ) × ℕ → Ordering
triple_cmp a b = ordering_then (pair_cmp a.0 b.0) (nat_cmp a.1 b.1)
