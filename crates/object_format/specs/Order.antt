-- Numbers that are compared from left to right.
use Rattle.std.specs.Prelude.{ℕ, Bool, List}
use Rattle.std.specs.Ordering.{is_lt, is_le, nat_cmp}
use Rattle.std.specs.Cmp.Lexicographic.{slice_cmp}

-- the first ones are less
abbrev pub is_below : List ℕ → List ℕ → Bool
is_below one next = is_lt (slice_cmp nat_cmp one next)

-- the first ones are not greater
abbrev pub is_at_most : List ℕ → List ℕ → Bool
is_at_most one next = is_le (slice_cmp nat_cmp one next)
