-- How far a branch and a jump reach, after the manual's section 'Control Transfer Instructions': form
-- B holds a signed number of 12 bits, and form J one of 20 bits, both in half-words.
use Rattle.std.specs.Prelude.{ℕ, ◌+◌, ◌/◌, ◌%◌, ◌^◌, ◌<◌, ◌≤◌}
use Rattle.rv_semantics.specs.Arithmetic.{difference_32}

-- a branch at one address reaches another
abbrev pub BranchReaches : (from to : ℕ) → Type 0
BranchReaches from to = (from ≤ to + 2 ^ 12) × (to < from + 2 ^ 12)

-- a jump at one address reaches another
abbrev pub JumpReaches : (from to : ℕ) → Type 0
JumpReaches from to = (from ≤ to + 2 ^ 20) × (to < from + 2 ^ 20)

-- the half-words of a branch from one address to another
abbrev pub branch_halves : (from to : ℕ) → ℕ
branch_halves from to = difference_32 to from / 2 % 2 ^ 12

-- the half-words of a jump from one address to another
abbrev pub jump_halves : (from to : ℕ) → ℕ
jump_halves from to = difference_32 to from / 2 % 2 ^ 20
