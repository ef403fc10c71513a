-- How many objects a block declares, as a count of 32 bits.
use Rattle.std.specs.Prelude.{ℕ, ◌-◌, ◌^◌, min}

-- a count that stands still at 2^32 - 1
abbrev pub capped : ℕ → ℕ
capped n = min n (2 ^ 32 - 1)
