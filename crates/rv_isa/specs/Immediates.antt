-- What the raw bits of an immediate mean: the manual's sections on RV32I, 'Immediate Encoding
-- Variants' and 'Control Transfer Instructions'. A value is a number below 2 ^ 32, where -1 is
-- 2 ^ 32 - 1.
use Rattle.std.specs.Prelude.{ℕ, ◌+◌, ◌-◌, ◌*◌, ◌^◌, nat_lt, if◌then◌else◌}

-- a number of `width` bits, whose highest bit is repeated up to 32 bits
abbrev pub sign_extended : (width n : ℕ) → ℕ
sign_extended width n = if nat_lt n (2 ^ (width - 1)) then n else n + (2 ^ 32 - 2 ^ width)

-- the immediate of forms I and S
abbrev pub sign_12 : ℕ → ℕ
sign_12 imm = sign_extended 12 imm

-- how far a branch goes, in bytes: form B holds a signed number of half-words
abbrev pub branch_offset : ℕ → ℕ
branch_offset halves = sign_extended 13 (halves * 2)

-- how far a jump goes, in bytes: form J holds a signed number of half-words
abbrev pub jump_offset : ℕ → ℕ
jump_offset halves = sign_extended 21 (halves * 2)

-- the immediate of form U: the upper 20 bits of a value whose lower 12 bits are 0
abbrev pub upper_value : ℕ → ℕ
upper_value imm = imm * 2 ^ 12
