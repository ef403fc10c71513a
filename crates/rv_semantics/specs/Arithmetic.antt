-- What each instruction computes of its operands: numbers below 2 ^ 32. A signed number is read off
-- its two's complement.
use Rattle.std.specs.Prelude.{ℕ, ◌+◌, ◌-◌, ◌*◌, ◌/◌, ◌%◌, ◌^◌, ◌==◌, not, nat_lt, Bool, ℤ, pos, ◌*ℤ◌, int_lt, int_div, int_rem, bit_and, bit_or, bit_xor, if◌then◌else◌}
use Rattle.std.specs.Int.{w32, w64, cast_signed, cast_unsigned, int_shr}
use Rattle.rv_isa.specs.declared.ops.BranchOp.{BranchOp}
use Rattle.rv_isa.specs.declared.ops.BranchOp.TheVariants.{Beq, Bne, Blt, Bge, Bltu, Bgeu}
use Rattle.rv_isa.specs.declared.ops.ImmediateOp.{ImmediateOp}
use Rattle.rv_isa.specs.declared.ops.ImmediateOp.TheVariants.{Addi, Slti, Sltiu, Xori, Ori, Andi}
use Rattle.rv_isa.specs.declared.ops.ShiftOp.{ShiftOp}
use Rattle.rv_isa.specs.declared.ops.ShiftOp.TheVariants.{Slli, Srli, Srai}
use Rattle.rv_isa.specs.declared.ops.RegisterOp.{RegisterOp}
use Rattle.rv_isa.specs.declared.ops.RegisterOp.TheVariants.{Add, Sub, Sll, Slt, Sltu, Xor, Srl, Sra, Or, And, Mul, Mulh, Mulhsu, Mulhu, Div, Divu, Rem, Remu}

-- the sum of two words, without what does not fit a word
abbrev pub sum_32 : ℕ → ℕ → ℕ
sum_32 a b = (a + b) % 2 ^ 32

-- the difference of two words, likewise
abbrev pub difference_32 : ℕ → ℕ → ℕ
difference_32 a b = (a + (2 ^ 32 - b)) % 2 ^ 32

-- the signed number of a word
abbrev pub signed : ℕ → ℤ
signed a = cast_signed w32 a

-- the word of a signed number, without what does not fit a word
abbrev pub unsigned : ℤ → ℕ
unsigned z = cast_unsigned w32 z

-- the upper word of a product of two words
abbrev pub upper_word : ℤ → ℕ
upper_word z = cast_unsigned w64 z / 2 ^ 32

-- a truth value as a word
abbrev pub flag : Bool → ℕ
flag holds = if holds then 1 else 0

-- RV32I, 'Conditional Branches': whether a branch is taken
abbrev pub is_taken : BranchOp → (a b : ℕ) → Bool
is_taken Beq a b = a == b
is_taken Bne a b = not (a == b)
is_taken Blt a b = int_lt (signed a) (signed b)
is_taken Bge a b = not (int_lt (signed a) (signed b))
is_taken Bltu a b = nat_lt a b
is_taken Bgeu a b = not (nat_lt a b)

-- RV32I, 'Integer Register-Immediate Instructions', where b is the immediate with its sign extended
abbrev pub immediate_result : ImmediateOp → (a b : ℕ) → ℕ
immediate_result Addi a b = sum_32 a b
immediate_result Slti a b = flag (int_lt (signed a) (signed b))
immediate_result Sltiu a b = flag (nat_lt a b)
immediate_result Xori a b = bit_xor a b
immediate_result Ori a b = bit_or a b
immediate_result Andi a b = bit_and a b

-- the same section: a shift by fewer than 32 bits; the arithmetic one to the right copies the sign
abbrev pub shift_result : ShiftOp → (a by : ℕ) → ℕ
shift_result Slli a by = a * 2 ^ by % 2 ^ 32
shift_result Srli a by = a / 2 ^ by
shift_result Srai a by = unsigned (int_shr (signed a) by)

-- RV32I, 'Integer Register-Register Operations', where a shift uses the lower five bits of b; and
-- the M extension, 'Multiplication Operations' and 'Division Operations'
abbrev pub register_result : RegisterOp → (a b : ℕ) → ℕ
register_result Add a b = sum_32 a b
register_result Sub a b = difference_32 a b
register_result Sll a b = shift_result Slli a (b % 2 ^ 5)
register_result Slt a b = flag (int_lt (signed a) (signed b))
register_result Sltu a b = flag (nat_lt a b)
register_result Xor a b = bit_xor a b
register_result Srl a b = shift_result Srli a (b % 2 ^ 5)
register_result Sra a b = shift_result Srai a (b % 2 ^ 5)
register_result Or a b = bit_or a b
register_result And a b = bit_and a b
register_result Mul a b = a * b % 2 ^ 32
register_result Mulh a b = upper_word (signed a *ℤ signed b)
register_result Mulhsu a b = upper_word (signed a *ℤ pos b)
register_result Mulhu a b = a * b / 2 ^ 32
register_result Div a b = if b == 0 then 2 ^ 32 - 1 else unsigned (int_div (signed a) (signed b))
register_result Divu a b = if b == 0 then 2 ^ 32 - 1 else a / b
register_result Rem a b = if b == 0 then a else unsigned (int_rem (signed a) (signed b))
register_result Remu a b = if b == 0 then a else a % b
