-- Loads and stores of the word that holds an address: a word's bytes lie lowest first.
use Rattle.std.specs.Prelude.{ℕ, ◌+◌, ◌*◌, ◌/◌, ◌%◌, ◌^◌, slice_index, slice_set}
use Rattle.std.specs.Int.{w32, to_le_bytes, from_le_bytes}
use Rattle.rv_isa.specs.declared.ops.LoadOp.{LoadOp}
use Rattle.rv_isa.specs.declared.ops.LoadOp.TheVariants.{Lb, Lh, Lw, Lbu, Lhu}
use Rattle.rv_isa.specs.declared.ops.StoreOp.{StoreOp}
use Rattle.rv_isa.specs.declared.ops.StoreOp.TheVariants.{Sb, Sh, Sw}
use Rattle.rv_isa.specs.Immediates.{sign_extended}

-- how many bytes a load reads
abbrev pub load_size : LoadOp → ℕ
load_size Lb = 1
load_size Lh = 2
load_size Lw = 4
load_size Lbu = 1
load_size Lhu = 2

-- how many bytes a store writes
abbrev pub store_size : StoreOp → ℕ
store_size Sb = 1
store_size Sh = 2
store_size Sw = 4

-- the byte at an address
abbrev pub byte_in : (word address : ℕ) → ℕ
byte_in word address = slice_index (to_le_bytes w32 word) (address % 4)

-- the half-word at an even address
abbrev pub half_in : (word address : ℕ) → ℕ
half_in word address = byte_in word address + byte_in word (address + 1) * 2 ^ 8

-- the word with another byte at an address
abbrev pub with_byte : (word address byte : ℕ) → ℕ
with_byte word address byte = from_le_bytes w32 (slice_set (to_le_bytes w32 word) (address % 4) byte)

-- RV32I, 'Load and Store Instructions': what a load from an address gives
abbrev pub loaded : LoadOp → (word address : ℕ) → ℕ
loaded Lb word address = sign_extended 8 (byte_in word address)
loaded Lh word address = sign_extended 16 (half_in word address)
loaded Lw word address = word
loaded Lbu word address = byte_in word address
loaded Lhu word address = half_in word address

-- the word that a store of a value at an address leaves
abbrev pub stored : StoreOp → (word address value : ℕ) → ℕ
stored Sb word address value = with_byte word address (value % 2 ^ 8)
stored Sh word address value =
    with_byte (with_byte word address (value % 2 ^ 8)) (address + 1) (value / 2 ^ 8 % 2 ^ 8)
stored Sw word address value = value
