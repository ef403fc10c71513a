-- Constants and addresses that are longer than an immediate of an instruction, and slots of a frame.
use Rattle.std.specs.Prelude.{ℕ, ◌+◌, ◌-◌, ◌*◌, ◌/◌, ◌%◌, ◌^◌, List, ◌∷◌}
use Rattle.rv_isa.specs.declared.ops.UpperOp.TheVariants.{Lui}
use Rattle.rv_isa.specs.declared.ops.ImmediateOp.TheVariants.{Addi}
use Rattle.rv_isa.specs.declared.ops.RegisterOp.TheVariants.{Add}
use Rattle.rv_isa.specs.declared.ops.LoadOp.TheVariants.{Lw}
use Rattle.rv_isa.specs.declared.ops.StoreOp.TheVariants.{Sw}
use Rattle.rv_isa.specs.declared.instr.Instr.{Instr}
use Rattle.rv_isa.specs.declared.instr.Instr.TheVariants.{Upper, Load, Store, Immediate, Register}

-- a word is the sum of an upper immediate and a signed immediate of 12 bits: 2 ^ 11 makes good that
-- the lower 12 bits are signed
abbrev pub high : ℕ → ℕ
high n = (n + 2 ^ 11) / 2 ^ 12 % 2 ^ 20

abbrev pub low : ℕ → ℕ
low n = n % 2 ^ 12

-- how far slot j lies from the end of its frame, as a word: one word is below the end for slot 0
abbrev pub slot_distance : ℕ → ℕ
slot_distance j = 2 ^ 32 - 4 * (j + 1)

-- x5 gets the upper part of the address of a slot
abbrev pub slot_upper : (j : ℕ) → List Instr → List Instr
slot_upper j is = Upper Lui 5 (high (slot_distance j)) ∷ Register Add 5 5 8 ∷ is

-- a register gets what a slot has, a slot gets what a register has, and a register gets a constant;
-- further instructions follow
abbrev pub load_slot : (r j : ℕ) → List Instr → List Instr
load_slot r j is = slot_upper j (Load Lw r 5 (low (slot_distance j)) ∷ is)

abbrev pub store_slot : (r j : ℕ) → List Instr → List Instr
store_slot r j is = slot_upper j (Store Sw 5 r (low (slot_distance j)) ∷ is)

abbrev pub load_constant : (r n : ℕ) → List Instr → List Instr
load_constant r n is = Upper Lui r (high n) ∷ Immediate Addi r r (low n) ∷ is
