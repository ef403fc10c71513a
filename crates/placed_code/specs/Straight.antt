-- Straight code: instructions that neither branch, jump nor call the environment. What it does is
-- computed from the state in which it begins.
use Rattle.std.specs.Prelude.{◌≡◌, ℕ, ◌+◌, ◌*◌, ◌/◌, ◌%◌, ◌≤◌, ℤ, List, [], ◌∷◌, length, None}
use Rattle.rv_isa.specs.declared.instr.Instr.{Instr}
use Rattle.rv_isa.specs.declared.instr.Instr.TheVariants.{Upper, Jal, Jalr, Branch, Load, Store, Immediate, Shift, Register, Fence, Ecall, Ebreak}
use Rattle.rv_isa.specs.Immediates.{sign_12, upper_value}
use Rattle.rv_semantics.specs.declared.stepped.Seen.{Seen}
use Rattle.rv_semantics.specs.Layout.{memory_bytes}
use Rattle.rv_semantics.specs.Arithmetic.{sum_32, immediate_result, shift_result, register_result}
use Rattle.rv_semantics.specs.Bytes.{load_size, store_size, loaded, stored}
use Rattle.rv_semantics.specs.State.{Image, State, at}
use Rattle.rv_semantics.specs.Step.{seen, upper_result}
use Rattle.placed_code.specs.Code.{HasAt, text_end}
use Rattle.placed_code.specs.Stretch.{Leads}
use Rattle.placed_code.specs.Instructions.{written}

-- the address of a load or of a store
abbrev pub address_of : State → (rs1 imm : ℕ) → ℕ
address_of s rs1 imm = sum_32 (s.reg rs1) (sign_12 imm)

-- a load or a store of this size is within memory, at a multiple of the size
abbrev pub IsInMemory : (address size : ℕ) → Type 0
IsInMemory address size = (address % size ≡ 0) × (address + size ≤ memory_bytes)

-- the instruction is straight, and does not trap in this state
abbrev pub IsStraight : Image → State → Instr → Type 0
IsStraight image s (Upper op rd imm) = Unit {0}
IsStraight image s (Load op rd rs1 imm) = IsInMemory (address_of s rs1 imm) (load_size op)
IsStraight image s (Store op rs1 rs2 imm) =
    IsInMemory (address_of s rs1 imm) (store_size op) × (text_end image ≤ address_of s rs1 imm)
IsStraight image s (Immediate op rd rs1 imm) = Unit {0}
IsStraight image s (Shift op rd rs1 amount) = Unit {0}
IsStraight image s (Register op rd rs1 rs2) = Unit {0}
IsStraight image s (Jal rd halves) = ⊥
IsStraight image s (Jalr rd rs1 imm) = ⊥
IsStraight image s (Branch op rs1 rs2 halves) = ⊥
IsStraight image s (Fence rd rs1 imm) = ⊥
IsStraight image s Ecall = ⊥
IsStraight image s Ebreak = ⊥

-- the state after a straight instruction
abbrev pub after_one : State → Instr → State
after_one s (Upper op rd imm) = written s rd (upper_result op s.pc (upper_value imm)) (s.pc + 4)
after_one s (Load op rd rs1 imm) =
    written s rd (loaded op (s.mem (address_of s rs1 imm / 4)) (address_of s rs1 imm)) (s.pc + 4)
after_one s (Store op rs1 rs2 imm) =
    let address = address_of s rs1 imm in
    record { pc = s.pc + 4; reg = s.reg; mem = at s.mem (address / 4) (stored op (s.mem (address / 4)) address (s.reg rs2)) }
after_one s (Immediate op rd rs1 imm) = written s rd (immediate_result op (s.reg rs1) (sign_12 imm)) (s.pc + 4)
after_one s (Shift op rd rs1 amount) = written s rd (shift_result op (s.reg rs1) amount) (s.pc + 4)
after_one s (Register op rd rs1 rs2) = written s rd (register_result op (s.reg rs1) (s.reg rs2)) (s.pc + 4)
after_one s (Jal rd halves) = s
after_one s (Jalr rd rs1 imm) = s
after_one s (Branch op rs1 rs2 halves) = s
after_one s (Fence rd rs1 imm) = s
after_one s Ecall = s
after_one s Ebreak = s

-- each instruction is straight where it is come to
abbrev pub AreStraight : Image → State → List Instr → Type 0
AreStraight image s [] = Unit {0}
AreStraight image s (i ∷ is) = IsStraight image s i × AreStraight image (after_one s i) is

-- the state after straight code
abbrev pub after_all : State → List Instr → State
after_all s [] = s
after_all s (i ∷ is) = after_all (after_one s i) is

-- what a recorder sees of it
abbrev pub entries_of : State → List Instr → List Seen
entries_of s [] = []
entries_of s (i ∷ is) = seen s None ∷ entries_of (after_one s i) is

-- straight code leads to the state after it
abbrev pub StraightGoes : Type 0
StraightGoes =
    (image : Image) (s : State) (input : List ℤ) (is : List Instr)
    → HasAt image s.pc is → AreStraight image s is
    → Leads image s input (entries_of s is) [] (after_all s is) input

-- it is at the address behind the code, after one entry for each instruction
abbrev pub StraightArrives : Type 0
StraightArrives =
    (image : Image) (s : State) (is : List Instr) → AreStraight image s is
    → ((after_all s is).pc ≡ s.pc + 4 * length is) × (length (entries_of s is) ≡ length is)
