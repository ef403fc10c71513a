-- What each kind of instruction that a compiler emits does where it stands: the values of its operands
-- are premises, so that one law follows on another.
use Rattle.std.specs.Prelude.{◌≡◌, ◌≢◌, ℕ, ◌+◌, ◌*◌, ◌/◌, ◌%◌, ◌^◌, ◌≤◌, ◌<◌, true, false, ℤ, List, [], ◌∷◌, length, Some, None}
use Rattle.rv_isa.specs.declared.ops.UpperOp.{UpperOp}
use Rattle.rv_isa.specs.declared.ops.BranchOp.{BranchOp}
use Rattle.rv_isa.specs.declared.ops.ImmediateOp.{ImmediateOp}
use Rattle.rv_isa.specs.declared.ops.ShiftOp.{ShiftOp}
use Rattle.rv_isa.specs.declared.ops.RegisterOp.{RegisterOp}
use Rattle.rv_isa.specs.declared.ops.ImmediateOp.TheVariants.{Addi}
use Rattle.rv_isa.specs.declared.ops.BranchOp.TheVariants.{Bne}
use Rattle.rv_isa.specs.declared.ops.LoadOp.{LoadOp}
use Rattle.rv_isa.specs.declared.ops.StoreOp.{StoreOp}
use Rattle.rv_isa.specs.declared.instr.Instr.TheVariants.{Upper, Jal, Jalr, Branch, Load, Store, Immediate, Shift, Register, Ecall}
use Rattle.rv_isa.specs.Immediates.{sign_12, branch_offset, jump_offset, upper_value}
use Rattle.rv_semantics.specs.declared.stepped.Seen.{Seen}
use Rattle.rv_semantics.specs.Layout.{memory_bytes}
use Rattle.rv_semantics.specs.Arithmetic.{sum_32, signed, is_taken, immediate_result, shift_result, register_result}
use Rattle.rv_semantics.specs.Bytes.{load_size, store_size, loaded, stored}
use Rattle.rv_semantics.specs.State.{Image, State, at, with_reg, given}
use Rattle.rv_semantics.specs.Step.{seen, upper_result}
use Rattle.placed_code.specs.Code.{StandsAt, text_end}
use Rattle.placed_code.specs.Stretch.{Leads, Ends}

-- the state with a register written, at the next instruction
abbrev pub written : State → (rd value next : ℕ) → State
written s rd value next = record { pc = next; reg = with_reg s.reg rd value; mem = s.mem }

-- one instruction that is no branch leads to a state
abbrev pub GoesTo : Image → State → List ℤ → State → Type 0
GoesTo image s input s' = Leads image s input (seen s None ∷ []) [] s' input

abbrev pub UpperGoes : Type 0
UpperGoes =
    (image : Image) (s : State) (input : List ℤ) (op : UpperOp) (rd imm value next : ℕ)
    → StandsAt image s.pc (Upper op rd imm) → upper_result op s.pc (upper_value imm) ≡ value → s.pc + 4 ≡ next
    → GoesTo image s input (written s rd value next)

abbrev pub ImmediateGoes : Type 0
ImmediateGoes =
    (image : Image) (s : State) (input : List ℤ) (op : ImmediateOp) (rd rs1 imm a value next : ℕ)
    → StandsAt image s.pc (Immediate op rd rs1 imm) → s.reg rs1 ≡ a
    → immediate_result op a (sign_12 imm) ≡ value → s.pc + 4 ≡ next
    → GoesTo image s input (written s rd value next)

abbrev pub ShiftGoes : Type 0
ShiftGoes =
    (image : Image) (s : State) (input : List ℤ) (op : ShiftOp) (rd rs1 amount a value next : ℕ)
    → StandsAt image s.pc (Shift op rd rs1 amount) → s.reg rs1 ≡ a
    → shift_result op a amount ≡ value → s.pc + 4 ≡ next
    → GoesTo image s input (written s rd value next)

abbrev pub RegisterGoes : Type 0
RegisterGoes =
    (image : Image) (s : State) (input : List ℤ) (op : RegisterOp) (rd rs1 rs2 a b value next : ℕ)
    → StandsAt image s.pc (Register op rd rs1 rs2) → s.reg rs1 ≡ a → s.reg rs2 ≡ b
    → register_result op a b ≡ value → s.pc + 4 ≡ next
    → GoesTo image s input (written s rd value next)

-- a load is from a multiple of its size in memory
abbrev pub LoadGoes : Type 0
LoadGoes =
    (image : Image) (s : State) (input : List ℤ) (op : LoadOp) (rd rs1 imm a address value next : ℕ)
    → StandsAt image s.pc (Load op rd rs1 imm) → s.reg rs1 ≡ a
    → sum_32 a (sign_12 imm) ≡ address → address % load_size op ≡ 0 → address + load_size op ≤ memory_bytes
    → loaded op (s.mem (address / 4)) address ≡ value → s.pc + 4 ≡ next
    → GoesTo image s input (written s rd value next)

-- a store is to a multiple of its size in memory, behind the text; the word that holds the address is
-- left with the value in it
abbrev pub StoreGoes : Type 0
StoreGoes =
    (image : Image) (s : State) (input : List ℤ) (op : StoreOp) (rs1 rs2 imm a b address word next : ℕ)
    → StandsAt image s.pc (Store op rs1 rs2 imm) → s.reg rs1 ≡ a → s.reg rs2 ≡ b
    → sum_32 a (sign_12 imm) ≡ address → address % store_size op ≡ 0 → address + store_size op ≤ memory_bytes
    → text_end image ≤ address → stored op (s.mem (address / 4)) address b ≡ word → s.pc + 4 ≡ next
    → GoesTo image s input (record { pc = next; reg = s.reg; mem = at s.mem (address / 4) word })

-- a branch that is taken goes to its target, and one that is not goes on
abbrev pub BranchGoes : Type 0
BranchGoes =
    (image : Image) (s : State) (input : List ℤ) (op : BranchOp) (rs1 rs2 halves a b target : ℕ)
    → StandsAt image s.pc (Branch op rs1 rs2 halves) → s.reg rs1 ≡ a → s.reg rs2 ≡ b → is_taken op a b ≡ true
    → sum_32 s.pc (branch_offset halves) ≡ target → target % 4 ≡ 0
    → Leads image s input (seen s (Some true) ∷ []) [] (record { pc = target; reg = s.reg; mem = s.mem }) input

abbrev pub BranchGoesOn : Type 0
BranchGoesOn =
    (image : Image) (s : State) (input : List ℤ) (op : BranchOp) (rs1 rs2 halves a b next : ℕ)
    → StandsAt image s.pc (Branch op rs1 rs2 halves) → s.reg rs1 ≡ a → s.reg rs2 ≡ b → is_taken op a b ≡ false
    → s.pc + 4 ≡ next
    → Leads image s input (seen s (Some false) ∷ []) [] (record { pc = next; reg = s.reg; mem = s.mem }) input

-- a jump leaves the address behind it in a register
abbrev pub JumpGoes : Type 0
JumpGoes =
    (image : Image) (s : State) (input : List ℤ) (rd halves target next : ℕ)
    → StandsAt image s.pc (Jal rd halves) → sum_32 s.pc (jump_offset halves) ≡ target → target % 4 ≡ 0
    → s.pc + 4 ≡ next
    → GoesTo image s input (written s rd next target)

abbrev pub RegisterJumpGoes : Type 0
RegisterJumpGoes =
    (image : Image) (s : State) (input : List ℤ) (rd rs1 imm a target next : ℕ)
    → StandsAt image s.pc (Jalr rd rs1 imm) → s.reg rs1 ≡ a
    → sum_32 a (sign_12 imm) ≡ target → target % 4 ≡ 0 → s.pc + 4 ≡ next
    → GoesTo image s input (written s rd next target)

-- the environment calls: 1 gets a word, 2 puts one, 3 ends the run

abbrev pub GetGoes : Type 0
GetGoes =
    (image : Image) (s : State) (word : ℤ) (input : List ℤ) (next : ℕ)
    → StandsAt image s.pc Ecall → s.reg 17 ≡ 1 → s.pc + 4 ≡ next
    → Leads image s (word ∷ input) (seen s None ∷ []) []
    (given (record { pc = next; reg = s.reg; mem = s.mem }) (Some word)) input

abbrev pub GetAtTheEndGoes : Type 0
GetAtTheEndGoes =
    (image : Image) (s : State) (next : ℕ)
    → StandsAt image s.pc Ecall → s.reg 17 ≡ 1 → s.pc + 4 ≡ next
    → GoesTo image s [] (given (record { pc = next; reg = s.reg; mem = s.mem }) None)

abbrev pub PutGoes : Type 0
PutGoes =
    (image : Image) (s : State) (input : List ℤ) (word : ℤ) (next : ℕ)
    → StandsAt image s.pc Ecall → s.reg 17 ≡ 2 → signed (s.reg 10) ≡ word → s.pc + 4 ≡ next
    → Leads image s input (seen s None ∷ []) (word ∷ []) (record { pc = next; reg = s.reg; mem = s.mem }) input

abbrev pub EndGoes : Type 0
EndGoes =
    (image : Image) (s : State) (input : List ℤ) (number : ℕ)
    → StandsAt image s.pc Ecall → s.reg 17 ≡ 3 → s.reg 10 ≡ number → number ≤ image.exceptions
    → Ends image s input (seen s None) number

-- where the loop comes out
pub record Counted (image : Image) (s : State) (input : List ℤ) (r n : ℕ) : Type 0 where
  pub end : State
  pub entries : List Seen
  pub leads : Leads image s input entries [] end input
  pub count : length entries ≡ 2 * (n + 1)
  pub pc : end.pc ≡ s.pc + 8
  pub zeroed : end.reg r ≡ 0
  pub others : (q : ℕ) → q ≢ r → end.reg q ≡ s.reg q
  pub mem : end.mem ≡ s.mem

-- a loop that counts a register down to 0: one entry for the sum and one for the branch, in each turn
abbrev pub LoopCounts : Type 0
LoopCounts =
    (image : Image) (input : List ℤ) (r n : ℕ) (s : State)
    → StandsAt image s.pc (Immediate Addi r r 0xfff) → StandsAt image (s.pc + 4) (Branch Bne r 0 0xffe)
    → r ≢ 0 → s.pc % 4 ≡ 0 → s.reg 0 ≡ 0 → s.reg r ≡ n + 1 → n + 1 < 2 ^ 32 → Counted image s input r n
