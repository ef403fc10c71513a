-- One step of the machine, after the RISC-V unprivileged manual, and the environment's three calls.
use Rattle.std.specs.Prelude.{ℕ, ◌+◌, ◌*◌, ◌/◌, ◌%◌, ◌==◌, ◌&&◌, not, nat_lt, nat_le, Bool, true, false, Option, Some, None, if◌then◌else◌}
use Rattle.rv_isa.specs.declared.ops.UpperOp.{UpperOp}
use Rattle.rv_isa.specs.declared.ops.UpperOp.TheVariants.{Lui, Auipc}
use Rattle.rv_isa.specs.declared.ops.LoadOp.{LoadOp}
use Rattle.rv_isa.specs.declared.ops.StoreOp.{StoreOp}
use Rattle.rv_isa.specs.declared.instr.Instr.{Instr}
use Rattle.rv_isa.specs.declared.instr.Instr.TheVariants.{Upper, Jal, Jalr, Branch, Load, Store as StoreTo, Immediate, Shift, Register, Fence, Ecall, Ebreak}
use Rattle.rv_isa.specs.Immediates.{sign_12, branch_offset, jump_offset, upper_value}
use Rattle.rv_isa.specs.Decoding.{instr_of}
use Rattle.rv_semantics.specs.declared.stepped.Seen.{Seen}
use Rattle.rv_semantics.specs.declared.stepped.TrapWhy.{TrapWhy}
use Rattle.rv_semantics.specs.declared.stepped.TrapWhy.TheVariants.{Outside, BadWord, Break, BadCall, Misaligned, Store}
use Rattle.rv_semantics.specs.declared.stepped.Stepped.{Stepped}
use Rattle.rv_semantics.specs.declared.stepped.Stepped.TheVariants.{Went, Get, Put, End, Trap}
use Rattle.rv_semantics.specs.Layout.{memory_bytes, text_word, in_text}
use Rattle.rv_semantics.specs.Arithmetic.{sum_32, signed, is_taken, immediate_result, shift_result, register_result}
use Rattle.rv_semantics.specs.Bytes.{load_size, store_size, loaded, stored}
use Rattle.rv_semantics.specs.State.{Image, State, at, with_reg}

-- what a step comes to, and the machine after it
abbrev pub Answer : Type 0
Answer = Stepped × State

-- what a recorder sees of the instruction that the program counter is at
abbrev pub seen : State → Option Bool → Seen
seen s edge = record { pc = s.pc; edge = edge; x8 = s.reg 8 }

-- the address of the next instruction
abbrev pub next_pc : State → ℕ
next_pc s = sum_32 s.pc 4

-- a trapping instruction changes nothing
abbrev pub traps : State → TrapWhy → Answer
traps s why = (Trap s.pc why, s)

-- a register is written, and the next instruction follows
unfoldable pub writes : State → (rd value : ℕ) → Answer
writes s rd value = (Went (seen s None), record { pc = next_pc s; reg = with_reg s.reg rd value; mem = s.mem })

-- a word of memory is written, and the next instruction follows
unfoldable pub puts : State → (place word : ℕ) → Answer
puts s place word = (Went (seen s None), record { pc = next_pc s; reg = s.reg; mem = at s.mem place word })

-- RV32I, 'Unconditional Jumps': the register is written with the address of the next instruction
unfoldable pub jumps : State → (rd target : ℕ) → Answer
jumps s rd target =
    if target % 4 == 0
    then (Went (seen s None), record { pc = target; reg = with_reg s.reg rd (next_pc s); mem = s.mem })
    else traps s Misaligned

-- RV32I, 'Conditional Branches': the target counts only where the branch is taken
unfoldable pub branches : State → (taken : Bool) → (target : ℕ) → Answer
branches s taken target =
    if not taken then (Went (seen s (Some false)), record s { pc = next_pc s }) else
    if target % 4 == 0 then (Went (seen s (Some true)), record s { pc = target }) else
    traps s Misaligned

-- RV32I, 'Load and Store Instructions'
unfoldable pub loads : State → LoadOp → (rd address : ℕ) → Answer
loads s op rd address =
    if not (address % load_size op == 0) then traps s Misaligned else
    if nat_lt memory_bytes (address + load_size op) then traps s Outside else
    writes s rd (loaded op (s.mem (address / 4)) address)

unfoldable pub stores : Image → State → StoreOp → (address value : ℕ) → Answer
stores image s op address value =
    if not (address % store_size op == 0) then traps s Misaligned else
    if nat_lt memory_bytes (address + store_size op) then traps s Outside else
    if in_text image.text address then traps s Store else
    puts s (address / 4) (stored op (s.mem (address / 4)) address value)

-- RV32I, 'Environment Call and Breakpoints': x17 is the number of the call. 1 gets an input word,
-- 2 puts x10, and 3 ends with x10, which is 0 for return, else the number of an exception.
unfoldable pub calls : Image → State → Answer
calls image s =
    if s.reg 17 == 1 then (Get (seen s None), record s { pc = next_pc s }) else
    if s.reg 17 == 2 then (Put (seen s None) (signed (s.reg 10)), record s { pc = next_pc s }) else
    if (s.reg 17 == 3) && nat_le (s.reg 10) image.exceptions then (End (seen s None) (s.reg 10), s) else
    traps s BadCall

-- RV32I, 'Integer Register-Immediate Instructions': LUI and AUIPC
abbrev pub upper_result : UpperOp → (pc value : ℕ) → ℕ
upper_result Lui pc value = value
upper_result Auipc pc value = sum_32 pc value

-- JALR jumps to an even address
abbrev pub without_bit_0 : ℕ → ℕ
without_bit_0 a = a / 2 * 2

-- what an instruction comes to
unfoldable pub act : Image → State → Instr → Answer
act image s (Upper op rd imm) = writes s rd (upper_result op s.pc (upper_value imm))
act image s (Jal rd halves) = jumps s rd (sum_32 s.pc (jump_offset halves))
act image s (Jalr rd rs1 imm) = jumps s rd (without_bit_0 (sum_32 (s.reg rs1) (sign_12 imm)))
act image s (Branch op rs1 rs2 halves) =
    branches s (is_taken op (s.reg rs1) (s.reg rs2)) (sum_32 s.pc (branch_offset halves))
act image s (Load op rd rs1 imm) = loads s op rd (sum_32 (s.reg rs1) (sign_12 imm))
act image s (StoreTo op rs1 rs2 imm) = stores image s op (sum_32 (s.reg rs1) (sign_12 imm)) (s.reg rs2)
act image s (Immediate op rd rs1 imm) = writes s rd (immediate_result op (s.reg rs1) (sign_12 imm))
act image s (Shift op rd rs1 by) = writes s rd (shift_result op (s.reg rs1) by)
act image s (Register op rd rs1 rs2) = writes s rd (register_result op (s.reg rs1) (s.reg rs2))
act image s (Fence rd rs1 imm) = (Went (seen s None), record s { pc = next_pc s })
act image s Ecall = calls image s
act image s Ebreak = traps s Break

-- a word that holds an instruction is executed
abbrev pub decoded : Image → State → Option Instr → Answer
decoded image s None = traps s BadWord
decoded image s (Some i) = act image s i

-- the word at the program counter is read
abbrev pub fetched : Image → State → Option ℕ → Answer
fetched image s None = traps s Outside
fetched image s (Some word) = decoded image s (instr_of word)

-- one step: what comes of the word at the program counter
unfoldable pub step : Image → State → Answer
step image s = fetched image s (text_word image.text s.pc)
