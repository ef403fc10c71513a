-- Which instructions are conditional branches, and which are control transfers.
use Rattle.std.specs.Prelude.{Bool, true, false, Option, Some, None}
use Rattle.rv_isa.specs.declared.instr.Instr.{Instr}
use Rattle.rv_isa.specs.declared.instr.Instr.TheVariants.{Upper, Jal, Jalr, Branch, Load, Store, Immediate, Shift, Register, Fence, Ecall, Ebreak}

-- whether an instruction is a conditional branch
abbrev pub is_branch : Instr → Bool
is_branch (Upper op rd imm) = false
is_branch (Jal rd halves) = false
is_branch (Jalr rd rs1 imm) = false
is_branch (Branch op rs1 rs2 halves) = true
is_branch (Load op rd rs1 imm) = false
is_branch (Store op rs1 rs2 imm) = false
is_branch (Immediate op rd rs1 imm) = false
is_branch (Shift op rd rs1 by) = false
is_branch (Register op rd rs1 rs2) = false
is_branch (Fence rd rs1 imm) = false
is_branch Ecall = false
is_branch Ebreak = false

-- whether it is a control transfer: a conditional branch, JAL, JALR or ECALL
abbrev pub is_transfer : Instr → Bool
is_transfer (Upper op rd imm) = false
is_transfer (Jal rd halves) = true
is_transfer (Jalr rd rs1 imm) = true
is_transfer (Branch op rs1 rs2 halves) = true
is_transfer (Load op rd rs1 imm) = false
is_transfer (Store op rs1 rs2 imm) = false
is_transfer (Immediate op rd rs1 imm) = false
is_transfer (Shift op rd rs1 by) = false
is_transfer (Register op rd rs1 rs2) = false
is_transfer (Fence rd rs1 imm) = false
is_transfer Ecall = true
is_transfer Ebreak = false

-- whether an instruction is there and passes a test
abbrev pub holds : (Instr → Bool) → Option Instr → Bool
holds test None = false
holds test (Some i) = test i
