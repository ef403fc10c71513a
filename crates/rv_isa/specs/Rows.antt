-- The instructions of RV32I and of the M extension: what stands in the fixed fields of each, and the
-- word of each. The opcodes and functs are those of the manual's 'RV32/64G Instruction Set Listings'.
use Rattle.std.specs.Prelude.{ℕ, ◌^◌, ◌<◌}
use Rattle.rv_isa.specs.declared.ops.UpperOp.{UpperOp}
use Rattle.rv_isa.specs.declared.ops.UpperOp.TheVariants.{Lui, Auipc}
use Rattle.rv_isa.specs.declared.ops.BranchOp.{BranchOp}
use Rattle.rv_isa.specs.declared.ops.BranchOp.TheVariants.{Beq, Bne, Blt, Bge, Bltu, Bgeu}
use Rattle.rv_isa.specs.declared.ops.LoadOp.{LoadOp}
use Rattle.rv_isa.specs.declared.ops.LoadOp.TheVariants.{Lb, Lh, Lw, Lbu, Lhu}
use Rattle.rv_isa.specs.declared.ops.StoreOp.{StoreOp}
use Rattle.rv_isa.specs.declared.ops.StoreOp.TheVariants.{Sb, Sh, Sw}
use Rattle.rv_isa.specs.declared.ops.ImmediateOp.{ImmediateOp}
use Rattle.rv_isa.specs.declared.ops.ImmediateOp.TheVariants.{Addi, Slti, Sltiu, Xori, Ori, Andi}
use Rattle.rv_isa.specs.declared.ops.ShiftOp.{ShiftOp}
use Rattle.rv_isa.specs.declared.ops.ShiftOp.TheVariants.{Slli, Srli, Srai}
use Rattle.rv_isa.specs.declared.ops.RegisterOp.{RegisterOp}
use Rattle.rv_isa.specs.declared.ops.RegisterOp.TheVariants.{Add, Sub, Sll, Slt, Sltu, Xor, Srl, Sra, Or, And, Mul, Mulh, Mulhsu, Mulhu, Div, Divu, Rem, Remu}
use Rattle.rv_isa.specs.declared.instr.Instr.{Instr}
use Rattle.rv_isa.specs.declared.instr.Instr.TheVariants.{Upper, Jal, Jalr, Branch, Load, Store, Immediate, Shift, Register, Fence, Ecall, Ebreak}
use Rattle.rv_isa.specs.Words.{r_word, i_word, s_word, b_word, u_word, j_word}

-- the opcode
abbrev pub upper_opcode : UpperOp → ℕ
upper_opcode Lui = 0x37
upper_opcode Auipc = 0x17

-- funct3
abbrev pub branch_funct3 : BranchOp → ℕ
branch_funct3 Beq = 0
branch_funct3 Bne = 1
branch_funct3 Blt = 4
branch_funct3 Bge = 5
branch_funct3 Bltu = 6
branch_funct3 Bgeu = 7

-- funct3
abbrev pub load_funct3 : LoadOp → ℕ
load_funct3 Lb = 0
load_funct3 Lh = 1
load_funct3 Lw = 2
load_funct3 Lbu = 4
load_funct3 Lhu = 5

-- funct3
abbrev pub store_funct3 : StoreOp → ℕ
store_funct3 Sb = 0
store_funct3 Sh = 1
store_funct3 Sw = 2

-- funct3
abbrev pub immediate_funct3 : ImmediateOp → ℕ
immediate_funct3 Addi = 0
immediate_funct3 Slti = 2
immediate_funct3 Sltiu = 3
immediate_funct3 Xori = 4
immediate_funct3 Ori = 6
immediate_funct3 Andi = 7

-- funct7 and funct3
abbrev pub shift_functs : ShiftOp → ℕ × ℕ
shift_functs Slli = (0x00, 1)
shift_functs Srli = (0x00, 5)
shift_functs Srai = (0x20, 5)

-- funct7 and funct3
abbrev pub register_functs : RegisterOp → ℕ × ℕ
register_functs Add = (0x00, 0)
register_functs Sub = (0x20, 0)
register_functs Sll = (0x00, 1)
register_functs Slt = (0x00, 2)
register_functs Sltu = (0x00, 3)
register_functs Xor = (0x00, 4)
register_functs Srl = (0x00, 5)
register_functs Sra = (0x20, 5)
register_functs Or = (0x00, 6)
register_functs And = (0x00, 7)
register_functs Mul = (0x01, 0)
register_functs Mulh = (0x01, 1)
register_functs Mulhsu = (0x01, 2)
register_functs Mulhu = (0x01, 3)
register_functs Div = (0x01, 4)
register_functs Divu = (0x01, 5)
register_functs Rem = (0x01, 6)
register_functs Remu = (0x01, 7)

-- the word of an instruction
abbrev pub word : Instr → ℕ
word (Upper op rd imm) = u_word imm rd (upper_opcode op)
word (Jal rd halves) = j_word halves rd 0x6f
word (Jalr rd rs1 imm) = i_word imm rs1 0 rd 0x67
word (Branch op rs1 rs2 halves) = b_word halves rs2 rs1 (branch_funct3 op) 0x63
word (Load op rd rs1 imm) = i_word imm rs1 (load_funct3 op) rd 0x03
word (Store op rs1 rs2 imm) = s_word imm rs2 rs1 (store_funct3 op) 0x23
word (Immediate op rd rs1 imm) = i_word imm rs1 (immediate_funct3 op) rd 0x13
word (Shift op rd rs1 by) = r_word (shift_functs op).0 by rs1 (shift_functs op).1 rd 0x13
word (Register op rd rs1 rs2) = r_word (register_functs op).0 rs2 rs1 (register_functs op).1 rd 0x33
word (Fence rd rs1 imm) = i_word imm rs1 0 rd 0x0f
word Ecall = 0x00000073
word Ebreak = 0x00100073

-- the operands fit their fields
abbrev pub IsInstr : Instr → Type 0
IsInstr (Upper op rd imm) = (rd < 2 ^ 5) × (imm < 2 ^ 20)
IsInstr (Jal rd halves) = (rd < 2 ^ 5) × (halves < 2 ^ 20)
IsInstr (Jalr rd rs1 imm) = (rd < 2 ^ 5) × (rs1 < 2 ^ 5) × (imm < 2 ^ 12)
IsInstr (Branch op rs1 rs2 halves) = (rs1 < 2 ^ 5) × (rs2 < 2 ^ 5) × (halves < 2 ^ 12)
IsInstr (Load op rd rs1 imm) = (rd < 2 ^ 5) × (rs1 < 2 ^ 5) × (imm < 2 ^ 12)
IsInstr (Store op rs1 rs2 imm) = (rs1 < 2 ^ 5) × (rs2 < 2 ^ 5) × (imm < 2 ^ 12)
IsInstr (Immediate op rd rs1 imm) = (rd < 2 ^ 5) × (rs1 < 2 ^ 5) × (imm < 2 ^ 12)
IsInstr (Shift op rd rs1 by) = (rd < 2 ^ 5) × (rs1 < 2 ^ 5) × (by < 2 ^ 5)
IsInstr (Register op rd rs1 rs2) = (rd < 2 ^ 5) × (rs1 < 2 ^ 5) × (rs2 < 2 ^ 5)
IsInstr (Fence rd rs1 imm) = (rd < 2 ^ 5) × (rs1 < 2 ^ 5) × (imm < 2 ^ 12)
IsInstr Ecall = Unit {0}
IsInstr Ebreak = Unit {0}
