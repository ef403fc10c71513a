-- The instruction that a word holds, read off its fields.
use Rattle.std.specs.Prelude.{ℕ, ◌==◌, ◌&&◌, ◌||◌, [], ◌∷◌, Option, Some, None, find, option_map, if◌then◌else◌}
use Rattle.rv_isa.specs.declared.ops.UpperOp.TheVariants.{Lui, Auipc}
use Rattle.rv_isa.specs.declared.ops.BranchOp.{BranchOp}
use Rattle.rv_isa.specs.declared.ops.BranchOp.TheVariants.{Beq, Bne, Blt, Bge, Bltu, Bgeu}
use Rattle.rv_isa.specs.declared.ops.LoadOp.{LoadOp}
use Rattle.rv_isa.specs.declared.ops.LoadOp.TheVariants.{Lb, Lh, Lw, Lbu, Lhu}
use Rattle.rv_isa.specs.declared.ops.StoreOp.{StoreOp}
use Rattle.rv_isa.specs.declared.ops.StoreOp.TheVariants.{Sb, Sh, Sw}
use Rattle.rv_isa.specs.declared.ops.ImmediateOp.{ImmediateOp}
use Rattle.rv_isa.specs.declared.ops.ImmediateOp.TheVariants.{Addi, Slti, Sltiu, Xori, Ori, Andi}
use Rattle.rv_isa.specs.declared.ops.ShiftOp.{ShiftOp}
use Rattle.rv_isa.specs.declared.ops.ShiftOp.TheVariants.{Slli, Srli, Srai}
use Rattle.rv_isa.specs.declared.ops.RegisterOp.{RegisterOp}
use Rattle.rv_isa.specs.declared.ops.RegisterOp.TheVariants.{Add, Sub, Sll, Slt, Sltu, Xor, Srl, Sra, Or, And, Mul, Mulh, Mulhsu, Mulhu, Div, Divu, Rem, Remu}
use Rattle.rv_isa.specs.declared.instr.Instr.{Instr}
use Rattle.rv_isa.specs.declared.instr.Instr.TheVariants.{Upper, Jal, Jalr, Branch, Load, Store, Immediate, Shift, Register, Fence, Ecall, Ebreak}
use Rattle.rv_isa.specs.Words.{opcode_of, rd_of, funct3_of, rs1_of, rs2_of, funct7_of, i_imm_of, s_imm_of, b_halves_of, u_imm_of, j_halves_of}
use Rattle.rv_isa.specs.Rows.{branch_funct3, load_funct3, store_funct3, immediate_funct3, shift_functs, register_functs}

-- the operation with this funct3, or with this funct7 and funct3

abbrev pub branch_op_of : ℕ → Option BranchOp
branch_op_of funct3 = find (λ op. branch_funct3 op == funct3) (Beq ∷ Bne ∷ Blt ∷ Bge ∷ Bltu ∷ Bgeu ∷ [])

abbrev pub load_op_of : ℕ → Option LoadOp
load_op_of funct3 = find (λ op. load_funct3 op == funct3) (Lb ∷ Lh ∷ Lw ∷ Lbu ∷ Lhu ∷ [])

abbrev pub store_op_of : ℕ → Option StoreOp
store_op_of funct3 = find (λ op. store_funct3 op == funct3) (Sb ∷ Sh ∷ Sw ∷ [])

abbrev pub immediate_op_of : ℕ → Option ImmediateOp
immediate_op_of funct3 =
    find (λ op. immediate_funct3 op == funct3) (Addi ∷ Slti ∷ Sltiu ∷ Xori ∷ Ori ∷ Andi ∷ [])

abbrev pub shift_op_of : (funct7 funct3 : ℕ) → Option ShiftOp
shift_op_of funct7 funct3 =
    find
    (λ op. ((shift_functs op).0 == funct7) && ((shift_functs op).1 == funct3))
    (Slli ∷ Srli ∷ Srai ∷ [])

abbrev pub register_op_of : (funct7 funct3 : ℕ) → Option RegisterOp
register_op_of funct7 funct3 =
    find
    (λ op. ((register_functs op).0 == funct7) && ((register_functs op).1 == funct3))
    (Add ∷ Sub ∷ Sll ∷ Slt ∷ Sltu ∷ Xor ∷ Srl ∷ Sra ∷ Or ∷ And ∷ Mul ∷ Mulh ∷ Mulhsu ∷ Mulhu ∷ Div ∷ Divu ∷ Rem ∷ Remu ∷ [])

-- the instruction of a word; a word of no row has none
abbrev pub instr_of : ℕ → Option Instr
instr_of w =
    let opcode = opcode_of w in
    let rd = rd_of w in
    let funct3 = funct3_of w in
    let rs1 = rs1_of w in
    let rs2 = rs2_of w in
    let funct7 = funct7_of w in
    if opcode == 0x37 then Some (Upper Lui rd (u_imm_of w)) else
    if opcode == 0x17 then Some (Upper Auipc rd (u_imm_of w)) else
    if opcode == 0x6f then Some (Jal rd (j_halves_of w)) else
    if (opcode == 0x67) && (funct3 == 0) then Some (Jalr rd rs1 (i_imm_of w)) else
    if opcode == 0x63 then option_map (λ op. Branch op rs1 rs2 (b_halves_of w)) (branch_op_of funct3) else
    if opcode == 0x03 then option_map (λ op. Load op rd rs1 (i_imm_of w)) (load_op_of funct3) else
    if opcode == 0x23 then option_map (λ op. Store op rs1 rs2 (s_imm_of w)) (store_op_of funct3) else
    if (opcode == 0x13) && ((funct3 == 1) || (funct3 == 5)) then
    option_map (λ op. Shift op rd rs1 rs2) (shift_op_of funct7 funct3) else
    if opcode == 0x13 then option_map (λ op. Immediate op rd rs1 (i_imm_of w)) (immediate_op_of funct3) else
    if opcode == 0x33 then option_map (λ op. Register op rd rs1 rs2) (register_op_of funct7 funct3) else
    if (opcode == 0x0f) && (funct3 == 0) then Some (Fence rd rs1 (i_imm_of w)) else
    if w == 0x00000073 then Some Ecall else
    if w == 0x00100073 then Some Ebreak else
    None
