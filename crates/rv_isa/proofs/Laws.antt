-- Each instruction is read back from its word.
use Rattle.std.proofs.Common.{◌≡◌, ◌≢◌, ℕ, ◌^◌, ◌<◌, Option, Some, None, IfNone, refl, arith, lit<, subst}
use Rattle.rv_isa.specs.declared.ops.UpperOp.{UpperOp}
use Rattle.rv_isa.specs.declared.ops.UpperOp.TheVariants.{Lui, Auipc}
use Rattle.rv_isa.specs.declared.ops.BranchOp.{BranchOp}
use Rattle.rv_isa.specs.declared.ops.BranchOp.TheVariants.{Beq}
use Rattle.rv_isa.specs.declared.ops.LoadOp.{LoadOp}
use Rattle.rv_isa.specs.declared.ops.LoadOp.TheVariants.{Lb}
use Rattle.rv_isa.specs.declared.ops.StoreOp.{StoreOp}
use Rattle.rv_isa.specs.declared.ops.StoreOp.TheVariants.{Sb}
use Rattle.rv_isa.specs.declared.ops.ImmediateOp.{ImmediateOp}
use Rattle.rv_isa.specs.declared.ops.ImmediateOp.TheVariants.{Addi}
use Rattle.rv_isa.specs.declared.ops.ShiftOp.{ShiftOp}
use Rattle.rv_isa.specs.declared.ops.ShiftOp.TheVariants.{Slli}
use Rattle.rv_isa.specs.declared.ops.RegisterOp.{RegisterOp}
use Rattle.rv_isa.specs.declared.ops.RegisterOp.TheVariants.{Add}
use Rattle.rv_isa.specs.declared.instr.Instr.{Instr}
use Rattle.rv_isa.specs.declared.instr.Instr.TheVariants.{Upper, Jal, Jalr, Branch, Load, Store, Immediate, Shift, Register, Fence, Ecall, Ebreak}
use Rattle.rv_isa.specs.Words.{opcode_of, rd_of, funct3_of, rs1_of, rs2_of, funct7_of, i_imm_of, s_imm_of, b_halves_of, u_imm_of, j_halves_of}
use Rattle.rv_isa.specs.Rows.{upper_opcode, branch_funct3, load_funct3, store_funct3, immediate_funct3, shift_functs, register_functs, word, IsInstr}
use Rattle.rv_isa.specs.Decoding.{branch_op_of, load_op_of, store_op_of, immediate_op_of, shift_op_of, register_op_of, instr_of}

-- each operation is found again by what stands in its fixed fields, which it fits

branch_again : (op : BranchOp) → branch_op_of (branch_funct3 op) ≡ Some op
branch_again Beq = refl
branch_again _ = refl

branch_within : (op : BranchOp) → branch_funct3 op < 2 ^ 3
branch_within Beq = lit< tt
branch_within _ = lit< tt

load_again : (op : LoadOp) → load_op_of (load_funct3 op) ≡ Some op
load_again Lb = refl
load_again _ = refl

load_within : (op : LoadOp) → load_funct3 op < 2 ^ 3
load_within Lb = lit< tt
load_within _ = lit< tt

store_again : (op : StoreOp) → store_op_of (store_funct3 op) ≡ Some op
store_again Sb = refl
store_again _ = refl

store_within : (op : StoreOp) → store_funct3 op < 2 ^ 3
store_within Sb = lit< tt
store_within _ = lit< tt

immediate_again : (op : ImmediateOp) → immediate_op_of (immediate_funct3 op) ≡ Some op
immediate_again Addi = refl
immediate_again _ = refl

immediate_within : (op : ImmediateOp) → immediate_funct3 op < 2 ^ 3
immediate_within Addi = lit< tt
immediate_within _ = lit< tt

shift_again : (op : ShiftOp) → shift_op_of (shift_functs op).0 (shift_functs op).1 ≡ Some op
shift_again Slli = refl
shift_again _ = refl

shift_within : (op : ShiftOp) → ((shift_functs op).0 < 2 ^ 7) × ((shift_functs op).1 < 2 ^ 3)
shift_within Slli = (lit< tt, lit< tt)
shift_within _ = (lit< tt, lit< tt)

register_again : (op : RegisterOp) → register_op_of (register_functs op).0 (register_functs op).1 ≡ Some op
register_again Add = refl
register_again _ = refl

register_within : (op : RegisterOp) → ((register_functs op).0 < 2 ^ 7) × ((register_functs op).1 < 2 ^ 3)
register_within Add = (lit< tt, lit< tt)
register_within _ = (lit< tt, lit< tt)

-- a word whose fields are those of an instruction is read as that instruction

upper_read : (w rd imm : ℕ) (op : UpperOp) →
    opcode_of w ≡ upper_opcode op → rd_of w ≡ rd → u_imm_of w ≡ imm → instr_of w ≡ Some (Upper op rd imm)
upper_read w rd imm Lui is_opcode is_rd is_imm = rw (is_opcode, is_rd, is_imm) refl
upper_read w rd imm Auipc is_opcode is_rd is_imm = rw (is_opcode, is_rd, is_imm) refl

jal_read : (w rd halves : ℕ) →
    opcode_of w ≡ 0x6f → rd_of w ≡ rd → j_halves_of w ≡ halves → instr_of w ≡ Some (Jal rd halves)
jal_read w rd halves is_opcode is_rd is_halves = rw (is_opcode, is_rd, is_halves) refl

jalr_read : (w rd rs1 imm : ℕ) →
    opcode_of w ≡ 0x67 → funct3_of w ≡ 0 → rd_of w ≡ rd → rs1_of w ≡ rs1 → i_imm_of w ≡ imm →
    instr_of w ≡ Some (Jalr rd rs1 imm)
jalr_read w rd rs1 imm is_opcode is_funct3 is_rd is_rs1 is_imm =
    rw (is_opcode, is_funct3, is_rd, is_rs1, is_imm) refl

branch_read : (w rs1 rs2 halves : ℕ) (op : BranchOp) →
    opcode_of w ≡ 0x63 → funct3_of w ≡ branch_funct3 op → rs1_of w ≡ rs1 → rs2_of w ≡ rs2 →
    b_halves_of w ≡ halves → instr_of w ≡ Some (Branch op rs1 rs2 halves)
branch_read w rs1 rs2 halves op is_opcode is_funct3 is_rs1 is_rs2 is_halves =
    rw (is_opcode, is_funct3, branch_again op, is_rs1, is_rs2, is_halves) refl

load_read : (w rd rs1 imm : ℕ) (op : LoadOp) →
    opcode_of w ≡ 0x03 → funct3_of w ≡ load_funct3 op → rd_of w ≡ rd → rs1_of w ≡ rs1 → i_imm_of w ≡ imm →
    instr_of w ≡ Some (Load op rd rs1 imm)
load_read w rd rs1 imm op is_opcode is_funct3 is_rd is_rs1 is_imm =
    rw (is_opcode, is_funct3, load_again op, is_rd, is_rs1, is_imm) refl

store_read : (w rs1 rs2 imm : ℕ) (op : StoreOp) →
    opcode_of w ≡ 0x23 → funct3_of w ≡ store_funct3 op → rs1_of w ≡ rs1 → rs2_of w ≡ rs2 → s_imm_of w ≡ imm →
    instr_of w ≡ Some (Store op rs1 rs2 imm)
store_read w rs1 rs2 imm op is_opcode is_funct3 is_rs1 is_rs2 is_imm =
    rw (is_opcode, is_funct3, store_again op, is_rs1, is_rs2, is_imm) refl

immediate_read : (w rd rs1 imm : ℕ) (op : ImmediateOp) →
    opcode_of w ≡ 0x13 → funct3_of w ≡ immediate_funct3 op → rd_of w ≡ rd → rs1_of w ≡ rs1 →
    i_imm_of w ≡ imm → instr_of w ≡ Some (Immediate op rd rs1 imm)
immediate_read w rd rs1 imm Addi is_opcode is_funct3 is_rd is_rs1 is_imm =
    rw (is_opcode, is_funct3, is_rd, is_rs1, is_imm) refl
immediate_read w rd rs1 imm _ is_opcode is_funct3 is_rd is_rs1 is_imm =
    rw (is_opcode, is_funct3, is_rd, is_rs1, is_imm) refl

shift_read : (w rd rs1 by : ℕ) (op : ShiftOp) →
    opcode_of w ≡ 0x13 → funct7_of w ≡ (shift_functs op).0 → funct3_of w ≡ (shift_functs op).1 →
    rd_of w ≡ rd → rs1_of w ≡ rs1 → rs2_of w ≡ by → instr_of w ≡ Some (Shift op rd rs1 by)
shift_read w rd rs1 by Slli is_opcode is_funct7 is_funct3 is_rd is_rs1 is_by =
    rw (is_opcode, is_funct7, is_funct3, is_rd, is_rs1, is_by) refl
shift_read w rd rs1 by _ is_opcode is_funct7 is_funct3 is_rd is_rs1 is_by =
    rw (is_opcode, is_funct7, is_funct3, is_rd, is_rs1, is_by) refl

register_read : (w rd rs1 rs2 : ℕ) (op : RegisterOp) →
    opcode_of w ≡ 0x33 → funct7_of w ≡ (register_functs op).0 → funct3_of w ≡ (register_functs op).1 →
    rd_of w ≡ rd → rs1_of w ≡ rs1 → rs2_of w ≡ rs2 → instr_of w ≡ Some (Register op rd rs1 rs2)
register_read w rd rs1 rs2 op is_opcode is_funct7 is_funct3 is_rd is_rs1 is_rs2 =
    rw (is_opcode, is_funct7, is_funct3, register_again op, is_rd, is_rs1, is_rs2) refl

fence_read : (w rd rs1 imm : ℕ) →
    opcode_of w ≡ 0x0f → funct3_of w ≡ 0 → rd_of w ≡ rd → rs1_of w ≡ rs1 → i_imm_of w ≡ imm →
    instr_of w ≡ Some (Fence rd rs1 imm)
fence_read w rd rs1 imm is_opcode is_funct3 is_rd is_rs1 is_imm =
    rw (is_opcode, is_funct3, is_rd, is_rs1, is_imm) refl

-- each instruction is read back from its word
pub again : (i : Instr) → IsInstr i → instr_of (word i) ≡ Some i
again (Upper Lui rd imm) (in_rd, in_imm) =
    upper_read (word (Upper Lui rd imm)) rd imm Lui (omega arith) (omega arith) (omega arith)
again (Upper Auipc rd imm) (in_rd, in_imm) =
    upper_read (word (Upper Auipc rd imm)) rd imm Auipc (omega arith) (omega arith) (omega arith)
again (Jal rd halves) (in_rd, in_halves) =
    jal_read (word (Jal rd halves)) rd halves (omega arith) (omega arith) (omega arith)
again (Jalr rd rs1 imm) (in_rd, in_rs1, in_imm) =
    jalr_read
    (word (Jalr rd rs1 imm))
    rd
    rs1
    imm
    (omega arith)
    (omega arith)
    (omega arith)
    (omega arith)
    (omega arith)
again (Branch op rs1 rs2 halves) (in_rs1, in_rs2, in_halves) =
    let in_funct3 = branch_within op in
    branch_read
    (word (Branch op rs1 rs2 halves))
    rs1
    rs2
    halves
    op
    (omega arith)
    (omega arith)
    (omega arith)
    (omega arith)
    (omega arith)
again (Load op rd rs1 imm) (in_rd, in_rs1, in_imm) =
    let in_funct3 = load_within op in
    load_read
    (word (Load op rd rs1 imm))
    rd
    rs1
    imm
    op
    (omega arith)
    (omega arith)
    (omega arith)
    (omega arith)
    (omega arith)
again (Store op rs1 rs2 imm) (in_rs1, in_rs2, in_imm) =
    let in_funct3 = store_within op in
    store_read
    (word (Store op rs1 rs2 imm))
    rs1
    rs2
    imm
    op
    (omega arith)
    (omega arith)
    (omega arith)
    (omega arith)
    (omega arith)
again (Immediate op rd rs1 imm) (in_rd, in_rs1, in_imm) =
    let in_funct3 = immediate_within op in
    immediate_read
    (word (Immediate op rd rs1 imm))
    rd
    rs1
    imm
    op
    (omega arith)
    (omega arith)
    (omega arith)
    (omega arith)
    (omega arith)
again (Shift op rd rs1 by) (in_rd, in_rs1, in_by) =
    let in_functs = shift_within op in
    shift_read
    (word (Shift op rd rs1 by))
    rd
    rs1
    by
    op
    (omega arith)
    (omega arith)
    (omega arith)
    (omega arith)
    (omega arith)
    (omega arith)
again (Register op rd rs1 rs2) (in_rd, in_rs1, in_rs2) =
    let in_functs = register_within op in
    register_read
    (word (Register op rd rs1 rs2))
    rd
    rs1
    rs2
    op
    (omega arith)
    (omega arith)
    (omega arith)
    (omega arith)
    (omega arith)
    (omega arith)
again (Fence rd rs1 imm) (in_rd, in_rs1, in_imm) =
    fence_read
    (word (Fence rd rs1 imm))
    rd
    rs1
    imm
    (omega arith)
    (omega arith)
    (omega arith)
    (omega arith)
    (omega arith)
again Ecall _ = refl
again Ebreak _ = refl

-- a word that holds no instruction is the word of none
pub none_from : (r : Option Instr) (bits : ℕ) → r ≡ instr_of bits → IfNone r ((i : Instr) → IsInstr i → word i ≢ bits)
none_from None bits is_none =
    λ i fits is_word.
    let read : instr_of bits ≡ Some i = subst (λ w. instr_of w ≡ Some i) is_word (again i fits) in
    cc
none_from (Some _) bits _ = tt
