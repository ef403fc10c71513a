-- Values that are known from elsewhere, as the definitions give them: the vectors of the RISC-V
-- architecture's own instruction tests, and cases worked out from the manual.
use Rattle.std.proofs.Common.{◌≡◌, ℕ, Bool, true, false, List, [], ◌∷◌, map, Some, None, ℤ, pos, negsuc, refl, length}
use Rattle.rv_isa.specs.declared.ops.BranchOp.TheVariants.{Beq, Bne, Blt, Bge, Bltu, Bgeu}
use Rattle.rv_isa.specs.declared.ops.LoadOp.TheVariants.{Lb, Lh, Lw, Lbu, Lhu}
use Rattle.rv_isa.specs.declared.ops.StoreOp.TheVariants.{Sb, Sh, Sw}
use Rattle.rv_isa.specs.declared.ops.ImmediateOp.TheVariants.{Addi, Slti, Sltiu, Xori, Ori, Andi}
use Rattle.rv_isa.specs.declared.ops.ShiftOp.TheVariants.{Slli, Srli, Srai}
use Rattle.rv_isa.specs.declared.ops.RegisterOp.TheVariants.{Add, Sub, Sll, Slt, Sltu, Xor, Srl, Sra, Or, And, Mul, Mulh, Mulhsu, Mulhu, Div, Divu, Rem, Remu}
use Rattle.rv_isa.specs.Immediates.{sign_12}
use Rattle.rv_semantics.specs.declared.stepped.Seen.{Seen}
use Rattle.rv_semantics.specs.declared.stepped.TrapWhy.TheVariants.{Outside, BadWord, Break, BadCall, Misaligned, Store}
use Rattle.rv_semantics.specs.declared.stepped.Stepped.{Stepped}
use Rattle.rv_semantics.specs.declared.stepped.Stepped.TheVariants.{Went, Get, Put, End, Trap}
use Rattle.rv_semantics.specs.Arithmetic.{is_taken, immediate_result, shift_result, register_result}
use Rattle.rv_semantics.specs.Bytes.{loaded, stored}
use Rattle.rv_semantics.specs.State.{Image, State, start, given, at}
use Rattle.rv_semantics.specs.Step.{Answer, writes, puts, jumps, branches, loads, stores, calls, act, step}
use Rattle.rv_semantics.specs.Run.{Outcome, Run, runs}
use Rattle.rv_semantics.specs.Run.Outcome.{Ended, Cut}

-- register-register operations
add_vectors : map (λ (x : ℕ × ℕ). register_result Add x.0 x.1) ((0x0, 0x0) ∷ (0x1, 0x1) ∷ (0x3, 0x7) ∷ (0x0, 0xffff8000) ∷ (0x80000000, 0xffff8000) ∷ (0x7fffffff, 0x7fff) ∷ (0xffffffff, 0xffffffff) ∷ []) ≡ 0x0 ∷ 0x2 ∷ 0xa ∷ 0xffff8000 ∷ 0x7fff8000 ∷ 0x80007ffe ∷ 0xfffffffe ∷ []
add_vectors = refl

sub_vectors : map (λ (x : ℕ × ℕ). register_result Sub x.0 x.1) ((0x0, 0x0) ∷ (0x3, 0x7) ∷ (0x0, 0xffff8000) ∷ (0x80000000, 0xffff8000) ∷ (0x7fffffff, 0xffffffff) ∷ []) ≡ 0x0 ∷ 0xfffffffc ∷ 0x8000 ∷ 0x80008000 ∷ 0x80000000 ∷ []
sub_vectors = refl

sll_vectors : map (λ (x : ℕ × ℕ). register_result Sll x.0 x.1) ((0x1, 0x1f) ∷ (0x21212121, 0xffffffce) ∷ (0x1, 0x20) ∷ []) ≡ 0x80000000 ∷ 0x48484000 ∷ 0x1 ∷ []
sll_vectors = refl

slt_vectors : map (λ (x : ℕ × ℕ). register_result Slt x.0 x.1) ((0xffffffff, 0x0) ∷ (0x0, 0xffffffff) ∷ (0x80000000, 0x7fffffff) ∷ (0x1, 0x1) ∷ []) ≡ 0x1 ∷ 0x0 ∷ 0x1 ∷ 0x0 ∷ []
slt_vectors = refl

sltu_vectors : map (λ (x : ℕ × ℕ). register_result Sltu x.0 x.1) ((0xffffffff, 0x0) ∷ (0x0, 0xffffffff) ∷ (0x80000000, 0x7fffffff) ∷ []) ≡ 0x0 ∷ 0x1 ∷ 0x0 ∷ []
sltu_vectors = refl

xor_vectors : map (λ (x : ℕ × ℕ). register_result Xor x.0 x.1) ((0xff00ff00, 0xf0f0f0f) ∷ []) ≡ 0xf00ff00f ∷ []
xor_vectors = refl

srl_vectors : map (λ (x : ℕ × ℕ). register_result Srl x.0 x.1) ((0x80000000, 0x1f) ∷ (0x21212121, 0xffffffce) ∷ []) ≡ 0x1 ∷ 0x8484 ∷ []
srl_vectors = refl

sra_vectors : map (λ (x : ℕ × ℕ). register_result Sra x.0 x.1) ((0x80000000, 0x1f) ∷ (0x7fffffff, 0x1f) ∷ (0x81818181, 0xffffffce) ∷ []) ≡ 0xffffffff ∷ 0x0 ∷ 0xfffe0606 ∷ []
sra_vectors = refl

or_vectors : map (λ (x : ℕ × ℕ). register_result Or x.0 x.1) ((0xff00ff00, 0xf0f0f0f) ∷ []) ≡ 0xff0fff0f ∷ []
or_vectors = refl

and_vectors : map (λ (x : ℕ × ℕ). register_result And x.0 x.1) ((0xff00ff00, 0xf0f0f0f) ∷ []) ≡ 0xf000f00 ∷ []
and_vectors = refl

mul_vectors : map (λ (x : ℕ × ℕ). register_result Mul x.0 x.1) ((0x7e00, 0xb6db6db7) ∷ (0x80000000, 0xffff8000) ∷ (0xaaaaaaab, 0x2fe7d) ∷ (0xffffffff, 0xffffffff) ∷ []) ≡ 0x1200 ∷ 0x0 ∷ 0xff7f ∷ 0x1 ∷ []
mul_vectors = refl

mulh_vectors : map (λ (x : ℕ × ℕ). register_result Mulh x.0 x.1) ((0x80000000, 0xffff8000) ∷ (0xaaaaaaab, 0x2fe7d) ∷ (0xff000000, 0xff000000) ∷ (0xffffffff, 0xffffffff) ∷ (0xffffffff, 0x1) ∷ []) ≡ 0x4000 ∷ 0xffff0081 ∷ 0x10000 ∷ 0x0 ∷ 0xffffffff ∷ []
mulh_vectors = refl

mulhsu_vectors : map (λ (x : ℕ × ℕ). register_result Mulhsu x.0 x.1) ((0x80000000, 0xffff8000) ∷ (0xaaaaaaab, 0x2fe7d) ∷ (0x2fe7d, 0xaaaaaaab) ∷ (0xff000000, 0xff000000) ∷ (0xffffffff, 0xffffffff) ∷ (0xffffffff, 0x1) ∷ (0x1, 0xffffffff) ∷ []) ≡ 0x80004000 ∷ 0xffff0081 ∷ 0x1fefe ∷ 0xff010000 ∷ 0xffffffff ∷ 0xffffffff ∷ 0x0 ∷ []
mulhsu_vectors = refl

mulhu_vectors : map (λ (x : ℕ × ℕ). register_result Mulhu x.0 x.1) ((0x80000000, 0xffff8000) ∷ (0xaaaaaaab, 0x2fe7d) ∷ (0xff000000, 0xff000000) ∷ (0xffffffff, 0xffffffff) ∷ (0xffffffff, 0x1) ∷ []) ≡ 0x7fffc000 ∷ 0x1fefe ∷ 0xfe010000 ∷ 0xfffffffe ∷ 0x0 ∷ []
mulhu_vectors = refl

div_vectors : map (λ (x : ℕ × ℕ). register_result Div x.0 x.1) ((0x14, 0x6) ∷ (0xffffffec, 0x6) ∷ (0x14, 0xfffffffa) ∷ (0xffffffec, 0xfffffffa) ∷ (0x80000000, 0x1) ∷ (0x80000000, 0xffffffff) ∷ (0x80000000, 0x0) ∷ (0x1, 0x0) ∷ (0x0, 0x0) ∷ []) ≡ 0x3 ∷ 0xfffffffd ∷ 0xfffffffd ∷ 0x3 ∷ 0x80000000 ∷ 0x80000000 ∷ 0xffffffff ∷ 0xffffffff ∷ 0xffffffff ∷ []
div_vectors = refl

divu_vectors : map (λ (x : ℕ × ℕ). register_result Divu x.0 x.1) ((0x14, 0x6) ∷ (0xffffffec, 0x6) ∷ (0x14, 0xfffffffa) ∷ (0xffffffec, 0xfffffffa) ∷ (0x80000000, 0x1) ∷ (0x80000000, 0xffffffff) ∷ (0x80000000, 0x0) ∷ (0x1, 0x0) ∷ (0x0, 0x0) ∷ []) ≡ 0x3 ∷ 0x2aaaaaa7 ∷ 0x0 ∷ 0x0 ∷ 0x80000000 ∷ 0x0 ∷ 0xffffffff ∷ 0xffffffff ∷ 0xffffffff ∷ []
divu_vectors = refl

rem_vectors : map (λ (x : ℕ × ℕ). register_result Rem x.0 x.1) ((0x14, 0x6) ∷ (0xffffffec, 0x6) ∷ (0x14, 0xfffffffa) ∷ (0xffffffec, 0xfffffffa) ∷ (0x80000000, 0x1) ∷ (0x80000000, 0xffffffff) ∷ (0x80000000, 0x0) ∷ (0x1, 0x0) ∷ (0x0, 0x0) ∷ []) ≡ 0x2 ∷ 0xfffffffe ∷ 0x2 ∷ 0xfffffffe ∷ 0x0 ∷ 0x0 ∷ 0x80000000 ∷ 0x1 ∷ 0x0 ∷ []
rem_vectors = refl

remu_vectors : map (λ (x : ℕ × ℕ). register_result Remu x.0 x.1) ((0x14, 0x6) ∷ (0xffffffec, 0x6) ∷ (0x14, 0xfffffffa) ∷ (0xffffffec, 0xfffffffa) ∷ (0x80000000, 0x1) ∷ (0x80000000, 0xffffffff) ∷ (0x80000000, 0x0) ∷ (0x1, 0x0) ∷ (0x0, 0x0) ∷ []) ≡ 0x2 ∷ 0x2 ∷ 0x14 ∷ 0xffffffec ∷ 0x0 ∷ 0x80000000 ∷ 0x80000000 ∷ 0x1 ∷ 0x0 ∷ []
remu_vectors = refl

-- operations on a register and an immediate of 12 bits
addi_vectors : map (λ (x : ℕ × ℕ). immediate_result Addi x.0 (sign_12 x.1)) ((0x0, 0xfff) ∷ (0x80000000, 0x800) ∷ (0x7fffffff, 0x800) ∷ (0x7fffffff, 0x7ff) ∷ []) ≡ 0xffffffff ∷ 0x7ffff800 ∷ 0x7ffff7ff ∷ 0x800007fe ∷ []
addi_vectors = refl

slti_vectors : map (λ (x : ℕ × ℕ). immediate_result Slti x.0 (sign_12 x.1)) ((0x0, 0xfff) ∷ (0x80000000, 0xfff) ∷ (0xfffffffe, 0xfff) ∷ []) ≡ 0x0 ∷ 0x1 ∷ 0x1 ∷ []
slti_vectors = refl

sltiu_vectors : map (λ (x : ℕ × ℕ). immediate_result Sltiu x.0 (sign_12 x.1)) ((0x0, 0xfff) ∷ (0x80000000, 0xfff) ∷ (0xffffffff, 0xfff) ∷ (0x80000000, 0x7ff) ∷ []) ≡ 0x1 ∷ 0x1 ∷ 0x0 ∷ 0x0 ∷ []
sltiu_vectors = refl

xori_vectors : map (λ (x : ℕ × ℕ). immediate_result Xori x.0 (sign_12 x.1)) ((0xff0f00, 0xf0f) ∷ []) ≡ 0xff00f00f ∷ []
xori_vectors = refl

ori_vectors : map (λ (x : ℕ × ℕ). immediate_result Ori x.0 (sign_12 x.1)) ((0xff00ff00, 0xf0f) ∷ []) ≡ 0xffffff0f ∷ []
ori_vectors = refl

andi_vectors : map (λ (x : ℕ × ℕ). immediate_result Andi x.0 (sign_12 x.1)) ((0xff00ff00, 0xf0f) ∷ []) ≡ 0xff00ff00 ∷ []
andi_vectors = refl

-- shifts by a constant
slli_vectors : map (λ (x : ℕ × ℕ). shift_result Slli x.0 x.1) ((0x1, 0x1f) ∷ (0x21212121, 0x7) ∷ []) ≡ 0x80000000 ∷ 0x90909080 ∷ []
slli_vectors = refl

srli_vectors : map (λ (x : ℕ × ℕ). shift_result Srli x.0 x.1) ((0x80000000, 0x1f) ∷ (0xffffffff, 0x7) ∷ []) ≡ 0x1 ∷ 0x1ffffff ∷ []
srli_vectors = refl

srai_vectors : map (λ (x : ℕ × ℕ). shift_result Srai x.0 x.1) ((0x80000000, 0x1f) ∷ (0x81818181, 0x7) ∷ []) ≡ 0xffffffff ∷ 0xff030303 ∷ []
srai_vectors = refl

-- branches
beq_vectors : map (λ (x : ℕ × ℕ). is_taken Beq x.0 x.1) ((0xffffffff, 0xffffffff) ∷ (0x0, 0x1) ∷ []) ≡ true ∷ false ∷ []
beq_vectors = refl

bne_vectors : map (λ (x : ℕ × ℕ). is_taken Bne x.0 x.1) ((0xffffffff, 0xffffffff) ∷ (0x0, 0x1) ∷ []) ≡ false ∷ true ∷ []
bne_vectors = refl

blt_vectors : map (λ (x : ℕ × ℕ). is_taken Blt x.0 x.1) ((0xffffffff, 0x0) ∷ (0x0, 0xffffffff) ∷ (0x1, 0x1) ∷ []) ≡ true ∷ false ∷ false ∷ []
blt_vectors = refl

bge_vectors : map (λ (x : ℕ × ℕ). is_taken Bge x.0 x.1) ((0xffffffff, 0x0) ∷ (0x0, 0xffffffff) ∷ (0x1, 0x1) ∷ []) ≡ false ∷ true ∷ true ∷ []
bge_vectors = refl

bltu_vectors : map (λ (x : ℕ × ℕ). is_taken Bltu x.0 x.1) ((0xffffffff, 0x0) ∷ (0x0, 0xffffffff) ∷ []) ≡ false ∷ true ∷ []
bltu_vectors = refl

bgeu_vectors : map (λ (x : ℕ × ℕ). is_taken Bgeu x.0 x.1) ((0xffffffff, 0x0) ∷ (0x0, 0xffffffff) ∷ []) ≡ true ∷ false ∷ []
bgeu_vectors = refl

-- loads from the word of the bytes ff, 00, f0, 0f, and from one whose upper half-word is negative
lb_vectors : map (λ (x : ℕ × ℕ). loaded Lb x.0 x.1) ((0xff000ff, 0x2000) ∷ (0xff000ff, 0x2001) ∷ (0xff000ff, 0x2002) ∷ (0xff000ff, 0x2003) ∷ []) ≡ 0xffffffff ∷ 0x0 ∷ 0xfffffff0 ∷ 0xf ∷ []
lb_vectors = refl

lbu_vectors : map (λ (x : ℕ × ℕ). loaded Lbu x.0 x.1) ((0xff000ff, 0x2000) ∷ (0xff000ff, 0x2001) ∷ (0xff000ff, 0x2002) ∷ (0xff000ff, 0x2003) ∷ []) ≡ 0xff ∷ 0x0 ∷ 0xf0 ∷ 0xf ∷ []
lbu_vectors = refl

lh_vectors : map (λ (x : ℕ × ℕ). loaded Lh x.0 x.1) ((0xff000ff, 0x2000) ∷ (0xff000ff, 0x2002) ∷ (0xf00fff00, 0x2002) ∷ []) ≡ 0xff ∷ 0xff0 ∷ 0xfffff00f ∷ []
lh_vectors = refl

lhu_vectors : map (λ (x : ℕ × ℕ). loaded Lhu x.0 x.1) ((0xff000ff, 0x2000) ∷ (0xff000ff, 0x2002) ∷ (0xf00fff00, 0x2002) ∷ []) ≡ 0xff ∷ 0xff0 ∷ 0xf00f ∷ []
lhu_vectors = refl

lw_vectors : map (λ (x : ℕ × ℕ). loaded Lw x.0 x.1) ((0xff000ff, 0x2000) ∷ []) ≡ 0xff000ff ∷ []
lw_vectors = refl

-- stores of 0x5678ab12 into that word
sb_vectors : map (λ (x : ℕ × ℕ). stored Sb x.0 x.1 0x5678ab12) ((0xff000ff, 0x2000) ∷ (0xff000ff, 0x2001) ∷ (0xff000ff, 0x2002) ∷ (0xff000ff, 0x2003) ∷ []) ≡ 0xff00012 ∷ 0xff012ff ∷ 0xf1200ff ∷ 0x12f000ff ∷ []
sb_vectors = refl

sh_vectors : map (λ (x : ℕ × ℕ). stored Sh x.0 x.1 0x5678ab12) ((0xff000ff, 0x2000) ∷ (0xff000ff, 0x2002) ∷ []) ≡ 0xff0ab12 ∷ 0xab1200ff ∷ []
sh_vectors = refl

sw_vectors : map (λ (x : ℕ × ℕ). stored Sw x.0 x.1 0x5678ab12) ((0xff000ff, 0x2000) ∷ []) ≡ 0x5678ab12 ∷ []
sw_vectors = refl

-- whole steps of a text of one word

abbrev one_word : ℕ → Image
one_word word = record { text = word ∷ []; exceptions = 4 }

-- the machine at the text's start, where one register has a value and the memory is zero
abbrev where_reg : (register value : ℕ) → State
where_reg register value = record { pc = 0x10000; reg = at (λ _. 0) register value; mem = λ _. 0 }

-- what a step comes to, the program counter after it, and a register, or a word of memory
abbrev shows_reg : Answer → ℕ → Stepped × ℕ × ℕ
shows_reg answer register = (answer.0, answer.1.pc, answer.1.reg register)

abbrev shows_mem : Answer → ℕ → Stepped × ℕ × ℕ
shows_mem answer word = (answer.0, answer.1.pc, answer.1.mem word)

abbrev plain : ℕ → Stepped
plain x8 = Went (record { pc = 0x10000; edge = None; x8 = x8 })

abbrev branch : Bool → Stepped
branch taken = Went (record { pc = 0x10000; edge = Some taken; x8 = 0 })

abbrev call : Seen
call = record { pc = 0x10000; edge = None; x8 = 0 }

-- jalr x1,0(x10) clears bit 0 and leaves the address of the next instruction
jalr_odd : shows_reg (step (one_word 0x500e7) (where_reg 10 0x20005)) 1 ≡ (plain 0, 0x20004, 0x10004)
unfolding writes puts jumps branches loads stores calls act step
jalr_odd = refl

-- jalr x10,0(x10) jumps by the old x10
jalr_same : shows_reg (step (one_word 0x50567) (where_reg 10 0x20000)) 10 ≡ (plain 0, 0x20000, 0x10004)
unfolding writes puts jumps branches loads stores calls act step
jalr_same = refl

-- an even target that is no multiple of 4
jalr_misaligned : step (one_word 0x500e7) (where_reg 10 0x20006) ≡ (Trap 0x10000 Misaligned, where_reg 10 0x20006)
unfolding writes puts jumps branches loads stores calls act step
jalr_misaligned = refl

-- jal x1,2048, where x8 is shown
jal_far : shows_reg (step (one_word 0x1000ef) (where_reg 8 0x1000)) 1 ≡ (plain 0x1000, 0x10800, 0x10004)
unfolding writes puts jumps branches loads stores calls act step
jal_far = refl

-- jal x1,2
jal_misaligned : step (one_word 0x2000ef) (where_reg 8 0x0) ≡ (Trap 0x10000 Misaligned, where_reg 8 0x0)
unfolding writes puts jumps branches loads stores calls act step
jal_misaligned = refl

-- beq x0,x0,8
beq_taken : shows_reg (step (one_word 0x463) (where_reg 1 0x0)) 1 ≡ (branch true, 0x10008, 0)
unfolding writes puts jumps branches loads stores calls act step
beq_taken = refl

-- bne x0,x0,8
bne_not_taken : shows_reg (step (one_word 0x1463) (where_reg 1 0x0)) 1 ≡ (branch false, 0x10004, 0)
unfolding writes puts jumps branches loads stores calls act step
bne_not_taken = refl

-- bne x0,x0,2 is not taken, so its target does not count
bne_odd_not_taken : shows_reg (step (one_word 0x1163) (where_reg 1 0x0)) 1 ≡ (branch false, 0x10004, 0)
unfolding writes puts jumps branches loads stores calls act step
bne_odd_not_taken = refl

-- beq x0,x0,2
beq_misaligned : step (one_word 0x163) (where_reg 1 0x0) ≡ (Trap 0x10000 Misaligned, where_reg 1 0x0)
unfolding writes puts jumps branches loads stores calls act step
beq_misaligned = refl

-- lui x5,0x12345
lui_value : shows_reg (step (one_word 0x123452b7) (where_reg 1 0x0)) 5 ≡ (plain 0, 0x10004, 0x12345000)
unfolding writes puts jumps branches loads stores calls act step
lui_value = refl

-- auipc x5,0x12345
auipc_value : shows_reg (step (one_word 0x12345297) (where_reg 1 0x0)) 5 ≡ (plain 0, 0x10004, 0x12355000)
unfolding writes puts jumps branches loads stores calls act step
auipc_value = refl

-- addi x0,x0,1
x0_stays : shows_reg (step (one_word 0x100013) (where_reg 1 0x0)) 0 ≡ (plain 0, 0x10004, 0)
unfolding writes puts jumps branches loads stores calls act step
x0_stays = refl

-- fence
fence_does_nothing : shows_reg (step (one_word 0xff0000f) (where_reg 5 0x7)) 5 ≡ (plain 0, 0x10004, 7)
unfolding writes puts jumps branches loads stores calls act step
fence_does_nothing = refl

-- sw x10,0(x10) at the first address after the text
sw_there : shows_mem (step (one_word 0xa52023) (where_reg 10 0x10004)) 0x4001 ≡ (plain 0, 0x10004, 0x10004)
unfolding writes puts jumps branches loads stores calls act step
sw_there = refl

-- in the text
sw_into_text : step (one_word 0xa52023) (where_reg 10 0x10000) ≡ (Trap 0x10000 Store, where_reg 10 0x10000)
unfolding writes puts jumps branches loads stores calls act step
sw_into_text = refl

-- sb x10,0(x10) at the last byte of the text
sb_into_text : step (one_word 0xa50023) (where_reg 10 0x10003) ≡ (Trap 0x10000 Store, where_reg 10 0x10003)
unfolding writes puts jumps branches loads stores calls act step
sb_into_text = refl

-- sw x10,0(x10) before the text
sw_before_text : shows_mem (step (one_word 0xa52023) (where_reg 10 0xfffc)) 0x3fff ≡ (plain 0, 0x10004, 0xfffc)
unfolding writes puts jumps branches loads stores calls act step
sw_before_text = refl

-- misaligned comes before a store into text
sw_misaligned_text : step (one_word 0xa52023) (where_reg 10 0x10002) ≡ (Trap 0x10000 Misaligned, where_reg 10 0x10002)
unfolding writes puts jumps branches loads stores calls act step
sw_misaligned_text = refl

-- and before an address past memory
sw_misaligned_past : step (one_word 0xa52023) (where_reg 10 0x2000002) ≡ (Trap 0x10000 Misaligned, where_reg 10 0x2000002)
unfolding writes puts jumps branches loads stores calls act step
sw_misaligned_past = refl

-- sh x10,0(x10)
sh_misaligned : step (one_word 0xa51023) (where_reg 10 0x20001) ≡ (Trap 0x10000 Misaligned, where_reg 10 0x20001)
unfolding writes puts jumps branches loads stores calls act step
sh_misaligned = refl

-- sw x10,0(x10) at the end of memory
sw_past : step (one_word 0xa52023) (where_reg 10 0x2000000) ≡ (Trap 0x10000 Outside, where_reg 10 0x2000000)
unfolding writes puts jumps branches loads stores calls act step
sw_past = refl

-- and in its last word
sw_last : shows_mem (step (one_word 0xa52023) (where_reg 10 0x1fffffc)) 0x7fffff ≡ (plain 0, 0x10004, 0x1fffffc)
unfolding writes puts jumps branches loads stores calls act step
sw_last = refl

-- lw x5,0(x10)
lw_past : step (one_word 0x52283) (where_reg 10 0x2000000) ≡ (Trap 0x10000 Outside, where_reg 10 0x2000000)
unfolding writes puts jumps branches loads stores calls act step
lw_past = refl

-- lw x5,-4(x10) at address 2 ^ 32 - 4
lw_around : step (one_word 0xffc52283) (where_reg 10 0x0) ≡ (Trap 0x10000 Outside, where_reg 10 0x0)
unfolding writes puts jumps branches loads stores calls act step
lw_around = refl

-- lb x5,0(x10) of the last byte
lb_last : shows_reg (step (one_word 0x50283) (where_reg 10 0x1ffffff)) 5 ≡ (plain 0, 0x10004, 0)
unfolding writes puts jumps branches loads stores calls act step
lb_last = refl

-- lb x5,0(x10) past it
lb_past : step (one_word 0x50283) (where_reg 10 0x2000000) ≡ (Trap 0x10000 Outside, where_reg 10 0x2000000)
unfolding writes puts jumps branches loads stores calls act step
lb_past = refl

-- ebreak
ebreak_traps : step (one_word 0x100073) (where_reg 1 0x0) ≡ (Trap 0x10000 Break, where_reg 1 0x0)
unfolding writes puts jumps branches loads stores calls act step
ebreak_traps = refl

-- a word of zeros is no instruction
zero_traps : step (one_word 0x0) (where_reg 1 0x0) ≡ (Trap 0x10000 BadWord, where_reg 1 0x0)
unfolding writes puts jumps branches loads stores calls act step
zero_traps = refl

-- ecall, with x17 = 2
put_word : shows_reg (step (one_word 0x73) (where_reg 17 0x2)) 17 ≡ (Put call (pos 0), 0x10004, 2)
unfolding writes puts jumps branches loads stores calls act step
put_word = refl

-- ecall, with x17 = 1
get_word : shows_reg (step (one_word 0x73) (where_reg 17 0x1)) 17 ≡ (Get call, 0x10004, 1)
unfolding writes puts jumps branches loads stores calls act step
get_word = refl

-- ecall, with x17 = 3
end_word : shows_reg (step (one_word 0x73) (where_reg 17 0x3)) 17 ≡ (End call 0, 0x10000, 3)
unfolding writes puts jumps branches loads stores calls act step
end_word = refl

-- ecall, with x17 = 0
no_such_call : step (one_word 0x73) (where_reg 17 0x0) ≡ (Trap 0x10000 BadCall, where_reg 17 0x0)
unfolding writes puts jumps branches loads stores calls act step
no_such_call = refl

-- ecall, with x17 = 2 ^ 8 + 3
call_by_whole_word : step (one_word 0x73) (where_reg 17 0x103) ≡ (Trap 0x10000 BadCall, where_reg 17 0x103)
unfolding writes puts jumps branches loads stores calls act step
call_by_whole_word = refl

-- an ending number that the object holds, and one that it does not
abbrev ending_with : ℕ → State
ending_with number = record { pc = 0x10000; reg = at (at (λ _. 0) 17 3) 10 number; mem = λ _. 0 }

ends_by_4 : (step (one_word 0x73) (ending_with 4)).0 ≡ End call 4
unfolding writes puts jumps branches loads stores calls act step
ends_by_4 = refl

traps_by_5 : (step (one_word 0x73) (ending_with 5)).0 ≡ Trap 0x10000 BadCall
unfolding writes puts jumps branches loads stores calls act step
traps_by_5 = refl

-- a program counter after the text, and one before it
after_the_text : (step (one_word 0x73) (record { pc = 0x10004; reg = λ _. 0; mem = λ _. 0 })).0 ≡ Trap 0x10004 Outside
unfolding writes puts jumps branches loads stores calls act step
after_the_text = refl

before_the_text : (step (one_word 0x73) (record { pc = 0xfffc; reg = λ _. 0; mem = λ _. 0 })).0 ≡ Trap 0xfffc Outside
unfolding writes puts jumps branches loads stores calls act step
before_the_text = refl

-- a program that gets a word, puts it, and returns: addi x17,x0,1; ecall; addi x17,x0,2; ecall;
-- addi x17,x0,3; addi x10,x0,0; ecall
abbrev echo : Image
echo = record {
  text = 0x00100893 ∷ 0x73 ∷ 0x00200893 ∷ 0x73 ∷ 0x00300893 ∷ 0x00000513 ∷ 0x73 ∷ [];
  exceptions = 4;
}

abbrev started : State
started = start echo 0x10000 0x01000000 (7 ∷ [])

-- its output, how many instructions it executes, and its outcome
abbrev shows : Run → List ℤ × ℕ × Outcome
shows run = (run.output, length run.entries, run.outcome)

echoes : shows (runs echo 100 started (negsuc 6 ∷ [])) ≡ (negsuc 6 ∷ [], 7, Ended 0)
unfolding writes puts jumps branches loads stores calls act step given start runs
echoes = refl

ends_at_its_budget : shows (runs echo 7 started (negsuc 6 ∷ [])) ≡ (negsuc 6 ∷ [], 7, Ended 0)
unfolding writes puts jumps branches loads stores calls act step given start runs
ends_at_its_budget = refl

is_cut : shows (runs echo 6 started (negsuc 6 ∷ [])) ≡ (negsuc 6 ∷ [], 6, Cut)
unfolding writes puts jumps branches loads stores calls act step given start runs
is_cut = refl

-- at the end of the input x10 is 0 and x11 is 1
echoes_nothing : shows (runs echo 100 started []) ≡ (pos 0 ∷ [], 7, Ended 0)
unfolding writes puts jumps branches loads stores calls act step given start runs
echoes_nothing = refl

is_at_the_end : (given (where_reg 10 9) None).reg 11 ≡ 1
unfolding given
is_at_the_end = refl

-- the stack pointer, a word of the text and one of the data before the first instruction
starts : started.reg 2 ∷ started.mem 0x4001 ∷ started.mem 0x400000 ∷ [] ≡ 0x02000000 ∷ 0x73 ∷ 7 ∷ []
unfolding start
starts = refl
