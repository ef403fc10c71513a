-- Words that are known from elsewhere, as the definitions give them.
use Rattle.std.proofs.Common.{◌≡◌, ◌-◌, ◌^◌, refl}
use Rattle.rv_isa.specs.declared.ops.UpperOp.TheVariants.{Lui}
use Rattle.rv_isa.specs.declared.ops.BranchOp.TheVariants.{Beq}
use Rattle.rv_isa.specs.declared.ops.StoreOp.TheVariants.{Sw}
use Rattle.rv_isa.specs.declared.ops.ImmediateOp.TheVariants.{Addi}
use Rattle.rv_isa.specs.declared.ops.RegisterOp.TheVariants.{Mul}
use Rattle.rv_isa.specs.declared.instr.Instr.TheVariants.{Upper, Jal, Branch, Store, Immediate, Register, Ecall}
use Rattle.rv_isa.specs.Immediates.{sign_12, branch_offset, jump_offset}
use Rattle.rv_isa.specs.Rows.{word}

-- addi x10,x0,1
word-addi : word (Immediate Addi 10 0 1) ≡ 0x00100513
word-addi = refl

-- sw x10,-4(x8)
word-sw : word (Store Sw 8 10 0xffc) ≡ 0xfea42e23
word-sw = refl

sign_12-sw : sign_12 0xffc ≡ 2 ^ 32 - 4
sign_12-sw = refl

-- mul x5,x6,x7
word-mul : word (Register Mul 5 6 7) ≡ 0x027302b3
word-mul = refl

-- jal x1,2048
word-jal : word (Jal 1 1024) ≡ 0x001000ef
word-jal = refl

jump_offset-jal : jump_offset 1024 ≡ 2048
jump_offset-jal = refl

-- beq x0,x0,8
word-beq : word (Branch Beq 0 0 4) ≡ 0x00000463
word-beq = refl

branch_offset-beq : branch_offset 4 ≡ 8
branch_offset-beq = refl

-- bne x10,x0,-4096
branch_offset-bne : branch_offset 0x800 ≡ 2 ^ 32 - 4096
branch_offset-bne = refl

-- lui x5,0x12345
word-lui : word (Upper Lui 5 0x12345) ≡ 0x123452b7
word-lui = refl

-- ecall
word-ecall : word Ecall ≡ 0x00000073
word-ecall = refl
