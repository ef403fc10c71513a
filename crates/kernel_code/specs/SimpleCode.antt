-- The code of the operations that hold no others. Work registers are x5, x10, x11, x13 and x14; x8 is
-- the end of the frame, and x12 is the number of an exception where one is raised. A check sets x12
-- first, and jumps to where exceptions lead unless its branch is taken.
use Rattle.std.specs.Prelude.{ℕ, ◌+◌, ◌-◌, ◌*◌, ◌/◌, ℤ, List, [], ◌∷◌, ◌++◌, map, length}
use Rattle.rv_isa.specs.declared.ops.UpperOp.TheVariants.{Lui}
use Rattle.rv_isa.specs.declared.ops.BranchOp.{BranchOp}
use Rattle.rv_isa.specs.declared.ops.BranchOp.TheVariants.{Beq, Bne, Bltu}
use Rattle.rv_isa.specs.declared.ops.ImmediateOp.TheVariants.{Addi, Slti, Sltiu, Xori}
use Rattle.rv_isa.specs.declared.ops.ShiftOp.TheVariants.{Slli, Srli, Srai}
use Rattle.rv_isa.specs.declared.ops.RegisterOp.TheVariants.{Add, Sub, Slt, Sltu, Mul, Mulh, Div, Rem}
use Rattle.rv_isa.specs.declared.ops.LoadOp.TheVariants.{Lw}
use Rattle.rv_isa.specs.declared.ops.StoreOp.TheVariants.{Sw}
use Rattle.rv_isa.specs.declared.instr.Instr.{Instr}
use Rattle.rv_isa.specs.declared.instr.Instr.TheVariants.{Upper, Load, Store, Immediate, Shift, Register, Ecall}
use Rattle.rv_semantics.specs.Layout.{data_start}
use Rattle.rv_semantics.specs.Arithmetic.{unsigned}
use Rattle.assembler.specs.declared.piece.Item.TheVariants.{Plain, Branch as BranchTo, Call}
use Rattle.kernel_ir.specs.declared.kernel.Layout.{Layout}
use Rattle.kernel_ir.specs.Layouts.{content_in}
use Rattle.kernel_ir.specs.declared.simple.Operator.{Operator}
use Rattle.kernel_ir.specs.declared.simple.Operator.TheVariants as operator
use Rattle.kernel_ir.specs.declared.simple.Relation.{Relation}
use Rattle.kernel_ir.specs.declared.simple.Relation.TheVariants as relation
use Rattle.kernel_ir.specs.declared.simple.Simple.{Simple}
use Rattle.kernel_ir.specs.declared.simple.Simple.TheVariants as simple
use Rattle.kernel_code.specs.Line.{Line, Said, plain, jump, nothing, starts, checks, steers}
use Rattle.kernel_code.specs.Words.{high, low, load_slot, store_slot, load_constant}

-- a branch to a label of the same piece
abbrev pub branch : Said → BranchOp → (rs1 rs2 to : ℕ) → Line
branch said op rs1 rs2 to = record { item = BranchTo op rs1 rs2 (record { 0 = to }); said = said }

-- straight code, a check whose branch is taken where all is well, and further straight code
abbrev pub checked : (raise_to place : ℕ) → List Instr → BranchOp → (rs1 rs2 : ℕ) → List Instr → List Line
checked raise_to place front op rs1 rs2 back =
    map plain front
    ++ (branch checks op rs1 rs2 (place + (length front + 2)) ∷ (jump raise_to ∷ map plain back))

-- x10 is 1 where the relation of x10 and x11 holds, and else 0
abbrev pub relate : Relation → List Instr → List Instr
relate relation.Equal is = Register Sub 10 10 11 ∷ Immediate Sltiu 10 10 1 ∷ is
relate relation.Unequal is = Register Sub 10 10 11 ∷ Register Sltu 10 0 10 ∷ is
relate relation.Less is = Register Slt 10 10 11 ∷ is
relate relation.AtMost is = Register Slt 10 11 10 ∷ Immediate Xori 10 10 1 ∷ is
relate relation.Greater is = Register Slt 10 11 10 ∷ is
relate relation.AtLeast is = Register Slt 10 10 11 ∷ Immediate Xori 10 10 1 ∷ is

-- The operators on x10 and x11: what is computed before the check, the branch of the check, and what
-- is computed after it, so that x14 has the result. Sums and differences overflow where they lie on the
-- wrong side of the left operand, and products where the upper word is no copy of the lower one's sign.
-- A quotient has no word for divisor 0, and for the least number divided by -1. A modulus is a
-- remainder, and the divisor is added where the product of both is negative.
abbrev pub operate_front : Operator → List Instr
operate_front operator.Add = Register Add 14 10 11 ∷ Register Slt 13 14 10 ∷ Immediate Slti 11 11 0 ∷ []
operate_front operator.Subtract = Register Sub 14 10 11 ∷ Register Slt 13 14 10 ∷ Register Slt 11 0 11 ∷ []
operate_front operator.Multiply = Register Mul 14 10 11 ∷ Register Mulh 13 10 11 ∷ Shift Srai 11 14 31 ∷ []
operate_front operator.Divide =
    Upper Lui 13 0x80000 ∷ Register Sub 13 10 13 ∷ Register Sltu 13 0 13
    ∷ Immediate Addi 14 11 1 ∷ Register Sltu 14 0 14 ∷ Register Add 13 13 14
    ∷ Register Sltu 14 0 11 ∷ Register Mul 13 13 14 ∷ []
operate_front operator.Modulo = []
operate_front operator.Remainder = []

pub record Test : Type 0 where
  pub op : BranchOp
  pub left : ℕ
  pub right : ℕ

abbrev pub operate_test : Operator → Test
operate_test operator.Add = record { op = Beq; left = 13; right = 11 }
operate_test operator.Subtract = record { op = Beq; left = 13; right = 11 }
operate_test operator.Multiply = record { op = Beq; left = 13; right = 11 }
operate_test operator.Divide = record { op = Bne; left = 13; right = 0 }
operate_test operator.Modulo = record { op = Bne; left = 11; right = 0 }
operate_test operator.Remainder = record { op = Bne; left = 11; right = 0 }

abbrev pub operate_back : Operator → List Instr → List Instr
operate_back operator.Add is = is
operate_back operator.Subtract is = is
operate_back operator.Multiply is = is
operate_back operator.Divide is = Register Div 14 10 11 ∷ is
operate_back operator.Modulo is =
    Register Rem 14 10 11 ∷ Register Mulh 13 14 11 ∷ Immediate Slti 13 13 0
    ∷ Register Mul 13 13 11 ∷ Register Add 14 14 13 ∷ is
operate_back operator.Remainder is = Register Rem 14 10 11 ∷ is

-- x12 is the number of the exception that a check raises
abbrev pub raising : ℕ → List Instr
raising number = Immediate Addi 12 0 number ∷ []

-- x13 is 0 where x11 lies between two numbers; x10 is the lower one
abbrev pub compare_bounds : (lower upper : ℤ) → List Instr
compare_bounds lower upper =
    load_constant 10 (unsigned lower)
    (load_constant 14 (unsigned upper)
    (Register Slt 13 11 10 ∷ Register Slt 14 14 11 ∷ Register Add 13 13 14 ∷ raising 1))

-- the words of the data area, which begins at word 0x400000
abbrev pub area_words : ℕ
area_words = 0x3f0000

-- x11 is how far the address in x10 lies behind the start of the area, and x13 is what it has to be
-- below, where so many words are to lie in the area
abbrev pub measure : (words : ℕ) → List Instr
measure words =
    Upper Lui 13 0x400 ∷ Register Sub 11 10 13 ∷ load_constant 13 (area_words + 1 - words) (raising 2)

-- the address of a word of the library level, in bytes
abbrev pub library_byte : (word : ℕ) → ℕ
library_byte word = data_start + 4 * word

-- where a piece's exceptions lead, where a loop is left for, and where a body returns
pub record Targets : Type 0 where
  pub raise_to : ℕ
  pub exit_to : ℕ
  pub return_to : ℕ

-- what code depends on: how wide the frame is, how many exceptions there are, the layouts, and the number
-- of the first one's piece
pub record Setting : Type 0 where
  pub width : ℕ
  pub exceptions : ℕ
  pub layouts : List Layout
  pub first_layout : ℕ

-- Copies words: x10 and x11 are the addresses in bytes, x13 how many are left. The loop begins at a
-- place.
abbrev pub copy_loop : (place : ℕ) → List Line
copy_loop place =
    branch steers Beq 13 0 (place + 7)
    ∷ (map plain (Load Lw 14 10 0 ∷ Store Sw 11 14 0 ∷ Immediate Addi 10 10 4 ∷ Immediate Addi 11 11 4 ∷ Immediate Addi 13 13 0xfff ∷ [])
    ++ (jump place ∷ []))

-- a call of a piece: x1 is the address behind it
abbrev pub call_piece : ℕ → Line
call_piece piece = record { item = Call 1 (record { 0 = piece }) (record { 0 = 0 }); said = nothing }

-- the lines of an operation, of which the first one is at a place
abbrev pub simple_lines : Setting → (raise_to place : ℕ) → Simple → List Line
simple_lines e r p (simple.Number to value) = map plain (load_constant 10 (unsigned value) (store_slot 10 to []))
simple_lines e r p (simple.Move to from) = map plain (load_slot 10 from (store_slot 10 to []))
simple_lines e r p (simple.Compare relation to left right) =
    map plain (load_slot 10 left (load_slot 11 right (relate relation (store_slot 10 to []))))
simple_lines e r p (simple.Complement to from) =
    map plain (load_slot 10 from (Immediate Addi 10 10 0xfff ∷ Register Sltu 10 0 10 ∷ store_slot 10 to []))
simple_lines e r p (simple.Negate to from) =
    checked r p (load_slot 11 from (Upper Lui 13 0x80000 ∷ raising 1)) Bne 11 13
    (Register Sub 11 0 11 ∷ store_slot 11 to [])
simple_lines e r p (simple.Absolute to from) =
    checked r p (load_slot 11 from (Upper Lui 13 0x80000 ∷ raising 1)) Bne 11 13
    (Immediate Slti 13 11 0 ∷ Register Add 13 13 13 ∷ Immediate Addi 14 0 1 ∷ Register Sub 14 14 13
    ∷ Register Mul 11 11 14 ∷ store_slot 11 to [])
simple_lines e r p (simple.Arithmetic operator to left right) =
    let test = operate_test operator in
    checked r p (load_slot 10 left (load_slot 11 right (operate_front operator ++ raising 1))) test.op test.left test.right
    (operate_back operator (store_slot 14 to []))
simple_lines e r p (simple.Within slot lower upper) =
    checked r p (load_slot 11 slot (compare_bounds lower upper)) Beq 13 0 []
simple_lines e r p (simple.Index to from lower upper size) =
    checked r p (load_slot 11 from (compare_bounds lower upper)) Beq 13 0
    (Register Sub 11 11 10 ∷ load_constant 13 size (Register Mul 11 11 13 ∷ store_slot 11 to []))
simple_lines e r p (simple.Offset to left right) =
    map plain (load_slot 10 left (load_slot 11 right (Register Add 10 10 11 ∷ store_slot 10 to [])))
simple_lines e r p (simple.Advance to from by) =
    map plain (load_slot 10 from (load_constant 11 (unsigned by) (Register Add 10 10 11 ∷ store_slot 10 to [])))
simple_lines e r p (simple.FrameAddress to slot) =
    map plain (Shift Srli 10 8 2 ∷ load_constant 11 (slot + 1) (Register Sub 10 10 11 ∷ store_slot 10 to []))
simple_lines e r p (simple.LibraryAddress to word) =
    map plain (load_constant 10 (library_byte word / 4) (store_slot 10 to []))
simple_lines e r p (simple.Load to address) =
    checked r p (load_slot 10 address (measure 1)) Bltu 11 13
    (Shift Slli 10 10 2 ∷ Load Lw 10 10 0 ∷ store_slot 10 to [])
simple_lines e r p (simple.Store address from) =
    checked r p (load_slot 10 address (measure 1)) Bltu 11 13
    (Shift Slli 10 10 2 ∷ load_slot 11 from (Store Sw 10 11 0 ∷ []))
simple_lines e r p (simple.ReadLibrary to word) =
    map plain (Upper Lui 10 (high (library_byte word)) ∷ Load Lw 10 10 (low (library_byte word)) ∷ store_slot 10 to [])
simple_lines e r p (simple.WriteLibrary word from) =
    map plain (load_slot 11 from (Upper Lui 10 (high (library_byte word)) ∷ Store Sw 10 11 (low (library_byte word)) ∷ []))
simple_lines e r p (simple.Copy to from words) =
    checked r p (load_slot 10 from (measure words)) Bltu 11 13 []
    ++ (checked r (p + 10) (load_slot 10 to (measure words)) Bltu 11 13
    (Shift Slli 11 10 2 ∷ load_slot 10 from (Shift Slli 10 10 2 ∷ load_constant 13 words []))
    ++ copy_loop (p + 27))
simple_lines e r p (simple.Fill at layout) =
    checked r p (load_slot 10 at (measure (length (content_in e.layouts layout).words))) Bltu 11 13 (Shift Slli 10 10 2 ∷ [])
    ++ (call_piece (e.first_layout + layout) ∷ [])
simple_lines e r p (simple.Start statement instance) =
    record { item = Plain (Immediate Addi 0 0 0); said = starts statement instance } ∷ []
simple_lines e r p (simple.Get to) =
    map plain (Immediate Addi 12 0 4 ∷ Immediate Addi 17 0 1 ∷ [])
    ++ (plain Ecall
    ∷ (branch checks Beq 11 0 (p + 5) ∷ (jump r ∷ map plain (store_slot 10 to []))))
simple_lines e r p (simple.Put from) =
    map plain (load_slot 10 from (Immediate Addi 17 0 2 ∷ [])) ++ (plain Ecall ∷ [])
simple_lines e r p (simple.Raise exception) = map plain (load_constant 12 exception []) ++ (jump r ∷ [])
simple_lines e r p (simple.RaiseSlot slot) =
    map plain (load_slot 12 slot (Immediate Addi 13 12 0xfff ∷ load_constant 14 e.exceptions []))
    ++ (branch steers Bltu 13 14 (p + 8) ∷ (plain (Immediate Addi 12 0 2) ∷ (jump r ∷ [])))
