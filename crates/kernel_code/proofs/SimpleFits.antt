-- The lines of operations that hold no others can be placed.
use Rattle.std.proofs.Common.{ℕ, ◌+◌, ◌/◌, ◌≤◌, List, [], ◌∷◌, ◌++◌, length, refl, arith, lit≤}
use Rattle.rv_isa.specs.declared.ops.UpperOp.TheVariants.{Lui}
use Rattle.rv_isa.specs.declared.ops.BranchOp.{BranchOp}
use Rattle.rv_isa.specs.declared.ops.BranchOp.TheVariants.{Beq, Bne, Bltu}
use Rattle.rv_isa.specs.declared.ops.ImmediateOp.TheVariants.{Addi, Slti}
use Rattle.rv_isa.specs.declared.ops.ShiftOp.TheVariants.{Slli, Srli}
use Rattle.rv_isa.specs.declared.ops.RegisterOp.TheVariants.{Add, Sltu, Sub, Mul}
use Rattle.rv_isa.specs.declared.ops.LoadOp.TheVariants.{Lw}
use Rattle.rv_isa.specs.declared.ops.StoreOp.TheVariants.{Sw}
use Rattle.rv_isa.specs.declared.instr.Instr.{Instr}
use Rattle.rv_isa.specs.declared.instr.Instr.TheVariants.{Upper, Load, Store, Immediate, Shift, Register}
use Rattle.rv_semantics.specs.Arithmetic.{unsigned}
use Rattle.kernel_ir.specs.declared.kernel.Kernel.{Kernel}
use Rattle.kernel_ir.specs.declared.simple.Operator.{Operator}
use Rattle.kernel_ir.specs.declared.simple.Operator.TheVariants as operator
use Rattle.kernel_ir.specs.declared.simple.Simple.{Simple}
use Rattle.kernel_ir.specs.declared.simple.Simple.TheVariants as simple_op
use Rattle.kernel_ir.specs.Layouts.{content_in}
use Rattle.kernel_ir.specs.Limits.{SimpleFits}
use Rattle.kernel_code.specs.Words.{high, low, load_slot, store_slot, load_constant}
use Rattle.kernel_code.specs.SimpleCode.{checked, library_byte, relate, raising, compare_bounds, measure, copy_loop, call_piece, operate_front, operate_test, operate_back, simple_lines}
use Rattle.kernel_code.specs.Code.{simple_length}
use Rattle.kernel_code.specs.Calls.{first_layout, setting}
use Rattle.kernel_code.proofs.Fitting.{LinesFit, fits_append, fits_plain, fits_checked}

module _ (p : Kernel) (bound width count end r place : ℕ) (inside : r ≤ end) (all : first_layout p + length p.layouts ≤ count) where
  check_fits : (front : List Instr) (op : BranchOp) (rs1 rs2 : ℕ) (back : List Instr) → length front ≤ 50 → place + (length front + 2) ≤ end
      → LinesFit count end place (checked r place front op rs1 rs2 back)
  check_fits front op rs1 rs2 back few within = fits_checked count end r place front op rs1 rs2 back inside few within

  abbrev Fits : Simple → Type 0
  Fits s = LinesFit count end place (simple_lines (setting p width) r place s)

  operator_fits : (o : Operator) (k i j : ℕ) → place + simple_length (simple_op.Arithmetic o k i j) ≤ end → Fits (simple_op.Arithmetic o k i j)
  operator_fits operator.Add k i j within =
      let test = operate_test operator.Add in
      let room : place + simple_length (simple_op.Arithmetic operator.Add 0 0 0) ≤ end = within in
      check_fits (load_slot 10 i (load_slot 11 j (operate_front operator.Add ++ raising 1))) test.op test.left test.right
      (operate_back operator.Add (store_slot 14 k [])) (lit≤ tt) (omega arith)
  operator_fits operator.Subtract k i j within =
      let test = operate_test operator.Subtract in
      let room : place + simple_length (simple_op.Arithmetic operator.Subtract 0 0 0) ≤ end = within in
      check_fits (load_slot 10 i (load_slot 11 j (operate_front operator.Subtract ++ raising 1))) test.op test.left test.right
      (operate_back operator.Subtract (store_slot 14 k [])) (lit≤ tt) (omega arith)
  operator_fits operator.Multiply k i j within =
      let test = operate_test operator.Multiply in
      let room : place + simple_length (simple_op.Arithmetic operator.Multiply 0 0 0) ≤ end = within in
      check_fits (load_slot 10 i (load_slot 11 j (operate_front operator.Multiply ++ raising 1))) test.op test.left test.right
      (operate_back operator.Multiply (store_slot 14 k [])) (lit≤ tt) (omega arith)
  operator_fits operator.Divide k i j within =
      let test = operate_test operator.Divide in
      let room : place + simple_length (simple_op.Arithmetic operator.Divide 0 0 0) ≤ end = within in
      check_fits (load_slot 10 i (load_slot 11 j (operate_front operator.Divide ++ raising 1))) test.op test.left test.right
      (operate_back operator.Divide (store_slot 14 k [])) (lit≤ tt) (omega arith)
  operator_fits operator.Modulo k i j within =
      let test = operate_test operator.Modulo in
      let room : place + simple_length (simple_op.Arithmetic operator.Modulo 0 0 0) ≤ end = within in
      check_fits (load_slot 10 i (load_slot 11 j (operate_front operator.Modulo ++ raising 1))) test.op test.left test.right
      (operate_back operator.Modulo (store_slot 14 k [])) (lit≤ tt) (omega arith)
  operator_fits operator.Remainder k i j within =
      let test = operate_test operator.Remainder in
      let room : place + simple_length (simple_op.Arithmetic operator.Remainder 0 0 0) ≤ end = within in
      check_fits (load_slot 10 i (load_slot 11 j (operate_front operator.Remainder ++ raising 1))) test.op test.left test.right
      (operate_back operator.Remainder (store_slot 14 k [])) (lit≤ tt) (omega arith)

  pub simple_fits : (s : Simple) → SimpleFits p bound s → place + simple_length s ≤ end → Fits s
  simple_fits (simple_op.Number to value) fits within = fits_plain count end place (load_constant 10 (unsigned value) (store_slot 10 to []))
  simple_fits (simple_op.Move to from) fits within = fits_plain count end place (load_slot 10 from (store_slot 10 to []))
  simple_fits (simple_op.Compare relation to i j) fits within = fits_plain count end place (load_slot 10 i (load_slot 11 j (relate relation (store_slot 10 to []))))
  simple_fits (simple_op.Complement to from) fits within =
      fits_plain count end place (load_slot 10 from (Immediate Addi 10 10 0xfff ∷ Register Sltu 10 0 10 ∷ store_slot 10 to []))
  simple_fits (simple_op.Negate to from) fits within =
      check_fits (load_slot 11 from (Upper Lui 13 0x80000 ∷ raising 1)) Bne 11 13 (Register Sub 11 0 11 ∷ store_slot 11 to []) (lit≤ tt) (omega arith)
  simple_fits (simple_op.Absolute to from) fits within =
      check_fits (load_slot 11 from (Upper Lui 13 0x80000 ∷ raising 1)) Bne 11 13
      (Immediate Slti 13 11 0 ∷ Register Add 13 13 13 ∷ Immediate Addi 14 0 1 ∷ Register Sub 14 14 13
      ∷ Register Mul 11 11 14 ∷ store_slot 11 to []) (lit≤ tt) (omega arith)
  simple_fits (simple_op.Arithmetic o to i j) fits within = operator_fits o to i j within
  simple_fits (simple_op.Within slot lower upper) fits within =
      check_fits (load_slot 11 slot (compare_bounds lower upper)) Beq 13 0 [] (lit≤ tt) (omega arith)
  simple_fits (simple_op.Index to from lower upper size) fits within =
      check_fits (load_slot 11 from (compare_bounds lower upper)) Beq 13 0
      (Register Sub 11 11 10 ∷ load_constant 13 size (Register Mul 11 11 13 ∷ store_slot 11 to [])) (lit≤ tt) (omega arith)
  simple_fits (simple_op.Offset to i j) fits within =
      fits_plain count end place (load_slot 10 i (load_slot 11 j (Register Add 10 10 11 ∷ store_slot 10 to [])))
  simple_fits (simple_op.Advance to from by) fits within =
      fits_plain count end place (load_slot 10 from (load_constant 11 (unsigned by) (Register Add 10 10 11 ∷ store_slot 10 to [])))
  simple_fits (simple_op.FrameAddress to slot) fits within =
      fits_plain count end place (Shift Srli 10 8 2 ∷ load_constant 11 (slot + 1) (Register Sub 10 10 11 ∷ store_slot 10 to []))
  simple_fits (simple_op.LibraryAddress to word) fits within =
      fits_plain count end place (load_constant 10 (library_byte word / 4) (store_slot 10 to []))
  simple_fits (simple_op.Load to address) fits within =
      check_fits (load_slot 10 address (measure 1)) Bltu 11 13 (Shift Slli 10 10 2 ∷ Load Lw 10 10 0 ∷ store_slot 10 to []) (lit≤ tt) (omega arith)
  simple_fits (simple_op.Store address from) fits within =
      check_fits (load_slot 10 address (measure 1)) Bltu 11 13 (Shift Slli 10 10 2 ∷ load_slot 11 from (Store Sw 10 11 0 ∷ [])) (lit≤ tt) (omega arith)
  simple_fits (simple_op.ReadLibrary to word) fits within =
      fits_plain count end place (Upper Lui 10 (high (library_byte word)) ∷ Load Lw 10 10 (low (library_byte word)) ∷ store_slot 10 to [])
  simple_fits (simple_op.WriteLibrary word from) fits within =
      fits_plain count end place (load_slot 11 from (Upper Lui 10 (high (library_byte word)) ∷ Store Sw 10 11 (low (library_byte word)) ∷ []))
  simple_fits (simple_op.Copy to from words) fits within =
      fits_append count end place (checked r place (load_slot 10 from (measure words)) Bltu 11 13 [])
      (checked r (place + 10) (load_slot 10 to (measure words)) Bltu 11 13
      (Shift Slli 11 10 2 ∷ load_slot 10 from (Shift Slli 10 10 2 ∷ load_constant 13 words []))
      ++ copy_loop (place + 27))
      (check_fits (load_slot 10 from (measure words)) Bltu 11 13 [] (lit≤ tt) (omega arith))
      (fits_append count end (place + 10)
      (checked r (place + 10) (load_slot 10 to (measure words)) Bltu 11 13
      (Shift Slli 11 10 2 ∷ load_slot 10 from (Shift Slli 10 10 2 ∷ load_constant 13 words [])))
      (copy_loop (place + 27))
      (fits_checked count end r (place + 10) (load_slot 10 to (measure words)) Bltu 11 13
      (Shift Slli 11 10 2 ∷ load_slot 10 from (Shift Slli 10 10 2 ∷ load_constant 13 words [])) inside (lit≤ tt) (omega arith))
      (((omega arith), (omega arith), (omega arith)), (tt, (tt, (tt, (tt, (tt, ((omega arith), tt))))))))
  simple_fits (simple_op.Fill at layout) fits within =
      fits_append count end place
      (checked r place (load_slot 10 at (measure (length (content_in p.layouts layout).words))) Bltu 11 13 (Shift Slli 10 10 2 ∷ []))
      (call_piece (first_layout p + layout) ∷ [])
      (check_fits (load_slot 10 at (measure (length (content_in p.layouts layout).words))) Bltu 11 13 (Shift Slli 10 10 2 ∷ []) (lit≤ tt) (omega arith))
      ((let known = fits.1 in (omega arith), refl), tt)
  simple_fits (simple_op.Start statement instance) fits within = (tt, tt)
  simple_fits (simple_op.Get to) fits within =
      (tt, (tt, (tt, (((omega arith), (omega arith), (omega arith)), (inside, fits_plain count end (place + 1 + 1 + 1 + 1 + 1) (store_slot 10 to []))))))
  simple_fits (simple_op.Put from) fits within = (tt, (tt, (tt, (tt, (tt, tt)))))
  simple_fits (simple_op.Raise exception) fits within = (tt, (tt, (inside, tt)))
  simple_fits (simple_op.RaiseSlot slot) fits within =
      (tt, (tt, (tt, (tt, (tt, (tt, (((omega arith), (omega arith), (omega arith)), (tt, (inside, tt)))))))))
