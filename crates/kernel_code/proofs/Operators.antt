-- The operators on two numbers.
use Rattle.std.proofs.Common.{◌≡◌, ℕ, ◌+◌, ◌*◌, ◌/◌, ◌%◌, ◌^◌, ◌==◌, ◌≤◌, ◌<◌, Bool, true, false, not, cond, ◌&&◌, ℤ, pos, ◌+ℤ◌, ◌-ℤ◌, ◌*ℤ◌, int_lt, int_div, int_rem, List, [], ◌++◌, refl, sym, ap, subst, ◌∙◌, arith, lit≤, lit<}
use Rattle.std.specs.Ordering.{int_eq}
use Rattle.std.proofs.lemmas.Bool.Decides.{nat_tests}
use Rattle.std.proofs.lemmas.Int.{ints}
use Rattle.cov_base.specs.declared.position.DecId.{DecId}
use Rattle.rv_isa.specs.declared.ops.BranchOp.TheVariants.{Beq, Bne}
use Rattle.rv_isa.specs.declared.ops.RegisterOp.TheVariants.{Div, Rem}
use Rattle.rv_semantics.specs.Arithmetic.{sum_32, difference_32, signed, flag, register_result}
use Rattle.rv_semantics.specs.Past.{Config}
use Rattle.ada_meaning.specs.Arithmetic.{is_within, base_range, modulo}
use Rattle.kernel_ir.specs.declared.kernel.Layout.{Layout}
use Rattle.kernel_ir.specs.declared.simple.Operator.{Operator}
use Rattle.kernel_ir.specs.declared.simple.Operator.TheVariants as operator
use Rattle.kernel_ir.specs.declared.simple.Simple.TheVariants as simple
use Rattle.kernel_ir.specs.World.{World, Ends, Raises, with_slot, slot_in, paid}
use Rattle.kernel_ir.specs.Simple.{operator_of, operates}
use Rattle.kernel_code.specs.Line.{Site, HasLines}
use Rattle.kernel_code.specs.Words.{load_slot, store_slot}
use Rattle.kernel_code.specs.SimpleCode.{Targets, Setting, operate_front, operate_back, raising, simple_lines}
use Rattle.kernel_code.specs.Code.{simple_length}
use Rattle.kernel_code.specs.Does.{IsFair, HasRoom, Like, Does}
use Rattle.kernel_code.proofs.Sums.{sum_test, sum_is, difference_test, difference_is, product_checks, product_is, fits_range, fits_when}
use Rattle.kernel_code.proofs.Divisions.{divides_well, divide_checks, quotient_is, quotient_small, remainder_is, remainder_small, remainder_range}
use Rattle.kernel_code.proofs.Moduli.{moved_by, modulus_is}
use Rattle.kernel_code.proofs.Slots.{far, SlotAt, slot_at}
use Rattle.kernel_code.proofs.Checks.{checked_does, good_slot}

-- tests one in the other
both_tests : {A : Type 0} (z f : Bool) (e r : A) → cond (not z && f) e r ≡ cond z r (cond f e r)
both_tests true f e r = refl
both_tests false f e r = refl

one_test : {A : Type 0} (z f : Bool) (e r : A) → (not z ≡ true → f ≡ true) → cond (not z) e r ≡ cond z r (cond f e r)
one_test true f e r holds = refl
one_test false f e r holds = ap (λ b. cond b e r) (sym (holds refl))

left_true : (a b : Bool) → (not a && b) ≡ true → (a ≡ false) × (b ≡ true)
left_true false true is = (refl, refl)
left_true false false is = absurd (cc is)
left_true true b is = absurd (cc is)

not_zero : (b z : ℕ) → b < 2 ^ 32 → z ≡ 0 → not (b == z) ≡ not (int_eq (signed b) (pos 0))
not_zero b z small is = grind (arith, ints, nat_tests)

some_divisor : (b : ℕ) → b < 2 ^ 32 → int_eq (signed b) (pos 0) ≡ false → (b == 0) ≡ false
some_divisor b small is = grind (arith, ints, nat_tests)

not_true : (b : Bool) → not b ≡ true → b ≡ false
not_true false is = refl
not_true true is = absurd (cc is)

module _ (site : Site) (layouts : List Layout) (exceptions own fp left bound : ℕ) (fair : IsFair site exceptions) (room : HasRoom fp bound) (predefined : 4 ≤ exceptions) (Out : DecId → Type 0) (fuel : ℕ) (t : Targets) (p : ℕ)
    (e : Setting) (k i j : ℕ) (in_k : k < bound) (in_i : i < bound) (in_j : j < bound) (w : World) (c : Config) (like : Like site fp left w c) (there : c.state.pc ≡ site.address own p) where
  to : SlotAt site fp w c k
  to = slot_at site exceptions fp left bound w c k fair room like in_k

  one : SlotAt site fp w c i
  one = slot_at site exceptions fp left bound w c i fair room like in_i

  other : SlotAt site fp w c j
  other = slot_at site exceptions fp left bound w c j fair room like in_j

  abbrev a : ℕ
  a = c.state.mem (far (c.state.reg 8) i / 4)

  abbrev b : ℕ
  b = c.state.mem (far (c.state.reg 8) j / 4)

  one_is : sum_32 (c.state.reg 0) 1 ≡ 1
  one_is = let z = like.zeroth in omega arith

  -- what is done, for the numbers of the two slots
  abbrev Operates : Operator → ℤ → ℤ → Type 0
  Operates o x y = Does site exceptions own fp left fuel Out 0 w c t (p + simple_length (simple.Arithmetic o k i j)) (operates layouts exceptions fp (operator_of o) k x y w)

  on_slots : (o : Operator) → Operates o (signed a) (signed b) → Operates o (slot_in fp i w) (slot_in fp j w)
  on_slots o does = subst (λ x. Operates o x (slot_in fp j w)) (sym one.holds) (subst (λ y. Operates o (signed a) y) (sym other.holds) does)

  add_does : HasLines site own p (simple_lines e t.raise_to p (simple.Arithmetic operator.Add k i j)) → Operates operator.Add (signed a) (signed b)
  add_does has =
      checked_does site exceptions own fp left bound fair room predefined Out fuel t p (load_slot 10 i (load_slot 11 j (operate_front operator.Add ++ raising 1))) Beq 13 11 (store_slot 14 k []) 1 (lit< tt) (lit≤ tt) w c
      (is_within base_range (signed a +ℤ signed b)) (with_slot fp k (signed a +ℤ signed b) (paid 1 w)) has like there
      (tt, (tt, (one.inside, (tt, (tt, (other.inside, (tt, (tt, (tt, (tt, tt)))))))))) (refl, refl, refl) refl one_is
      (sum_test a b one.small other.small ∙ fits_range (signed a +ℤ signed b)) (lit≤ tt)
      (λ valid. good_slot site exceptions own fp left bound fair room predefined Out fuel t p (load_slot 10 i (load_slot 11 j (operate_front operator.Add ++ raising 1))) Beq 13 11 (store_slot 14 k []) 1 (lit< tt) (lit≤ tt) w c
      k (sum_32 a b) (signed a +ℤ signed b) in_k like (tt, (tt, ((to.inside, to.behind), tt))) (refl, refl, refl) refl
      (sum_is a b one.small other.small (fits_when (signed a +ℤ signed b) valid)) (let x : sum_32 a b < 2 ^ 32 = omega arith in x))

  subtract_does : HasLines site own p (simple_lines e t.raise_to p (simple.Arithmetic operator.Subtract k i j)) → Operates operator.Subtract (signed a) (signed b)
  subtract_does has =
      checked_does site exceptions own fp left bound fair room predefined Out fuel t p (load_slot 10 i (load_slot 11 j (operate_front operator.Subtract ++ raising 1))) Beq 13 11 (store_slot 14 k []) 1 (lit< tt) (lit≤ tt) w c
      (is_within base_range (signed a -ℤ signed b)) (with_slot fp k (signed a -ℤ signed b) (paid 1 w)) has like there
      (tt, (tt, (one.inside, (tt, (tt, (other.inside, (tt, (tt, (tt, (tt, tt)))))))))) (refl, refl, refl) refl one_is
      (ap (λ z. flag (int_lt (signed (difference_32 a b)) (signed a)) == flag (int_lt (signed z) (signed b))) like.zeroth ∙ (difference_test a b one.small other.small ∙ fits_range (signed a -ℤ signed b))) (lit≤ tt)
      (λ valid. good_slot site exceptions own fp left bound fair room predefined Out fuel t p (load_slot 10 i (load_slot 11 j (operate_front operator.Subtract ++ raising 1))) Beq 13 11 (store_slot 14 k []) 1 (lit< tt) (lit≤ tt) w c
      k (difference_32 a b) (signed a -ℤ signed b) in_k like (tt, (tt, ((to.inside, to.behind), tt))) (refl, refl, refl) refl
      (difference_is a b one.small other.small (fits_when (signed a -ℤ signed b) valid)) (let x : difference_32 a b < 2 ^ 32 = omega arith in x))

  multiply_does : HasLines site own p (simple_lines e t.raise_to p (simple.Arithmetic operator.Multiply k i j)) → Operates operator.Multiply (signed a) (signed b)
  multiply_does has =
      checked_does site exceptions own fp left bound fair room predefined Out fuel t p (load_slot 10 i (load_slot 11 j (operate_front operator.Multiply ++ raising 1))) Beq 13 11 (store_slot 14 k []) 1 (lit< tt) (lit≤ tt) w c
      (is_within base_range (signed a *ℤ signed b)) (with_slot fp k (signed a *ℤ signed b) (paid 1 w)) has like there
      (tt, (tt, (one.inside, (tt, (tt, (other.inside, (tt, (tt, (tt, (tt, tt)))))))))) (refl, refl, refl) refl one_is
      (product_checks a b one.small other.small) (lit≤ tt)
      (λ valid. good_slot site exceptions own fp left bound fair room predefined Out fuel t p (load_slot 10 i (load_slot 11 j (operate_front operator.Multiply ++ raising 1))) Beq 13 11 (store_slot 14 k []) 1 (lit< tt) (lit≤ tt) w c
      k (a * b % 2 ^ 32) (signed a *ℤ signed b) in_k like (tt, (tt, ((to.inside, to.behind), tt))) (refl, refl, refl) refl
      (product_is a b one.small other.small (fits_when (signed a *ℤ signed b) valid)) (below (a * b)))
    where
      below : (n : ℕ) → n % 2 ^ 32 < 2 ^ 32
      below n = omega arith

  divide_does : HasLines site own p (simple_lines e t.raise_to p (simple.Arithmetic operator.Divide k i j)) → Operates operator.Divide (signed a) (signed b)
  divide_does has =
      subst (λ ended. Does site exceptions own fp left fuel Out 0 w c t (p + simple_length (simple.Arithmetic operator.Divide k i j)) ended)
      (both_tests (int_eq (signed b) (pos 0)) (is_within base_range (int_div (signed a) (signed b))) (Ends (with_slot fp k (int_div (signed a) (signed b)) (paid 1 w))) (Raises 1 (paid 1 w)))
      (checked_does site exceptions own fp left bound fair room predefined Out fuel t p (load_slot 10 i (load_slot 11 j (operate_front operator.Divide ++ raising 1))) Bne 13 0 (operate_back operator.Divide (store_slot 14 k [])) 1 (lit< tt) (lit≤ tt) w c
      (divides_well (signed a) (signed b)) (with_slot fp k (int_div (signed a) (signed b)) (paid 1 w)) has like there
      (tt, (tt, (one.inside, (tt, (tt, (other.inside, (tt, (tt, (tt, (tt, (tt, (tt, (tt, (tt, (tt, tt))))))))))))))) (refl, refl, refl) refl one_is
      (divide_checks a b (c.state.reg 0) one.small other.small like.zeroth) (lit≤ tt)
      (λ valid.
      let parts = left_true (int_eq (signed b) (pos 0)) (is_within base_range (int_div (signed a) (signed b))) valid in
      let some = some_divisor b other.small parts.0 in
      let fits = fits_when (int_div (signed a) (signed b)) parts.1 in
      good_slot site exceptions own fp left bound fair room predefined Out fuel t p (load_slot 10 i (load_slot 11 j (operate_front operator.Divide ++ raising 1))) Bne 13 0 (operate_back operator.Divide (store_slot 14 k [])) 1 (lit< tt) (lit≤ tt) w c
      k (register_result Div a b) (int_div (signed a) (signed b)) in_k like (tt, (tt, (tt, ((to.inside, to.behind), tt)))) (refl, refl, refl) refl
      (quotient_is a b some fits) (quotient_small a b some fits)))

  remainder_does : HasLines site own p (simple_lines e t.raise_to p (simple.Arithmetic operator.Remainder k i j)) → Operates operator.Remainder (signed a) (signed b)
  remainder_does has =
      subst (λ ended. Does site exceptions own fp left fuel Out 0 w c t (p + simple_length (simple.Arithmetic operator.Remainder k i j)) ended)
      (one_test (int_eq (signed b) (pos 0)) (is_within base_range (int_rem (signed a) (signed b))) (Ends (with_slot fp k (int_rem (signed a) (signed b)) (paid 1 w))) (Raises 1 (paid 1 w))
      (λ valid. remainder_range a b other.small (some_divisor b other.small (not_true (int_eq (signed b) (pos 0)) valid))))
      (checked_does site exceptions own fp left bound fair room predefined Out fuel t p (load_slot 10 i (load_slot 11 j (operate_front operator.Remainder ++ raising 1))) Bne 11 0 (operate_back operator.Remainder (store_slot 14 k [])) 1 (lit< tt) (lit≤ tt) w c
      (not (int_eq (signed b) (pos 0))) (with_slot fp k (int_rem (signed a) (signed b)) (paid 1 w)) has like there
      (tt, (tt, (one.inside, (tt, (tt, (other.inside, (tt, tt))))))) (refl, refl, refl) refl one_is
      (not_zero b (c.state.reg 0) other.small like.zeroth) (lit≤ tt)
      (λ valid.
      let some = some_divisor b other.small (not_true (int_eq (signed b) (pos 0)) valid) in
      good_slot site exceptions own fp left bound fair room predefined Out fuel t p (load_slot 10 i (load_slot 11 j (operate_front operator.Remainder ++ raising 1))) Bne 11 0 (operate_back operator.Remainder (store_slot 14 k [])) 1 (lit< tt) (lit≤ tt) w c
      k (register_result Rem a b) (int_rem (signed a) (signed b)) in_k like (tt, (tt, (tt, ((to.inside, to.behind), tt)))) (refl, refl, refl) refl
      (remainder_is a b other.small some) (remainder_small a b other.small some)))

  modulo_does : HasLines site own p (simple_lines e t.raise_to p (simple.Arithmetic operator.Modulo k i j)) → Operates operator.Modulo (signed a) (signed b)
  modulo_does has =
      subst (λ ended. Does site exceptions own fp left fuel Out 0 w c t (p + simple_length (simple.Arithmetic operator.Modulo k i j)) ended)
      (one_test (int_eq (signed b) (pos 0)) (is_within base_range (modulo (signed a) (signed b))) (Ends (with_slot fp k (modulo (signed a) (signed b)) (paid 1 w))) (Raises 1 (paid 1 w))
      (λ valid. (modulus_is a b other.small (some_divisor b other.small (not_true (int_eq (signed b) (pos 0)) valid))).1))
      (checked_does site exceptions own fp left bound fair room predefined Out fuel t p (load_slot 10 i (load_slot 11 j (operate_front operator.Modulo ++ raising 1))) Bne 11 0 (operate_back operator.Modulo (store_slot 14 k [])) 1 (lit< tt) (lit≤ tt) w c
      (not (int_eq (signed b) (pos 0))) (with_slot fp k (modulo (signed a) (signed b)) (paid 1 w)) has like there
      (tt, (tt, (one.inside, (tt, (tt, (other.inside, (tt, tt))))))) (refl, refl, refl) refl one_is
      (not_zero b (c.state.reg 0) other.small like.zeroth) (lit≤ tt)
      (λ valid.
      let some = some_divisor b other.small (not_true (int_eq (signed b) (pos 0)) valid) in
      good_slot site exceptions own fp left bound fair room predefined Out fuel t p (load_slot 10 i (load_slot 11 j (operate_front operator.Modulo ++ raising 1))) Bne 11 0 (operate_back operator.Modulo (store_slot 14 k [])) 1 (lit< tt) (lit≤ tt) w c
      k (moved_by (register_result Rem a b) b) (modulo (signed a) (signed b)) in_k like (tt, (tt, (tt, (tt, (tt, (tt, (tt, ((to.inside, to.behind), tt)))))))) (refl, refl, refl) refl
      (modulus_is a b other.small some).0 (below (register_result Rem a b) _)))
    where
      below : (x y : ℕ) → sum_32 x y < 2 ^ 32
      below x y = omega arith

  pub arithmetic_does : (o : Operator) → HasLines site own p (simple_lines e t.raise_to p (simple.Arithmetic o k i j)) → Operates o (slot_in fp i w) (slot_in fp j w)
  arithmetic_does operator.Add has = on_slots operator.Add (add_does has)
  arithmetic_does operator.Subtract has = on_slots operator.Subtract (subtract_does has)
  arithmetic_does operator.Multiply has = on_slots operator.Multiply (multiply_does has)
  arithmetic_does operator.Divide has = on_slots operator.Divide (divide_does has)
  arithmetic_does operator.Modulo has = on_slots operator.Modulo (modulo_does has)
  arithmetic_does operator.Remainder has = on_slots operator.Remainder (remainder_does has)
