-- Operations with a check, and those that go through addresses.
use Rattle.std.proofs.Common.{◌≡◌, ℕ, ◌+◌, ◌-◌, ◌*◌, ◌/◌, ◌%◌, ◌^◌, ◌==◌, ◌≤◌, ◌<◌, cond, nat_lt, ℤ, pos, neg_ℤ, nat_abs, ◌-ℤ◌, ◌*ℤ◌, int_lt, FitsSigned, List, [], ◌∷◌, refl, sym, ap, ap₂, subst, ◌∙◌, arith, lit≤, lit<}
use Rattle.std.specs.Int.{w32, int_wrap}
use Rattle.cov_base.specs.declared.position.DecId.{DecId}
use Rattle.rv_isa.specs.declared.ops.UpperOp.TheVariants.{Lui}
use Rattle.rv_isa.specs.declared.ops.BranchOp.TheVariants.{Beq, Bne, Bltu}
use Rattle.rv_isa.specs.declared.ops.ImmediateOp.TheVariants.{Addi, Slti}
use Rattle.rv_isa.specs.declared.ops.ShiftOp.TheVariants.{Slli}
use Rattle.rv_isa.specs.declared.ops.RegisterOp.TheVariants.{Add, Sub, Mul}
use Rattle.rv_isa.specs.declared.ops.LoadOp.TheVariants.{Lw}
use Rattle.rv_isa.specs.declared.ops.StoreOp.TheVariants.{Sw}
use Rattle.rv_isa.specs.declared.instr.Instr.{Instr}
use Rattle.rv_isa.specs.declared.instr.Instr.TheVariants.{Upper, Load, Store, Immediate, Shift, Register}
use Rattle.rv_isa.specs.Immediates.{sign_12, upper_value}
use Rattle.rv_semantics.specs.Layout.{memory_bytes}
use Rattle.rv_semantics.specs.Arithmetic.{sum_32, difference_32, signed, unsigned, flag}
use Rattle.rv_semantics.specs.Past.{Config}
use Rattle.placed_code.specs.Code.{text_end}
use Rattle.placed_code.specs.Straight.{IsInMemory}
use Rattle.ada_meaning.specs.Arithmetic.{is_within, base_range, natural}
use Rattle.kernel_ir.specs.declared.kernel.Layout.{Layout}
use Rattle.kernel_ir.specs.declared.simple.Simple.{Simple}
use Rattle.kernel_ir.specs.declared.simple.Simple.TheVariants as simple
use Rattle.kernel_ir.specs.World.{World, Ends, Raises, data_word, area_end, in_area, with_word, with_memory, with_slot, slot_in, paid}
use Rattle.kernel_ir.specs.Simple.{does_simple}
use Rattle.kernel_ir.specs.Limits.{most_words}
use Rattle.kernel_code.specs.Line.{Site, HasLines}
use Rattle.kernel_code.specs.Words.{high, low, load_slot, store_slot, load_constant}
use Rattle.kernel_code.specs.Goes.{gone, Gone}
use Rattle.kernel_code.specs.SimpleCode.{Targets, Setting, raising, compare_bounds, measure, area_words, library_byte, simple_lines}
use Rattle.kernel_code.specs.Code.{simple_length}
use Rattle.kernel_code.specs.Does.{IsFair, HasRoom, Like, Does}
use Rattle.kernel_code.proofs.Sums.{constant_is, signed_word, word_small}
use Rattle.kernel_code.proofs.Goes.{straight_lines_go}
use Rattle.kernel_code.proofs.Ranges.{negate_test, negate_is, absolute_test, turned, turned_is, bounds_test, index_is, area_test, area_is}
use Rattle.kernel_code.proofs.Slots.{far, SlotAt, slot_at, like_set, quiet_set}
use Rattle.kernel_code.proofs.Checks.{behind_check, checked_does, good_slot, good_nothing}

-- the address that code computes for a word of the library level
abbrev library_address : ℕ → ℕ
library_address n = sum_32 (upper_value (high (library_byte n))) (sign_12 (low (library_byte n)))

abbrev writes_library : (n k : ℕ) → List Instr
writes_library n k = load_slot 11 k (Upper Lui 10 (high (library_byte n)) ∷ Store Sw 10 11 (low (library_byte n)) ∷ [])

module _ (site : Site) (layouts : List Layout) (exceptions own fp left bound : ℕ) (fair : IsFair site exceptions) (room : HasRoom fp bound) (predefined : 4 ≤ exceptions) (Out : DecId → Type 0) (fuel : ℕ) (t : Targets) (p : ℕ)
    (e : Setting) (w : World) (c : Config) (like : Like site fp left w c) (there : c.state.pc ≡ site.address own p) where
  abbrev pub Done : Simple → Type 0
  Done s = Does site exceptions own fp left fuel Out 0 w c t (p + simple_length s) (does_simple layouts exceptions fp s w)

  slot_of : (k : ℕ) → k < bound → SlotAt site fp w c k
  slot_of k in_k = slot_at site exceptions fp left bound w c k fair room like in_k

  -- the word in a slot
  abbrev word_in : ℕ → ℕ
  word_in k = c.state.mem (far (c.state.reg 8) k / 4)

  one_is : sum_32 (c.state.reg 0) 1 ≡ 1
  one_is = let z = like.zeroth in omega arith

  two_is : sum_32 (c.state.reg 0) 2 ≡ 2
  two_is = let z = like.zeroth in omega arith

  pub negate_does : (k j : ℕ) → k < bound → j < bound → HasLines site own p (simple_lines e t.raise_to p (simple.Negate k j)) → Done (simple.Negate k j)
  negate_does k j in_k in_j has =
      let to = slot_of k in_k in
      let from = slot_of j in_j in
      subst (λ x. Does site exceptions own fp left fuel Out 0 w c t (p + 11) (cond (is_within base_range (neg_ℤ x)) (Ends (with_slot fp k (neg_ℤ x) (paid 1 w))) (Raises 1 (paid 1 w)))) (sym from.holds)
      (checked_does site exceptions own fp left bound fair room predefined Out fuel t p (load_slot 11 j (Upper Lui 13 0x80000 ∷ raising 1)) Bne 11 13 (Register Sub 11 0 11 ∷ store_slot 11 k []) 1 (lit< tt) (lit≤ tt) w c
      (is_within base_range (neg_ℤ (signed (word_in j)))) (with_slot fp k (neg_ℤ (signed (word_in j))) (paid 1 w)) has like there
      (tt, (tt, (from.inside, (tt, (tt, tt))))) (refl, refl, refl) refl one_is (negate_test (word_in j) from.small) (lit≤ tt)
      (λ valid. good_slot site exceptions own fp left bound fair room predefined Out fuel t p (load_slot 11 j (Upper Lui 13 0x80000 ∷ raising 1)) Bne 11 13 (Register Sub 11 0 11 ∷ store_slot 11 k []) 1 (lit< tt) (lit≤ tt) w c
      k (difference_32 (c.state.reg 0) (word_in j)) (neg_ℤ (signed (word_in j))) in_k like (tt, (tt, (tt, ((to.inside, to.behind), tt)))) (refl, refl, refl) refl
      (negate_is (word_in j) (c.state.reg 0) from.small like.zeroth valid) (let x : difference_32 (c.state.reg 0) (word_in j) < 2 ^ 32 = omega arith in x)))

  pub absolute_does : (k j : ℕ) → k < bound → j < bound → HasLines site own p (simple_lines e t.raise_to p (simple.Absolute k j)) → Done (simple.Absolute k j)
  absolute_does k j in_k in_j has =
      let to = slot_of k in_k in
      let from = slot_of j in_j in
      let back = Immediate Slti 13 11 0 ∷ Register Add 13 13 13 ∷ Immediate Addi 14 0 1 ∷ Register Sub 14 14 13 ∷ Register Mul 11 11 14 ∷ store_slot 11 k [] in
      subst (λ x. Does site exceptions own fp left fuel Out 0 w c t (p + 15) (cond (is_within base_range (pos (nat_abs x))) (Ends (with_slot fp k (pos (nat_abs x)) (paid 1 w))) (Raises 1 (paid 1 w)))) (sym from.holds)
      (checked_does site exceptions own fp left bound fair room predefined Out fuel t p (load_slot 11 j (Upper Lui 13 0x80000 ∷ raising 1)) Bne 11 13 back 1 (lit< tt) (lit≤ tt) w c
      (is_within base_range (pos (nat_abs (signed (word_in j))))) (with_slot fp k (pos (nat_abs (signed (word_in j)))) (paid 1 w)) has like there
      (tt, (tt, (from.inside, (tt, (tt, tt))))) (refl, refl, refl) refl one_is (absolute_test (word_in j) from.small) (lit≤ tt)
      (λ valid. good_slot site exceptions own fp left bound fair room predefined Out fuel t p (load_slot 11 j (Upper Lui 13 0x80000 ∷ raising 1)) Bne 11 13 back 1 (lit< tt) (lit≤ tt) w c
      k (turned (word_in j) (c.state.reg 0)) (pos (nat_abs (signed (word_in j)))) in_k like (tt, (tt, (tt, (tt, (tt, (tt, (tt, ((to.inside, to.behind), tt)))))))) (refl, refl, refl) refl
      (turned_is (word_in j) (c.state.reg 0) from.small like.zeroth valid) (below _)))
    where
      below : (n : ℕ) → n % 2 ^ 32 < 2 ^ 32
      below n = omega arith

  -- the words of two bounds
  bounds_hold : (v : ℕ) (low_number high_number : ℤ) → FitsSigned w32 low_number → FitsSigned w32 high_number
      → (sum_32 (flag (int_lt (signed v) (signed (sum_32 (upper_value (high (unsigned low_number))) (sign_12 (low (unsigned low_number)))))))
      (flag (int_lt (signed (sum_32 (upper_value (high (unsigned high_number))) (sign_12 (low (unsigned high_number))))) (signed v))) == c.state.reg 0)
      ≡ is_within (record { low = low_number; high = high_number }) (signed v)
  bounds_hold v low_number high_number fits_low fits_high =
      ap₂ (λ x y. sum_32 (flag (int_lt (signed v) x)) (flag (int_lt y (signed v))) == c.state.reg 0)
      (ap signed (constant_is (unsigned low_number) (word_small low_number fits_low)) ∙ signed_word low_number fits_low)
      (ap signed (constant_is (unsigned high_number) (word_small high_number fits_high)) ∙ signed_word high_number fits_high)
      ∙ bounds_test (signed v) low_number high_number (c.state.reg 0) like.zeroth

  pub within_does : (k : ℕ) (low_number high_number : ℤ) → k < bound → FitsSigned w32 low_number → FitsSigned w32 high_number → HasLines site own p (simple_lines e t.raise_to p (simple.Within k low_number high_number)) → Done (simple.Within k low_number high_number)
  within_does k low_number high_number in_k fits_low fits_high has =
      let from = slot_of k in_k in
      let front = load_slot 11 k (compare_bounds low_number high_number) in
      subst (λ x. Does site exceptions own fp left fuel Out 0 w c t (p + 13) (cond (is_within (record { low = low_number; high = high_number }) x) (Ends (paid 1 w)) (Raises 1 (paid 1 w)))) (sym from.holds)
      (checked_does site exceptions own fp left bound fair room predefined Out fuel t p front Beq 13 0 [] 1 (lit< tt) (lit≤ tt) w c
      (is_within (record { low = low_number; high = high_number }) (signed (word_in k))) (paid 1 w) has like there
      (tt, (tt, (from.inside, (tt, (tt, (tt, (tt, (tt, (tt, (tt, (tt, tt))))))))))) (refl, refl, refl) refl one_is (bounds_hold (word_in k) low_number high_number fits_low fits_high) (lit≤ tt)
      (λ valid. good_nothing site exceptions own fp left bound fair room predefined Out fuel t p front Beq 13 0 [] 1 (lit< tt) (lit≤ tt) w c like tt (refl, refl, refl) refl))

  pub index_does : (k j : ℕ) (low_number high_number : ℤ) (n : ℕ) → k < bound → j < bound → FitsSigned w32 low_number → FitsSigned w32 high_number → n ≤ most_words
      → HasLines site own p (simple_lines e t.raise_to p (simple.Index k j low_number high_number n)) → Done (simple.Index k j low_number high_number n)
  index_does k j low_number high_number n in_k in_j fits_low fits_high few has =
      let to = slot_of k in_k in
      let from = slot_of j in_j in
      let front = load_slot 11 j (compare_bounds low_number high_number) in
      let back = Register Sub 11 11 10 ∷ load_constant 13 n (Register Mul 11 11 13 ∷ store_slot 11 k []) in
      let lower = constant_is (unsigned low_number) (word_small low_number fits_low) in
      let size = constant_is n (omega arith) in
      subst (λ x. Does site exceptions own fp left fuel Out 0 w c t (p + 20) (cond (is_within (record { low = low_number; high = high_number }) x) (Ends (with_slot fp k (int_wrap w32 ((x -ℤ low_number) *ℤ pos n)) (paid 1 w))) (Raises 1 (paid 1 w)))) (sym from.holds)
      (checked_does site exceptions own fp left bound fair room predefined Out fuel t p front Beq 13 0 back 1 (lit< tt) (lit≤ tt) w c
      (is_within (record { low = low_number; high = high_number }) (signed (word_in j))) (with_slot fp k (int_wrap w32 ((signed (word_in j) -ℤ low_number) *ℤ pos n)) (paid 1 w)) has like there
      (tt, (tt, (from.inside, (tt, (tt, (tt, (tt, (tt, (tt, (tt, (tt, tt))))))))))) (refl, refl, refl) refl one_is (bounds_hold (word_in j) low_number high_number fits_low fits_high) (lit≤ tt)
      (λ valid. good_slot site exceptions own fp left bound fair room predefined Out fuel t p front Beq 13 0 back 1 (lit< tt) (lit≤ tt) w c
      k _ (int_wrap w32 ((signed (word_in j) -ℤ low_number) *ℤ pos n)) in_k like (tt, (tt, (tt, (tt, (tt, (tt, ((to.inside, to.behind), tt))))))) (refl, refl, refl) refl
      (ap₂ (λ x y. signed (difference_32 (word_in j) x * y % 2 ^ 32)) lower size ∙ index_is (word_in j) n low_number from.small fits_low (omega arith)) (below _)))
    where
      below : (n : ℕ) → n % 2 ^ 32 < 2 ^ 32
      below n = omega arith

  -- the test whether words lie in the data area
  area_holds : (v words : ℕ) → v < 2 ^ 32 → nat_lt (difference_32 v (upper_value 0x400)) (sum_32 (upper_value (high (area_words + 1 - words))) (sign_12 (low (area_words + 1 - words)))) ≡ in_area (signed v) words
  area_holds v words small = ap (λ x. nat_lt (difference_32 v (upper_value 0x400)) x) (constant_is (area_words + 1 - words) (omega arith)) ∙ area_test v words small

  -- the word at an address in bytes
  byte_address : (v : ℕ) → data_word ≤ v → v + 1 ≤ area_end
      → IsInMemory (sum_32 (v * 2 ^ 2 % 2 ^ 32) 0) 4 × (text_end site.image ≤ sum_32 (v * 2 ^ 2 % 2 ^ 32) 0) × (sum_32 (v * 2 ^ 2 % 2 ^ 32) 0 / 4 ≡ v)
  byte_address v low_enough few =
      let text = fair.text in
      let is : sum_32 (v * 2 ^ 2 % 2 ^ 32) 0 ≡ 4 * v = omega arith in
      ((let x : sum_32 (v * 2 ^ 2 % 2 ^ 32) 0 % 4 ≡ 0 = omega (arith, is) in x, let x : sum_32 (v * 2 ^ 2 % 2 ^ 32) 0 + 4 ≤ memory_bytes = omega (arith, is) in x), omega (arith, is), omega (arith, is))

  pub load_does : (k j : ℕ) → k < bound → j < bound → HasLines site own p (simple_lines e t.raise_to p (simple.Load k j)) → Done (simple.Load k j)
  load_does k j in_k in_j has =
      let to = slot_of k in_k in
      let from = slot_of j in_j in
      let front = load_slot 10 j (measure 1) in
      let back = Shift Slli 10 10 2 ∷ Load Lw 10 10 0 ∷ store_slot 10 k [] in
      subst (λ x. Does site exceptions own fp left fuel Out 0 w c t (p + 15) (cond (in_area x 1) (Ends (with_slot fp k (w.memory (natural x)) (paid 1 w))) (Raises 2 (paid 1 w)))) (sym from.holds)
      (checked_does site exceptions own fp left bound fair room predefined Out fuel t p front Bltu 11 13 back 2 (lit< tt) (lit≤ tt) w c
      (in_area (signed (word_in j)) 1) (with_slot fp k (w.memory (natural (signed (word_in j)))) (paid 1 w)) has like there
      (tt, (tt, (from.inside, (tt, (tt, (tt, (tt, (tt, tt)))))))) (refl, refl, refl) refl two_is (area_holds (word_in j) 1 from.small) (lit≤ tt)
      (λ valid.
      let (is, low_enough, high_enough, few) = area_is (word_in j) 1 from.small valid in
      let (inside, behind, same) = byte_address (word_in j) low_enough (omega arith) in
      good_slot site exceptions own fp left bound fair room predefined Out fuel t p front Bltu 11 13 back 2 (lit< tt) (lit≤ tt) w c
      k (c.state.mem (sum_32 (word_in j * 2 ^ 2 % 2 ^ 32) 0 / 4)) (w.memory (natural (signed (word_in j)))) in_k like (tt, (inside, (tt, (tt, ((to.inside, to.behind), tt))))) (refl, refl, refl) refl
      (ap (λ n. signed (c.state.mem n)) same ∙ (sym (like.memory (word_in j) low_enough (omega arith)) ∙ ap w.memory (sym is))) (like.words (sum_32 (word_in j * 2 ^ 2 % 2 ^ 32) 0 / 4) (subst (λ n. data_word ≤ n) (sym same) low_enough))))

  pub store_does : (j k : ℕ) → j < bound → k < bound → HasLines site own p (simple_lines e t.raise_to p (simple.Store j k)) → Done (simple.Store j k)
  store_does j k in_j in_k has =
      let from = slot_of k in_k in
      let to = slot_of j in_j in
      let front = load_slot 10 j (measure 1) in
      let back = Shift Slli 10 10 2 ∷ load_slot 11 k (Store Sw 10 11 0 ∷ []) in
      subst (λ x. Does site exceptions own fp left fuel Out 0 w c t (p + 15) (cond (in_area x 1) (Ends (with_memory (with_word (natural x) (slot_in fp k w) w.memory) (paid 1 w))) (Raises 2 (paid 1 w)))) (sym to.holds)
      (checked_does site exceptions own fp left bound fair room predefined Out fuel t p front Bltu 11 13 back 2 (lit< tt) (lit≤ tt) w c
      (in_area (signed (word_in j)) 1) (with_memory (with_word (natural (signed (word_in j))) (slot_in fp k w) w.memory) (paid 1 w)) has like there
      (tt, (tt, (to.inside, (tt, (tt, (tt, (tt, (tt, tt)))))))) (refl, refl, refl) refl two_is (area_holds (word_in j) 1 to.small) (lit≤ tt)
      (λ valid.
      let (is, low_enough, high_enough, few) = area_is (word_in j) 1 to.small valid in
      let (inside, behind, same) = byte_address (word_in j) low_enough (omega arith) in
      let d = behind_check site exceptions own fp left bound fair room predefined Out fuel t p front Bltu 11 13 back 2 (lit< tt) (lit≤ tt) w c in
      record {
        straight = (tt, (tt, (tt, (from.inside, ((inside, behind), tt)))));
        like = λ silent. like_set site fp left 1 w c d (natural (signed (word_in j))) (sum_32 (word_in j * 2 ^ 2 % 2 ^ 32) 0 / 4) (word_in k) (slot_in fp k w) like
            (record { zeroth = refl; stack = refl; frame = refl; input = refl; output = refl; silent = silent }) refl (same ∙ sym is) (sym from.holds) from.small;
        quiet = λ silent. quiet_set site fp left Out c d (sum_32 (word_in j * 2 ^ 2 % 2 ^ 32) 0 / 4) (word_in k) silent refl (omega (arith, same));
        cost = refl;
      }))

  pub write_library_does : (n k : ℕ) → n < most_words → k < bound → HasLines site own p (simple_lines e t.raise_to p (simple.WriteLibrary n k)) → Done (simple.WriteLibrary n k)
  write_library_does n k few in_k has =
      let from = slot_of k in_k in
      let text = fair.text in
      let is = constant_is (library_byte n) (omega arith) in
      let inside : IsInMemory (library_address n) 4 =
      (let x : library_address n % 4 ≡ 0 = omega (arith, is) in x, let x : library_address n + 4 ≤ memory_bytes = omega (arith, is) in x) in
      let behind : text_end site.image ≤ library_address n = omega (arith, is) in
      let word : library_address n / 4 ≡ data_word + n = omega (arith, is) in
      let went : Gone site own p c (writes_library n k) =
      straight_lines_go site own p c (writes_library n k) has there (tt, (tt, (from.inside, (tt, ((inside, behind), tt))))) in
      let d = gone c (writes_library n k) in
      record {
        end = d;
        steps = 5;
        reaches = went.reaches;
        there = went.arrives;
        like = like_set site fp left 1 w c d (data_word + n) (library_address n / 4) (word_in k) (slot_in fp k w) like
            (record { zeroth = refl; stack = refl; frame = refl; input = refl; output = refl; silent = went.silent }) refl word (sym from.holds) from.small;
        quiet = quiet_set site fp left Out c d (library_address n / 4) (word_in k) went.silent refl (omega (arith, word));
        spent = (let x : 5 + 0 + 32 * w.seen.cost ≤ 32 * (w.seen.cost + 1) = omega arith in x);
        also = tt;
      }
