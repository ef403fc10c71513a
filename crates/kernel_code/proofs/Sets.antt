-- Operations that set a slot by straight code.
use Rattle.std.proofs.Common.{◌≡◌, ℕ, ◌+◌, ◌-◌, ◌/◌, ◌%◌, ◌^◌, ◌≤◌, ◌<◌, not, nat_lt, ℤ, pos, ◌+ℤ◌, FitsSigned, [], ◌∷◌, refl, sym, ap, ap₂, subst, ◌∙◌, arith, lit≤}
use Rattle.std.specs.Int.{w32, int_wrap}
use Rattle.std.proofs.lemmas.Int.{wrapping_add-bits, wrapping_add_onto, to_z_pos}
use Rattle.rv_isa.specs.declared.ops.UpperOp.TheVariants.{Lui}
use Rattle.rv_isa.specs.declared.ops.ImmediateOp.TheVariants.{Addi}
use Rattle.rv_isa.specs.declared.ops.ShiftOp.TheVariants.{Srli}
use Rattle.rv_isa.specs.declared.ops.RegisterOp.TheVariants.{Add, Sub, Sltu}
use Rattle.rv_isa.specs.declared.ops.LoadOp.TheVariants.{Lw}
use Rattle.rv_isa.specs.declared.instr.Instr.TheVariants.{Upper, Load, Immediate, Shift, Register}
use Rattle.rv_isa.specs.Immediates.{sign_12, upper_value}
use Rattle.rv_semantics.specs.Layout.{memory_bytes}
use Rattle.placed_code.specs.Straight.{IsInMemory}
use Rattle.ada_meaning.specs.Arithmetic.{number_of_truth, is_true, holds}
use Rattle.kernel_ir.specs.declared.simple.Relation.{Relation}
use Rattle.kernel_ir.specs.declared.simple.Relation.TheVariants as relation
use Rattle.kernel_ir.specs.Simple.{relation_of}
use Rattle.kernel_ir.specs.Limits.{most_words}
use Rattle.cov_base.specs.declared.position.DecId.{DecId}
use Rattle.rv_semantics.specs.Arithmetic.{sum_32, difference_32, signed, unsigned, flag}
use Rattle.rv_semantics.specs.Past.{Config}
use Rattle.kernel_ir.specs.declared.simple.Simple.{Simple}
use Rattle.kernel_ir.specs.declared.simple.Simple.TheVariants as simple
use Rattle.kernel_ir.specs.World.{World, data_word, slot_word, with_slot, slot_in, paid}
use Rattle.kernel_code.specs.Line.{Site, HasLines}
use Rattle.kernel_code.specs.Words.{high, low, load_slot, store_slot, load_constant}
use Rattle.kernel_code.specs.SimpleCode.{Setting, relate, library_byte, simple_lines}
use Rattle.kernel_code.specs.Code.{simple_length}
use Rattle.kernel_code.specs.Does.{IsFair, HasRoom, Like, Comes, Nothing}
use Rattle.kernel_code.proofs.Sums.{constant_is, signed_word, word_small}
use Rattle.kernel_code.proofs.Truths.{flag_is, flag_small, related, related_is, complement_test}
use Rattle.kernel_code.proofs.Slots.{far, SlotAt, slot_at, sets_does}

-- the code of an operation stands, and the machine is there
pub record Ready (site : Site) (own fp left : ℕ) (e : Setting) (r p : ℕ) (s : Simple) (w : World) (c : Config) : Type 0 where
  pub has : HasLines site own p (simple_lines e r p s)
  pub there : c.state.pc ≡ site.address own p
  pub like : Like site fp left w c

module _ (site : Site) (exceptions own fp left bound : ℕ) (fair : IsFair site exceptions) (room : HasRoom fp bound) (Out : DecId → Type 0) (e : Setting) (r p : ℕ) where
  -- the slot k has the number x
  abbrev pub Sets : (s : Simple) → World → Config → (k : ℕ) → ℤ → Type 0
  Sets s w c k x = Comes site own fp left Out 0 w c (p + simple_length s) Nothing (with_slot fp k x (paid 1 w))

  pub number_does : (k : ℕ) (x : ℤ) (w : World) (c : Config) → k < bound → FitsSigned w32 x → Ready site own fp left e r p (simple.Number k x) w c → Sets (simple.Number k x) w c k x
  number_does k x w c in_k fits ready =
      let to = slot_at site exceptions fp left bound w c k fair room ready.like in_k in
      sets_does site exceptions own fp left bound fair room Out p k (load_constant 10 (unsigned x) (store_slot 10 k [])) w c _ x in_k ready.like ready.has ready.there
      (tt, (tt, (tt, (tt, ((to.inside, to.behind), tt))))) (refl, refl, refl) refl
      (ap signed (constant_is (unsigned x) (word_small x fits)) ∙ signed_word x fits) (let e = constant_is (unsigned x) (word_small x fits) in omega arith) (lit≤ tt)

  pub move_does : (k j : ℕ) (w : World) (c : Config) → k < bound → j < bound → Ready site own fp left e r p (simple.Move k j) w c → Sets (simple.Move k j) w c k (slot_in fp j w)
  move_does k j w c in_k in_j ready =
      let to = slot_at site exceptions fp left bound w c k fair room ready.like in_k in
      let from = slot_at site exceptions fp left bound w c j fair room ready.like in_j in
      sets_does site exceptions own fp left bound fair room Out p k (load_slot 10 j (store_slot 10 k [])) w c _ (slot_in fp j w) in_k ready.like ready.has ready.there
      (tt, (tt, (from.inside, (tt, (tt, ((to.inside, to.behind), tt)))))) (refl, refl, refl) refl (sym from.holds) from.small (lit≤ tt)

  pub compare_does : (o : Relation) (k i j : ℕ) (w : World) (c : Config) → k < bound → i < bound → j < bound → Ready site own fp left e r p (simple.Compare o k i j) w c
      → Sets (simple.Compare o k i j) w c k (number_of_truth (holds (relation_of o) (slot_in fp i w) (slot_in fp j w)))
  compare_does o k i j w c in_k in_i in_j ready = by_relation o refl
    where
      to : SlotAt site fp w c k
      to = slot_at site exceptions fp left bound w c k fair room ready.like in_k

      one : SlotAt site fp w c i
      one = slot_at site exceptions fp left bound w c i fair room ready.like in_i

      other : SlotAt site fp w c j
      other = slot_at site exceptions fp left bound w c j fair room ready.like in_j

      word_is : (q : Relation) → related q (c.state.reg 0) (c.state.mem (far (c.state.reg 8) i / 4)) (c.state.mem (far (c.state.reg 8) j / 4)) ≡ flag (holds (relation_of q) (slot_in fp i w) (slot_in fp j w))
      word_is q =
          related_is q (c.state.reg 0) (c.state.mem (far (c.state.reg 8) i / 4)) (c.state.mem (far (c.state.reg 8) j / 4)) one.small other.small ready.like.zeroth
          ∙ ap₂ (λ x y. flag (holds (relation_of q) x y)) (sym one.holds) (sym other.holds)

      value : (q : Relation) → signed (related q (c.state.reg 0) (c.state.mem (far (c.state.reg 8) i / 4)) (c.state.mem (far (c.state.reg 8) j / 4))) ≡ number_of_truth (holds (relation_of q) (slot_in fp i w) (slot_in fp j w))
      value q = ap signed (word_is q) ∙ flag_is (holds (relation_of q) (slot_in fp i w) (slot_in fp j w))

      small : (q : Relation) → related q (c.state.reg 0) (c.state.mem (far (c.state.reg 8) i / 4)) (c.state.mem (far (c.state.reg 8) j / 4)) < 2 ^ 32
      small q = subst (λ n. n < 2 ^ 32) (sym (word_is q)) (flag_small (holds (relation_of q) (slot_in fp i w) (slot_in fp j w)))

      has : (q : Relation) → o ≡ q → HasLines site own p (simple_lines e r p (simple.Compare q k i j))
      has q is = subst (λ x. HasLines site own p (simple_lines e r p (simple.Compare x k i j))) is ready.has

      done : (q : Relation) → o ≡ q → Sets (simple.Compare q k i j) w c k (number_of_truth (holds (relation_of q) (slot_in fp i w) (slot_in fp j w))) → Sets (simple.Compare o k i j) w c k (number_of_truth (holds (relation_of o) (slot_in fp i w) (slot_in fp j w)))
      done q is sets = subst (λ x. Sets (simple.Compare x k i j) w c k (number_of_truth (holds (relation_of x) (slot_in fp i w) (slot_in fp j w)))) (sym is) sets

      by_relation : (q : Relation) → o ≡ q → Sets (simple.Compare o k i j) w c k (number_of_truth (holds (relation_of o) (slot_in fp i w) (slot_in fp j w)))
      by_relation relation.Equal is = done relation.Equal is
          (sets_does site exceptions own fp left bound fair room Out p k (load_slot 10 i (load_slot 11 j (relate relation.Equal (store_slot 10 k [])))) w c _ _ in_k ready.like (has relation.Equal is) ready.there
          (tt, (tt, (one.inside, (tt, (tt, (other.inside, (tt, (tt, (tt, (tt, ((to.inside, to.behind), tt))))))))))) (refl, refl, refl) refl (value relation.Equal) (small relation.Equal) (lit≤ tt))
      by_relation relation.Unequal is = done relation.Unequal is
          (sets_does site exceptions own fp left bound fair room Out p k (load_slot 10 i (load_slot 11 j (relate relation.Unequal (store_slot 10 k [])))) w c _ _ in_k ready.like (has relation.Unequal is) ready.there
          (tt, (tt, (one.inside, (tt, (tt, (other.inside, (tt, (tt, (tt, (tt, ((to.inside, to.behind), tt))))))))))) (refl, refl, refl) refl (value relation.Unequal) (small relation.Unequal) (lit≤ tt))
      by_relation relation.Less is = done relation.Less is
          (sets_does site exceptions own fp left bound fair room Out p k (load_slot 10 i (load_slot 11 j (relate relation.Less (store_slot 10 k [])))) w c _ _ in_k ready.like (has relation.Less is) ready.there
          (tt, (tt, (one.inside, (tt, (tt, (other.inside, (tt, (tt, (tt, ((to.inside, to.behind), tt)))))))))) (refl, refl, refl) refl (value relation.Less) (small relation.Less) (lit≤ tt))
      by_relation relation.AtMost is = done relation.AtMost is
          (sets_does site exceptions own fp left bound fair room Out p k (load_slot 10 i (load_slot 11 j (relate relation.AtMost (store_slot 10 k [])))) w c _ _ in_k ready.like (has relation.AtMost is) ready.there
          (tt, (tt, (one.inside, (tt, (tt, (other.inside, (tt, (tt, (tt, (tt, ((to.inside, to.behind), tt))))))))))) (refl, refl, refl) refl (value relation.AtMost) (small relation.AtMost) (lit≤ tt))
      by_relation relation.Greater is = done relation.Greater is
          (sets_does site exceptions own fp left bound fair room Out p k (load_slot 10 i (load_slot 11 j (relate relation.Greater (store_slot 10 k [])))) w c _ _ in_k ready.like (has relation.Greater is) ready.there
          (tt, (tt, (one.inside, (tt, (tt, (other.inside, (tt, (tt, (tt, ((to.inside, to.behind), tt)))))))))) (refl, refl, refl) refl (value relation.Greater) (small relation.Greater) (lit≤ tt))
      by_relation relation.AtLeast is = done relation.AtLeast is
          (sets_does site exceptions own fp left bound fair room Out p k (load_slot 10 i (load_slot 11 j (relate relation.AtLeast (store_slot 10 k [])))) w c _ _ in_k ready.like (has relation.AtLeast is) ready.there
          (tt, (tt, (one.inside, (tt, (tt, (other.inside, (tt, (tt, (tt, (tt, ((to.inside, to.behind), tt))))))))))) (refl, refl, refl) refl (value relation.AtLeast) (small relation.AtLeast) (lit≤ tt))

  pub complement_does : (k j : ℕ) (w : World) (c : Config) → k < bound → j < bound → Ready site own fp left e r p (simple.Complement k j) w c → Sets (simple.Complement k j) w c k (number_of_truth (not (is_true (slot_in fp j w))))
  complement_does k j w c in_k in_j ready =
      let to = slot_at site exceptions fp left bound w c k fair room ready.like in_k in
      let from = slot_at site exceptions fp left bound w c j fair room ready.like in_j in
      let value : flag (nat_lt (c.state.reg 0) (sum_32 (c.state.mem (far (c.state.reg 8) j / 4)) (2 ^ 32 - 1))) ≡ flag (not (is_true (slot_in fp j w))) =
      ap flag (complement_test (c.state.mem (far (c.state.reg 8) j / 4)) (c.state.reg 0) from.small ready.like.zeroth ∙ ap (λ z. not (is_true z)) (sym from.holds)) in
      sets_does site exceptions own fp left bound fair room Out p k (load_slot 10 j (Immediate Addi 10 10 0xfff ∷ Register Sltu 10 0 10 ∷ store_slot 10 k [])) w c _ _ in_k ready.like ready.has ready.there
      (tt, (tt, (from.inside, (tt, (tt, (tt, (tt, ((to.inside, to.behind), tt)))))))) (refl, refl, refl) refl
      (ap signed value ∙ flag_is (not (is_true (slot_in fp j w)))) (subst (λ n. n < 2 ^ 32) (sym value) (flag_small (not (is_true (slot_in fp j w))))) (lit≤ tt)

  pub offset_does : (k i j : ℕ) (w : World) (c : Config) → k < bound → i < bound → j < bound → Ready site own fp left e r p (simple.Offset k i j) w c → Sets (simple.Offset k i j) w c k (int_wrap w32 (slot_in fp i w +ℤ slot_in fp j w))
  offset_does k i j w c in_k in_i in_j ready =
      let to = slot_at site exceptions fp left bound w c k fair room ready.like in_k in
      let one = slot_at site exceptions fp left bound w c i fair room ready.like in_i in
      let other = slot_at site exceptions fp left bound w c j fair room ready.like in_j in
      sets_does site exceptions own fp left bound fair room Out p k (load_slot 10 i (load_slot 11 j (Register Add 10 10 11 ∷ store_slot 10 k []))) w c _ _ in_k ready.like ready.has ready.there
      (tt, (tt, (one.inside, (tt, (tt, (other.inside, (tt, (tt, (tt, ((to.inside, to.behind), tt)))))))))) (refl, refl, refl) refl
      (wrapping_add-bits w32 (c.state.mem (far (c.state.reg 8) i / 4)) (c.state.mem (far (c.state.reg 8) j / 4)) one.small other.small ∙ ap₂ (λ x y. int_wrap w32 (x +ℤ y)) (sym one.holds) (sym other.holds))
      (let x : sum_32 (c.state.mem (far (c.state.reg 8) i / 4)) (c.state.mem (far (c.state.reg 8) j / 4)) < 2 ^ 32 = omega arith in x) (lit≤ tt)

  pub advance_does : (k j : ℕ) (by : ℤ) (w : World) (c : Config) → k < bound → j < bound → FitsSigned w32 by → Ready site own fp left e r p (simple.Advance k j by) w c → Sets (simple.Advance k j by) w c k (int_wrap w32 (slot_in fp j w +ℤ by))
  advance_does k j by w c in_k in_j fits ready =
      let to = slot_at site exceptions fp left bound w c k fair room ready.like in_k in
      let from = slot_at site exceptions fp left bound w c j fair room ready.like in_j in
      let constant = constant_is (unsigned by) (word_small by fits) in
      sets_does site exceptions own fp left bound fair room Out p k (load_slot 10 j (load_constant 11 (unsigned by) (Register Add 10 10 11 ∷ store_slot 10 k []))) w c _ _ in_k ready.like ready.has ready.there
      (tt, (tt, (from.inside, (tt, (tt, (tt, (tt, (tt, ((to.inside, to.behind), tt))))))))) (refl, refl, refl) refl
      (ap (λ x. signed (sum_32 (c.state.mem (far (c.state.reg 8) j / 4)) x)) constant ∙ (wrapping_add_onto w32 (c.state.mem (far (c.state.reg 8) j / 4)) by from.small fits ∙ ap (λ x. int_wrap w32 (x +ℤ by)) (sym from.holds)))
      (below (c.state.mem (far (c.state.reg 8) j / 4)) _) (lit≤ tt)
    where
      below : (a b : ℕ) → sum_32 a b < 2 ^ 32
      below a b = omega arith

  pub frame_address_does : (k j : ℕ) (w : World) (c : Config) → k < bound → j < bound → Ready site own fp left e r p (simple.FrameAddress k j) w c → Sets (simple.FrameAddress k j) w c k (pos (slot_word fp j))
  frame_address_does k j w c in_k in_j ready =
      let to = slot_at site exceptions fp left bound w c k fair room ready.like in_k in
      let above = room.above in
      let below = room.below in
      let frame = ready.like.frame in
      let constant = constant_is (j + 1) (omega arith) in
      let value : difference_32 (c.state.reg 8 / 4) (sum_32 (upper_value (high (j + 1))) (sign_12 (low (j + 1)))) ≡ slot_word fp j =
      ap (λ x. difference_32 (c.state.reg 8 / 4) x) constant ∙ (let x : difference_32 (c.state.reg 8 / 4) (j + 1) ≡ slot_word fp j = omega arith in x) in
      sets_does site exceptions own fp left bound fair room Out p k (Shift Srli 10 8 2 ∷ load_constant 11 (j + 1) (Register Sub 10 10 11 ∷ store_slot 10 k [])) w c _ _ in_k ready.like ready.has ready.there
      (tt, (tt, (tt, (tt, (tt, (tt, ((to.inside, to.behind), tt))))))) (refl, refl, refl) refl
      (ap signed value ∙ to_z_pos w32 (slot_word fp j) (omega arith)) (subst (λ n. n < 2 ^ 32) (sym value) (omega arith)) (lit≤ tt)

  pub library_address_does : (k n : ℕ) (w : World) (c : Config) → k < bound → n ≤ most_words → Ready site own fp left e r p (simple.LibraryAddress k n) w c → Sets (simple.LibraryAddress k n) w c k (pos (data_word + n))
  library_address_does k n w c in_k few ready =
      let to = slot_at site exceptions fp left bound w c k fair room ready.like in_k in
      let constant = constant_is (library_byte n / 4) (omega arith) in
      let value : sum_32 (upper_value (high (library_byte n / 4))) (sign_12 (low (library_byte n / 4))) ≡ data_word + n = constant ∙ (let x : library_byte n / 4 ≡ data_word + n = omega arith in x) in
      sets_does site exceptions own fp left bound fair room Out p k (load_constant 10 (library_byte n / 4) (store_slot 10 k [])) w c _ _ in_k ready.like ready.has ready.there
      (tt, (tt, (tt, (tt, ((to.inside, to.behind), tt))))) (refl, refl, refl) refl
      (ap signed value ∙ to_z_pos w32 (data_word + n) (omega arith)) (subst (λ x. x < 2 ^ 32) (sym value) (omega arith)) (lit≤ tt)

  pub read_library_does : (k n : ℕ) (w : World) (c : Config) → k < bound → n < most_words → Ready site own fp left e r p (simple.ReadLibrary k n) w c → Sets (simple.ReadLibrary k n) w c k (w.memory (data_word + n))
  read_library_does k n w c in_k few ready =
      let to = slot_at site exceptions fp left bound w c k fair room ready.like in_k in
      let is = constant_is (library_byte n) (omega arith) in
      let inside : IsInMemory (sum_32 (upper_value (high (library_byte n))) (sign_12 (low (library_byte n)))) 4 =
      (let x : sum_32 (upper_value (high (library_byte n))) (sign_12 (low (library_byte n))) % 4 ≡ 0 = omega (arith, is) in x, let x : sum_32 (upper_value (high (library_byte n))) (sign_12 (low (library_byte n))) + 4 ≤ memory_bytes = omega (arith, is) in x) in
      let word : sum_32 (upper_value (high (library_byte n))) (sign_12 (low (library_byte n))) / 4 ≡ data_word + n = omega (arith, is) in
      sets_does site exceptions own fp left bound fair room Out p k (Upper Lui 10 (high (library_byte n)) ∷ Load Lw 10 10 (low (library_byte n)) ∷ store_slot 10 k []) w c _ _ in_k ready.like ready.has ready.there
      (tt, (inside, (tt, (tt, ((to.inside, to.behind), tt))))) (refl, refl, refl) refl
      (ap (λ a. signed (c.state.mem a)) word ∙ sym (ready.like.memory (data_word + n) (omega arith) (omega arith))) (ready.like.words (sum_32 (upper_value (high (library_byte n))) (sign_12 (low (library_byte n))) / 4) (omega (arith, word))) (lit≤ tt)
