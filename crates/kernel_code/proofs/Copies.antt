-- Words that are copied one after the other.
use Rattle.std.proofs.Common.{◌≡◌, ℕ, zero, suc, ◌+◌, ◌-◌, ◌*◌, ◌/◌, ◌%◌, ◌^◌, ◌==◌, ◌≤◌, ◌<◌, Bool, true, false, cond, ◌&&◌, List, [], ◌∷◌, ◌++◌, map, Some, None, refl, sym, ap, subst, ◌∙◌, arith, lit≤, lit<}
use Rattle.std.proofs.lemmas.Bool.Decides.{nat_tests}
use Rattle.cov_base.specs.declared.position.DecId.{DecId}
use Rattle.rv_isa.specs.declared.ops.BranchOp.TheVariants.{Beq, Bltu}
use Rattle.rv_isa.specs.declared.ops.ImmediateOp.TheVariants.{Addi}
use Rattle.rv_isa.specs.declared.ops.ShiftOp.TheVariants.{Slli}
use Rattle.rv_isa.specs.declared.ops.LoadOp.TheVariants.{Lw}
use Rattle.rv_isa.specs.declared.ops.StoreOp.TheVariants.{Sw}
use Rattle.rv_isa.specs.declared.instr.Instr.{Instr}
use Rattle.rv_isa.specs.declared.instr.Instr.TheVariants.{Load, Store, Immediate, Shift}
use Rattle.rv_semantics.specs.Layout.{memory_bytes}
use Rattle.rv_semantics.specs.Arithmetic.{sum_32, signed}
use Rattle.rv_semantics.specs.State.{at}
use Rattle.rv_semantics.specs.Past.{Config}
use Rattle.placed_code.specs.Code.{text_end}
use Rattle.placed_code.specs.Straight.{IsInMemory}
use Rattle.ada_meaning.specs.Arithmetic.{natural}
use Rattle.kernel_ir.specs.declared.kernel.Layout.{Layout}
use Rattle.kernel_ir.specs.declared.simple.Simple.TheVariants as simple
use Rattle.kernel_ir.specs.World.{World, Ends, Raises, data_word, area_end, in_area, with_word, with_memory, slot_in, paid}
use Rattle.kernel_ir.specs.Simple.{copied, does_simple}
use Rattle.kernel_ir.specs.Limits.{most_words}
use Rattle.kernel_code.specs.Line.{Line, Site, plain, jump, steers, LineStands, HasLines}
use Rattle.kernel_code.specs.Words.{load_slot, load_constant}
use Rattle.kernel_code.specs.Goes.{Reaches, Silent, gone}
use Rattle.kernel_code.specs.SimpleCode.{Targets, Setting, branch, checked, measure, copy_loop, simple_lines}
use Rattle.kernel_code.specs.Code.{simple_length}
use Rattle.kernel_code.specs.Does.{IsFair, HasRoom, Like, Does}
use Rattle.kernel_code.proofs.Sums.{constant_is}
use Rattle.kernel_code.proofs.Goes.{reaches_on, reaches_as, silent_on, straight_lines_go, has_front, has_back}
use Rattle.kernel_code.proofs.Steps.{moved, passed, failed, branch_taken, branch_passed, jumps_to, line_silent, check_passes, check_fails}
use Rattle.kernel_code.proofs.Ranges.{area_is, area_checks}
use Rattle.kernel_code.proofs.Slots.{far, unpaid, SlotAt, slot_at, like_set, like_kept, quiet_kept, paths_kept}
use Rattle.kernel_code.proofs.CallLines.{fails_does}

module _ (site : Site) (own fp left : ℕ) (text : text_end site.image ≤ 4 * data_word) (q : ℕ) (has : HasLines site own q (copy_loop q)) where
  abbrev word_copied : List Instr
  word_copied = Load Lw 14 10 0 ∷ Store Sw 11 14 0 ∷ Immediate Addi 10 10 4 ∷ Immediate Addi 11 11 4 ∷ Immediate Addi 13 13 0xfff ∷ []

  has_words : HasLines site own (q + 1) (map plain word_copied ++ (jump q ∷ []))
  has_words = has.1

  has_jump : LineStands site own (q + 6) (jump q)
  has_jump = (has_back site own (q + 1) (q + 6) (map plain word_copied) (jump q ∷ []) (omega arith) has_words).0

  -- the machine behind the loop
  pub record Copied (n a b : ℕ) (w : World) (c : Config) : Type 0 where
    pub end : Config
    pub reaches : Reaches site.image (7 * n + 1) c end
    pub there : end.state.pc ≡ site.address own (q + 7)
    pub like : Like site fp left (with_memory (copied n a b w.memory) w) end
    pub silent : Silent site.facts c.past end.past
    pub above : (x : ℕ) → area_end ≤ x → end.state.mem x ≡ c.state.mem x

  address_is : (x a : ℕ) → x ≡ 4 * a → data_word ≤ a → a < area_end
      → IsInMemory (sum_32 x 0) 4 × (text_end site.image ≤ sum_32 x 0) × (sum_32 x 0 / 4 ≡ a)
  address_is x a is low_enough few =
      let e : sum_32 x 0 ≡ 4 * a = omega arith in
      ((let y : sum_32 x 0 % 4 ≡ 0 = omega (arith, e) in y, let y : sum_32 x 0 + 4 ≤ memory_bytes = omega (arith, e) in y), omega (arith, e), omega (arith, e))

  pub copies : (n a b : ℕ) (w : World) (c : Config) → Like site fp left w c → c.state.pc ≡ site.address own q → c.state.reg 10 ≡ 4 * a → c.state.reg 11 ≡ 4 * b → c.state.reg 13 ≡ n
      → data_word ≤ a → a + n ≤ area_end → data_word ≤ b → b + n ≤ area_end → Copied n a b w c
  copies zero a b w c like there from to count low_a high_a low_b high_b =
      let zeroth = like.zeroth in
      let d = moved c (Some true) (site.address own (q + 7)) in
      let over : (c.state.reg 13 == c.state.reg 0) ≡ true = grind (arith, nat_tests) in
      let silent = line_silent site own q (branch steers Beq 13 0 (q + 7)) c (Some true) (site.address own (q + 7)) has.0 there refl refl in
      record {
        end = d;
        reaches = branch_taken site own q steers Beq 13 0 (q + 7) c has.0 there over;
        there = refl;
        like = subst (λ u. Like site fp left u d) (unpaid w) (like_kept site fp left 0 w c d like (record { zeroth = refl; stack = refl; frame = refl; input = refl; output = refl; silent = silent }) refl);
        silent = silent;
        above = λ x h. refl;
      }
  copies (suc n) a b w c like there from to count low_a high_a low_b high_b =
      let zeroth = like.zeroth in
      let mid = moved c (Some false) (site.address own (q + 1)) in
      let more : (c.state.reg 13 == c.state.reg 0) ≡ false = grind (arith, nat_tests) in
      let silent1 = line_silent site own q (branch steers Beq 13 0 (q + 7)) c (Some false) (site.address own (q + 1)) has.0 there refl refl in
      let (inside_a, behind_a, word_a) = address_is (c.state.reg 10) a from low_a (omega arith) in
      let (inside_b, behind_b, word_b) = address_is (c.state.reg 11) b to low_b (omega arith) in
      let went = straight_lines_go site own (q + 1) mid word_copied (has_front site own (q + 1) (map plain word_copied) (jump q ∷ []) has_words) refl (inside_a, ((inside_b, behind_b), (tt, (tt, (tt, tt))))) in
      let g = gone mid word_copied in
      let at_jump : g.state.pc ≡ site.address own (q + 6) = went.arrives ∙ ap (λ m. site.address own m) (let x : q + 1 + 5 ≡ q + 6 = omega arith in x) in
      let h = moved g None (site.address own q) in
      let silent : Silent site.facts c.past h.past = silent_on site.facts c.past mid.past h.past silent1 (silent_on site.facts mid.past g.past h.past went.silent
      (line_silent site own (q + 6) (jump q) g None (site.address own q) has_jump at_jump refl refl)) in
      let value : signed (c.state.mem (sum_32 (c.state.reg 10) 0 / 4)) ≡ w.memory a = ap (λ m. signed (c.state.mem m)) word_a ∙ sym (like.memory a low_a (omega arith)) in
      let small = like.words (sum_32 (c.state.reg 10) 0 / 4) (subst (λ m. data_word ≤ m) (sym word_a) low_a) in
      let like_h : Like site fp left (with_memory (with_word b (w.memory a) w.memory) w) h = subst (λ u. Like site fp left (with_memory (with_word b (w.memory a) w.memory) u) h) (unpaid w)
      (like_set site fp left 0 w c h b (sum_32 (c.state.reg 11) 0 / 4) (c.state.mem (sum_32 (c.state.reg 10) 0 / 4)) (w.memory a) like
      (record { zeroth = refl; stack = refl; frame = refl; input = refl; output = refl; silent = silent }) refl word_b value small) in
      let rest = copies n (a + 1) (b + 1) (with_memory (with_word b (w.memory a) w.memory) w) h like_h refl
      (let x : sum_32 (c.state.reg 10) 4 ≡ 4 * (a + 1) = omega arith in x) (let x : sum_32 (c.state.reg 11) 4 ≡ 4 * (b + 1) = omega arith in x)
      (let x : sum_32 (c.state.reg 13) (2 ^ 32 - 1) ≡ n = omega arith in x) (omega arith) (omega arith) (omega arith) (omega arith) in
      record {
        end = rest.end;
        reaches = reaches_as site.image (1 + (5 + (1 + (7 * n + 1)))) (7 * suc n + 1) c rest.end (omega arith)
            (reaches_on site.image 1 (5 + (1 + (7 * n + 1))) c mid rest.end (branch_passed site own q steers Beq 13 0 (q + 7) c has.0 there more)
            (reaches_on site.image 5 (1 + (7 * n + 1)) mid g rest.end went.reaches
            (reaches_on site.image 1 (7 * n + 1) g h rest.end (jumps_to site own (q + 6) q g has_jump at_jump) rest.reaches)));
        there = rest.there;
        like = rest.like;
        silent = silent_on site.facts c.past h.past rest.end.past silent rest.silent;
        above = λ x high. rest.above x high ∙ other x high word_b;
      }
    where
      other : (x : ℕ) → area_end ≤ x → sum_32 (c.state.reg 11) 0 / 4 ≡ b → at c.state.mem (sum_32 (c.state.reg 11) 0 / 4) (c.state.mem (sum_32 (c.state.reg 10) 0 / 4)) x ≡ c.state.mem x
      other x high word = let y : (x == sum_32 (c.state.reg 11) 0 / 4) ≡ false = grind (arith, nat_tests) in rw y refl

-- a test of two, the second one first
swapped : {A : Type 0} (a b : Bool) (e r : A) → cond (a && b) e r ≡ cond b (cond a e r) r
swapped true true e r = refl
swapped true false e r = refl
swapped false true e r = refl
swapped false false e r = refl

module _ (site : Site) (layouts : List Layout) (exceptions own fp left bound : ℕ) (fair : IsFair site exceptions) (room : HasRoom fp bound) (predefined : 4 ≤ exceptions) (Out : DecId → Type 0) (fuel : ℕ) (t : Targets) (p : ℕ)
    (e : Setting) (w : World) (c : Config) (like : Like site fp left w c) (there : c.state.pc ≡ site.address own p) (k j n : ℕ) (in_k : k < bound) (in_j : j < bound) (few : n ≤ most_words)
    (has : HasLines site own p (simple_lines e t.raise_to p (simple.Copy k j n))) where
  abbrev front : ℕ → List Instr
  front i = load_slot 10 i (measure n)

  abbrev back : List Instr
  back = Shift Slli 11 10 2 ∷ load_slot 10 j (Shift Slli 10 10 2 ∷ load_constant 13 n [])

  abbrev first_lines : List Line
  first_lines = checked t.raise_to p (front j) Bltu 11 13 []

  abbrev rest_lines : List Line
  rest_lines = checked t.raise_to (p + 10) (front k) Bltu 11 13 back ++ copy_loop (p + 27)

  to : SlotAt site fp w c k
  to = slot_at site exceptions fp left bound w c k fair room like in_k

  from : SlotAt site fp w c j
  from = slot_at site exceptions fp left bound w c j fair room like in_j

  abbrev word_in : ℕ → ℕ
  word_in i = c.state.mem (far (c.state.reg 8) i / 4)

  two_is : sum_32 (c.state.reg 0) 2 ≡ 2
  two_is = let z = like.zeroth in omega arith

  has_first : HasLines site own p (checked t.raise_to p (front j) Bltu 11 13 [])
  has_first = has_front site own p first_lines rest_lines has

  has_rest : HasLines site own (p + 10) rest_lines
  has_rest = has_back site own p (p + 10) first_lines rest_lines (omega arith) has

  has_second : HasLines site own (p + 10) (checked t.raise_to (p + 10) (front k) Bltu 11 13 back)
  has_second = has_front site own (p + 10) (checked t.raise_to (p + 10) (front k) Bltu 11 13 back) (copy_loop (p + 27)) has_rest

  has_loop : HasLines site own (p + 27) (copy_loop (p + 27))
  has_loop = has_back site own (p + 10) (p + 27) (checked t.raise_to (p + 10) (front k) Bltu 11 13 back) (copy_loop (p + 27)) (omega arith) has_rest

  abbrev c1 : Config
  c1 = passed site own p c (front j)

  abbrev copied_world : World
  copied_world = with_memory (copied n (natural (slot_in fp j w)) (natural (slot_in fp k w)) w.memory) (paid (n + 1) w)

  area_of : (i : ℕ) (slot : SlotAt site fp w c i) (b : Bool) → in_area (slot_in fp i w) n ≡ b → in_area (signed (word_in i)) n ≡ b
  area_of i slot b is = ap (λ z. in_area z n) (sym slot.holds) ∙ is

  second : in_area (slot_in fp j w) n ≡ true → (b : Bool) → in_area (slot_in fp k w) n ≡ b → Does site exceptions own fp left fuel Out 0 w c t (p + 34) (cond b (Ends copied_world) (Raises 2 (paid 1 w)))
  second first_is true is =
      let pass = check_passes site own p t.raise_to (front j) Bltu 11 13 [] c has_first there (tt, (tt, (from.inside, (tt, (tt, (tt, (tt, (tt, tt))))))))
      (area_checks (word_in j) n from.small ∙ area_of j from true first_is) tt in
      let more = check_passes site own (p + 10) t.raise_to (front k) Bltu 11 13 back (passed site own p c (front j)) has_second refl (tt, (tt, (to.inside, (tt, (tt, (tt, (tt, (tt, tt))))))))
      (area_checks (word_in k) n to.small ∙ area_of k to true is) (tt, (tt, (tt, (from.inside, (tt, (tt, (tt, tt))))))) in
      let c2 = gone (passed site own (p + 10) (passed site own p c (front j)) (front k)) back in
      let silent : Silent site.facts c.past c2.past = silent_on site.facts c.past (passed site own p c (front j)).past c2.past pass.silent more.silent in
      let like2 : Like site fp left (paid (n + 1) w) c2 = like_kept site fp left (n + 1) w c c2 like (record { zeroth = refl; stack = refl; frame = refl; input = refl; output = refl; silent = silent }) refl in
      let (is_a, low_a, high_a, small_a) = area_is (word_in j) n from.small (area_of j from true first_is) in
      let (is_b, low_b, high_b, small_b) = area_is (word_in k) n to.small (area_of k to true is) in
      let text = fair.text in
      let done = copies site own fp left (let x : text_end site.image ≤ 4 * data_word = omega arith in x) (p + 27) has_loop n (word_in j) (word_in k) (paid (n + 1) w) c2 like2 (more.there ∙ ap (λ m. site.address own m) (let x : p + 10 + 17 ≡ p + 27 = omega arith in x))
      (let x : word_in j * 2 ^ 2 % 2 ^ 32 ≡ 4 * word_in j = omega arith in x) (let x : word_in k * 2 ^ 2 % 2 ^ 32 ≡ 4 * word_in k = omega arith in x) (constant_is n (omega arith))
      low_a (omega arith) low_b (omega arith) in
      let all : Silent site.facts c.past done.end.past = silent_on site.facts c.past c2.past done.end.past silent done.silent in
      let is_j : word_in j ≡ natural (slot_in fp j w) = sym is_a ∙ ap natural (sym from.holds) in
      let is_k : word_in k ≡ natural (slot_in fp k w) = sym is_b ∙ ap natural (sym to.holds) in
      record {
        end = done.end;
        steps = 9 + (16 + (7 * n + 1));
        reaches = reaches_on site.image 9 (16 + (7 * n + 1)) c (passed site own p c (front j)) done.end pass.reaches
            (reaches_on site.image 16 (7 * n + 1) (passed site own p c (front j)) c2 done.end more.reaches done.reaches);
        there = done.there ∙ ap (λ m. site.address own m) (let x : p + 27 + 7 ≡ p + 34 = omega arith in x);
        like = subst (λ a. Like site fp left (with_memory (copied n a (natural (slot_in fp k w)) w.memory) (paid (n + 1) w)) done.end) is_j
            (subst (λ b. Like site fp left (with_memory (copied n (word_in j) b w.memory) (paid (n + 1) w)) done.end) is_k done.like);
        quiet = record {
          paths = λ key apart m. paths_kept site c done.end all key m;
          keeps = λ a above low. done.above a (omega arith);
        };
        spent = (let x : 9 + (16 + (7 * n + 1)) + 0 + 32 * w.seen.cost ≤ 32 * (w.seen.cost + (n + 1)) = omega arith in x);
        also = tt;
      }
  second first_is false is =
      let pass = check_passes site own p t.raise_to (front j) Bltu 11 13 [] c has_first there (tt, (tt, (from.inside, (tt, (tt, (tt, (tt, (tt, tt))))))))
      (area_checks (word_in j) n from.small ∙ area_of j from true first_is) tt in
      let fail = check_fails site own (p + 10) t.raise_to (front k) Bltu 11 13 (map plain back) (passed site own p c (front j)) has_second refl (tt, (tt, (to.inside, (tt, (tt, (tt, (tt, (tt, tt))))))))
      (area_checks (word_in k) n to.small ∙ area_of k to false is) in
      let d = failed site own (p + 10) t.raise_to (passed site own p c (front j)) (front k) in
      let silent : Silent site.facts c.past d.past = silent_on site.facts c.past (passed site own p c (front j)).past d.past pass.silent fail.silent in
      record {
        end = d;
        steps = 9 + 10;
        reaches = reaches_on site.image 9 10 c (passed site own p c (front j)) d pass.reaches fail.reaches;
        there = refl;
        like = like_kept site fp left 1 w c d like (record { zeroth = refl; stack = refl; frame = refl; input = refl; output = refl; silent = silent }) refl;
        quiet = quiet_kept site fp left Out c d silent refl;
        spent = (let x : 9 + 10 + 0 + 32 * w.seen.cost ≤ 32 * (w.seen.cost + 1) = omega arith in x);
        also = record { number = two_is; some = lit< tt; known = omega arith };
      }

  first : (b : Bool) → in_area (slot_in fp j w) n ≡ b → Does site exceptions own fp left fuel Out 0 w c t (p + 34) (cond b (cond (in_area (slot_in fp k w) n) (Ends copied_world) (Raises 2 (paid 1 w))) (Raises 2 (paid 1 w)))
  first true is = second is (in_area (slot_in fp k w) n) refl
  first false is =
      fails_does site exceptions own fp left Out p t.raise_to 2 (front j) Bltu 11 13 [] w c has_first like there (tt, (tt, (from.inside, (tt, (tt, (tt, (tt, (tt, tt)))))))) (refl, refl, refl) refl
      (area_checks (word_in j) n from.small ∙ area_of j from false is) two_is (lit< tt) (omega arith) (lit≤ tt)

  pub copy_does : Does site exceptions own fp left fuel Out 0 w c t (p + simple_length (simple.Copy k j n)) (does_simple layouts exceptions fp (simple.Copy k j n) w)
  copy_does =
      subst (λ ended. Does site exceptions own fp left fuel Out 0 w c t (p + 34) ended) (sym (swapped (in_area (slot_in fp k w) n) (in_area (slot_in fp j w) n) (Ends copied_world) (Raises 2 (paid 1 w))))
      (first (in_area (slot_in fp j w) n) refl)
