-- Parts of a layout's code: words, calls of components, and the return.
use Rattle.std.proofs.Common.{◌≡◌, ℕ, ◌+◌, ◌*◌, ◌/◌, ◌%◌, ◌^◌, ◌==◌, ◌≤◌, ◌<◌, Bool, true, false, cond, ℤ, FitsSigned, List, [], ◌∷◌, ◌++◌, map, length, None, refl, sym, ap, ap₂, subst, ◌∙◌, arith, lit≤, length-append}
use Rattle.std.specs.Int.{w32}
use Rattle.std.proofs.lemmas.Bool.Decides.{nat_tests}
use Rattle.rv_isa.specs.declared.ops.ImmediateOp.TheVariants.{Addi}
use Rattle.rv_isa.specs.declared.ops.StoreOp.TheVariants.{Sw}
use Rattle.rv_isa.specs.declared.instr.Instr.{Instr}
use Rattle.rv_isa.specs.declared.instr.Instr.TheVariants.{Jalr, Store, Immediate}
use Rattle.rv_isa.specs.Immediates.{sign_12, upper_value}
use Rattle.rv_semantics.specs.Layout.{memory_bytes}
use Rattle.rv_semantics.specs.Arithmetic.{sum_32, signed, unsigned}
use Rattle.rv_semantics.specs.State.{at}
use Rattle.rv_semantics.specs.Past.{Config}
use Rattle.placed_code.specs.Code.{text_end}
use Rattle.placed_code.specs.Straight.{IsInMemory}
use Rattle.kernel_ir.specs.World.{World, Memory, with_memory, with_word, data_word, area_end}
use Rattle.kernel_ir.specs.Simple.{filled}
use Rattle.kernel_ir.specs.Layouts.{Content, no_content, followed_by}
use Rattle.kernel_code.specs.Line.{Site, plain, HasLines}
use Rattle.kernel_code.specs.Words.{high, low, load_constant}
use Rattle.kernel_code.specs.Goes.{Reaches, Silent, gone}
use Rattle.kernel_code.specs.FillCode.{layout_word, keep_return, go_back}
use Rattle.kernel_code.specs.Does.{Like}
use Rattle.kernel_code.specs.Fills.{Fills}
use Rattle.kernel_code.proofs.Sums.{constant_is, signed_word, word_small}
use Rattle.kernel_code.proofs.Goes.{reaches_none, reaches_on, silent_none, silent_on, straight_lines_go, has_front, has_back}
use Rattle.kernel_code.proofs.Steps.{moved, line_silent}
use Rattle.kernel_code.proofs.Bodies.{jumps_back}
use Rattle.kernel_code.proofs.Slots.{unpaid, like_set}

-- words in two parts
pub filled_parts : (xs ys : List ℤ) (a : ℕ) (m : Memory) → filled (xs ++ ys) a m ≡ filled ys (a + length xs) (filled xs a m)
filled_parts [] ys a m = ap (λ n. filled ys n m) (let e : a ≡ a + 0 = omega arith in e)
filled_parts (x ∷ xs) ys a m =
    filled_parts xs ys (a + 1) (with_word a x m)
    ∙ ap (λ n. filled ys n (filled xs (a + 1) (with_word a x m))) (let e : a + 1 + length xs ≡ a + length (x ∷ xs) = omega arith in e)

module _ (site : Site) (fp left l : ℕ) where
  -- nothing is set
  pub fills_none : (a : ℕ) (w : World) (c : Config) → Like site fp left w c → c.state.reg 10 ≡ 4 * a → Fills site fp left l 0 no_content a c.state.pc w c
  fills_none a w c like next = record {
    end = c;
    steps = 0;
    reaches = reaches_none site.image c;
    there = refl;
    like = like;
    next = next ∙ (let e : 4 * a ≡ 4 * (a + 0) = omega arith in e);
    silent = silent_none site.facts c.past;
    keeps_low = λ x low high. refl;
    keeps_high = λ x high. refl;
    spent = omega arith;
  }

  -- one part behind another
  pub fills_on : (spared one two : ℕ) (x y : Content) (a middle pc : ℕ) (w : World) (c : Config) (first : Fills site fp left l one x a middle w c)
      → Fills site fp left l two y (a + length x.words) pc (with_memory (filled x.words a w.memory) w) first.end → spared ≤ one + two
      → Fills site fp left l spared (followed_by x y) a pc w c
  fills_on spared one two x y a middle pc w c first next enough =
      let spent_first = first.spent in
      let spent_next = next.spent in
      record {
        end = next.end;
        steps = first.steps + next.steps;
        reaches = reaches_on site.image first.steps next.steps c first.end next.end first.reaches next.reaches;
        there = next.there;
        like = subst (λ m. Like site fp left (with_memory m w) next.end) (sym (filled_parts x.words y.words a w.memory)) next.like;
        next = next.next ∙ (let e : 4 * (a + length x.words + length y.words) ≡ 4 * (a + length (x.words ++ y.words)) = omega (arith, length-append x.words y.words) in e);
        silent = silent_on site.facts c.past first.end.past next.end.past first.silent next.silent;
        keeps_low = λ n low high. next.keeps_low n low high ∙ first.keeps_low n low high;
        keeps_high = λ n high. next.keeps_high n high ∙ first.keeps_high n high;
        spent = (let e : first.steps + next.steps + spared ≤ 32 * (x.cost + y.cost) = omega arith in e);
      }

-- a word of a layout's own
pub record OwnWord (site : Site) (n : ℕ) : Type 0 where
  pub inside : IsInMemory (sum_32 (upper_value (high (4 * n))) (sign_12 (low (4 * n)))) 4
  pub behind : text_end site.image ≤ sum_32 (upper_value (high (4 * n))) (sign_12 (low (4 * n)))
  pub word : sum_32 (upper_value (high (4 * n))) (sign_12 (low (4 * n))) / 4 ≡ n

pub own_word : (site : Site) (n : ℕ) → text_end site.image ≤ 4 * data_word → area_end ≤ n → n < 0x800000 → OwnWord site n
own_word site n text low_enough small =
    let is = constant_is (4 * n) (omega arith) in
    record {
      inside = (let x : sum_32 (upper_value (high (4 * n))) (sign_12 (low (4 * n))) % 4 ≡ 0 = omega (arith, is) in x, let x : sum_32 (upper_value (high (4 * n))) (sign_12 (low (4 * n))) + 4 ≤ memory_bytes = omega (arith, is) in x);
      behind = omega (arith, is);
      word = omega (arith, is);
    }

-- a state after a silent stretch that keeps the data area, x0, x2 and x8
pub like_above : (site : Site) (fp left : ℕ) (w : World) (c d : Config) → Like site fp left w c
    → (d.state.reg 0 ≡ c.state.reg 0) × (d.state.reg 2 ≡ c.state.reg 2) × (d.state.reg 8 ≡ c.state.reg 8)
    → ((x : ℕ) → x < area_end → d.state.mem x ≡ c.state.mem x) → ((x : ℕ) → data_word ≤ x → d.state.mem x < 2 ^ 32) → d.input ≡ c.input → d.output ≡ c.output → Silent site.facts c.past d.past → Like site fp left w d
like_above site fp left w c d like regs mem words input output silent = record {
  zeroth = regs.0 ∙ like.zeroth;
  frame = regs.2 ∙ like.frame;
  stack = regs.1 ∙ like.stack;
  memory = λ a low_enough high_enough. like.memory a low_enough high_enough ∙ ap signed (sym (mem a high_enough));
  words = words;
  input = like.input ∙ sym input;
  numbers = subst (λ xs. Rattle.std.specs.List.AllByRecursion (FitsSigned w32) xs) (sym input) like.numbers;
  shows = record { output = like.shows.output ∙ sym output; events = like.shows.events ∙ sym silent.says; order = silent.order like.shows.order };
}

pub at_other : (m : ℕ → ℕ) (place v x : ℕ) → (x ≡ place → ⊥) → at m place v x ≡ m x
at_other m place v x off = let e : (x == place) ≡ false = grind (arith, nat_tests) in rw e refl

pub at_same : (m : ℕ → ℕ) (place v x : ℕ) → x ≡ place → at m place v x ≡ v
at_same m place v x is = let e : (x == place) ≡ true = grind (arith, nat_tests) in rw e refl

pub at_small : (m : ℕ → ℕ) (place v x : ℕ) → v < 2 ^ 32 → m x < 2 ^ 32 → at m place v x < 2 ^ 32
at_small m place v x small same = by_test (x == place)
  where
    by_test : (b : Bool) → cond b v (m x) < 2 ^ 32
    by_test true = small
    by_test false = same

module _ (site : Site) (own fp left l back : ℕ) (text : text_end site.image ≤ 4 * data_word) (few : l < 0x3f00) (aligned : back % 4 ≡ 0) (small : back < 2 ^ 32) where
  slot : OwnWord site (layout_word l)
  slot = own_word site (layout_word l) text (omega arith) (omega arith)

  -- the return address is kept
  pub record Kept (to : ℕ) (w : World) (c : Config) : Type 0 where
    pub end : Config
    pub reaches : Reaches site.image 2 c end
    pub there : end.state.pc ≡ site.address own to
    pub like : Like site fp left w end
    pub next : end.state.reg 10 ≡ c.state.reg 10
    pub silent : Silent site.facts c.past end.past
    pub mem : end.state.mem ≡ at c.state.mem (layout_word l) back

  pub keeps_return : (q : ℕ) → HasLines site own q (map plain (keep_return l)) → (w : World) (c : Config) → Like site fp left w c → c.state.pc ≡ site.address own q → c.state.reg 1 ≡ back → Kept (q + 2) w c
  keeps_return q has w c like there is_back =
      let went = straight_lines_go site own q c (keep_return l) has there (tt, ((slot.inside, slot.behind), tt)) in
      let mem : (gone c (keep_return l)).state.mem ≡ at c.state.mem (layout_word l) back = ap₂ (λ n v. at c.state.mem n v) slot.word is_back in
      record {
        end = gone c (keep_return l);
        reaches = went.reaches;
        there = went.arrives;
        like = like_above site fp left w c (gone c (keep_return l)) like (refl, refl, refl)
            (λ x low_enough. ap (λ m. m x) mem ∙ at_other c.state.mem (layout_word l) back x (λ e. omega (arith, e)))
            (λ x low_enough. subst (λ m. m x < 2 ^ 32) (sym mem) (at_small c.state.mem (layout_word l) back x small (like.words x low_enough))) refl refl went.silent;
        next = refl;
        silent = went.silent;
        mem = mem;
      }

  -- and the piece goes back
  pub record Back (w : World) (c : Config) : Type 0 where
    pub end : Config
    pub reaches : Reaches site.image 3 c end
    pub there : end.state.pc ≡ back
    pub like : Like site fp left w end
    pub next : end.state.reg 10 ≡ c.state.reg 10
    pub silent : Silent site.facts c.past end.past
    pub mem : end.state.mem ≡ c.state.mem

  pub goes_back : (q : ℕ) → HasLines site own q (map plain (go_back l) ++ (plain (Jalr 0 1 0) ∷ [])) → (w : World) (c : Config) → Like site fp left w c → c.state.pc ≡ site.address own q → c.state.mem (layout_word l) ≡ back → Back w c
  goes_back q has w c like there is_back =
      let went = straight_lines_go site own q c (go_back l) (has_front site own q (map plain (go_back l)) (plain (Jalr 0 1 0) ∷ []) has) there (tt, (slot.inside, tt)) in
      let last = has_back site own q (q + 2) (map plain (go_back l)) (plain (Jalr 0 1 0) ∷ []) refl has in
      let g = gone c (go_back l) in
      let d = moved g None back in
      let silent : Silent site.facts c.past d.past = silent_on site.facts c.past g.past d.past went.silent (line_silent site own (q + 2) (plain (Jalr 0 1 0)) g None back last.0 went.arrives refl refl) in
      record {
        end = d;
        reaches = reaches_on site.image 2 1 c g d went.reaches (jumps_back site own (q + 2) back g last.0 went.arrives (ap c.state.mem slot.word ∙ is_back) aligned small);
        there = refl;
        like = like_above site fp left w c d like (refl, refl, refl) (λ x h. refl) (λ x h. like.words x h) refl refl silent;
        next = refl;
        silent = silent;
        mem = refl;
      }

  -- one word is set
  abbrev set_word : ℤ → List Instr
  set_word x = load_constant 11 (unsigned x) (Store Sw 10 11 0 ∷ Immediate Addi 10 10 4 ∷ [])

  pub word_fills : (x : ℤ) → FitsSigned w32 x → HasLines site own 0 (map plain (set_word x) ++ (plain (Jalr 0 1 0) ∷ [])) → (a : ℕ) (w : World) (c : Config) → Like site fp left w c → c.state.pc ≡ site.address own 0
      → c.state.reg 1 ≡ back → c.state.reg 10 ≡ 4 * a → data_word ≤ a → a + 1 ≤ area_end
      → Fills site fp left (l + 1) 8 (record { words = x ∷ []; cost = 1 }) a back w c
  word_fills x fits has a w c like there is_back next low_enough high_enough =
      let e : sum_32 (c.state.reg 10) 0 ≡ 4 * a = omega arith in
      let inside : IsInMemory (sum_32 (c.state.reg 10) 0) 4 = (let y : sum_32 (c.state.reg 10) 0 % 4 ≡ 0 = omega (arith, e) in y, let y : sum_32 (c.state.reg 10) 0 + 4 ≤ memory_bytes = omega (arith, e) in y) in
      let behind : text_end site.image ≤ sum_32 (c.state.reg 10) 0 = omega (arith, e) in
      let place : sum_32 (c.state.reg 10) 0 / 4 ≡ a = omega (arith, e) in
      let went = straight_lines_go site own 0 c (set_word x) (has_front site own 0 (map plain (set_word x)) (plain (Jalr 0 1 0) ∷ []) has) there (tt, (tt, ((inside, behind), (tt, tt)))) in
      let last = has_back site own 0 4 (map plain (set_word x)) (plain (Jalr 0 1 0) ∷ []) refl has in
      let g = gone c (set_word x) in
      let d = moved g None back in
      let constant = constant_is (unsigned x) (word_small x fits) in
      let silent : Silent site.facts c.past d.past = silent_on site.facts c.past g.past d.past went.silent (line_silent site own 4 (plain (Jalr 0 1 0)) g None back last.0 went.arrives refl refl) in
      record {
        end = d;
        steps = 5;
        reaches = reaches_on site.image 4 1 c g d went.reaches (jumps_back site own 4 back g last.0 went.arrives is_back aligned small);
        there = refl;
        like = subst (λ u. Like site fp left (with_memory (with_word a x w.memory) u) d) (unpaid w)
            (like_set site fp left 0 w c d a (sum_32 (c.state.reg 10) 0 / 4) (sum_32 (upper_value (high (unsigned x))) (sign_12 (low (unsigned x)))) x like
            (record { zeroth = refl; stack = refl; frame = refl; input = refl; output = refl; silent = silent }) refl place (ap signed constant ∙ signed_word x fits) (subst (λ n. n < 2 ^ 32) (sym constant) (word_small x fits)));
        next = (let y : sum_32 (c.state.reg 10) 4 ≡ 4 * (a + 1) = omega arith in y);
        silent = silent;
        keeps_low = λ n low_n high_n. at_other c.state.mem (sum_32 (c.state.reg 10) 0 / 4) _ n (λ f. omega (arith, f, place));
        keeps_high = λ n high_n. at_other c.state.mem (sum_32 (c.state.reg 10) 0 / 4) _ n (λ f. omega (arith, f, place));
        spent = lit≤ tt;
      }
