-- Slots of a frame, and the relation of states after a silent stretch.
use Rattle.std.proofs.Common.{◌≡◌, ℕ, ◌+◌, ◌-◌, ◌*◌, ◌/◌, ◌%◌, ◌^◌, ◌==◌, ◌≤◌, ◌<◌, Bool, true, false, cond, ℤ, List, [], ◌∷◌, map, length, reverse, Some, None, refl, sym, ap, subst, ◌∙◌, arith, rules}
use Rattle.std.proofs.lemmas.Bool.Decides.{nat_tests}
use Rattle.cov_base.specs.declared.position.DecId.{DecId}
use Rattle.rv_isa.specs.declared.instr.Instr.{Instr}
use Rattle.rv_isa.specs.Immediates.{sign_12, upper_value}
use Rattle.rv_semantics.specs.Layout.{memory_bytes}
use Rattle.rv_semantics.specs.Arithmetic.{sum_32, signed}
use Rattle.rv_semantics.specs.State.{at}
use Rattle.rv_semantics.specs.Past.{Config}
use Rattle.placed_code.specs.Code.{text_end}
use Rattle.placed_code.specs.Straight.{IsInMemory, AreStraight}
use Rattle.transcript.specs.Computed.{path_to}
use Rattle.transcript.specs.Visit.{steps}
use Rattle.ada_meaning.specs.State.{Seen}
use Rattle.kernel_ir.specs.World.{World, area_end, slot_word, with_word, with_memory, paid, slot_in}
use Rattle.kernel_code.specs.Behind.{come_to}
use Rattle.kernel_code.specs.Line.{Site, plain, HasLines}
use Rattle.kernel_code.specs.Words.{high, low, slot_distance}
use Rattle.kernel_code.specs.Goes.{Silent, gone, Gone}
use Rattle.kernel_code.specs.Does.{pace, IsFair, HasRoom, Shows, Like, Quiet, Comes, Nothing}
use Rattle.kernel_code.proofs.Sums.{far_slot}
use Rattle.kernel_code.proofs.Goes.{straight_lines_go}

-- no cost is paid
pub unpaid : (w : World) → paid 0 w ≡ w
unpaid w = λ i. record {
  memory = w.memory;
  input = w.input;
  seen = record { events = w.seen.events; output = w.seen.output; cost = (let e : w.seen.cost + 0 ≡ w.seen.cost = omega arith in e) i };
}

-- the address that code computes for a slot
abbrev pub far : (x8 k : ℕ) → ℕ
far x8 k = sum_32 (sum_32 (upper_value (high (slot_distance k))) x8) (sign_12 (low (slot_distance k)))

pub record SlotAt (site : Site) (fp : ℕ) (w : World) (c : Config) (k : ℕ) : Type 0 where
  pub inside : IsInMemory (far (c.state.reg 8) k) 4
  pub behind : text_end site.image ≤ far (c.state.reg 8) k
  pub word : far (c.state.reg 8) k / 4 ≡ slot_word fp k
  pub holds : slot_in fp k w ≡ signed (c.state.mem (far (c.state.reg 8) k / 4))
  pub small : c.state.mem (far (c.state.reg 8) k / 4) < 2 ^ 32

far_is : (fp k x8 : ℕ) → x8 ≡ 4 * fp → k + 1 ≤ fp → 4 * fp < 2 ^ 32 → far x8 k ≡ 4 * slot_word fp k
far_is fp k x8 is below small =
    ap (λ x. sum_32 (sum_32 (upper_value (high (slot_distance k))) x) (sign_12 (low (slot_distance k)))) is ∙ far_slot fp k below small

pub slot_at : (site : Site) (exceptions fp left bound : ℕ) (w : World) (c : Config) (k : ℕ)
    → IsFair site exceptions → HasRoom fp bound → Like site fp left w c → k < bound → SlotAt site fp w c k
slot_at site exceptions fp left bound w c k fair room like within =
    let above = room.above in
    let below = room.below in
    let text = fair.text in
    let is : far (c.state.reg 8) k ≡ 4 * slot_word fp k = far_is fp k (c.state.reg 8) like.frame (let e : k + 1 ≤ fp = omega arith in e) (let e : 4 * fp < 2 ^ 32 = omega arith in e) in
    let word : far (c.state.reg 8) k / 4 ≡ slot_word fp k = omega (arith, is) in
    record {
      inside = (let e : far (c.state.reg 8) k % 4 ≡ 0 = omega (arith, is) in e, let e : far (c.state.reg 8) k + 4 ≤ memory_bytes = omega (arith, is) in e);
      behind = omega (arith, is);
      word = word;
      holds = like.memory (slot_word fp k) (omega arith) (omega arith) ∙ ap (λ a. signed (c.state.mem a)) (sym word);
      small = like.words (far (c.state.reg 8) k / 4) (omega (arith, word));
    }

-- a stretch that keeps x0, x2, x8, the input and the output, and tells nothing
pub record Keeps (site : Site) (c c' : Config) : Type 0 where
  pub zeroth : c'.state.reg 0 ≡ c.state.reg 0
  pub stack : c'.state.reg 2 ≡ c.state.reg 2
  pub frame : c'.state.reg 8 ≡ c.state.reg 8
  pub input : c'.input ≡ c.input
  pub output : c'.output ≡ c.output
  pub silent : Silent site.facts c.past c'.past

pub shows_kept : (site : Site) (n : ℕ) (w : World) (c c' : Config) → Shows site w c → c'.output ≡ c.output → Silent site.facts c.past c'.past → Shows site (paid n w) c'
shows_kept site n w c c' shows output silent = record {
  output = shows.output ∙ sym output;
  events = shows.events ∙ sym silent.says;
  order = silent.order shows.order;
}

-- nothing in memory changed
pub like_kept : (site : Site) (fp left n : ℕ) (w : World) (c c' : Config) → Like site fp left w c → Keeps site c c' → c'.state.mem ≡ c.state.mem → Like site fp left (paid n w) c'
like_kept site fp left n w c c' like keeps mem = record {
  zeroth = keeps.zeroth ∙ like.zeroth;
  frame = keeps.frame ∙ like.frame;
  stack = keeps.stack ∙ like.stack;
  memory = λ a h k. like.memory a h k ∙ ap (λ m. signed (m a)) (sym mem);
  words = λ a h. subst (λ m. m a < 2 ^ 32) (sym mem) (like.words a h);
  input = like.input ∙ sym keeps.input;
  numbers = subst (λ xs. Rattle.std.specs.List.AllByRecursion (Rattle.std.proofs.Common.FitsSigned Rattle.std.specs.Int.w32) xs) (sym keeps.input) like.numbers;
  shows = shows_kept site n w c c' like.shows keeps.output keeps.silent;
}

-- registers and memory are as before, and something was observed
pub like_shows : (site : Site) (fp left : ℕ) (w : World) (c c' : Config) (observed : Seen) → Like site fp left w c
    → (c'.state.reg 0 ≡ c.state.reg 0) × (c'.state.reg 2 ≡ c.state.reg 2) × (c'.state.reg 8 ≡ c.state.reg 8) → c'.state.mem ≡ c.state.mem → c'.input ≡ c.input
    → Shows site (record { memory = w.memory; input = w.input; seen = observed }) c' → Like site fp left (record { memory = w.memory; input = w.input; seen = observed }) c'
like_shows site fp left w c c' observed like regs mem input shows = record {
  zeroth = regs.0 ∙ like.zeroth;
  frame = regs.2 ∙ like.frame;
  stack = regs.1 ∙ like.stack;
  memory = λ a h k. like.memory a h k ∙ ap (λ m. signed (m a)) (sym mem);
  words = λ a h. subst (λ m. m a < 2 ^ 32) (sym mem) (like.words a h);
  input = like.input ∙ sym input;
  numbers = subst (λ xs. Rattle.std.specs.List.AllByRecursion (Rattle.std.proofs.Common.FitsSigned Rattle.std.specs.Int.w32) xs) (sym input) like.numbers;
  shows = shows;
}

-- one word changed
word_set : (b a place x : _) (m : ℕ → ℤ) (mem : ℕ → ℕ) (v : ℕ) → place ≡ a → signed v ≡ x → m b ≡ signed (mem b) → with_word a x m b ≡ signed (at mem place v b)
word_set b a place x m mem v is value same = subst (λ q. with_word a x m b ≡ signed (at mem q v b)) (sym is) (by_test (b == a))
  where
    by_test : (t : Bool) → cond t x (m b) ≡ signed (cond t v (mem b))
    by_test true = sym value
    by_test false = same

word_small : (b place : ℕ) (mem : ℕ → ℕ) (v : ℕ) → v < 2 ^ 32 → mem b < 2 ^ 32 → at mem place v b < 2 ^ 32
word_small b place mem v small same = by_test (b == place)
  where
    by_test : (t : Bool) → cond t v (mem b) < 2 ^ 32
    by_test true = small
    by_test false = same

pub like_set : (site : Site) (fp left n : ℕ) (w : World) (c c' : Config) (a place v : ℕ) (x : ℤ) → Like site fp left w c → Keeps site c c'
    → c'.state.mem ≡ at c.state.mem place v → place ≡ a → signed v ≡ x → v < 2 ^ 32
    → Like site fp left (with_memory (with_word a x w.memory) (paid n w)) c'
like_set site fp left n w c c' a place v x like keeps mem is value small = record {
  zeroth = keeps.zeroth ∙ like.zeroth;
  frame = keeps.frame ∙ like.frame;
  stack = keeps.stack ∙ like.stack;
  memory = λ b h k. word_set b a place x w.memory c.state.mem v is value (like.memory b h k) ∙ ap (λ m. signed (m b)) (sym mem);
  words = λ b h. subst (λ m. m b < 2 ^ 32) (sym mem) (word_small b place c.state.mem v small (like.words b h));
  input = like.input ∙ sym keeps.input;
  numbers = subst (λ xs. Rattle.std.specs.List.AllByRecursion (Rattle.std.proofs.Common.FitsSigned Rattle.std.specs.Int.w32) xs) (sym keeps.input) like.numbers;
  shows = record {
    output = like.shows.output ∙ sym keeps.output;
    events = like.shows.events ∙ sym keeps.silent.says;
    order = keeps.silent.order like.shows.order;
  };
}

-- what is told of evaluations is the same, where the visits are
pub paths_kept : (site : Site) (c c' : Config) → Silent site.facts c.past c'.past → (k : _) (n : ℕ) → come_to site.facts k c'.past n ≡ come_to site.facts k c.past n
paths_kept site c c' silent k n = ap (λ vs. path_to (site.facts.graph k.decision) (steps k vs) n) silent.same

pub quiet_kept : (site : Site) (fp left : ℕ) (Out : DecId → Type 0) (c c' : Config) → Silent site.facts c.past c'.past → c'.state.mem ≡ c.state.mem → Quiet site.facts fp left Out c c'
quiet_kept site fp left Out c c' silent mem = record {
  paths = λ k apart n. paths_kept site c c' silent k n;
  keeps = λ a above below. ap (λ m. m a) mem;
}

pub quiet_set : (site : Site) (fp left : ℕ) (Out : DecId → Type 0) (c c' : Config) (place v : ℕ) → Silent site.facts c.past c'.past → c'.state.mem ≡ at c.state.mem place v → place < area_end → Quiet site.facts fp left Out c c'
quiet_set site fp left Out c c' place v silent mem below = record {
  paths = λ k apart n. paths_kept site c c' silent k n;
  keeps = λ a above low. ap (λ m. m a) mem ∙ other a above;
}
  where
    other : (a : ℕ) → area_end + left ≤ a → at c.state.mem place v a ≡ c.state.mem a
    other a above = grind (arith, nat_tests)

-- straight code that sets a slot
module _ (site : Site) (exceptions own fp left bound : ℕ) (fair : IsFair site exceptions) (room : HasRoom fp bound) where
  pub sets_does : (Out : DecId → Type 0) (p k : ℕ) (is : List Instr) (w : World) (c : Config) (v : ℕ) (x : ℤ)
      → k < bound → Like site fp left w c → HasLines site own p (map plain is) → c.state.pc ≡ site.address own p → AreStraight site.image c.state is
      → ((gone c is).state.reg 0 ≡ c.state.reg 0) × ((gone c is).state.reg 2 ≡ c.state.reg 2) × ((gone c is).state.reg 8 ≡ c.state.reg 8)
      → (gone c is).state.mem ≡ at c.state.mem (far (c.state.reg 8) k / 4) v → signed v ≡ x → v < 2 ^ 32 → length is ≤ pace
      → Comes site own fp left Out 0 w c (p + length is) Nothing (with_memory (with_word (slot_word fp k) x w.memory) (paid 1 w))
  sets_does Out p k is w c v x within like has there straight regs mem value small short =
      let went : Gone site own p c is = straight_lines_go site own p c is has there straight in
      let slot : SlotAt site fp w c k = slot_at site exceptions fp left bound w c k fair room like within in
      let below = room.below in
      let above = room.above in
      let inside : far (c.state.reg 8) k / 4 < area_end = omega (arith, slot.word) in
      record {
        end = gone c is;
        steps = length is;
        reaches = went.reaches;
        there = went.arrives;
        like = like_set site fp left 1 w c (gone c is) (slot_word fp k) (far (c.state.reg 8) k / 4) v x like
            (record { zeroth = regs.0; stack = regs.1; frame = regs.2; input = refl; output = refl; silent = went.silent }) mem slot.word value small;
        quiet = quiet_set site fp left Out c (gone c is) (far (c.state.reg 8) k / 4) v went.silent mem inside;
        spent = (let e : length is + 0 + 32 * w.seen.cost ≤ 32 * (w.seen.cost + 1) = omega arith in e);
        also = tt;
      }
