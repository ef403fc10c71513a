-- A body, from its first line to the jump back.
use Rattle.std.proofs.Common.{◌≡◌, ℕ, ◌+◌, ◌-◌, ◌*◌, ◌/◌, ◌%◌, ◌^◌, ◌==◌, ◌≤◌, ◌<◌, Bool, true, false, cond, List, [], ◌∷◌, ◌++◌, map, length, None, refl, sym, ap, subst, ◌∙◌, arith, lit≤}
use Rattle.std.proofs.lemmas.Bool.Decides.{nat_tests}
use Rattle.std.proofs.lemmas.List.{append-nil}
use Rattle.rv_isa.specs.declared.ops.ImmediateOp.TheVariants.{Addi}
use Rattle.rv_isa.specs.declared.ops.LoadOp.TheVariants.{Lw}
use Rattle.rv_isa.specs.declared.ops.StoreOp.TheVariants.{Sw}
use Rattle.rv_isa.specs.declared.instr.Instr.{Instr}
use Rattle.rv_isa.specs.declared.instr.Instr.TheVariants.{Load, Store, Immediate, Jalr}
use Rattle.rv_semantics.specs.Layout.{memory_bytes}
use Rattle.rv_semantics.specs.Arithmetic.{sum_32, signed}
use Rattle.rv_semantics.specs.Step.{seen}
use Rattle.rv_semantics.specs.Past.{Config}
use Rattle.placed_code.specs.Code.{text_end, StandsAt}
use Rattle.placed_code.specs.Stretch.{config}
use Rattle.placed_code.specs.Straight.{IsInMemory}
use Rattle.placed_code.proofs.Steps.{register_jump_goes}
use Rattle.kernel_ir.specs.Tree.{Code}
use Rattle.kernel_ir.specs.World.{World, Ended, Ends, Exits, Returns, Raises, Cut, paid, data_word, area_end}
use Rattle.kernel_ir.specs.Meaning.{back}
use Rattle.kernel_code.specs.Line.{Line, Site, plain, LineStands, HasLines}
use Rattle.kernel_code.specs.Goes.{Reaches, Silent, gone}
use Rattle.kernel_code.specs.SimpleCode.{Setting}
use Rattle.kernel_code.specs.Code.{code_length, code_lines, body_targets, body_lines}
use Rattle.kernel_code.specs.Does.{IsFair, Like, Quiet, Comes, IsRaised, Nothing, Does}
use Rattle.kernel_code.specs.Calls.{IsDeep, Backs, IsFine, BodyDoes}
use Rattle.kernel_code.proofs.Goes.{reaches_on, reaches_by, silent_on, silent_one, no_visit, straight_lines_go, has_front, has_back, has_at}
use Rattle.kernel_code.proofs.Steps.{moved, line_silent}
use Rattle.kernel_code.proofs.Slots.{paths_kept}

-- a jump back
pub jumps_back : (site : Site) (own p to : ℕ) (c : Config) → LineStands site own p (plain (Jalr 0 1 0)) → c.state.pc ≡ site.address own p → c.state.reg 1 ≡ to → to % 4 ≡ 0 → to < 2 ^ 32
    → Reaches site.image 1 c (moved c None to)
jumps_back site own p to c stands there back aligned small =
    let here : StandsAt site.image c.state.pc (Jalr 0 1 0) = subst (λ a. StandsAt site.image a (Jalr 0 1 0)) (sym there) stands.item in
    subst (λ put. Reaches site.image 1 c (config (moved c None to).state c.input put (seen c.state None ∷ c.past))) (append-nil c.output)
    (reaches_by site.image c.state c.input (seen c.state None ∷ []) [] (moved c None to).state c.input c.output c.past
    (register_jump_goes site.image c.state c.input 0 1 0 to to (c.state.pc + 4) here back (let e : sum_32 to 0 ≡ to = omega arith in e) aligned refl))

module _ (site : Site) (exceptions f fp left back_to : ℕ) (fair : IsFair site exceptions) (deep : IsDeep fp left) (e : Setting) (a : Code) (has : HasLines site (f + 1) 0 (body_lines e a))
    (long : length (code_lines e (body_targets a) 2 a) ≡ code_length a) (aligned : back_to % 4 ≡ 0) (small : back_to < 2 ^ 32) where
  abbrev own : ℕ
  own = f + 1

  abbrev entry : List Instr
  entry = Immediate Addi 2 2 0xffc ∷ Store Sw 2 1 0 ∷ []

  abbrev tail : List Instr
  tail = Load Lw 1 2 0 ∷ Immediate Addi 2 2 4 ∷ []

  abbrev pub last_lines : List Line
  last_lines = map plain (Immediate Addi 12 0 0 ∷ tail) ++ (plain (Jalr 0 1 0) ∷ [])

  pub has_code : HasLines site own 2 (code_lines e (body_targets a) 2 a ++ last_lines)
  has_code = has_back site own 0 2 (map plain entry) (code_lines e (body_targets a) 2 a ++ last_lines) refl has

  has_last : HasLines site own (2 + code_length a) last_lines
  has_last = has_back site own 2 (2 + code_length a) (code_lines e (body_targets a) 2 a) last_lines (ap (λ n. 2 + n) long) has_code

  has_tail : HasLines site own (3 + code_length a) (map plain tail ++ (plain (Jalr 0 1 0) ∷ []))
  has_tail = has_at site own (2 + code_length a + 1) (3 + code_length a) (map plain tail ++ (plain (Jalr 0 1 0) ∷ [])) (omega arith) has_last.1

  -- x1 and x2 as before the call
  pub record Left (v : World) (c : Config) : Type 0 where
    pub end : Config
    pub reaches : Reaches site.image 3 c end
    pub there : end.state.pc ≡ back_to
    pub like : Like site fp (left + 1) v end
    pub silent : Silent site.facts c.past end.past
    pub mem : end.state.mem ≡ c.state.mem
    pub number : end.state.reg 12 ≡ c.state.reg 12

  leaves : (v : World) (c : Config) → Like site fp left v c → c.state.pc ≡ site.address own (3 + code_length a) → c.state.mem (area_end + left) ≡ back_to → Left v c
  leaves v c like there kept =
      let stack = like.stack in
      let few = deep.few in
      let address : sum_32 (c.state.reg 2) 0 ≡ 4 * (area_end + left) = omega arith in
      let inside : IsInMemory (sum_32 (c.state.reg 2) 0) 4 = (let x : sum_32 (c.state.reg 2) 0 % 4 ≡ 0 = omega (arith, address) in x, let x : sum_32 (c.state.reg 2) 0 + 4 ≤ memory_bytes = omega (arith, address) in x) in
      let went = straight_lines_go site own (3 + code_length a) c tail (has_front site own (3 + code_length a) (map plain tail) (plain (Jalr 0 1 0) ∷ []) has_tail) there (inside, (tt, tt)) in
      let rest = has_back site own (3 + code_length a) (5 + code_length a) (map plain tail) (plain (Jalr 0 1 0) ∷ []) (omega arith) has_tail in
      let d = gone c tail in
      let word : sum_32 (c.state.reg 2) 0 / 4 ≡ area_end + left = omega (arith, address) in
      let at_jump : d.state.pc ≡ site.address own (5 + code_length a) = went.arrives ∙ ap (λ m. site.address own m) (let x : 3 + code_length a + 2 ≡ 5 + code_length a = omega arith in x) in
      let u = moved d None back_to in
      let silent : Silent site.facts c.past u.past = silent_on site.facts c.past d.past u.past went.silent (line_silent site own (5 + code_length a) (plain (Jalr 0 1 0)) d None back_to rest.0 at_jump refl refl) in
      record {
        end = u;
        reaches = reaches_on site.image 2 1 c d u went.reaches (jumps_back site own (5 + code_length a) back_to d rest.0 at_jump (ap (λ x. c.state.mem x) word ∙ kept) aligned small);
        there = refl;
        like = record {
          zeroth = like.zeroth;
          frame = like.frame;
          stack = (let x : sum_32 (c.state.reg 2) 4 ≡ 4 * (area_end + (left + 1)) = omega arith in x);
          memory = like.memory;
          words = like.words;
          input = like.input;
          numbers = like.numbers;
          shows = record { output = like.shows.output; events = like.shows.events ∙ sym silent.says; order = silent.order like.shows.order };
        };
        silent = silent;
        mem = refl;
        number = refl;
      }

  -- into the body
  pub record Into (w : World) (c : Config) : Type 0 where
    pub end : Config
    pub reaches : Reaches site.image 2 c end
    pub there : end.state.pc ≡ site.address own 2
    pub like : Like site fp left (paid 1 w) end
    pub silent : Silent site.facts c.past end.past
    pub above : (x : ℕ) → area_end + (left + 1) ≤ x → end.state.mem x ≡ c.state.mem x
    pub kept : end.state.mem (area_end + left) ≡ back_to

  goes_into : (w : World) (c : Config) → Like site fp (left + 1) w c → c.state.pc ≡ site.address own 0 → c.state.reg 1 ≡ back_to → Into w c
  goes_into w c like there is_back =
      let stack = like.stack in
      let few = deep.few in
      let text = fair.text in
      let address : sum_32 (sum_32 (c.state.reg 2) (2 ^ 32 - 4)) 0 ≡ 4 * (area_end + left) = omega arith in
      let inside : IsInMemory (sum_32 (sum_32 (c.state.reg 2) (2 ^ 32 - 4)) 0) 4 =
      (let x : sum_32 (sum_32 (c.state.reg 2) (2 ^ 32 - 4)) 0 % 4 ≡ 0 = omega (arith, address) in x, let x : sum_32 (sum_32 (c.state.reg 2) (2 ^ 32 - 4)) 0 + 4 ≤ memory_bytes = omega (arith, address) in x) in
      let behind : text_end site.image ≤ sum_32 (sum_32 (c.state.reg 2) (2 ^ 32 - 4)) 0 = omega (arith, address) in
      let went = straight_lines_go site own 0 c entry (has_front site own 0 (map plain entry) (code_lines e (body_targets a) 2 a ++ last_lines) has) there (tt, ((inside, behind), tt)) in
      let word : sum_32 (sum_32 (c.state.reg 2) (2 ^ 32 - 4)) 0 / 4 ≡ area_end + left = omega (arith, address) in
      record {
        end = gone c entry;
        reaches = went.reaches;
        there = went.arrives;
        like = record {
          zeroth = like.zeroth;
          frame = like.frame;
          stack = (let x : sum_32 (c.state.reg 2) (2 ^ 32 - 4) ≡ 4 * (area_end + left) = omega arith in x);
          memory = λ x low high. like.memory x low high ∙ ap signed (sym (other x (let y : (x == area_end + left) ≡ false = grind (arith, nat_tests) in ap (λ p. x == p) word ∙ y)));
          words = λ x h. word_small x h;
          input = like.input;
          numbers = like.numbers;
          shows = record { output = like.shows.output; events = like.shows.events ∙ sym went.silent.says; order = went.silent.order like.shows.order };
        };
        silent = went.silent;
        above = λ x high. other x (let y : (x == area_end + left) ≡ false = grind (arith, nat_tests) in ap (λ p. x == p) word ∙ y);
        kept = ap (λ p. cond (area_end + left == p) (c.state.reg 1) (c.state.mem (area_end + left))) word ∙ (same ∙ is_back);
      }
    where
      other : (x : ℕ) → (x == sum_32 (sum_32 (c.state.reg 2) (2 ^ 32 - 4)) 0 / 4) ≡ false → (gone c entry).state.mem x ≡ c.state.mem x
      other x off = rw off refl

      word_small : (x : ℕ) → data_word ≤ x → (gone c entry).state.mem x < 2 ^ 32
      word_small x h = by_test (x == sum_32 (sum_32 (c.state.reg 2) (2 ^ 32 - 4)) 0 / 4)
        where
          by_test : (b : Bool) → cond b (c.state.reg 1) (c.state.mem x) < 2 ^ 32
          by_test true = subst (λ n. n < 2 ^ 32) (sym is_back) small
          by_test false = like.words x h

      same : cond (area_end + left == area_end + left) (c.state.reg 1) (c.state.mem (area_end + left)) ≡ c.state.reg 1
      same = let y : (area_end + left == area_end + left) ≡ true = grind (arith, nat_tests) in rw y refl

  module _ (fuel : ℕ) (w : World) (c : Config) (like : Like site fp (left + 1) w c) (there : c.state.pc ≡ site.address own 0) (is_back : c.state.reg 1 ≡ back_to) where
    abbrev into : Into w c
    into = goes_into w c like there is_back

    quiet_all : (d u : Config) → Quiet site.facts fp left (λ d. ⊥) into.end d → Silent site.facts d.past u.past → u.state.mem ≡ d.state.mem → Quiet site.facts fp (left + 1) (λ d. ⊥) c u
    quiet_all d u quiet silent mem = record {
      paths = λ key apart m. paths_kept site d u silent key m ∙ (quiet.paths key apart m ∙ paths_kept site c into.end into.silent key m);
      keeps = λ x above below. ap (λ m. m x) mem ∙ (quiet.keeps x (omega arith) below ∙ into.above x above);
    }

    -- from the place of exceptions, after some more instructions
    ends : (v : World) (Also Also' : Config → Type 0) (place more : ℕ) (one : Comes site own fp left (λ d. ⊥) 0 (paid 1 w) into.end place Also v) (d : Config) → Reaches site.image more one.end d → Silent site.facts one.end.past d.past
        → d.state.mem ≡ one.end.state.mem → Like site fp left v d → d.state.pc ≡ site.address own (3 + code_length a) → more ≤ 1 → ((u : Config) → u.state.reg 12 ≡ d.state.reg 12 → Also' u) → Backs site fp left back_to w c Also' v
    ends v Also Also' place more one d reaches silent mem like_d at_tail few also =
        let back_kept : d.state.mem (area_end + left) ≡ back_to = ap (λ m. m (area_end + left)) mem ∙ (one.quiet.keeps (area_end + left) (omega arith) (let few = deep.few in omega arith) ∙ into.kept) in
        let out = leaves v d like_d at_tail back_kept in
        let spent = one.spent in
        record {
          end = out.end;
          steps = 2 + (one.steps + (more + 3));
          reaches = reaches_on site.image 2 (one.steps + (more + 3)) c into.end out.end into.reaches
              (reaches_on site.image one.steps (more + 3) into.end one.end out.end one.reaches (reaches_on site.image more 3 one.end d out.end reaches out.reaches));
          there = out.there;
          like = out.like;
          quiet = quiet_all one.end out.end one.quiet (silent_on site.facts one.end.past d.past out.end.past silent out.silent) (out.mem ∙ mem);
          spent = (let x : 2 + (one.steps + (more + 3)) + 32 * w.seen.cost ≤ 32 * v.seen.cost = omega arith in x);
          also = also out.end out.number;
        }

    ends_well : (v : World) → Comes site own fp left (λ d. ⊥) 0 (paid 1 w) into.end (2 + code_length a) Nothing v → Backs site fp left back_to w c IsFine v
    ends_well v one =
        let went = straight_lines_go site own (2 + code_length a) one.end (Immediate Addi 12 0 0 ∷ []) (has_last.0, tt) one.there (tt, tt) in
        let d = gone one.end (Immediate Addi 12 0 0 ∷ []) in
        let zeroth = one.like.zeroth in
        ends v Nothing IsFine (2 + code_length a) 1 one d went.reaches went.silent refl
        (record {
          zeroth = zeroth;
          frame = one.like.frame;
          stack = one.like.stack;
          memory = one.like.memory;
          words = one.like.words;
          input = one.like.input;
          numbers = one.like.numbers;
          shows = record { output = one.like.shows.output; events = one.like.shows.events ∙ sym went.silent.says; order = went.silent.order one.like.shows.order };
        })
        (went.arrives ∙ ap (λ m. site.address own m) (let x : 2 + code_length a + 1 ≡ 3 + code_length a = omega arith in x)) (lit≤ tt)
        (λ u same. same ∙ (let x : sum_32 (one.end.state.reg 0) 0 ≡ 0 = omega arith in x))

    by_end : (ended : Ended) → Does site exceptions own fp left fuel (λ d. ⊥) 0 (paid 1 w) into.end (body_targets a) (2 + code_length a) ended → BodyDoes site exceptions fp left fuel back_to w c (back ended)
    by_end (Ends v) one = ends_well v one
    by_end (Exits v) one = ends_well v one
    by_end (Returns v) one = ends_well v one
    by_end (Raises x v) one =
        ends v (IsRaised exceptions x) (IsRaised exceptions x) (3 + code_length a) 0 one one.end (Rattle.kernel_code.proofs.Goes.reaches_none site.image one.end) (Rattle.kernel_code.proofs.Goes.silent_none site.facts one.end.past) refl one.like one.there (lit≤ tt)
        (λ u same. record { number = same ∙ one.also.number; some = one.also.some; known = one.also.known })
    by_end (Cut v) one =
        let held = one.enough in
        record {
          end = one.end;
          steps = 2 + one.steps;
          reaches = reaches_on site.image 2 one.steps c into.end one.end into.reaches one.reaches;
          enough = omega arith;
          shows = one.shows;
        }

  -- a body does what it means, where its code does
  pub body_does : (fuel : ℕ) (f : World → Ended)
      → ((w : World) (c : Config) → Like site fp left w c → c.state.pc ≡ site.address own 2 → Does site exceptions own fp left fuel (λ d. ⊥) 0 w c (body_targets a) (2 + code_length a) (f w))
      → (w : World) (c : Config) → Like site fp (left + 1) w c → c.state.pc ≡ site.address own 0 → c.state.reg 1 ≡ back_to → BodyDoes site exceptions fp left fuel back_to w c (back (f (paid 1 w)))
  body_does fuel f does w c like there is_back =
      let start = goes_into w c like there is_back in
      by_end fuel w c like there is_back (f (paid 1 w)) (does (paid 1 w) start.end start.like start.there)
