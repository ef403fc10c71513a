-- A call, in the caller.
use Rattle.std.proofs.Common.{◌≡◌, ℕ, zero, suc, ◌+◌, ◌-◌, ◌*◌, ◌%◌, ◌^◌, ◌==◌, ◌≤◌, ◌<◌, true, false, not, List, [], ◌∷◌, ◌++◌, map, length, Some, None, refl, sym, ap, subst, ◌∙◌, arith, lit≤, lit<}
use Rattle.std.proofs.lemmas.Bool.Decides.{nat_tests}
use Rattle.std.proofs.lemmas.List.{append-nil}
use Rattle.cov_base.specs.declared.position.DecId.{DecId}
use Rattle.rv_isa.specs.declared.ops.UpperOp.TheVariants.{Lui}
use Rattle.rv_isa.specs.declared.ops.BranchOp.{BranchOp}
use Rattle.rv_isa.specs.declared.ops.BranchOp.TheVariants.{Beq, Bne}
use Rattle.rv_isa.specs.declared.ops.ImmediateOp.TheVariants.{Addi}
use Rattle.rv_isa.specs.declared.instr.Instr.{Instr}
use Rattle.rv_isa.specs.declared.instr.Instr.TheVariants.{Upper, Immediate}
use Rattle.rv_isa.specs.Immediates.{sign_12, upper_value}
use Rattle.rv_semantics.specs.Arithmetic.{sum_32, is_taken}
use Rattle.rv_semantics.specs.State.{with_reg}
use Rattle.rv_semantics.specs.Step.{seen}
use Rattle.rv_semantics.specs.Past.{Config}
use Rattle.placed_code.specs.Stretch.{config}
use Rattle.placed_code.specs.Straight.{AreStraight}
use Rattle.placed_code.proofs.Steps.{jump_goes}
use Rattle.kernel_ir.specs.declared.kernel.Kernel.{Kernel}
use Rattle.kernel_ir.specs.World.{World, Ended, Ends, Exits, Returns, Raises, Cut, paid, area_end}
use Rattle.kernel_ir.specs.Meaning.{Calls, called}
use Rattle.kernel_ir.specs.Limits.{most_arguments, widest}
use Rattle.kernel_code.specs.Line.{Line, Site, plain, jump, checks, steers, LineStands, HasLines, JumpStands}
use Rattle.kernel_code.specs.Words.{high, low}
use Rattle.kernel_code.specs.Goes.{Reaches, Silent, gone}
use Rattle.kernel_code.specs.SimpleCode.{branch, call_piece, Targets, Setting}
use Rattle.kernel_code.specs.Code.{enter_frame, leave_frame, call_lines}
use Rattle.kernel_code.specs.Does.{pace, IsFair, Like, Quiet, Comes, IsRaised, Nothing, Does}
use Rattle.kernel_code.specs.Calls.{IsDeep, Backs, IsFine, BodyDoes, CallsDo}
use Rattle.kernel_code.proofs.Sums.{constant_is}
use Rattle.kernel_code.proofs.Goes.{reaches_on, reaches_by, silent_on, straight_lines_go, has_front, has_back, has_at}
use Rattle.kernel_code.proofs.Steps.{moved, branch_taken, branch_passed, jumps_to, line_silent, check_stands, check_fails, failed}
use Rattle.kernel_code.proofs.Slots.{Keeps, like_kept, quiet_kept, paths_kept}
use Rattle.kernel_code.proofs.Compose.{goes_later}

-- the machine in a called piece
abbrev pub entered : Site → (piece : ℕ) → Config → Config
entered site piece c =
    config (record { pc = site.address piece 0; reg = with_reg c.state.reg 1 (c.state.pc + 4); mem = c.state.mem }) c.input c.output (seen c.state None ∷ c.past)

pub call_enters : (site : Site) (own p piece : ℕ) (c : Config) → LineStands site own p (call_piece piece) → c.state.pc ≡ site.address own p → Reaches site.image 1 c (entered site piece c)
call_enters site own p piece c stands at =
    let there : JumpStands site.image c.state.pc 1 (site.address piece 0) = subst (λ a. JumpStands site.image a 1 (site.address piece 0)) (sym at) stands.item in
    subst (λ put. Reaches site.image 1 c (config (entered site piece c).state c.input put (seen c.state None ∷ c.past))) (append-nil c.output)
    (reaches_by site.image c.state c.input (seen c.state None ∷ []) [] (entered site piece c).state c.input c.output c.past
    (jump_goes site.image c.state c.input 1 there.halves (site.address piece 0) (c.state.pc + 4) there.stands there.lands there.aligned refl))

-- a check that fails raises a number
pub fails_does : (site : Site) (exceptions own fp left : ℕ) (Out : DecId → Type 0) (p r e : ℕ) (front : List Instr) (op : BranchOp) (rs1 rs2 : ℕ) (rest : List Line) (w : World) (c : Config)
    → HasLines site own p (map plain front ++ (branch checks op rs1 rs2 (p + (length front + 2)) ∷ (jump r ∷ rest))) → Like site fp left w c → c.state.pc ≡ site.address own p → AreStraight site.image c.state front
    → ((gone c front).state.reg 0 ≡ c.state.reg 0) × ((gone c front).state.reg 2 ≡ c.state.reg 2) × ((gone c front).state.reg 8 ≡ c.state.reg 8) → (gone c front).state.mem ≡ c.state.mem
    → is_taken op ((gone c front).state.reg rs1) ((gone c front).state.reg rs2) ≡ false → (gone c front).state.reg 12 ≡ e → 0 < e → e ≤ exceptions → length front + 2 ≤ pace
    → Comes site own fp left Out 0 w c r (IsRaised exceptions e) (paid 1 w)
fails_does site exceptions own fp left Out p r e front op rs1 rs2 rest w c has like there straight regs mem fails number some known short =
    let fail = check_fails site own p r front op rs1 rs2 rest c has there straight fails in
    record {
      end = failed site own p r c front;
      steps = length front + 2;
      reaches = fail.reaches;
      there = refl;
      like = like_kept site fp left 1 w c (failed site own p r c front) like (record { zeroth = regs.0; stack = regs.1; frame = regs.2; input = refl; output = refl; silent = fail.silent }) mem;
      quiet = quiet_kept site fp left Out c (failed site own p r c front) fail.silent mem;
      spent = (let x : length front + 2 + 0 + 32 * w.seen.cost ≤ 32 * (w.seen.cost + 1) = omega arith in x);
      also = record { number = number; some = some; known = known };
    }

-- the depth test
abbrev depth_test : List Instr
depth_test = Upper Lui 13 0x1fc0 ∷ Immediate Addi 12 0 3 ∷ []

abbrev behind_leave : (r p : ℕ) → List Line
behind_leave r p = branch steers Beq 12 0 (p + 13) ∷ (jump r ∷ [])

abbrev behind_call : (e : Setting) (r p : ℕ) → List Line
behind_call e r p = map plain (leave_frame e.width) ++ behind_leave r p

abbrev behind_test : (e : Setting) (r p f : ℕ) → List Line
behind_test e r p f = map plain (enter_frame e.width) ++ (call_piece (f + 1) ∷ behind_call e r p)

module _ (site : Site) (k : Kernel) (own fp : ℕ) (e : Setting) (fair : IsFair site k.exceptions) (predefined : 4 ≤ k.exceptions) (calls : Calls) (n : ℕ) (do_calls : CallsDo site k calls n)
    (Out : DecId → Type 0) (t : Targets) (p f : ℕ) (is_body : f < length k.bodies) (some : 1 ≤ e.width) (narrow : e.width + most_arguments ≤ widest)
    (has : HasLines site own p (call_lines e t.raise_to p f)) where
  nested_out : (w : World) (c : Config) → Like site fp 0 w c → c.state.pc ≡ site.address own p → Does site k.exceptions own fp 0 (suc n) Out 0 w c t (p + 13) (called calls e.width fp 0 f w)
  nested_out w c like there =
      let stack = like.stack in
      fails_does site k.exceptions own fp 0 Out p t.raise_to 3 depth_test Bne 2 13 (behind_test e t.raise_to p f) w c has like there (tt, (tt, tt)) (refl, refl, refl) refl
      (let x : not (c.state.reg 2 == upper_value 0x1fc0) ≡ false = grind (arith, nat_tests) in x) (let x = like.zeroth in let y : sum_32 (c.state.reg 0) 3 ≡ 3 = omega arith in y) (lit< tt) (omega arith) (lit≤ tt)

  module _ (left : ℕ) (deep : IsDeep fp (suc left)) where
    abbrev below : ℕ
    below = fp - e.width

    stands : LineStands site own (p + 2) (branch checks Bne 2 13 (p + 4)) × LineStands site own (p + 3) (jump t.raise_to) × HasLines site own (p + 4) (behind_test e t.raise_to p f)
    stands = check_stands site own p t.raise_to depth_test Bne 2 13 (behind_test e t.raise_to p f) has

    behind_enter : HasLines site own (p + 7) (call_piece (f + 1) ∷ behind_call e t.raise_to p)
    behind_enter = has_back site own (p + 4) (p + 7) (map plain (enter_frame e.width)) (call_piece (f + 1) ∷ behind_call e t.raise_to p) (omega arith) stands.2

    has_leave : HasLines site own (p + 8) (behind_call e t.raise_to p)
    has_leave = has_at site own (p + 7 + 1) (p + 8) (behind_call e t.raise_to p) (omega arith) behind_enter.1

    has_last : HasLines site own (p + 11) (behind_leave t.raise_to p)
    has_last = has_back site own (p + 8) (p + 11) (map plain (leave_frame e.width)) (behind_leave t.raise_to p) (omega arith) has_leave

    -- down to the callee's frame
    pub record Down (w : World) (c : Config) : Type 0 where
      pub end : Config
      pub reaches : Reaches site.image 7 c end
      pub there : end.state.pc ≡ site.address (f + 1) 0
      pub back : end.state.reg 1 ≡ site.address own (p + 8)
      pub like : Like site below (left + 1) (paid 1 w) end
      pub silent : Silent site.facts c.past end.past
      pub mem : end.state.mem ≡ c.state.mem

    down : (w : World) (c : Config) → Like site fp (suc left) w c → c.state.pc ≡ site.address own p → Down w c
    down w c like there =
        let first = straight_lines_go site own p c depth_test (has_front site own p (map plain depth_test) (branch checks Bne 2 13 (p + 4) ∷ (jump t.raise_to ∷ behind_test e t.raise_to p f)) has) there (tt, (tt, tt)) in
        let stack = like.stack in
        let above = deep.above in
        let top = deep.below in
        let few = deep.few in
        let more : not (c.state.reg 2 == upper_value 0x1fc0) ≡ true = grind (arith, nat_tests) in
        let c1 = moved (gone c depth_test) (Some true) (site.address own (p + 4)) in
        let c2 = gone c1 (enter_frame e.width) in
        let enter = straight_lines_go site own (p + 4) c1 (enter_frame e.width) (has_front site own (p + 4) (map plain (enter_frame e.width)) (call_piece (f + 1) ∷ behind_call e t.raise_to p) stands.2) refl (tt, (tt, (tt, tt))) in
        let at_call : c2.state.pc ≡ site.address own (p + 7) = enter.arrives ∙ ap (λ m. site.address own m) (let x : p + 4 + 3 ≡ p + 7 = omega arith in x) in
        let c3 = entered site (f + 1) c2 in
        let frame = like.frame in
        let constant = constant_is (2 ^ 32 - 4 * e.width) (omega arith) in
        let lower : sum_32 (c.state.reg 8) (sum_32 (upper_value (high (2 ^ 32 - 4 * e.width))) (sign_12 (low (2 ^ 32 - 4 * e.width)))) ≡ 4 * below =
        ap (λ x. sum_32 (c.state.reg 8) x) constant ∙ (let x : sum_32 (c.state.reg 8) (2 ^ 32 - 4 * e.width) ≡ 4 * below = omega arith in x) in
        let silent : Silent site.facts c.past c3.past =
        silent_on site.facts c.past (gone c depth_test).past c3.past first.silent
        (silent_on site.facts (gone c depth_test).past c1.past c3.past
        (line_silent site own (p + 2) (branch checks Bne 2 13 (p + 4)) (gone c depth_test) (Some true) (site.address own (p + 4)) stands.0 first.arrives refl refl)
        (silent_on site.facts c1.past c2.past c3.past enter.silent
        (line_silent site own (p + 7) (call_piece (f + 1)) c2 None (site.address (f + 1) 0) behind_enter.0 at_call refl refl))) in
        record {
          end = c3;
          reaches = reaches_on site.image 2 5 c (gone c depth_test) c3 first.reaches
              (reaches_on site.image 1 4 (gone c depth_test) c1 c3 (branch_taken site own (p + 2) checks Bne 2 13 (p + 4) (gone c depth_test) stands.0 first.arrives more)
              (reaches_on site.image 3 1 c1 c2 c3 enter.reaches (call_enters site own (p + 7) (f + 1) c2 behind_enter.0 at_call)));
          there = refl;
          back = ap (λ a. a + 4) at_call ∙ (sym behind_enter.0.next ∙ ap (λ m. site.address own m) (let x : p + 7 + 1 ≡ p + 8 = omega arith in x));
          like = record {
            zeroth = like.zeroth;
            frame = lower;
            stack = stack ∙ (let x : 4 * (area_end + suc left) ≡ 4 * (area_end + (left + 1)) = omega arith in x);
            memory = like.memory;
            words = like.words;
            input = like.input;
            numbers = like.numbers;
            shows = record { output = like.shows.output; events = like.shows.events ∙ sym silent.says; order = silent.order like.shows.order };
          };
          silent = silent;
          mem = refl;
        }

    -- and back up to the caller's
    pub record Up (v : World) (c : Config) : Type 0 where
      pub end : Config
      pub reaches : Reaches site.image 3 c end
      pub there : end.state.pc ≡ site.address own (p + 11)
      pub like : Like site fp (suc left) v end
      pub silent : Silent site.facts c.past end.past
      pub mem : end.state.mem ≡ c.state.mem
      pub number : end.state.reg 12 ≡ c.state.reg 12

    up : (v : World) (c : Config) → Like site below (left + 1) v c → c.state.pc ≡ site.address own (p + 8) → Up v c
    up v c like there =
        let leave = straight_lines_go site own (p + 8) c (leave_frame e.width) (has_front site own (p + 8) (map plain (leave_frame e.width)) (behind_leave t.raise_to p) has_leave) there (tt, (tt, (tt, tt))) in
        let above = deep.above in
        let top = deep.below in
        let frame = like.frame in
        let stack = like.stack in
        let d = gone c (leave_frame e.width) in
        let constant = constant_is (4 * e.width) (omega arith) in
        let higher : sum_32 (c.state.reg 8) (sum_32 (upper_value (high (4 * e.width))) (sign_12 (low (4 * e.width)))) ≡ 4 * fp =
        ap (λ x. sum_32 (c.state.reg 8) x) constant ∙ (let x : sum_32 (c.state.reg 8) (4 * e.width) ≡ 4 * fp = omega arith in x) in
        record {
          end = d;
          reaches = leave.reaches;
          there = leave.arrives ∙ ap (λ m. site.address own m) (let x : p + 8 + 3 ≡ p + 11 = omega arith in x);
          like = record {
            zeroth = like.zeroth;
            frame = higher;
            stack = stack ∙ (let x : 4 * (area_end + (left + 1)) ≡ 4 * (area_end + suc left) = omega arith in x);
            memory = like.memory;
            words = like.words;
            input = like.input;
            numbers = like.numbers;
            shows = record { output = like.shows.output; events = like.shows.events ∙ sym leave.silent.says; order = leave.silent.order like.shows.order };
          };
          silent = leave.silent;
          mem = refl;
          number = refl;
        }

    -- the return address
    back_aligned : site.address own (p + 8) % 4 ≡ 0
    back_aligned = has_leave.0.aligned

    back_small : site.address own (p + 8) < 2 ^ 32
    back_small = let within = has_leave.0.item.within in omega arith

    module _ (w : World) (c : Config) (like : Like site fp (suc left) w c) (there : c.state.pc ≡ site.address own p) where
      abbrev went : Down w c
      went = down w c like there

      callee_deep : IsDeep below left
      callee_deep =
          let above = deep.above in
          let top = deep.below in
          let few = deep.few in
          record { above = omega arith; below = omega arith; few = omega arith }

      quiet_all : (d u : Config) → Quiet site.facts below (left + 1) (λ d. ⊥) went.end d → Silent site.facts d.past u.past → u.state.mem ≡ d.state.mem → Quiet site.facts fp (suc left) Out c u
      quiet_all d u quiet silent mem = record {
        paths = λ key apart m.
            paths_kept site d u silent key m
            ∙ (quiet.paths key (let x = apart.0 in let y : 4 * below ≤ key.x8 = omega arith in y, λ same. (let x = apart.0 in let above = deep.above in omega arith)) m
            ∙ paths_kept site c went.end went.silent key m);
        keeps = λ a above low. ap (λ m. m a) mem ∙ (quiet.keeps a (omega arith) low ∙ ap (λ m. m a) went.mem);
      }

      comes_back : (v : World) (Also : Config → Type 0) (one : Backs site below left (site.address own (p + 8)) (paid 1 w) went.end Also v) (Also' : Config → Type 0) (to last : ℕ) (end : Config)
          → (raised : Up v one.end) → Reaches site.image last raised.end end → end.state.pc ≡ site.address own to → Silent site.facts raised.end.past end.past → end.state.reg ≡ raised.end.state.reg → end.state.mem ≡ raised.end.state.mem
          → end.input ≡ raised.end.input → end.output ≡ raised.end.output → last ≤ 2 → Also' end → Comes site own fp (suc left) Out 0 w c to Also' v
      comes_back v Also one Also' to last end raised reaches at silent regs mem input output short also =
          let spent = one.spent in
          let all : Silent site.facts one.end.past end.past = silent_on site.facts one.end.past raised.end.past end.past raised.silent silent in
          record {
            end = end;
            steps = 7 + (one.steps + (3 + last));
            reaches = reaches_on site.image 7 (one.steps + (3 + last)) c went.end end went.reaches
                (reaches_on site.image one.steps (3 + last) went.end one.end end one.reaches
                (reaches_on site.image 3 last one.end raised.end end raised.reaches reaches));
            there = at;
            like = subst (λ u. Like site fp (suc left) u end) (Rattle.kernel_code.proofs.Slots.unpaid v)
                (like_kept site fp (suc left) 0 v raised.end end raised.like
                (record { zeroth = ap (λ r. r 0) regs; stack = ap (λ r. r 2) regs; frame = ap (λ r. r 8) regs; input = input; output = output; silent = silent }) mem);
            quiet = quiet_all one.end end one.quiet all (mem ∙ raised.mem);
            spent = (let x : 7 + (one.steps + (3 + last)) + 0 + 32 * w.seen.cost ≤ 32 * v.seen.cost = omega arith in x);
            also = also;
          }

      fine_back : (v : World) → Backs site below left (site.address own (p + 8)) (paid 1 w) went.end IsFine v → Comes site own fp (suc left) Out 0 w c (p + 13) Nothing v
      fine_back v one =
          let raised = up v one.end one.like one.there in
          let end = moved raised.end (Some true) (site.address own (p + 13)) in
          let zeroth = raised.like.zeroth in
          let fine : (raised.end.state.reg 12 == raised.end.state.reg 0) ≡ true = (let x = raised.number in let y = one.also in grind (arith, nat_tests)) in
          comes_back v IsFine one Nothing (p + 13) 1 end raised
          (branch_taken site own (p + 11) steers Beq 12 0 (p + 13) raised.end has_last.0 raised.there fine) refl
          (line_silent site own (p + 11) (branch steers Beq 12 0 (p + 13)) raised.end (Some true) (site.address own (p + 13)) has_last.0 raised.there refl refl)
          refl refl refl refl (lit≤ tt) tt

      raised_back : (x : ℕ) (v : World) → Backs site below left (site.address own (p + 8)) (paid 1 w) went.end (IsRaised k.exceptions x) v → Comes site own fp (suc left) Out 0 w c t.raise_to (IsRaised k.exceptions x) v
      raised_back x v one =
          let raised = up v one.end one.like one.there in
          let mid = moved raised.end (Some false) (site.address own (p + 11 + 1)) in
          let end = moved mid None (site.address own t.raise_to) in
          let zeroth = raised.like.zeroth in
          let number = one.also.number in
          let some_number = one.also.some in
          let off : (raised.end.state.reg 12 == raised.end.state.reg 0) ≡ false = (let y = raised.number in grind (arith, nat_tests)) in
          comes_back v (IsRaised k.exceptions x) one (IsRaised k.exceptions x) t.raise_to 2 end raised
          (reaches_on site.image 1 1 raised.end mid end (branch_passed site own (p + 11) steers Beq 12 0 (p + 13) raised.end has_last.0 raised.there off)
          (jumps_to site own (p + 11 + 1) t.raise_to mid has_last.1.0 refl)) refl
          (silent_on site.facts raised.end.past mid.past end.past
          (line_silent site own (p + 11) (branch steers Beq 12 0 (p + 13)) raised.end (Some false) (site.address own (p + 11 + 1)) has_last.0 raised.there refl refl)
          (line_silent site own (p + 11 + 1) (jump t.raise_to) mid None (site.address own t.raise_to) has_last.1.0 refl refl refl))
          refl refl refl refl (lit≤ tt)
          (record { number = raised.number ∙ number; some = some_number; known = one.also.known })

      by_end : (ended : Ended) → BodyDoes site k.exceptions below left n (site.address own (p + 8)) (paid 1 w) went.end ended → Does site k.exceptions own fp (suc left) (suc n) Out 0 w c t (p + 13) ended
      by_end (Ends v) one = fine_back v one
      by_end (Exits v) one = absurd one
      by_end (Returns v) one = absurd one
      by_end (Raises x v) one = raised_back x v one
      by_end (Cut v) one = goes_later site k.exceptions own fp (suc left) Out (suc n) n 7 c went.end v went.reaches one (omega arith)

  -- a call does what it means, where the bodies do
  pub call_does : (left : ℕ) → IsDeep fp left → (w : World) (c : Config) → Like site fp left w c → c.state.pc ≡ site.address own p
      → Does site k.exceptions own fp left (suc n) Out 0 w c t (p + 13) (called calls e.width fp left f w)
  call_does zero deep w c like there = nested_out w c like there
  call_does (suc left) deep w c like there =
      let start = down left deep w c like there in
      by_end left deep w c like there (calls f (fp - e.width) left (paid 1 w))
      (do_calls f (fp - e.width) left (site.address own (p + 8)) (paid 1 w) start.end is_body (callee_deep left deep w c like there) start.like start.there start.back (back_aligned left deep) (back_small left deep))
