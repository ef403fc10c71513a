-- Straight code with a branch behind it, choices, loops and handlers.
use Rattle.std.proofs.Common.{◌≡◌, ℕ, zero, suc, ◌+◌, ◌*◌, ◌^◌, ◌==◌, ◌≤◌, ◌<◌, true, false, List, ◌∷◌, ◌++◌, map, length, Some, None, refl, ap, arith, lit≤}
use Rattle.std.proofs.lemmas.Bool.Decides.{nat_tests}
use Rattle.std.proofs.lemmas.Int.{ints}
use Rattle.cov_base.specs.declared.position.DecId.{DecId}
use Rattle.rv_isa.specs.declared.ops.BranchOp.{BranchOp}
use Rattle.rv_isa.specs.declared.instr.Instr.{Instr}
use Rattle.rv_semantics.specs.Arithmetic.{signed, is_taken}
use Rattle.rv_semantics.specs.Past.{Config}
use Rattle.placed_code.specs.Straight.{AreStraight}
use Rattle.ada_meaning.specs.Arithmetic.{is_true}
use Rattle.kernel_ir.specs.World.{World, Ended, Ends, Exits, Returns, Raises, Cut, paid}
use Rattle.kernel_ir.specs.Meaning.{after_turn, turns}
use Rattle.kernel_code.specs.Line.{Line, Site, Said, plain, jump, LineStands, HasLines, row_said, condition_said}
use Rattle.kernel_code.specs.Goes.{Reaches, gone}
use Rattle.kernel_code.specs.SimpleCode.{branch, Targets}
use Rattle.kernel_code.specs.Does.{pace, Like, Comes, IsRaised, Nothing, Does}
use Rattle.kernel_code.proofs.Goes.{reaches_none, reaches_on, silent_none, silent_on, straight_lines_go, has_front, has_back}
use Rattle.kernel_code.proofs.Steps.{moved, branch_taken, branch_passed, line_silent}
use Rattle.kernel_code.proofs.Slots.{Keeps, like_kept, quiet_kept}
use Rattle.kernel_code.proofs.Compose.{does_on, jump_on, comes_spared}

-- a slot that holds True is 1
pub truth_test : (v : ℕ) → v < 2 ^ 32 → (v == 1) ≡ is_true (signed v)
truth_test v small = grind (arith, ints, nat_tests)

module _ (site : Site) (exceptions own fp left : ℕ) (Out : DecId → Type 0) where
  -- a silent stretch that leaves memory as it was
  abbrev pub silent_comes : (spared k steps to : ℕ) (w : World) (c d : Config) → Like site fp left w c → Reaches site.image steps c d → d.state.pc ≡ site.address own to
      → Keeps site c d → d.state.mem ≡ c.state.mem → steps + spared ≤ pace * k → Comes site own fp left Out spared w c to Nothing (paid k w)
  silent_comes spared k steps to w c d like reaches there keeps mem enough = record {
    end = d;
    steps = steps;
    reaches = reaches;
    there = there;
    like = like_kept site fp left k w c d like keeps mem;
    quiet = quiet_kept site fp left Out c d keeps.silent mem;
    spent = (let e : steps + spared + 32 * w.seen.cost ≤ 32 * (w.seen.cost + k) = omega arith in e);
    also = tt;
  }

  -- nothing but a cost
  abbrev pub pays : (spared k to : ℕ) (w : World) (c : Config) → Like site fp left w c → c.state.pc ≡ site.address own to → spared ≤ pace * k → Comes site own fp left Out spared w c to Nothing (paid k w)
  pays spared k to w c like there enough =
      silent_comes spared k 0 to w c c like (reaches_none site.image c) there (record { zeroth = refl; stack = refl; frame = refl; input = refl; output = refl; silent = silent_none site.facts c.past }) refl (omega arith)

  -- straight code, and a branch behind it
  module _ (said : Said) (no_row : row_said said ≡ None) (none : condition_said said ≡ None) (op : BranchOp) (rs1 rs2 to : ℕ) (front : List Instr) (rest : List Line) (q : ℕ) where
    pub branch_stands : HasLines site own q (map plain front ++ (branch said op rs1 rs2 to ∷ rest)) → LineStands site own (q + length front) (branch said op rs1 rs2 to) × HasLines site own (q + length front + 1) rest
    branch_stands has = has_back site own q (q + length front) (map plain front) (branch said op rs1 rs2 to ∷ rest) (ap (λ n. q + n) (Rattle.std.proofs.lemmas.List.length-map front plain)) has

    pub front_taken : (spared k : ℕ) (w : World) (c : Config) → HasLines site own q (map plain front ++ (branch said op rs1 rs2 to ∷ rest)) → Like site fp left w c → c.state.pc ≡ site.address own q
        → AreStraight site.image c.state front
        → ((gone c front).state.reg 0 ≡ c.state.reg 0) × ((gone c front).state.reg 2 ≡ c.state.reg 2) × ((gone c front).state.reg 8 ≡ c.state.reg 8) → (gone c front).state.mem ≡ c.state.mem
        → is_taken op ((gone c front).state.reg rs1) ((gone c front).state.reg rs2) ≡ true → length front + 1 + spared ≤ pace * k
        → Comes site own fp left Out spared w c to Nothing (paid k w)
    front_taken spared k w c has like there straight regs mem taken enough =
        let stands = branch_stands has in
        let went = straight_lines_go site own q c front (has_front site own q (map plain front) (branch said op rs1 rs2 to ∷ rest) has) there straight in
        let d = moved (gone c front) (Some true) (site.address own to) in
        silent_comes spared k (length front + 1) to w c d like
        (reaches_on site.image (length front) 1 c (gone c front) d went.reaches (branch_taken site own (q + length front) said op rs1 rs2 to (gone c front) stands.0 went.arrives taken)) refl
        (record {
          zeroth = regs.0;
          stack = regs.1;
          frame = regs.2;
          input = refl;
          output = refl;
          silent = silent_on site.facts c.past (gone c front).past d.past went.silent
              (line_silent site own (q + length front) (branch said op rs1 rs2 to) (gone c front) (Some true) (site.address own to) stands.0 went.arrives no_row none);
        })
        mem enough

    pub front_passed : (spared k : ℕ) (w : World) (c : Config) → HasLines site own q (map plain front ++ (branch said op rs1 rs2 to ∷ rest)) → Like site fp left w c → c.state.pc ≡ site.address own q
        → AreStraight site.image c.state front
        → ((gone c front).state.reg 0 ≡ c.state.reg 0) × ((gone c front).state.reg 2 ≡ c.state.reg 2) × ((gone c front).state.reg 8 ≡ c.state.reg 8) → (gone c front).state.mem ≡ c.state.mem
        → is_taken op ((gone c front).state.reg rs1) ((gone c front).state.reg rs2) ≡ false → length front + 1 + spared ≤ pace * k
        → Comes site own fp left Out spared w c (q + length front + 1) Nothing (paid k w)
    front_passed spared k w c has like there straight regs mem taken enough =
        let stands = branch_stands has in
        let went = straight_lines_go site own q c front (has_front site own q (map plain front) (branch said op rs1 rs2 to ∷ rest) has) there straight in
        let d = moved (gone c front) (Some false) (site.address own (q + length front + 1)) in
        silent_comes spared k (length front + 1) (q + length front + 1) w c d like
        (reaches_on site.image (length front) 1 c (gone c front) d went.reaches (branch_passed site own (q + length front) said op rs1 rs2 to (gone c front) stands.0 went.arrives taken)) refl
        (record {
          zeroth = regs.0;
          stack = regs.1;
          frame = regs.2;
          input = refl;
          output = refl;
          silent = silent_on site.facts c.past (gone c front).past d.past went.silent
              (line_silent site own (q + length front) (branch said op rs1 rs2 to) (gone c front) (Some false) (site.address own (q + length front + 1)) stands.0 went.arrives no_row none);
        })
        mem enough

  -- a part of a loop: the loop begins at q, and its jump back is at the place `last`
  module _ (t : Targets) (q last behind : ℕ) (fuel : ℕ) (body : World → Ended) where
    abbrev within : Targets
    within = record t { exit_to = behind }

    abbrev pub TurnDoes : Type 0
    TurnDoes = (w : World) (c : Config) → Like site fp left w c → c.state.pc ≡ site.address own q → Does site exceptions own fp left fuel Out 0 w c within last (body w)

    abbrev pub TurnsDo : (m least : ℕ) → Type 0
    TurnsDo m least = (w : World) (c : Config) → Like site fp left w c → c.state.pc ≡ site.address own q → Does site exceptions own fp left least Out 0 w c t behind (turns m body w)

    after_one : (m : ℕ) → ((l : ℕ) → l ≤ m → l ≤ fuel → TurnsDo m l) → (l : ℕ) → l ≤ suc m → l ≤ fuel → (w v : World) (c : Config) (on : Comes site own fp left Out 31 w c q Nothing v) → 1 ≤ on.steps
        → Does site exceptions own fp left l Out 0 w c t behind (turns m body v)
    after_one m next zero b f w v c on one = does_on site exceptions own fp left Out 0 0 0 31 0 w v c t q behind (turns m body v) on (next 0 (omega arith) (omega arith) v on.end on.like on.there) (omega arith) (omega arith)
    after_one m next (suc l) b f w v c on one = does_on site exceptions own fp left Out (suc l) l 0 31 0 w v c t q behind (turns m body v) on (next l (omega arith) (omega arith) v on.end on.like on.there) (omega arith) (omega arith)

    by_end : (m : ℕ) → ((l : ℕ) → l ≤ m → l ≤ fuel → TurnsDo m l) → (least : ℕ) → least ≤ suc m → least ≤ fuel → LineStands site own last (jump q) → (w : World) (c : Config) (ended : Ended)
        → Does site exceptions own fp left fuel Out 32 w c within last ended → Does site exceptions own fp left least Out 0 w c t behind (after_turn ended (turns m body))
    by_end m next least below enough stands w c (Ends v) one = after_one m next least below enough w v c (jump_on site exceptions own fp left Out 31 w v c last q stands one) (let e : 1 ≤ one.steps + 1 = omega arith in e)
    by_end m next least below enough stands w c (Exits v) one = comes_spared site exceptions own fp left Out 0 32 w v c behind Nothing (omega arith) one
    by_end m next least below enough stands w c (Returns v) one = comes_spared site exceptions own fp left Out 0 32 w v c t.return_to Nothing (omega arith) one
    by_end m next least below enough stands w c (Raises e v) one = comes_spared site exceptions own fp left Out 0 32 w v c t.raise_to (IsRaised exceptions e) (omega arith) one
    by_end m next least below enough stands w c (Cut v) one = record { end = one.end; steps = one.steps; reaches = one.reaches; enough = (let held = one.enough in omega arith); shows = one.shows }

    pub turns_does : (m least : ℕ) → least ≤ m → least ≤ fuel → LineStands site own last (jump q) → TurnDoes → TurnsDo m least
    turns_does zero least below enough stands turn w c like there = record {
      end = c;
      steps = 0;
      reaches = reaches_none site.image c;
      enough = omega arith;
      shows = like.shows;
    }
    turns_does (suc m) least below enough stands turn w c like there =
        let paying = pays 32 1 q w c like there (lit≤ tt) in
        by_end m (λ l b f. turns_does m l b f stands turn) least below enough stands w c (body (paid 1 w))
        (does_on site exceptions own fp left Out fuel fuel 32 32 0 w (paid 1 w) c within q last (body (paid 1 w)) paying (turn (paid 1 w) c paying.like there) (omega arith) (omega arith))
