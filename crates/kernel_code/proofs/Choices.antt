-- Choices, and exceptions that are caught.
use Rattle.std.proofs.Common.{◌≡◌, ℕ, ◌+◌, ◌*◌, ◌/◌, ◌^◌, ◌==◌, ◌≤◌, ◌<◌, Bool, true, false, cond, pos, List, [], ◌∷◌, ◌++◌, map, length, refl, sym, ap, subst, ◌∙◌, arith, lit≤}
use Rattle.std.proofs.lemmas.Int.{to_z_pos}
use Rattle.std.specs.Int.{w32}
use Rattle.cov_base.specs.declared.position.DecId.{DecId}
use Rattle.rv_isa.specs.declared.ops.BranchOp.TheVariants.{Beq}
use Rattle.rv_isa.specs.declared.ops.ImmediateOp.TheVariants.{Addi}
use Rattle.rv_isa.specs.declared.instr.Instr.{Instr}
use Rattle.rv_isa.specs.declared.instr.Instr.TheVariants.{Immediate}
use Rattle.rv_semantics.specs.Arithmetic.{sum_32, signed}
use Rattle.rv_semantics.specs.Past.{Config}
use Rattle.ada_meaning.specs.Arithmetic.{is_true}
use Rattle.kernel_ir.specs.World.{World, Ended, Ends, Exits, Returns, Raises, Cut, paid, slot_in, slot_word, with_slot, with_word, with_memory}
use Rattle.kernel_ir.specs.Meaning.{caught}
use Rattle.kernel_code.specs.Line.{Line, Site, plain, jump, steers, LineStands, HasLines}
use Rattle.kernel_code.specs.Words.{load_slot, store_slot}
use Rattle.kernel_code.specs.Goes.{gone}
use Rattle.kernel_code.specs.SimpleCode.{branch, Targets}
use Rattle.kernel_code.specs.Does.{IsFair, HasRoom, Like, Comes, IsRaised, Nothing, Does}
use Rattle.kernel_code.proofs.Goes.{straight_lines_go, has_front, has_back, has_at}
use Rattle.kernel_code.proofs.Slots.{far, unpaid, SlotAt, slot_at, like_set, quiet_set}
use Rattle.kernel_code.proofs.Compose.{comes_on, does_on, does_jump, jump_on, comes_spared}
use Rattle.kernel_code.proofs.Turns.{truth_test, pays, branch_stands, front_taken, front_passed}

module _ (site : Site) (exceptions own fp left bound : ℕ) (fair : IsFair site exceptions) (room : HasRoom fp bound) (Out : DecId → Type 0) (fuel : ℕ) (t : Targets) where
  -- what code does from a place to another
  abbrev pub From : (from to : ℕ) → (World → Ended) → Type 0
  From from to f = (w : World) (c : Config) → Like site fp left w c → c.state.pc ≡ site.address own from → Does site exceptions own fp left fuel Out 0 w c t to (f w)

  abbrev test_truth : ℕ → List Instr
  test_truth k = load_slot 11 k (Immediate Addi 13 0 1 ∷ [])

  -- a slot chooses between two ways
  module _ (q a b k : ℕ) (lines_a lines_b : List Line) (long : length lines_a ≡ a) (if_true if_false : World → Ended) where
    pub choose_does : k < bound
        → HasLines site own q (map plain (test_truth k) ++ (branch steers Beq 11 13 (q + 6) ∷ (jump (q + 7 + a) ∷ (lines_a ++ (jump (q + 7 + a + b) ∷ lines_b)))))
        → (HasLines site own (q + 6) lines_a → From (q + 6) (q + 6 + a) if_true) → (HasLines site own (q + 7 + a) lines_b → From (q + 7 + a) (q + 7 + a + b) if_false)
        → (w : World) (c : Config) → Like site fp left w c → c.state.pc ≡ site.address own q
        → Does site exceptions own fp left fuel Out 0 w c t (q + (a + b + 7)) (cond (is_true (slot_in fp k w)) (if_true (paid 1 w)) (if_false (paid 1 w)))
    choose_does in_k has does_a does_b w c like there =
        subst (λ to. Does site exceptions own fp left fuel Out 0 w c t to (cond (is_true (slot_in fp k w)) (if_true (paid 1 w)) (if_false (paid 1 w)))) (let e : q + 7 + a + b ≡ q + (a + b + 7) = omega arith in e)
        (by_test (is_true (slot_in fp k w)) (test is_slot))
      where
        slot : SlotAt site fp w c k
        slot = slot_at site exceptions fp left bound w c k fair room like in_k

        is_slot : is_true (signed (c.state.mem (far (c.state.reg 8) k / 4))) ≡ is_true (slot_in fp k w)
        is_slot = ap is_true (sym slot.holds)

        one : sum_32 (c.state.reg 0) 1 ≡ 1
        one = let e = like.zeroth in omega arith

        test : is_true (signed (c.state.mem (far (c.state.reg 8) k / 4))) ≡ is_true (slot_in fp k w) → (c.state.mem (far (c.state.reg 8) k / 4) == sum_32 (c.state.reg 0) 1) ≡ is_true (slot_in fp k w)
        test is = ap (λ x. c.state.mem (far (c.state.reg 8) k / 4) == x) one ∙ (truth_test (c.state.mem (far (c.state.reg 8) k / 4)) slot.small ∙ is)

        stands : LineStands site own (q + 4) (branch steers Beq 11 13 (q + 6)) × HasLines site own (q + 4 + 1) (jump (q + 7 + a) ∷ (lines_a ++ (jump (q + 7 + a + b) ∷ lines_b)))
        stands = branch_stands site exceptions own fp left Out steers refl refl Beq 11 13 (q + 6) (test_truth k) (jump (q + 7 + a) ∷ (lines_a ++ (jump (q + 7 + a + b) ∷ lines_b))) q has

        behind : HasLines site own (q + 6) (lines_a ++ (jump (q + 7 + a + b) ∷ lines_b))
        behind = has_at site own (q + 4 + 1 + 1) (q + 6) (lines_a ++ (jump (q + 7 + a + b) ∷ lines_b)) (omega arith) stands.1.1

        has_a : HasLines site own (q + 6) lines_a
        has_a = has_front site own (q + 6) lines_a (jump (q + 7 + a + b) ∷ lines_b) behind

        has_b : HasLines site own (q + 6 + a) (jump (q + 7 + a + b) ∷ lines_b)
        has_b = has_back site own (q + 6) (q + 6 + a) lines_a (jump (q + 7 + a + b) ∷ lines_b) (ap (λ n. q + 6 + n) long) behind

        by_test : (x : Bool) → (c.state.mem (far (c.state.reg 8) k / 4) == sum_32 (c.state.reg 0) 1) ≡ x → Does site exceptions own fp left fuel Out 0 w c t (q + 7 + a + b) (cond x (if_true (paid 1 w)) (if_false (paid 1 w)))
        by_test true is =
            let on = front_taken site exceptions own fp left Out steers refl refl Beq 11 13 (q + 6) (test_truth k) (jump (q + 7 + a) ∷ (lines_a ++ (jump (q + 7 + a + b) ∷ lines_b))) q 27 1 w c has like there
            (tt, (tt, (slot.inside, (tt, tt)))) (refl, refl, refl) refl is (lit≤ tt) in
            does_jump site exceptions own fp left Out fuel 0 w c t (q + 6 + a) (q + 7 + a + b) (if_true (paid 1 w)) has_b.0
            (does_on site exceptions own fp left Out fuel fuel 1 27 0 w (paid 1 w) c t (q + 6) (q + 6 + a) (if_true (paid 1 w)) on (does_a has_a (paid 1 w) on.end on.like on.there) (omega arith) (omega arith))
        by_test false is =
            let on = front_passed site exceptions own fp left Out steers refl refl Beq 11 13 (q + 6) (test_truth k) (jump (q + 7 + a) ∷ (lines_a ++ (jump (q + 7 + a + b) ∷ lines_b))) q 27 1 w c has like there
            (tt, (tt, (slot.inside, (tt, tt)))) (refl, refl, refl) refl is (lit≤ tt) in
            let past = jump_on site exceptions own fp left Out 26 w (paid 1 w) c (q + 4 + 1) (q + 7 + a) stands.1.0 on in
            does_on site exceptions own fp left Out fuel fuel 0 26 0 w (paid 1 w) c t (q + 7 + a) (q + 7 + a + b) (if_false (paid 1 w)) past
            (does_b (has_at site own (q + 6 + a + 1) (q + 7 + a) lines_b (omega arith) has_b.1) (paid 1 w) past.end past.like past.there) (omega arith) (omega arith)

  -- exceptions of a part are caught
  module _ (q a b k : ℕ) (lines_a lines_b : List Line) (long : length lines_a ≡ a) (body : World → Ended) (handler : World → Ended) where
    abbrev pub inner : Targets
    inner = record t { raise_to = q + a + 1 }

    pub catch_does : k < bound → exceptions < 2 ^ 31
        → HasLines site own q (lines_a ++ (jump (q + a + 4 + b) ∷ (map plain (store_slot 12 k []) ++ lines_b)))
        → (HasLines site own q lines_a → (w : World) (c : Config) → Like site fp left w c → c.state.pc ≡ site.address own q → Does site exceptions own fp left fuel Out 0 w c inner (q + a) (body w))
        → (HasLines site own (q + a + 4) lines_b → From (q + a + 4) (q + a + 4 + b) handler)
        → (w : World) (c : Config) → Like site fp left w c → c.state.pc ≡ site.address own q
        → Does site exceptions own fp left fuel Out 0 w c t (q + (a + b + 4)) (caught (body (paid 1 w)) (λ e v. handler (with_slot fp k (pos e) v)))
    catch_does in_k few has does_a does_b w c like there =
        subst (λ to. Does site exceptions own fp left fuel Out 0 w c t to (caught (body (paid 1 w)) (λ e v. handler (with_slot fp k (pos e) v)))) (let e : q + a + 4 + b ≡ q + (a + b + 4) = omega arith in e)
        (let paying = pays site exceptions own fp left Out 32 1 q w c like there (lit≤ tt) in
        by_end (body (paid 1 w)) (does_on site exceptions own fp left Out fuel fuel 32 32 0 w (paid 1 w) c inner q (q + a) (body (paid 1 w)) paying (does_a has_a (paid 1 w) c paying.like there) (omega arith) (omega arith)))
      where
        has_a : HasLines site own q lines_a
        has_a = has_front site own q lines_a (jump (q + a + 4 + b) ∷ (map plain (store_slot 12 k []) ++ lines_b)) has

        has_b : HasLines site own (q + a) (jump (q + a + 4 + b) ∷ (map plain (store_slot 12 k []) ++ lines_b))
        has_b = has_back site own q (q + a) lines_a (jump (q + a + 4 + b) ∷ (map plain (store_slot 12 k []) ++ lines_b)) (ap (λ n. q + n) long) has

        has_handler : HasLines site own (q + a + 4) lines_b
        has_handler = has_back site own (q + a + 1) (q + a + 4) (map plain (store_slot 12 k [])) lines_b (omega arith) has_b.1

        by_number : (e : ℕ) (v : World) (one : Comes site own fp left Out 32 w c (q + a + 1) (IsRaised exceptions e) v) → Comes site own fp left Out 29 w c (q + a + 4) Nothing (with_slot fp k (pos e) v)
        by_number e v one =
            let d = one.end in
            let slot = slot_at site exceptions fp left bound v d k fair room one.like in_k in
            let known = one.also.known in
            let is = one.also.number in
            let went = straight_lines_go site own (q + a + 1) d (store_slot 12 k []) (has_front site own (q + a + 1) (map plain (store_slot 12 k [])) lines_b has_b.1) one.there (tt, (tt, ((slot.inside, slot.behind), tt))) in
            let below = room.below in
            let spent = one.spent in
            let number : signed (d.state.reg 12) ≡ pos e = ap signed is ∙ to_z_pos w32 e (omega arith) in
            let stored = like_set site fp left 0 v d (gone d (store_slot 12 k [])) (slot_word fp k) (far (d.state.reg 8) k / 4) (d.state.reg 12) (pos e) one.like
            (record { zeroth = refl; stack = refl; frame = refl; input = refl; output = refl; silent = went.silent }) refl slot.word number (let x : d.state.reg 12 < 2 ^ 32 = omega arith in x) in
            record {
              end = gone d (store_slot 12 k []);
              steps = one.steps + 3;
              reaches = Rattle.kernel_code.proofs.Goes.reaches_on site.image one.steps 3 c d (gone d (store_slot 12 k [])) one.reaches went.reaches;
              there = went.arrives ∙ ap (λ n. site.address own n) (let x : q + a + 1 + 3 ≡ q + a + 4 = omega arith in x);
              like = subst (λ u. Like site fp left (with_memory (with_word (slot_word fp k) (pos e) v.memory) u) (gone d (store_slot 12 k []))) (unpaid v) stored;
              quiet = Rattle.kernel_code.proofs.Compose.quiet_on site fp left Out c d (gone d (store_slot 12 k [])) one.quiet
                  (quiet_set site fp left Out d (gone d (store_slot 12 k [])) (far (d.state.reg 8) k / 4) (d.state.reg 12) went.silent refl (omega (arith, slot.word)));
              spent = (let x : one.steps + 3 + 29 + 32 * w.seen.cost ≤ 32 * v.seen.cost = omega arith in x);
              also = tt;
            }

        by_end : (ended : Ended) → Does site exceptions own fp left fuel Out 32 w c inner (q + a) ended → Does site exceptions own fp left fuel Out 0 w c t (q + a + 4 + b) (caught ended (λ e v. handler (with_slot fp k (pos e) v)))
        by_end (Ends v) one = jump_on site exceptions own fp left Out 0 w v c (q + a) (q + a + 4 + b) has_b.0 (comes_spared site exceptions own fp left Out 1 32 w v c (q + a) Nothing (omega arith) one)
        by_end (Exits v) one = comes_spared site exceptions own fp left Out 0 32 w v c t.exit_to Nothing (omega arith) one
        by_end (Returns v) one = comes_spared site exceptions own fp left Out 0 32 w v c t.return_to Nothing (omega arith) one
        by_end (Raises e v) one =
            let on = by_number e v one in
            does_on site exceptions own fp left Out fuel fuel 0 29 0 w (with_slot fp k (pos e) v) c t (q + a + 4) (q + a + 4 + b) (handler (with_slot fp k (pos e) v)) on
            (does_b has_handler (with_slot fp k (pos e) v) on.end on.like on.there) (omega arith) (omega arith)
        by_end (Cut v) one = one
