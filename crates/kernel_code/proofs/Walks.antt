-- A node of a decision and what follows it, and the code of the outcomes.
use Rattle.std.proofs.Common.{◌≡◌, ℕ, suc, ◌+◌, ◌*◌, ◌/◌, ◌^◌, ◌≤◌, ◌<◌, Bool, true, false, ℤ, pos, List, [], ◌∷◌, ◌++◌, map, Some, refl, sym, ap, subst, ◌∙◌, arith, lit≤, lit<}
use Rattle.cov_base.specs.declared.position.DecId.{DecId}
use Rattle.cov_base.specs.declared.position.InstId.{InstId}
use Rattle.cov_base.specs.declared.event.Event.TheVariants.{Done}
use Rattle.rv_isa.specs.declared.ops.ImmediateOp.TheVariants.{Addi}
use Rattle.rv_isa.specs.declared.instr.Instr.{Instr}
use Rattle.rv_isa.specs.declared.instr.Instr.TheVariants.{Immediate}
use Rattle.rv_isa.specs.Immediates.{sign_12}
use Rattle.rv_semantics.specs.Arithmetic.{sum_32, signed}
use Rattle.rv_semantics.specs.Past.{Config}
use Rattle.cov_base.specs.Graph.{next_in}
use Rattle.cov_base.specs.Path.{Step, vector_of}
use Rattle.ada_meaning.specs.Arithmetic.{is_true, number_of_truth}
use Rattle.kernel_ir.specs.declared.code.Edge.{Edge}
use Rattle.kernel_ir.specs.declared.code.Edge.TheVariants.{Leaf, NodeAfter}
use Rattle.kernel_ir.specs.Tree.{Nodes}
use Rattle.kernel_ir.specs.World.{World, Ended, Ends, Exits, Returns, Raises, Cut, goes_on, slot_in, slot_word, with_slot, with_word, with_memory, noted, paid}
use Rattle.kernel_ir.specs.Meaning.{taken, follows, completes}
use Rattle.kernel_ir.specs.Limits.{next_of, EdgeFits, count}
use Rattle.kernel_code.specs.Behind.{come_to}
use Rattle.kernel_code.specs.Line.{Line, Site, plain, jump, HasLines}
use Rattle.kernel_code.specs.Words.{store_slot}
use Rattle.kernel_code.specs.Goes.{gone}
use Rattle.kernel_code.specs.SimpleCode.{Targets}
use Rattle.kernel_code.specs.Code.{node_place, edge_place}
use Rattle.kernel_code.specs.Does.{IsFair, HasRoom, Like, Comes, IsRaised, Nothing, Does}
use Rattle.kernel_code.proofs.Goes.{reaches_on, straight_lines_go}
use Rattle.kernel_code.proofs.Slots.{far, unpaid, slot_at, like_set, quiet_set}
use Rattle.kernel_code.proofs.Compose.{quiet_on, comes_spared, comes_weaker, does_on, jump_on}
use Rattle.kernel_code.proofs.Turns.{pays}
use Rattle.kernel_code.proofs.Nodes.{evaluation}
use Rattle.kernel_code.proofs.Decisions.{node_lines, place_by, to_node, to_leaf}

module _ (site : Site) (exceptions own fp left bound : ℕ) (fair : IsFair site exceptions) (room : HasRoom fp bound) (Out : DecId → Type 0) where
  -- a slot gets a constant behind a part
  abbrev set_truth : (imm k : ℕ) → List Instr
  set_truth imm k = Immediate Addi 10 0 imm ∷ store_slot 10 k []

  pub truth_sets : (imm k q : ℕ) (x : ℤ) → signed (sum_32 0 (sign_12 imm)) ≡ x → sum_32 0 (sign_12 imm) < 2 ^ 32 → k < bound → HasLines site own q (map plain (set_truth imm k))
      → (w v : World) (c : Config) → Comes site own fp left Out 89 w c q Nothing v → Comes site own fp left Out 85 w c (q + 4) Nothing (with_slot fp k x v)
  truth_sets imm k q x is small in_k has w v c one =
      let d = one.end in
      let slot = slot_at site exceptions fp left bound v d k fair room one.like in_k in
      let went = straight_lines_go site own q d (set_truth imm k) has one.there (tt, (tt, (tt, ((slot.inside, slot.behind), tt)))) in
      let below = room.below in
      let spent = one.spent in
      let value : sum_32 0 (sign_12 imm) ≡ sum_32 (d.state.reg 0) (sign_12 imm) = ap (λ z. sum_32 z (sign_12 imm)) (sym one.like.zeroth) in
      let stored = like_set site fp left 0 v d (gone d (set_truth imm k)) (slot_word fp k) (far (d.state.reg 8) k / 4) (sum_32 (d.state.reg 0) (sign_12 imm)) x one.like
      (record { zeroth = refl; stack = refl; frame = refl; input = refl; output = refl; silent = went.silent }) refl slot.word (ap signed (sym value) ∙ is) (subst (λ n. n < 2 ^ 32) value small) in
      record {
        end = gone d (set_truth imm k);
        steps = one.steps + 4;
        reaches = reaches_on site.image one.steps 4 c d (gone d (set_truth imm k)) one.reaches went.reaches;
        there = went.arrives;
        like = subst (λ u. Like site fp left (with_memory (with_word (slot_word fp k) x v.memory) u) (gone d (set_truth imm k))) (unpaid v) stored;
        quiet = quiet_on site fp left Out c d (gone d (set_truth imm k)) one.quiet
            (quiet_set site fp left Out d (gone d (set_truth imm k)) (far (d.state.reg 8) k / 4) (sum_32 (d.state.reg 0) (sign_12 imm)) went.silent refl (omega (arith, slot.word)));
        spent = (let y : one.steps + 4 + 85 + 32 * w.seen.cost ≤ 32 * v.seen.cost = omega arith in y);
        also = tt;
      }

  -- the code of the two outcomes, from the place `true_at` on
  abbrev pub outcome_lines : (true_at k : ℕ) → List Line
  outcome_lines true_at k = map plain (set_truth 1 k) ++ (jump (true_at + 9) ∷ map plain (set_truth 0 k))

  pub outcome_sets : (true_at k : ℕ) → k < bound → HasLines site own true_at (outcome_lines true_at k) → (outcome : Bool) (w v : World) (c : Config)
      → Comes site own fp left Out 89 w c (place_by outcome true_at (true_at + 5)) Nothing v
      → Comes site own fp left Out 0 w c (true_at + 9) Nothing (with_slot fp k (number_of_truth outcome) v)
  outcome_sets true_at k in_k has true w v c one =
      let set = truth_sets 1 k true_at (pos 1) refl (lit< tt) in_k (Rattle.kernel_code.proofs.Goes.has_front site own true_at (map plain (set_truth 1 k)) (jump (true_at + 9) ∷ map plain (set_truth 0 k)) has) w v c one in
      let rest = Rattle.kernel_code.proofs.Goes.has_back site own true_at (true_at + 4) (map plain (set_truth 1 k)) (jump (true_at + 9) ∷ map plain (set_truth 0 k)) (omega arith) has in
      jump_on site exceptions own fp left Out 0 w (with_slot fp k (pos 1) v) c (true_at + 4) (true_at + 9) rest.0
      (comes_spared site exceptions own fp left Out 1 85 w (with_slot fp k (pos 1) v) c (true_at + 4) Nothing (omega arith) set)
  outcome_sets true_at k in_k has false w v c one =
      let rest = Rattle.kernel_code.proofs.Goes.has_back site own true_at (true_at + 4) (map plain (set_truth 1 k)) (jump (true_at + 9) ∷ map plain (set_truth 0 k)) (omega arith) has in
      let set = truth_sets 0 k (true_at + 5) (pos 0) refl (lit< tt) in_k (Rattle.kernel_code.proofs.Goes.has_at site own (true_at + 4 + 1) (true_at + 5) (map plain (set_truth 0 k)) (omega arith) rest.1) w v c one in
      subst (λ to. Comes site own fp left Out 0 w c to Nothing (with_slot fp k (pos 0) v)) (let e : true_at + 5 + 4 ≡ true_at + 9 = omega arith in e)
      (comes_spared site exceptions own fp left Out 0 85 w (with_slot fp k (pos 0) v) c (true_at + 5 + 4) Nothing (omega arith) set)

  -- a node whose operand does what it means, in front of nodes that do so too
  module _ (d : DecId) (i : InstId) (out : Out d → ⊥) (fuel : ℕ) (t : Targets) (true_at k : ℕ) (in_k : k < bound) (has_outcomes : HasLines site own true_at (outcome_lines true_at k)) where
    -- the machine is at a node to which the evaluation has come over a path, and from there on all is done
    abbrev pub FromNode : (place at_n : ℕ) → (List Step → World → Ended) → Type 0
    FromNode place at_n f = (path : List Step) (w : World) (c : Config) → Like site fp left w c → c.state.pc ≡ site.address own place → come_to site.facts (evaluation fp d i) c.past at_n ≡ Some path
        → Does site exceptions own fp left fuel Out 0 w c t (true_at + 9) (f path w)

    module _ (Wider : DecId → Type 0) (wider : (x : DecId) → Out x → Wider x) (inside : Wider d) (q a n j : ℕ) (on_true on_false : Edge) (ns : Nodes) (rest : List Line) (in_j : j < bound)
        (operand : World → Ended) (walk : (skipped : ℕ) → List Step → World → Ended) where
      abbrev next : ℕ
      next = q + a + 8

      abbrev pub lines_behind : List Line
      lines_behind = node_lines site exceptions own fp left bound fair room Out d i out (q + a) n j (edge_place true_at (true_at + 5) ns next on_false) (edge_place true_at (true_at + 5) ns next on_true) rest

      abbrev longer : Bool → List Step → List Step
      longer value path = record { at_node = n; value = value } ∷ path

      abbrev pub after_operand : List Step → World → Ended
      after_operand path v =
          let value = is_true (slot_in fp j v) in
          follows (taken value on_true on_false) (λ outcome. completes fp d i k (longer value path) outcome v) (λ others. walk others (longer value path) v)

      by_edge : HasLines site own (q + a) lines_behind → ((m : ℕ) → m < count ns → FromNode (node_place m ns next) (suc n + m) (walk m))
          → (path : List Step) (w v : World) (c : Config) (one : Comes site own fp left Out 32 w c (q + a) Nothing v) → come_to site.facts (evaluation fp d i) one.end.past n ≡ Some path
          → (value : Bool) → is_true (slot_in fp j v) ≡ value → (x : Edge) → EdgeFits x ns → next_in (site.facts.graph d) n value ≡ next_of n x
          → place_by value (edge_place true_at (true_at + 5) ns next on_true) (edge_place true_at (true_at + 5) ns next on_false) ≡ edge_place true_at (true_at + 5) ns next x
          → Does site exceptions own fp left fuel Out 0 w c t (true_at + 9) (follows x (λ outcome. completes fp d i k (longer value path) outcome v) (λ others. walk others (longer value path) v))
      by_edge has walks path w v c one come value is (Leaf outcome) fits leads place =
          let on = to_leaf site exceptions own fp left bound fair room Out d i out (q + a) n j (edge_place true_at (true_at + 5) ns next on_false) (edge_place true_at (true_at + 5) ns next on_true) rest w v c path in_j has one come value is outcome leads in
          outcome_sets true_at k in_k has_outcomes outcome w (noted (Done d i (vector_of (longer value path))) (paid 2 v)) c
          (subst (λ to. Comes site own fp left Out 89 w c to Nothing (noted (Done d i (vector_of (longer value path))) (paid 2 v))) (place ∙ outcome_place outcome) on)
        where
          outcome_place : (b : Bool) → edge_place true_at (true_at + 5) ns next (Leaf b) ≡ place_by b true_at (true_at + 5)
          outcome_place true = refl
          outcome_place false = refl
      by_edge has walks path w v c one come value is (NodeAfter m) fits leads place =
          let on = to_node site exceptions own fp left bound fair room Out d i out (q + a) n j (edge_place true_at (true_at + 5) ns next on_false) (edge_place true_at (true_at + 5) ns next on_true) rest w v c path in_j has one come value is (suc n + m) leads in
          does_on site exceptions own fp left Out fuel fuel 0 25 0 w v c t _ (true_at + 9) (walk m (longer value path) v) on.comes
          (walks m fits (longer value path) v on.comes.end on.comes.like (on.comes.there ∙ ap (λ p. site.address own p) place) on.arrived) (omega arith) (omega arith)

      pub node_does : HasLines site own (q + a) lines_behind
          → ((w : World) (c : Config) → Like site fp left w c → c.state.pc ≡ site.address own q → Does site exceptions own fp left fuel Wider 0 w c t (q + a) (operand w))
          → ((m : ℕ) → m < count ns → FromNode (node_place m ns next) (suc n + m) (walk m))
          → EdgeFits on_true ns → EdgeFits on_false ns → next_in (site.facts.graph d) n true ≡ next_of n on_true → next_in (site.facts.graph d) n false ≡ next_of n on_false
          → FromNode q n (λ path w. goes_on (operand (paid 1 w)) (after_operand path))
      node_does has does walks fits_true fits_false leads_true leads_false path w c like there come =
          let paying = pays site exceptions own fp left Wider 32 1 q w c like there (lit≤ tt) in
          by_end (operand (paid 1 w)) (does_on site exceptions own fp left Wider fuel fuel 32 32 0 w (paid 1 w) c t q (q + a) (operand (paid 1 w)) paying (does (paid 1 w) c paying.like there) (omega arith) (omega arith))
        where
          by_value : (v : World) (one : Comes site own fp left Out 32 w c (q + a) Nothing v) → come_to site.facts (evaluation fp d i) one.end.past n ≡ Some path → (value : Bool) → is_true (slot_in fp j v) ≡ value
              → Does site exceptions own fp left fuel Out 0 w c t (true_at + 9) (follows (taken value on_true on_false) (λ outcome. completes fp d i k (longer value path) outcome v) (λ others. walk others (longer value path) v))
          by_value v one has_come true is = by_edge has walks path w v c one has_come true is on_true fits_true leads_true refl
          by_value v one has_come false is = by_edge has walks path w v c one has_come false is on_false fits_false leads_false refl

          by_end : (ended : Ended) → Does site exceptions own fp left fuel Wider 32 w c t (q + a) ended → Does site exceptions own fp left fuel Out 0 w c t (true_at + 9) (goes_on ended (after_operand path))
          by_end (Ends v) one =
              by_value v (comes_weaker site exceptions own fp left Out Wider wider 32 w v c (q + a) Nothing one)
              (one.quiet.paths (evaluation fp d i) (omega arith, λ same. inside) n ∙ come) (is_true (slot_in fp j v)) refl
          by_end (Exits v) one = comes_spared site exceptions own fp left Out 0 32 w v c t.exit_to Nothing (omega arith) (comes_weaker site exceptions own fp left Out Wider wider 32 w v c t.exit_to Nothing one)
          by_end (Returns v) one = comes_spared site exceptions own fp left Out 0 32 w v c t.return_to Nothing (omega arith) (comes_weaker site exceptions own fp left Out Wider wider 32 w v c t.return_to Nothing one)
          by_end (Raises e v) one = comes_spared site exceptions own fp left Out 0 32 w v c t.raise_to (IsRaised exceptions e) (omega arith) (comes_weaker site exceptions own fp left Out Wider wider 32 w v c t.raise_to (IsRaised exceptions e) one)
          by_end (Cut v) one = one
