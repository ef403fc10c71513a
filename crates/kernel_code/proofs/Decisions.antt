-- Decisions: from node to node along the edges, and the outcome.
use Rattle.std.proofs.Common.{◌≡◌, ℕ, ◌+◌, ◌-◌, ◌*◌, ◌/◌, ◌^◌, ◌==◌, ◌≤◌, ◌<◌, Bool, true, false, not, nat_lt, List, ◌∷◌, ◌++◌, map, Some, None, refl, sym, ap, ◌∙◌, arith}
use Rattle.cov_base.specs.declared.position.DecId.{DecId}
use Rattle.cov_base.specs.declared.position.InstId.{InstId}
use Rattle.cov_base.specs.declared.event.Event.TheVariants.{Done}
use Rattle.rv_isa.specs.declared.ops.BranchOp.TheVariants.{Bne}
use Rattle.rv_semantics.specs.Arithmetic.{sum_32, flag}
use Rattle.rv_semantics.specs.Past.{Config}
use Rattle.cov_base.specs.Graph.{node, leaf, next_in}
use Rattle.cov_base.specs.Path.{Step, vector_of}
use Rattle.transcript.specs.Visit.{Key}
use Rattle.ada_meaning.specs.Arithmetic.{is_true}
use Rattle.kernel_ir.specs.World.{World, slot_in, noted, paid}
use Rattle.kernel_code.specs.Behind.{InOrder, come_to}
use Rattle.kernel_code.specs.Line.{Line, Site, plain, jump, decides, LineStands, HasLines}
use Rattle.kernel_code.specs.Goes.{Reaches, Silent, gone, Gone}
use Rattle.kernel_code.specs.SimpleCode.{branch}
use Rattle.kernel_code.specs.Code.{load_truth}
use Rattle.kernel_code.specs.Does.{IsFair, HasRoom, Like, Quiet, Comes, Nothing}
use Rattle.kernel_code.proofs.Goes.{reaches_on, straight_lines_go, has_front, has_back, has_at}
use Rattle.kernel_code.proofs.Steps.{moved, branch_taken, branch_passed, jumps_to, line_silent}
use Rattle.kernel_code.proofs.Slots.{far, SlotAt, slot_at, like_shows, paths_kept}
use Rattle.kernel_code.proofs.Compose.{quiet_on}
use Rattle.kernel_code.proofs.Nodes.{node_test, evaluation, order_behind, others_behind, node_behind, leaf_behind}

-- the place for a value
abbrev pub place_by : Bool → (on_true on_false : ℕ) → ℕ
place_by true t f = t
place_by false t f = f

module _ (site : Site) (exceptions own fp left bound : ℕ) (fair : IsFair site exceptions) (room : HasRoom fp bound) (Out : DecId → Type 0) (d : DecId) (i : InstId) (out : Out d → ⊥) where
  -- the lines behind the code of a condition
  abbrev pub node_lines : (q n j on_false on_true : ℕ) → List Line → List Line
  node_lines q n j on_false on_true rest =
      map plain (load_truth j) ++ (branch (decides d n i) Bne 10 0 (q + 7) ∷ (jump on_false ∷ (jump on_true ∷ rest)))

  -- the machine behind the branch of the condition and the jump to where its edge leads
  pub record Turned (q n j on_false on_true : ℕ) (value : Bool) (v : World) (c : Config) : Type 0 where
    pub at_branch : Config
    pub pc : ℕ
    pub went : Silent site.facts c.past at_branch.past
    pub branch_place : at_branch.state.pc ≡ site.address own (q + 5)
    pub regs : (at_branch.state.reg 0 ≡ c.state.reg 0) × (at_branch.state.reg 2 ≡ c.state.reg 2) × (at_branch.state.reg 8 ≡ c.state.reg 8)
    pub mem : at_branch.state.mem ≡ c.state.mem
    pub input : at_branch.input ≡ c.input
    pub output : at_branch.output ≡ c.output
    pub reaches : Reaches site.image 7 c (moved (moved at_branch (Some value) pc) None (site.address own (place_by value on_true on_false)))
    pub silent : Silent site.facts (moved at_branch (Some value) pc).past (moved (moved at_branch (Some value) pc) None (site.address own (place_by value on_true on_false))).past

  stands_of : (q n j on_false on_true : ℕ) (rest : List Line) → HasLines site own q (node_lines q n j on_false on_true rest)
      → LineStands site own (q + 5) (branch (decides d n i) Bne 10 0 (q + 7)) × LineStands site own (q + 6) (jump on_false) × LineStands site own (q + 7) (jump on_true) × HasLines site own (q + 8) rest
  stands_of q n j on_false on_true rest has =
      let b = has_back site own q (q + 5) (map plain (load_truth j)) (branch (decides d n i) Bne 10 0 (q + 7) ∷ (jump on_false ∷ (jump on_true ∷ rest))) (omega arith) has in
      let f = has_at site own (q + 5 + 1) (q + 6) (jump on_false ∷ (jump on_true ∷ rest)) (omega arith) b.1 in
      let t = has_at site own (q + 6 + 1) (q + 7) (jump on_true ∷ rest) (omega arith) f.1 in
      (b.0, f.0, t.0, has_at site own (q + 7 + 1) (q + 8) rest (omega arith) t.1)

  turned : (q n j on_false on_true : ℕ) (rest : List Line) (v : World) (c : Config) → HasLines site own q (node_lines q n j on_false on_true rest) → j < bound → Like site fp left v c
      → c.state.pc ≡ site.address own q → (value : Bool) → is_true (slot_in fp j v) ≡ value → Turned q n j on_false on_true value v c
  turned q n j on_false on_true rest v c has in_j like there value is = by_value value (test ∙ is)
    where
      slot : SlotAt site fp v c j
      slot = slot_at site exceptions fp left bound v c j fair room like in_j

      stands : LineStands site own (q + 5) (branch (decides d n i) Bne 10 0 (q + 7)) × LineStands site own (q + 6) (jump on_false) × LineStands site own (q + 7) (jump on_true) × HasLines site own (q + 8) rest
      stands = stands_of q n j on_false on_true rest has

      went : Gone site own q c (load_truth j)
      went = straight_lines_go site own q c (load_truth j) (has_front site own q (map plain (load_truth j)) (branch (decides d n i) Bne 10 0 (q + 7) ∷ (jump on_false ∷ (jump on_true ∷ rest))) has) there
          (tt, (tt, (slot.inside, (tt, (tt, tt)))))

      test : not (flag (nat_lt (sum_32 (c.state.mem (far (c.state.reg 8) j / 4)) (2 ^ 32 - 1)) 1) == c.state.reg 0) ≡ is_true (slot_in fp j v)
      test = node_test (c.state.mem (far (c.state.reg 8) j / 4)) (c.state.reg 0) slot.small like.zeroth ∙ ap is_true (sym slot.holds)

      by_value : (b : Bool) → not (flag (nat_lt (sum_32 (c.state.mem (far (c.state.reg 8) j / 4)) (2 ^ 32 - 1)) 1) == c.state.reg 0) ≡ b → Turned q n j on_false on_true b v c
      by_value true e =
          let mid = moved (gone c (load_truth j)) (Some true) (site.address own (q + 7)) in
          record {
            at_branch = gone c (load_truth j);
            pc = site.address own (q + 7);
            went = went.silent;
            branch_place = went.arrives;
            regs = (refl, refl, refl);
            mem = refl;
            input = refl;
            output = refl;
            reaches = reaches_on site.image 5 2 c (gone c (load_truth j)) (moved mid None (site.address own on_true)) went.reaches
                (reaches_on site.image 1 1 (gone c (load_truth j)) mid (moved mid None (site.address own on_true))
                (branch_taken site own (q + 5) (decides d n i) Bne 10 0 (q + 7) (gone c (load_truth j)) stands.0 went.arrives e)
                (jumps_to site own (q + 7) on_true mid stands.2 refl));
            silent = line_silent site own (q + 7) (jump on_true) mid None (site.address own on_true) stands.2 refl refl refl;
          }
      by_value false e =
          let mid = moved (gone c (load_truth j)) (Some false) (site.address own (q + 5 + 1)) in
          let at_jump : mid.state.pc ≡ site.address own (q + 6) = ap (λ n. site.address own n) (let x : q + 5 + 1 ≡ q + 6 = omega arith in x) in
          record {
            at_branch = gone c (load_truth j);
            pc = site.address own (q + 5 + 1);
            went = went.silent;
            branch_place = went.arrives;
            regs = (refl, refl, refl);
            mem = refl;
            input = refl;
            output = refl;
            reaches = reaches_on site.image 5 2 c (gone c (load_truth j)) (moved mid None (site.address own on_false)) went.reaches
                (reaches_on site.image 1 1 (gone c (load_truth j)) mid (moved mid None (site.address own on_false))
                (branch_passed site own (q + 5) (decides d n i) Bne 10 0 (q + 7) (gone c (load_truth j)) stands.0 went.arrives e)
                (jumps_to site own (q + 6) on_false mid stands.1 at_jump));
            silent = line_silent site own (q + 6) (jump on_false) mid None (site.address own on_false) stands.1 at_jump refl refl;
          }

  -- the evaluation has come to a node, or it is completed
  module _ (q n j on_false on_true : ℕ) (rest : List Line) (w v : World) (c : Config) (path : List Step) (in_j : j < bound)
      (has : HasLines site own q (node_lines q n j on_false on_true rest)) (one : Comes site own fp left Out 32 w c q Nothing v)
      (come : come_to site.facts (evaluation fp d i) one.end.past n ≡ Some path) (value : Bool) (is : is_true (slot_in fp j v) ≡ value) where
    abbrev key : Key
    key = evaluation fp d i

    here : Turned q n j on_false on_true value v one.end
    here = turned q n j on_false on_true rest v one.end has in_j one.like one.there value is

    stands : LineStands site own (q + 5) (branch (decides d n i) Bne 10 0 (q + 7))
    stands = (stands_of q n j on_false on_true rest has).0

    abbrev last : (here : Turned q n j on_false on_true value v one.end) → Config
    last here = moved (moved here.at_branch (Some value) here.pc) None (site.address own (place_by value on_true on_false))

    -- what is the same wherever the edge leads
    quiet_to : Quiet site.facts fp left Out c (last here)
    quiet_to = quiet_on site fp left Out c one.end (last here) one.quiet (record {
      paths = λ k apart m. paths_kept site (moved here.at_branch (Some value) here.pc) (last here) here.silent k m
          ∙ others_behind site exceptions own fp left bound fair room Out d i out (q + 5) n j 0 0 value v one.end here.at_branch path one.like here.went here.branch_place stands.row stands.condition here.regs.2 come k apart m;
      keeps = λ a above below. ap (λ m. m a) here.mem;
    })

    order_to : InOrder site.facts (last here).past
    order_to = here.silent.order (order_behind site exceptions own fp left bound fair room Out d i out (q + 5) n j 0 0 value v one.end here.at_branch path one.like here.went here.branch_place stands.row stands.condition here.regs.2 come)

    reached : Reaches site.image (one.steps + 7) c (last here)
    reached = reaches_on site.image one.steps 7 c one.end (last here) one.reaches here.reaches

    pub record AtNode (m to : ℕ) : Type 0 where
      pub comes : Comes site own fp left Out 25 w c to Nothing v
      pub arrived : come_to site.facts key comes.end.past m ≡ Some (record { at_node = n; value = value } ∷ path)

    pub to_node : (m : ℕ) → next_in (site.facts.graph d) n value ≡ node m → AtNode m (place_by value on_true on_false)
    to_node m leads =
        let on = node_behind site exceptions own fp left bound fair room Out d i out (q + 5) n j 0 0 value v one.end here.at_branch path one.like here.went here.branch_place stands.row stands.condition here.regs.2 come m leads in
        let spent = one.spent in
        let shows = one.like.shows in
        record {
          comes = record {
            end = last here;
            steps = one.steps + 7;
            reaches = reached;
            there = refl;
            like = like_shows site fp left v one.end (last here) v.seen one.like here.regs here.mem here.input
                (record { output = shows.output ∙ sym here.output; events = shows.events ∙ sym (here.silent.says ∙ on.1); order = order_to });
            quiet = quiet_to;
            spent = (let x : one.steps + 7 + 25 + 32 * w.seen.cost ≤ 32 * v.seen.cost = omega arith in x);
            also = tt;
          };
          arrived = paths_kept site (moved here.at_branch (Some value) here.pc) (last here) here.silent key m ∙ on.0;
        }

    pub to_leaf : (outcome : Bool) → next_in (site.facts.graph d) n value ≡ leaf outcome
        → Comes site own fp left Out 89 w c (place_by value on_true on_false) Nothing (noted (Done d i (vector_of (record { at_node = n; value = value } ∷ path))) (paid 2 v))
    to_leaf outcome leads =
        let on = leaf_behind site exceptions own fp left bound fair room Out d i out (q + 5) n j 0 0 value v one.end here.at_branch path one.like here.went here.branch_place stands.row stands.condition here.regs.2 come outcome leads in
        let spent = one.spent in
        let shows = one.like.shows in
        record {
          end = last here;
          steps = one.steps + 7;
          reaches = reached;
          there = refl;
          like = like_shows site fp left v one.end (last here) (noted (Done d i (vector_of (record { at_node = n; value = value } ∷ path))) (paid 2 v)).seen one.like here.regs here.mem here.input
              (record { output = shows.output ∙ sym here.output; events = ap (λ es. Done d i (vector_of (record { at_node = n; value = value } ∷ path)) ∷ es) shows.events ∙ sym (here.silent.says ∙ on); order = order_to });
          quiet = quiet_to;
          spent = (let x : one.steps + 7 + 89 + 32 * w.seen.cost ≤ 32 * (v.seen.cost + 2) = omega arith in x);
          also = tt;
        }
