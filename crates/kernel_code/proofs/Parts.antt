-- Code does what the kernel means, by induction on its tree.
use Rattle.std.proofs.Common.{◌≡◌, ℕ, zero, suc, ◌+◌, ◌^◌, ◌≤◌, ◌<◌, Bool, true, false, List, [], ◌∷◌, ◌++◌, map, Some, refl, sym, ap, subst, ◌∙◌, arith, lit≤, eq-eqb, ne_eqb}
use Rattle.cov_base.specs.declared.position.DecId.{DecId}
use Rattle.cov_base.specs.declared.position.InstId.{InstId}
use Rattle.rv_semantics.specs.Past.{Config}
use Rattle.cov_base.specs.Graph.{Edges, next_in, next_from, target}
use Rattle.kernel_ir.specs.declared.code.Edge.{Edge}
use Rattle.kernel_ir.specs.declared.kernel.Kernel.{Kernel}
use Rattle.kernel_ir.specs.declared.simple.Simple.{Simple}
use Rattle.kernel_ir.specs.Tree.{Op, simple, choose, forever, for_loop, exit, returns, catch, decide, call, Code, no_op, and_op, Nodes, no_node, and_node}
use Rattle.kernel_ir.specs.World.{World, goes_on, paid}
use Rattle.kernel_ir.specs.Meaning.{Calls, does_op, does_code, walks}
use Rattle.kernel_ir.specs.Limits.{most_arguments, widest, count, edges_of, OpLacks, CodeLacks, NodesLack, OpFits, CodeFits, NodesFit}
use Rattle.kernel_code.specs.Line.{Line, Site, plain, jump, HasLines}
use Rattle.kernel_code.specs.SimpleCode.{Targets, Setting}
use Rattle.kernel_code.specs.Code.{op_length, code_length, nodes_length, node_place, edge_place, inside, guarded, op_lines, code_lines, nodes_lines}
use Rattle.kernel_code.specs.Does.{IsFair, HasRoom, Like, Comes, Nothing, Does}
use Rattle.kernel_code.specs.Calls.{IsDeep, CallsDo, setting}
use Rattle.kernel_code.specs.Parts.{DoesFrom, SimpleDoes}
use Rattle.kernel_code.proofs.Goes.{has_front, has_back, has_at}
use Rattle.kernel_code.proofs.Compose.{jump_on, does_then}
use Rattle.kernel_code.proofs.Turns.{pays, turns_does}
use Rattle.kernel_code.proofs.Choices.{choose_does, catch_does}
use Rattle.kernel_code.proofs.Walks.{outcome_lines, FromNode, node_does}
use Rattle.kernel_code.proofs.CallLines.{call_does}
use Rattle.kernel_code.proofs.Lengths.{op_long, code_long, nodes_long, node_tail}

-- the edges of the first node, and of the others
first_edge : (g : List Edges) (n : ℕ) (edges : Edges) (rest : List Edges) (value : Bool)
    → ((m : ℕ) (v : Bool) → n ≤ m → next_in g m v ≡ next_from n (edges ∷ rest) m v) → next_in g n value ≡ target edges value
first_edge g n edges rest value table = table n value (omega arith) ∙ rw (eq-eqb n n refl) refl

other_edges : (g : List Edges) (n : ℕ) (edges : Edges) (rest : List Edges)
    → ((m : ℕ) (v : Bool) → n ≤ m → next_in g m v ≡ next_from n (edges ∷ rest) m v) → (m : ℕ) (v : Bool) → suc n ≤ m → next_in g m v ≡ next_from (suc n) rest m v
other_edges g n edges rest table m v later = table m v (omega arith) ∙ rw (ne_eqb m n (λ e. absurd (omega (arith, e)))) refl

module _ (site : Site) (k : Kernel) (calls : Calls) (n own fp left width : ℕ) (fair : IsFair site k.exceptions) (predefined : 4 ≤ k.exceptions) (few : k.exceptions < 2 ^ 31)
    (do_calls : CallsDo site k calls n) (deep : IsDeep fp left) (some : 1 ≤ width) (narrow : width + most_arguments ≤ widest) where
  abbrev bound : ℕ
  bound = width + most_arguments

  pub room : HasRoom fp bound
  room = let above = deep.above in let below = deep.below in record { above = omega arith; below = below }

  module _ (simple_does : (Out : DecId → Type 0) (t : Targets) (p : ℕ) (s : Simple) → SimpleDoes site k own fp left bound (suc n) Out (setting k width) t p s) where
    abbrev e : Setting
    e = setting k width

    jumps_away : (Out : DecId → Type 0) (q to : ℕ) (w : World) (c : Config) → HasLines site own q (jump to ∷ []) → Like site fp left w c → c.state.pc ≡ site.address own q → Comes site own fp left Out 0 w c to Nothing (paid 1 w)
    jumps_away Out q to w c has like there =
        jump_on site k.exceptions own fp left Out 0 w (paid 1 w) c q to has.0 (pays site k.exceptions own fp left Out 1 1 q w c like there (lit≤ tt))

    loop_does : (a : Code) (t : Targets) (q : ℕ) (Out : DecId → Type 0) → (HasLines site own q (code_lines e (inside t q a) q a) → DoesFrom site k.exceptions own fp left (suc n) Out (inside t q a) q (q + code_length a) (does_code k calls (suc n) width fp left a))
        → (m : ℕ) → suc n ≤ m → HasLines site own q (code_lines e (inside t q a) q a ++ (jump q ∷ [])) → DoesFrom site k.exceptions own fp left (suc n) Out t q (q + (code_length a + 1)) (Rattle.kernel_ir.specs.Meaning.turns m (does_code k calls (suc n) width fp left a))
    loop_does a t q Out does m more has w c like there =
        let lines = code_lines e (inside t q a) q a in
        let has_jump = has_back site own q (q + code_length a) lines (jump q ∷ []) (ap (λ x. q + x) (code_long e (inside t q a) q a)) has in
        subst (λ to. Does site k.exceptions own fp left (suc n) Out 0 w c t to (Rattle.kernel_ir.specs.Meaning.turns m (does_code k calls (suc n) width fp left a) w)) (let x : q + code_length a + 1 ≡ q + (code_length a + 1) = omega arith in x)
        (turns_does site k.exceptions own fp left Out t q (q + code_length a) (q + code_length a + 1) (suc n) (does_code k calls (suc n) width fp left a) m (suc n) more (omega arith) has_jump.0
        (does (has_front site own q lines (jump q ∷ []) has)) w c like there)

    -- the lines behind the load of a node's slot
    abbrev node_end : (t : Targets) (true_at : ℕ) (d : DecId) (i : InstId) (number q : ℕ) (a : Code) (on_true on_false : Edge) (ns : Nodes) → List Line
    node_end t true_at d i number q a on_true on_false ns =
        Rattle.kernel_code.specs.SimpleCode.branch (Rattle.kernel_code.specs.Line.decides d number i) Rattle.rv_isa.specs.declared.ops.BranchOp.TheVariants.Bne 10 0 (q + code_length a + 7)
        ∷ (jump (edge_place true_at (true_at + 5) ns (q + code_length a + 8) on_false)
        ∷ (jump (edge_place true_at (true_at + 5) ns (q + code_length a + 8) on_true)
        ∷ nodes_lines e t true_at (true_at + 5) d i (suc number) (q + code_length a + 8) ns))

    mutual
      pub op_does : (o : Op) (t : Targets) (q : ℕ) (Out : DecId → Type 0) → ((d : DecId) → Out d → OpLacks d o) → OpFits k bound site.facts.graph o → HasLines site own q (op_lines e t q o)
          → DoesFrom site k.exceptions own fp left (suc n) Out t q (q + op_length o) (does_op k calls (suc n) width fp left o)
      op_does (simple s) t q Out lacks fits has w c like there = simple_does Out t q s fits has w c like there
      op_does (choose j a b) t q Out lacks fits has w c like there =
          choose_does site k.exceptions own fp left bound fair room Out (suc n) t q (code_length a) (code_length b) j (code_lines e t (q + 6) a) (code_lines e t (q + 7 + code_length a) b) (code_long e t (q + 6) a)
          (does_code k calls (suc n) width fp left a) (does_code k calls (suc n) width fp left b) fits.0 has
          (λ h. code_does a t (q + 6) Out (λ d o. (lacks d o).0) fits.1 h) (λ h. code_does b t (q + 7 + code_length a) Out (λ d o. (lacks d o).1) fits.2 h) w c like there
      op_does (forever a) t q Out lacks fits has w c like there =
          loop_does a t q Out (λ h. code_does a (inside t q a) q Out lacks fits h) (suc n) (omega arith) has w c like there
      op_does (for_loop a) t q Out lacks fits has w c like there =
          loop_does a t q Out (λ h. code_does a (inside t q a) q Out lacks fits h) (suc n + 2 ^ 32) (omega arith) has w c like there
      op_does exit t q Out lacks fits has w c like there = jumps_away Out q t.exit_to w c has like there
      op_does returns t q Out lacks fits has w c like there = jumps_away Out q t.return_to w c has like there
      op_does (catch a j b) t q Out lacks fits has w c like there =
          catch_does site k.exceptions own fp left bound fair room Out (suc n) t q (code_length a) (code_length b) j (code_lines e (guarded t q a) q a) (code_lines e t (q + code_length a + 4) b) (code_long e (guarded t q a) q a)
          (does_code k calls (suc n) width fp left a) (does_code k calls (suc n) width fp left b) fits.1 few has
          (λ h. code_does a (guarded t q a) q Out (λ d o. (lacks d o).0) fits.0 h) (λ h. code_does b t (q + code_length a + 4) Out (λ d o. (lacks d o).1) fits.2 h) w c like there
      op_does (decide d i j ns) t q Out lacks fits has w c like there =
          let true_at = q + nodes_length ns in
          let nodes = nodes_lines e t true_at (true_at + 5) d i 0 q ns in
          let has_outcomes : HasLines site own true_at (outcome_lines site k.exceptions own fp left bound fair room Out true_at j) = has_back site own q true_at nodes (outcome_lines site k.exceptions own fp left bound fair room Out true_at j) (ap (λ m. q + m) (nodes_long e t true_at (true_at + 5) d i 0 q ns)) has in
          let out : Out d → ⊥ = λ o. (lacks d o).0 refl in
          subst (λ to. Does site k.exceptions own fp left (suc n) Out 0 w c t to (walks k calls (suc n) width fp left d i j ns 0 0 [] w)) (let x : true_at + 9 ≡ q + (nodes_length ns + 9) = omega arith in x)
          (nodes_do ns t q Out d i out true_at j fits.0 has_outcomes 0 0 (λ x o. (lacks x o).1) fits.4 fits.5 (λ m v l. ap (λ g. next_in g m v) (sym fits.1)) (let x = fits.2 in omega arith)
          (has_front site own q nodes (outcome_lines site k.exceptions own fp left bound fair room Out true_at j) has) [] w c like there refl)
      op_does (call f) t q Out lacks fits has w c like there =
          call_does site k own fp e fair predefined calls n do_calls Out t q f fits some narrow has left deep w c like there

      pub code_does : (a : Code) (t : Targets) (q : ℕ) (Out : DecId → Type 0) → ((d : DecId) → Out d → CodeLacks d a) → CodeFits k bound site.facts.graph a → HasLines site own q (code_lines e t q a)
          → DoesFrom site k.exceptions own fp left (suc n) Out t q (q + code_length a) (does_code k calls (suc n) width fp left a)
      code_does no_op t q Out lacks fits has w c like there =
          subst (λ u. Comes site own fp left Out 0 w c (q + 0) Nothing u) (Rattle.kernel_code.proofs.Slots.unpaid w)
          (pays site k.exceptions own fp left Out 0 0 (q + 0) w c like (there ∙ ap (λ m. site.address own m) (let x : q ≡ q + 0 = omega arith in x)) (lit≤ tt))
      code_does (and_op o a) t q Out lacks fits has w c like there =
          let first = op_lines e t q o in
          let second = code_lines e t (q + op_length o) a in
          let has_second : HasLines site own (q + op_length o) second = has_back site own q (q + op_length o) first second (ap (λ m. q + m) (op_long e t q o)) has in
          subst (λ to. Does site k.exceptions own fp left (suc n) Out 0 w c t to (goes_on (does_op k calls (suc n) width fp left o w) (does_code k calls (suc n) width fp left a))) (let x : q + op_length o + code_length a ≡ q + (op_length o + code_length a) = omega arith in x)
          (does_then site k.exceptions own fp left Out (suc n) w c t (q + op_length o) (q + op_length o + code_length a) (does_op k calls (suc n) width fp left o w) (does_code k calls (suc n) width fp left a)
          (op_does o t q Out (λ d h. (lacks d h).0) fits.0 (has_front site own q first second has) w c like there)
          (λ v d like_v there_v. code_does a t (q + op_length o) Out (λ x h. (lacks x h).1) fits.1 has_second v d like_v there_v))

      pub nodes_do : (ns : Nodes) (t : Targets) (q : ℕ) (Out : DecId → Type 0) (d : DecId) (i : InstId) (out : Out d → ⊥) (true_at j : ℕ) (in_j : j < bound)
          (has_outcomes : HasLines site own true_at (outcome_lines site k.exceptions own fp left bound fair room Out true_at j)) (number skipped : ℕ)
          → ((x : DecId) → Out x → NodesLack x ns) → NodesLack d ns → NodesFit k bound site.facts.graph ns
          → ((m : ℕ) (v : Bool) → number ≤ m → next_in (site.facts.graph d) m v ≡ next_from number (edges_of number ns) m v) → skipped < count ns
          → HasLines site own q (nodes_lines e t true_at (true_at + 5) d i number q ns)
          → FromNode site k.exceptions own fp left bound fair room Out d i out (suc n) t true_at j in_j has_outcomes (node_place skipped ns q) (number + skipped) (walks k calls (suc n) width fp left d i j ns number skipped)
      nodes_do no_node t q Out d i out true_at j in_j has_outcomes number skipped lacks own_lacks fits table below has = absurd (omega arith)
      nodes_do (and_node a h on_true on_false ns) t q Out d i out true_at j in_j has_outcomes number (suc skipped) lacks own_lacks fits table below has =
          let tail = node_tail e t true_at (true_at + 5) d i number q a h on_true on_false ns in
          let has_tail : HasLines site own (q + code_length a) tail = has_back site own q (q + code_length a) (code_lines e t q a) tail (ap (λ m. q + m) (code_long e t q a)) has in
          let has_rest : HasLines site own (q + code_length a + 8) (nodes_lines e t true_at (true_at + 5) d i (suc number) (q + code_length a + 8) ns) =
          has_at site own (q + code_length a + 5 + 1 + 1 + 1) (q + code_length a + 8) (nodes_lines e t true_at (true_at + 5) d i (suc number) (q + code_length a + 8) ns) (omega arith)
          (has_back site own (q + code_length a) (q + code_length a + 5) (map plain (Rattle.kernel_code.specs.Code.load_truth h)) (node_end t true_at d i number q a on_true on_false ns) (omega arith) has_tail).1.1.1 in
          λ path w c like there come.
          nodes_do ns t (q + code_length a + 8) Out d i out true_at j in_j has_outcomes (suc number) skipped (λ x o. (lacks x o).1) own_lacks.1 fits.4
          (other_edges (site.facts.graph d) number _ (edges_of (suc number) ns) table) (omega arith) has_rest path w c like there
          (subst (λ m. Rattle.kernel_code.specs.Behind.come_to site.facts (Rattle.kernel_code.proofs.Nodes.evaluation fp d i) c.past m ≡ Some path) (let x : number + suc skipped ≡ suc number + skipped = omega arith in x) come)
      nodes_do (and_node a h on_true on_false ns) t q Out d i out true_at j in_j has_outcomes number zero lacks own_lacks fits table below has =
          let tail = node_tail e t true_at (true_at + 5) d i number q a h on_true on_false ns in
          let has_tail : HasLines site own (q + code_length a) tail = has_back site own q (q + code_length a) (code_lines e t q a) tail (ap (λ m. q + m) (code_long e t q a)) has in
          let has_rest : HasLines site own (q + code_length a + 8) (nodes_lines e t true_at (true_at + 5) d i (suc number) (q + code_length a + 8) ns) =
          has_at site own (q + code_length a + 5 + 1 + 1 + 1) (q + code_length a + 8) (nodes_lines e t true_at (true_at + 5) d i (suc number) (q + code_length a + 8) ns) (omega arith)
          (has_back site own (q + code_length a) (q + code_length a + 5) (map plain (Rattle.kernel_code.specs.Code.load_truth h)) (node_end t true_at d i number q a on_true on_false ns) (omega arith) has_tail).1.1.1 in
          λ path w c like there come.
          node_does site k.exceptions own fp left bound fair room Out d i out (suc n) t true_at j in_j has_outcomes (λ x. CodeLacks x a) (λ x o. (lacks x o).0) own_lacks.0 q (code_length a) number h on_true on_false ns
          (nodes_lines e t true_at (true_at + 5) d i (suc number) (q + code_length a + 8) ns) fits.1 (does_code k calls (suc n) width fp left a) (walks k calls (suc n) width fp left d i j ns (suc number)) has_tail
          (code_does a t q (λ x. CodeLacks x a) (λ x o. o) fits.0 (has_front site own q (code_lines e t q a) tail has))
          (λ m in_m. nodes_do ns t (q + code_length a + 8) Out d i out true_at j in_j has_outcomes (suc number) m (λ x o. (lacks x o).1) own_lacks.1 fits.4 (other_edges (site.facts.graph d) number _ (edges_of (suc number) ns) table) in_m has_rest)
          fits.2 fits.3 (first_edge (site.facts.graph d) number _ (edges_of (suc number) ns) true table) (first_edge (site.facts.graph d) number _ (edges_of (suc number) ns) false table)
          path w c like there (subst (λ m. Rattle.kernel_code.specs.Behind.come_to site.facts (Rattle.kernel_code.proofs.Nodes.evaluation fp d i) c.past m ≡ Some path) (let x : number + 0 ≡ number = omega arith in x) come)
