-- With more fuel an execution that ended is the same, and one that was cut off goes on.
use Rattle.std.proofs.Common.{ℕ, zero, suc, ◌+◌, ◌^◌, ◌≤◌, ℤ, pos, Bool, true, false, List, [], ◌∷◌, Option, Some, None, slice_get, if◌then◌else◌, arith, refl}
use Rattle.cov_base.specs.declared.position.DecId.{DecId}
use Rattle.cov_base.specs.declared.position.InstId.{InstId}
use Rattle.cov_base.specs.declared.event.Event.TheVariants.{Start, Done}
use Rattle.cov_base.specs.Path.{Step, vector_of}
use Rattle.ada_meaning.specs.Types as ada
use Rattle.ada_meaning.specs.Refines.{Extends}
use Rattle.ada_meaning.specs.Arithmetic.{is_true, exact}
use Rattle.kernel_ir.specs.declared.code.Edge.{Edge}
use Rattle.kernel_ir.specs.declared.kernel.Body.{Body}
use Rattle.kernel_ir.specs.declared.kernel.Kernel.{Kernel}
use Rattle.kernel_ir.specs.declared.kernel.Layout.{Layout}
use Rattle.kernel_ir.specs.declared.simple.Simple.{Simple}
use Rattle.kernel_ir.specs.declared.simple.Simple.TheVariants as simple_op
use Rattle.kernel_ir.specs.Tree.{Op, simple, choose, forever, for_loop, exit, returns, catch, decide, call, Code, no_op, and_op, Nodes, no_node, and_node}
use Rattle.kernel_ir.specs.World.{World, Ended, Ends, Raises, world_in, area_end, paid, slot_in, with_slot}
use Rattle.kernel_ir.specs.Simple.{operator_of, sets_word, takes, does_simple}
use Rattle.kernel_ir.specs.Meaning.{Calls, taken, follows, completes, called, does_op, does_code, walks, executed, calls_in, nested_calls, begin, exec}
use Rattle.kernel_ir.specs.Laws.{Refines}
use Rattle.kernel_ir.proofs.Growing.{extends_refl, extends_trans, extends_paid, extends_noted, extends_output, steady, Improves, goes_on_improves, after_improves, turns_improve, caught_improves, back_improves, chosen_improves, follows_improve}

-- a state or an exception, each with no less observed
if_grows : (b : Bool) (v : World) (e : ℕ) (u w : World) → Extends w.seen v.seen → Extends w.seen u.seen → Extends w.seen (world_in (if b then Ends v else Raises e u)).seen
if_grows true v e u w h i = h
if_grows false v e u w h i = i

module _ (layouts : List Layout) (exceptions fp : ℕ) where
  operates_grows : (divisor : Bool) (o : ada.Operator) (k : ℕ) (x y : ℤ) (w : World)
      → Extends w.seen (world_in (if divisor then Raises 1 (paid 1 w) else sets_word layouts exceptions fp k (exact o x y) w)).seen
  operates_grows true o k x y w = extends_paid 1 w
  operates_grows false o k x y w = if_grows _ _ 1 _ w (extends_paid 1 w) (extends_paid 1 w)

  takes_grows : (k : ℕ) (xs : List ℤ) (w : World) → Extends w.seen (world_in (takes layouts exceptions fp k xs w)).seen
  takes_grows k [] w = extends_paid 1 w
  takes_grows k (x ∷ xs) w = extends_paid 1 w

  simple_grows : (s : Simple) (w : World) → Extends w.seen (world_in (does_simple layouts exceptions fp s w)).seen
  simple_grows (simple_op.Number k n) w = extends_paid 1 w
  simple_grows (simple_op.Move k j) w = extends_paid 1 w
  simple_grows (simple_op.Compare r k i j) w = extends_paid 1 w
  simple_grows (simple_op.Complement k j) w = extends_paid 1 w
  simple_grows (simple_op.Negate k j) w = if_grows _ _ 1 _ w (extends_paid 1 w) (extends_paid 1 w)
  simple_grows (simple_op.Absolute k j) w = if_grows _ _ 1 _ w (extends_paid 1 w) (extends_paid 1 w)
  simple_grows (simple_op.Arithmetic o k i j) w = operates_grows _ (operator_of o) k (slot_in fp i w) (slot_in fp j w) w
  simple_grows (simple_op.Within k low high) w = if_grows _ _ 1 _ w (extends_paid 1 w) (extends_paid 1 w)
  simple_grows (simple_op.Index k j low high n) w = if_grows _ _ 1 _ w (extends_paid 1 w) (extends_paid 1 w)
  simple_grows (simple_op.Offset k i j) w = extends_paid 1 w
  simple_grows (simple_op.Advance k j n) w = extends_paid 1 w
  simple_grows (simple_op.FrameAddress k j) w = extends_paid 1 w
  simple_grows (simple_op.LibraryAddress k n) w = extends_paid 1 w
  simple_grows (simple_op.Load k j) w = if_grows _ _ 2 _ w (extends_paid 1 w) (extends_paid 1 w)
  simple_grows (simple_op.Store j k) w = if_grows _ _ 2 _ w (extends_paid 1 w) (extends_paid 1 w)
  simple_grows (simple_op.ReadLibrary k n) w = extends_paid 1 w
  simple_grows (simple_op.WriteLibrary n k) w = extends_paid 1 w
  simple_grows (simple_op.Copy k j n) w = if_grows _ _ 2 _ w (extends_paid (n + 1) w) (extends_paid 1 w)
  simple_grows (simple_op.Fill k l) w = if_grows _ _ 2 _ w (extends_paid _ w) (extends_paid 1 w)
  simple_grows (simple_op.Start s i) w = record { more_events = Start s i ∷ []; more_output = []; events = refl; output = refl; cost = omega arith }
  simple_grows (simple_op.Get k) w = takes_grows k w.input w
  simple_grows (simple_op.Put k) w = extends_trans (extends_paid 1 w) (extends_output (slot_in fp k w) (paid 1 w))
  simple_grows (simple_op.Raise e) w = extends_paid 1 w
  simple_grows (simple_op.RaiseSlot k) w = extends_paid 1 w

-- each call goes on with more fuel
pub record CallsImprove (few many : Calls) : Type 0 where
  pub body : (f fp left : ℕ) → Improves (few f fp left) (many f fp left)

same : (f : World → Ended) → ((w : World) → Extends w.seen (world_in (f w)).seen) → Improves f f
same f h = record { refines = λ w. steady (f w); grows = h }

called_improves : {few many : Calls} → CallsImprove few many → (width fp left f : ℕ) → Improves (called few width fp left f) (called many width fp left f)
called_improves h width fp zero f = same _ (extends_paid 1)
called_improves h width fp (suc left) f = after_improves (paid 1) (extends_paid 1) (h.body f _ left)

completes_improves : (fp : ℕ) (d : DecId) (i : InstId) (k : ℕ) (steps : List Step) (outcome : Bool) → Improves (completes fp d i k steps outcome) (completes fp d i k steps outcome)
completes_improves fp d i k steps outcome =
    same _ (λ w. extends_trans (extends_paid 2 w) (extends_noted (Done d i (vector_of steps)) (paid 2 w)))

-- where a walk goes on from node n, by the value in slot j
abbrev along : (fp : ℕ) → DecId → InstId → (k j n : ℕ) → (t f : Edge) → List Step → (List Step → ℕ → World → Ended) → World → Ended
along fp d i k j n t f steps rest v =
    let value = is_true (slot_in fp j v) in
    let longer = record { at_node = n; value = value } ∷ steps in
    follows (taken value t f) (λ outcome. completes fp d i k longer outcome v) (λ others. rest longer others v)

edge_improves : (fp : ℕ) (d : DecId) (i : InstId) (k j n : ℕ) (t f : Edge) (steps : List Step) {few many : List Step → ℕ → World → Ended}
    → ((longer : List Step) (others : ℕ) → Improves (few longer others) (many longer others))
    → Improves (along fp d i k j n t f steps few) (along fp d i k j n t f steps many)
edge_improves fp d i k j n t f steps {few} {many} h = record { refines = λ w. (at_value (is_true (slot_in fp j w)) w).0; grows = λ w. (at_value (is_true (slot_in fp j w)) w).1 }
  where
    longer : Bool → List Step
    longer value = record { at_node = n; value = value } ∷ steps

    at_value : (value : Bool) (w : World)
        → Refines (follows (taken value t f) (λ outcome. completes fp d i k (longer value) outcome w) (λ others. few (longer value) others w))
        (follows (taken value t f) (λ outcome. completes fp d i k (longer value) outcome w) (λ others. many (longer value) others w))
        × Extends w.seen (world_in (follows (taken value t f) (λ outcome. completes fp d i k (longer value) outcome w) (λ others. many (longer value) others w))).seen
    at_value value w = follows_improve (taken value t f) (completes_improves fp d i k (longer value)) (h (longer value)) w

module _ (p : Kernel) {few many : Calls} (better : CallsImprove few many) (fuel more : ℕ) (enough : fuel ≤ more) (width fp left : ℕ) where
  mutual
    op_improves : (o : Op) → Improves (does_op p few fuel width fp left o) (does_op p many more width fp left o)
    op_improves (simple s) = same _ (simple_grows p.layouts p.exceptions fp s)
    op_improves (choose k a b) = chosen_improves (λ w. is_true (slot_in fp k w)) (after_improves (paid 1) (extends_paid 1) (code_improves a)) (after_improves (paid 1) (extends_paid 1) (code_improves b))
    op_improves (forever a) = turns_improve fuel more enough (code_improves a)
    op_improves (for_loop a) = turns_improve (fuel + 2 ^ 32) (more + 2 ^ 32) (omega (arith, enough)) (code_improves a)
    op_improves exit = same _ (extends_paid 1)
    op_improves returns = same _ (extends_paid 1)
    op_improves (catch a k b) = caught_improves (after_improves (paid 1) (extends_paid 1) (code_improves a)) (λ e. after_improves (with_slot fp k (pos e)) (λ w. extends_refl w.seen) (code_improves b))
    op_improves (decide d i k ns) = walks_improve d i k ns zero zero []
    op_improves (call f) = called_improves better width fp left f

    code_improves : (a : Code) → Improves (does_code p few fuel width fp left a) (does_code p many more width fp left a)
    code_improves no_op = same _ (λ w. extends_refl w.seen)
    code_improves (and_op o a) = goes_on_improves (op_improves o) (code_improves a)

    walks_improve : (d : DecId) (i : InstId) (k : ℕ) (ns : Nodes) (n skipped : ℕ) (steps : List Step)
        → Improves (walks p few fuel width fp left d i k ns n skipped steps) (walks p many more width fp left d i k ns n skipped steps)
    walks_improve d i k no_node n skipped steps = same _ (λ w. extends_refl w.seen)
    walks_improve d i k (and_node a j t f ns) n (suc skipped) steps = walks_improve d i k ns (suc n) skipped steps
    walks_improve d i k (and_node a j t f ns) n zero steps = goes_on_improves (after_improves (paid 1) (extends_paid 1) (code_improves a))
        (edge_improves fp d i k j n t f steps (λ longer others. walks_improve d i k ns (suc n) others longer))

executed_improves : (p : Kernel) {few many : Calls} → CallsImprove few many → (fuel more : ℕ) → fuel ≤ more → (b : Option Body) (fp left : ℕ)
    → Improves (executed p few fuel b fp left) (executed p many more b fp left)
executed_improves p better fuel more enough None fp left = same _ (λ w. extends_refl w.seen)
executed_improves p better fuel more enough (Some b) fp left =
    back_improves (after_improves (paid 1) (extends_paid 1) (code_improves p better fuel more enough b.width fp left b.code))

-- calls only add to what was observed
calls_grow : (p : Kernel) (fuel : ℕ) → CallsImprove (calls_in p fuel) (calls_in p fuel)
calls_grow p zero = record { body = λ f fp left. same _ (λ w. extends_refl w.seen) }
calls_grow p (suc fuel) =
    record { body = λ f fp left. executed_improves p (calls_grow p fuel) (suc fuel) (suc fuel) (omega arith) (slice_get p.bodies f) fp left }

calls_improve : (p : Kernel) (fuel more : ℕ) → fuel ≤ more → CallsImprove (calls_in p fuel) (calls_in p more)
calls_improve p zero more h = record { body = λ f fp left. record { refines = ((calls_grow p more).body f fp left).grows; grows = ((calls_grow p more).body f fp left).grows } }
calls_improve p (suc fuel) zero h = absurd (omega (arith, h))
calls_improve p (suc fuel) (suc more) h =
    record { body = λ f fp left. executed_improves p (calls_improve p fuel more (omega (arith, h))) (suc fuel) (suc more) h (slice_get p.bodies f) fp left }

pub more_fuel_law : (p : Kernel) (fuel more : ℕ) (input : List ℤ) → fuel ≤ more → Refines (exec p fuel input) (exec p more input)
more_fuel_law p fuel more input h = ((calls_improve p fuel more h).body p.main area_end nested_calls).refines (begin p input)
