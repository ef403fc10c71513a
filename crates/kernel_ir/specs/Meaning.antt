-- What a kernel does on an input, under a fuel.
use Rattle.std.specs.Prelude.{ℕ, zero, suc, ◌+◌, ◌-◌, ◌^◌, ℤ, pos, Bool, true, false, List, [], ◌∷◌, Option, Some, None, slice_get, if◌then◌else◌}
use Rattle.cov_base.specs.declared.event.Event.TheVariants.{Done}
use Rattle.cov_base.specs.declared.position.DecId.{DecId}
use Rattle.cov_base.specs.declared.position.InstId.{InstId}
use Rattle.rv_semantics.specs.Layout.{placed}
use Rattle.rv_semantics.specs.Arithmetic.{signed}
use Rattle.cov_base.specs.Path.{Step, vector_of}
use Rattle.ada_meaning.specs.Arithmetic.{number_of_truth, is_true}
use Rattle.ada_meaning.specs.Execution.{by_return, by_exception, Execution, execution_of}
use Rattle.kernel_ir.specs.declared.code.Edge.{Edge}
use Rattle.kernel_ir.specs.declared.code.Edge.TheVariants as edge
use Rattle.kernel_ir.specs.declared.kernel.Body.{Body}
use Rattle.kernel_ir.specs.declared.kernel.Kernel.{Kernel}
use Rattle.kernel_ir.specs.Tree.{Op, simple, choose, forever, for_loop, exit, returns, catch, decide, call, Code, no_op, and_op, Nodes, no_node, and_node}
use Rattle.kernel_ir.specs.World.{World, Ended, Ends, Exits, Returns, Raises, Cut, goes_on, data_word, area_end, paid, noted, slot_in, with_slot}
use Rattle.kernel_ir.specs.Simple.{does_simple}

-- how the body with a number is executed, in a frame that ends before the word fp, where so many more calls may nest
abbrev pub Calls : Type 0
Calls = (body fp left : ℕ) → World → Ended

-- what comes after a turn of a loop
abbrev pub after_turn : Ended → (World → Ended) → Ended
after_turn (Ends w) f = f w
after_turn (Exits w) f = Ends w
after_turn (Returns w) f = Returns w
after_turn (Raises e w) f = Raises e w
after_turn (Cut w) f = Cut w

-- a loop with at most this many turns
abbrev pub turns : ℕ → (World → Ended) → World → Ended
turns zero body w = Cut w
turns (suc n) body w = after_turn (body (paid 1 w)) (turns n body)

-- where an exception leads
abbrev pub caught : Ended → (ℕ → World → Ended) → Ended
caught (Ends w) h = Ends w
caught (Exits w) h = Exits w
caught (Returns w) h = Returns w
caught (Raises e w) h = h e w
caught (Cut w) h = Cut w

-- the edge that the value of a condition takes
abbrev pub taken : Bool → (on_true on_false : Edge) → Edge
taken true t f = t
taken false t f = f

-- what comes at the end of an edge: an outcome, or a node past so many others
abbrev pub follows : Edge → (Bool → Ended) → (ℕ → Ended) → Ended
follows (edge.Leaf outcome) f g = f outcome
follows (edge.NodeAfter skipped) f g = g skipped

-- the end of a decision's evaluation: its vector is noted, and the slot is set to the outcome
abbrev pub completes : (fp : ℕ) → DecId → InstId → (slot : ℕ) → List Step → Bool → World → Ended
completes fp d i k steps outcome w =
    Ends (with_slot fp k (number_of_truth outcome) (noted (Done d i (vector_of steps)) (paid 2 w)))

-- a call from a body of this width: where no more call may nest, Storage_Error
abbrev pub called : Calls → (width fp left : ℕ) → (body : ℕ) → World → Ended
called calls width fp zero f w = Raises 3 (paid 1 w)
called calls width fp (suc left) f w = calls f (fp - width) left (paid 1 w)

module _ (p : Kernel) (calls : Calls) (fuel width fp left : ℕ) where
  abbrev mutual
    -- what an operation does, in a body of this width
    pub does_op : Op → World → Ended
    does_op (simple s) w = does_simple p.layouts p.exceptions fp s w
    does_op (choose k a b) w = if is_true (slot_in fp k w) then does_code a (paid 1 w) else does_code b (paid 1 w)
    does_op (forever a) w = turns fuel (does_code a) w
    does_op (for_loop a) w = turns (fuel + 2 ^ 32) (does_code a) w
    does_op exit w = Exits (paid 1 w)
    does_op returns w = Returns (paid 1 w)
    does_op (catch a k b) w = caught (does_code a (paid 1 w)) (λ e v. does_code b (with_slot fp k (pos e) v))
    does_op (decide d i k ns) w = walks d i k ns zero zero [] w
    does_op (call f) w = called calls width fp left f w

    -- operations in order
    pub does_code : Code → World → Ended
    does_code no_op w = Ends w
    does_code (and_op o a) w = goes_on (does_op o w) (does_code a)

    -- walks over the nodes of a decision, the first of which has the number n: so many are passed by, and these steps were taken, the
    -- latest first
    pub walks : DecId → InstId → (slot : ℕ) → Nodes → (n skipped : ℕ) → List Step → World → Ended
    walks d i k no_node n skipped steps w = Ends w
    walks d i k (and_node a j t f ns) n (suc skipped) steps w = walks d i k ns (suc n) skipped steps w
    walks d i k (and_node a j t f ns) n zero steps w = goes_on (does_code a (paid 1 w)) (λ v.
        let value = is_true (slot_in fp j v) in
        let longer = record { at_node = n; value = value } ∷ steps in
        follows (taken value t f) (λ outcome. completes fp d i k longer outcome v)
        (λ others. walks d i k ns (suc n) others longer v))

-- how a body ends: there is no loop to leave, and nothing behind a return
abbrev pub back : Ended → Ended
back (Ends w) = Ends w
back (Exits w) = Ends w
back (Returns w) = Ends w
back (Raises e w) = Raises e w
back (Cut w) = Cut w

-- executes a body, if there is one
abbrev pub executed : (p : Kernel) → Calls → (fuel : ℕ) → Option Body → (fp left : ℕ) → World → Ended
executed p calls fuel None fp left w = Ends w
executed p calls fuel (Some b) fp left w = back (does_code p calls fuel b.width fp left b.code (paid 1 w))

-- calls under a fuel: calls inside a call have one less, and each loop has as many turns as the fuel says
abbrev pub calls_in : (p : Kernel) → (fuel : ℕ) → Calls
calls_in p zero f fp left w = Cut w
calls_in p (suc fuel) f fp left w = executed p (calls_in p fuel) (suc fuel) (slice_get p.bodies f) fp left w

-- how many calls may nest in the main body, which is at the depth 1 of 512
abbrev pub nested_calls : ℕ
nested_calls = 511

-- the state before the main body, on an input: the words of the library level have their initial values, and nothing was observed
abbrev pub begin : Kernel → List ℤ → World
begin p input = record {
  memory = λ a. signed (placed (λ _. 0) data_word p.library a);
  input = input;
  seen = record { events = []; output = []; cost = 0 };
}

-- the execution of a kernel on an input, under a fuel
abbrev pub exec : Kernel → (fuel : ℕ) → List ℤ → Ended
exec p fuel input = calls_in p fuel p.main area_end nested_calls (begin p input)

-- the execution that an end shows; none where the fuel ran out
abbrev pub ended : Ended → Option Execution
ended (Ends w) = Some (execution_of by_return w.seen)
ended (Exits w) = Some (execution_of by_return w.seen)
ended (Returns w) = Some (execution_of by_return w.seen)
ended (Raises e w) = Some (execution_of (by_exception e) w.seen)
ended (Cut w) = None
