-- The code of a decision finds its outcome, and what comes after it goes on by that.
use Rattle.std.proofs.Common.{◌≡◌, ℕ, zero, suc, ◌+◌, ◌<◌, ◌≤◌, ℤ, Bool, true, false, List, [], Option, if◌then◌else◌, refl, arith}
use Rattle.cov_base.specs.Path as path
use Rattle.ada_meaning.specs.Arithmetic.{number_of_truth}
use Rattle.ada_meaning.specs.Calls.{Calls}
use Rattle.ada_meaning.specs.Expressions.{test, decides, completed}
use Rattle.ada_meaning.specs.Program.{Program}
use Rattle.ada_meaning.specs.Shape.{Shape}
use Rattle.ada_meaning.specs.State.{World, Outcome, Action, goes_to, give}
use Rattle.ada_meaning.specs.Statements.{Flow, goes_on, looped, turns}
use Rattle.ada_meaning.specs.Tree as tree
use Rattle.kernel_ir.proofs.Joining.{goes_on_same, single_does}
use Rattle.kernel_ir.proofs.Memories.{with_slot_at}
use Rattle.kernel_ir.specs.declared.code.Edge.TheVariants as edge
use Rattle.kernel_ir.specs.declared.kernel.Kernel.{Kernel}
use Rattle.kernel_ir.specs.Meaning as code
use Rattle.kernel_ir.specs.Tree.{Code, no_node, choose, exit}
use Rattle.kernel_ir.specs.World.{Ended, slot_in, with_slot, paid}
use Rattle.kernel_ir.specs.World as kernel
use Rattle.frame_widths.specs.Ends.{end_of_test}
use Rattle.statement_code.specs.Names.{names_in}
use Rattle.statement_code.specs.Calls.{MayCall}
use Rattle.statement_code.specs.Cells.{Cells, Within}
use Rattle.statement_code.specs.Flows.{decide_on, decided_code}
use Rattle.statement_code.specs.Frames.{rate, Frame, IsFrame, Inside, Failed}
use Rattle.statement_code.specs.Steps.{Step}
use Rattle.statement_code.specs.Values.{single, Home, IsPlainTest, SeesIn, Site}
use Rattle.statement_code.proofs.Flows.{turn_step, goes_to_twice, seen_of}
use Rattle.statement_code.proofs.Frames.{ticked, inside_ticked, inside_paid, inside_less, AtStops}
use Rattle.statement_code.proofs.Operands.{evaluated, code_evaluated, by_outcome, ending_of, completed_in, tested_then}
use Rattle.statement_code.proofs.Values.{test_does}

module _ (p : Program) (calls : Calls) (inst : ℕ) (K : Kernel) (kcalls : code.Calls) (fuel : ℕ) (Cell : Cells) (Keep : ℕ → Type 0) (fr : Frame)
    (frame : IsFrame Cell Keep fr) (Set : ℕ → Type 0) (shape_of : tree.Object → Shape) (home_of : tree.Object → Home) (site : Site) (Bodies : Bool → ℕ → ℕ → Type 0) (Library : Cells)
    (may : MayCall p calls kcalls Library site Bodies Cell Keep fr) (Sees : tree.Object → Type 0)
    (sees : SeesIn p inst shape_of home_of site Bodies Sees (Within Cell Set) fr.fp fr.depth) where
  abbrev In : ℕ → World → kernel.World → Type 0
  In l w v = Inside Cell Keep fr Set l w v

  abbrev Stop : ℕ → World → kernel.World → Type 0
  Stop = Failed Cell Keep fr Set

  -- a decision is evaluated, noted, and its outcome stands in a slot
  outcome_does : {B : Type 0} (R : Outcome B → Ended → Type 0) → AtStops Stop R → (d : tree.Label) (t : tree.Test) (k l : ℕ)
      → IsPlainTest p inst shape_of home_of site Bodies Sees t → fr.base ≤ k → k < fr.width → end_of_test k t ≤ fr.width → (f : Bool → Action B) (g : kernel.World → Ended)
      → ((outcome : Bool) (w : World) (v : kernel.World) → In (l + 2) w v → slot_in fr.fp k v ≡ number_of_truth outcome → R (f outcome w) (g v))
      → (w : World) (v : kernel.World) → In l w v
      → R (goes_to (decides p calls inst d t w) f)
      (kernel.goes_on (code.does_op K kcalls fuel fr.width fr.fp fr.calls (decide_on (names_in p inst) shape_of home_of site k d t) v) g)
  outcome_does R stops d t k l plain free below room f g next w v h =
      rw (goes_to_twice (test p calls inst t 0 [] w) (completed d inst) f)
      (tested_then p calls inst K kcalls fuel Cell Keep fr frame Set shape_of home_of site Bodies Library may Sees sees (λ r e. R r (kernel.goes_on e g)) (record { raises = stops.raises; cut = stops.cut }) k (l + 4) v
      (ending_of p calls inst K kcalls fuel Cell Keep fr frame Set shape_of home_of site Bodies Library may Sees sees d k (tree.conditions_of t) no_node (edge.Leaf true) (edge.Leaf false))
      (λ x y. goes_to (completed d inst x y) f)
      (by_outcome _ (λ longer u s i kept. next true _ _ (noted_so true longer u s i) (with_slot_at fr.fp k (number_of_truth true) (code_evaluated inst d longer s)))
      (λ longer u s i kept. next false _ _ (noted_so false longer u s i) (with_slot_at fr.fp k (number_of_truth false) (code_evaluated inst d longer s))))
      _ _ (test_does p calls inst K kcalls fuel Cell Keep fr frame Set shape_of home_of site Bodies Library may Sees sees d t (edge.Leaf true) (edge.Leaf false) no_node k 0 (tree.conditions_of t) l [] v plain free room
      (omega arith) w v h (λ j lt. refl)))
    where
      noted_so : (outcome : Bool) (longer : List path.Step) (u : World) (s : kernel.World) → In (l + 4) u s
          → In (l + 2) (evaluated inst d longer u) (with_slot fr.fp k (number_of_truth outcome) (code_evaluated inst d longer s))
      noted_so outcome longer u s i =
          completed_in p calls inst K kcalls fuel Cell Keep fr frame Set shape_of home_of site Bodies Library may Sees sees d k (l + 2) outcome longer u s free below
          (inside_less Cell Keep fr Set (l + 4) (l + 2 + 2) u s (omega arith) i)

  -- what is done by an outcome
  pub decided_does : {B : Type 0} (R : Outcome B → Ended → Type 0) → AtStops Stop R → (d : tree.Label) (t : tree.Test) (a b : Code) (k l : ℕ)
      → IsPlainTest p inst shape_of home_of site Bodies Sees t → fr.base ≤ k → k < fr.width → end_of_test k t ≤ fr.width → (f : Bool → Action B)
      → ((w : World) (v : kernel.World) → In (l + 1) w v → R (f true w) (code.does_code K kcalls fuel fr.width fr.fp fr.calls a v))
      → ((w : World) (v : kernel.World) → In (l + 1) w v → R (f false w) (code.does_code K kcalls fuel fr.width fr.fp fr.calls b v))
      → (w : World) (v : kernel.World) → In l w v
      → R (goes_to (decides p calls inst d t w) f)
      (code.does_code K kcalls fuel fr.width fr.fp fr.calls (decided_code (names_in p inst) shape_of home_of site k d t a b) v)
  decided_does R stops d t a b k l plain free below room f if_true if_false w v h =
      let o = decide_on (names_in p inst) shape_of home_of site k d t in
      rw (goes_on_same (code.does_op K kcalls fuel fr.width fr.fp fr.calls o v) _ _ (single_does K kcalls fuel fr.width fr.fp fr.calls (choose k a b)))
      (outcome_does R stops d t k l plain free below room f (code.does_op K kcalls fuel fr.width fr.fp fr.calls (choose k a b)) chosen w v h)
    where
      chosen : (outcome : Bool) (u : World) (s : kernel.World) → In (l + 2) u s → slot_in fr.fp k s ≡ number_of_truth outcome
          → R (f outcome u) (code.does_op K kcalls fuel fr.width fr.fp fr.calls (choose k a b) s)
      chosen true u s i is = rw is (if_true u (paid 1 s) (inside_paid Cell Keep fr Set 1 (l + 1) u s
          (inside_less Cell Keep fr Set (l + 2) (l + 1 + 1) u s (omega arith) i)))
      chosen false u s i is = rw is (if_false u (paid 1 s) (inside_paid Cell Keep fr Set 1 (l + 1) u s
          (inside_less Cell Keep fr Set (l + 2) (l + 1 + 1) u s (omega arith) i)))

  -- a while loop: the test is evaluated before each turn
  pub while_does : (Back : Option ℤ → World → kernel.World → Type 0) (looping : Bool) (d : tree.Label) (t : tree.Test) (k : ℕ) → IsPlainTest p inst shape_of home_of site Bodies Sees t → fr.base ≤ k → k < fr.width
      → end_of_test k t ≤ fr.width → (body : Action Flow) (a : Code)
      → ((w : World) (v : kernel.World) → In 0 w v → Step Back true Stop (In 0) (body w) (code.does_code K kcalls fuel fr.width fr.fp fr.calls a v))
      → (more : ℕ) (w : World) (v : kernel.World) → In 0 w v
      → Step Back looping Stop (In 0) (turns more (decides p calls inst d t) body w)
      (code.turns more (code.does_code K kcalls fuel fr.width fr.fp fr.calls (decided_code (names_in p inst) shape_of home_of site k d t a (single exit))) v)
  while_does Back looping d t k plain free below room body a each zero w v h = seen_of Cell Keep fr Set 0 w v h
  while_does Back looping d t k plain free below room body a each (suc more) w v h =
      let turn = code.does_code K kcalls fuel fr.width fr.fp fr.calls (decided_code (names_in p inst) shape_of home_of site k d t a (single exit)) in
      decided_does (λ r e. Step Back looping Stop (In 0) r (code.after_turn e (code.turns more turn)))
      (record { raises = λ x y u s same stop. (same, stop); cut = λ u s seen. seen }) d t a (single exit) k 1 plain free below room
      (λ b. if b then (λ u. goes_to (body u) (λ x. looped x (turns more (decides p calls inst d t) body))) else give goes_on)
      (λ u s i. turn_step Back looping Stop (In 0) (In 0) (turns more (decides p calls inst d t) body) (code.turns more turn)
      (while_does Back looping d t k plain free below room body a each more) (λ x y g. g) (body u) _
      (each u s (inside_less Cell Keep fr Set 2 0 u s (omega arith) i)))
      (λ u s i. inside_paid Cell Keep fr Set 1 0 u s (inside_less Cell Keep fr Set 2 (0 + 1) u s (omega arith) i))
      (ticked w) (paid 1 v) (inside_paid Cell Keep fr Set 1 1 (ticked w) v
      (inside_less Cell Keep fr Set (0 + rate) (1 + 1) (ticked w) v (omega arith) (inside_ticked Cell Keep fr Set 0 w v h)))
