-- Each number that is raised is that of an exception.
use Rattle.std.proofs.Common.{◌≡◌, ℕ, zero, suc, ◌+◌, ◌^◌, ◌≤◌, ℤ, pos, negsuc, int_le, Bool, true, false, ◌&&◌, List, [], ◌∷◌, slice_get, arith, refl, if◌then◌else◌}
use Rattle.std.proofs.lemmas.Int.{ints}
use Rattle.std.proofs.lemmas.Bool.Decides.{nat_tests}
use Rattle.cov_base.specs.declared.position.DecId.{DecId}
use Rattle.cov_base.specs.declared.position.InstId.{InstId}
use Rattle.cov_base.specs.Graph.{Edges}
use Rattle.cov_base.specs.Lists.{Everywhere}
use Rattle.cov_base.specs.Path.{Step}
use Rattle.ada_meaning.specs.Types as ada
use Rattle.ada_meaning.specs.Arithmetic.{base_range, is_within, exact, is_true, natural}
use Rattle.kernel_ir.specs.declared.code.Edge.{Edge}
use Rattle.kernel_ir.specs.declared.code.Edge.TheVariants as edge
use Rattle.kernel_ir.specs.declared.kernel.Body.{Body}
use Rattle.kernel_ir.specs.declared.kernel.Kernel.{Kernel}
use Rattle.kernel_ir.specs.declared.kernel.Layout.{Layout}
use Rattle.kernel_ir.specs.declared.simple.Simple.{Simple}
use Rattle.kernel_ir.specs.declared.simple.Simple.TheVariants as simple_op
use Rattle.kernel_ir.specs.Tree.{Op, simple, choose, forever, for_loop, exit, returns, catch, decide, call, Code, no_op, and_op, Nodes, no_node, and_node}
use Rattle.kernel_ir.specs.World.{World, Ended, Ends, Exits, Returns, Raises, Cut, goes_on, area_end, paid, slot_in, with_slot}
use Rattle.kernel_ir.specs.Simple.{sets_word, takes, does_simple, operator_of}
use Rattle.kernel_ir.specs.Meaning.{Calls, after_turn, turns, caught, taken, follows, called, does_op, does_code, walks, back, executed, calls_in, nested_calls, begin, exec}
use Rattle.kernel_ir.specs.Limits.{most_arguments, SimpleFits, OpFits, CodeFits, NodesFit, IsWellFormed}
use Rattle.kernel_ir.specs.Laws.{RaisesOneOf}

module _ (x : ℕ) (four : 4 ≤ x) where
  if_valid_raises : (valid : Bool) (v w : World) → RaisesOneOf x (if valid then Ends v else Raises 1 w)
  if_valid_raises true v w = tt
  if_valid_raises false v w = (omega arith, omega (arith, four))

  if_inside_raises : (inside : Bool) (v w : World) → RaisesOneOf x (if inside then Ends v else Raises 2 w)
  if_inside_raises true v w = tt
  if_inside_raises false v w = (omega arith, omega (arith, four))

  number_between : (n : ℤ) (b : Bool) → (int_le (pos 1) n && int_le n (pos x)) ≡ b → (1 ≤ (if b then natural n else 2)) × ((if b then natural n else 2) ≤ x)
  number_between n false h = (omega arith, omega (arith, four))
  number_between (pos n) true h = grind (arith, ints, nat_tests)
  number_between (negsuc n) true h = grind (arith, ints, nat_tests)

  operates_raises : (layouts : List Layout) (fp : ℕ) (divisor : Bool) (o : ada.Operator) (k : ℕ) (i j : ℤ) (w : World)
      → RaisesOneOf x (if divisor then Raises 1 (paid 1 w) else sets_word layouts x fp k (exact o i j) w)
  operates_raises layouts fp true o k i j w = (omega arith, omega (arith, four))
  operates_raises layouts fp false o k i j w = if_valid_raises (is_within base_range (exact o i j)) _ _

  takes_raises : (layouts : List Layout) (fp k : ℕ) (xs : List ℤ) (w : World) → RaisesOneOf x (takes layouts x fp k xs w)
  takes_raises layouts fp k [] w = (omega arith, four)
  takes_raises layouts fp k (y ∷ ys) w = tt

module _ (p : Kernel) (four : 4 ≤ p.exceptions) (slots fp : ℕ) where
  simple_raises : (s : Simple) → SimpleFits p slots s → (w : World) → RaisesOneOf p.exceptions (does_simple p.layouts p.exceptions fp s w)
  simple_raises (simple_op.Negate k j) h w = if_valid_raises p.exceptions four _ _ _
  simple_raises (simple_op.Absolute k j) h w = if_valid_raises p.exceptions four _ _ _
  simple_raises (simple_op.Arithmetic o k i j) h w = operates_raises p.exceptions four p.layouts fp _ (operator_of o) k (slot_in fp i w) (slot_in fp j w) w
  simple_raises (simple_op.Within k low high) h w = if_valid_raises p.exceptions four _ _ _
  simple_raises (simple_op.Index k j low high n) h w = if_valid_raises p.exceptions four _ _ _
  simple_raises (simple_op.Load k j) h w = if_inside_raises p.exceptions four _ _ _
  simple_raises (simple_op.Store j k) h w = if_inside_raises p.exceptions four _ _ _
  simple_raises (simple_op.Copy k j n) h w = if_inside_raises p.exceptions four _ _ _
  simple_raises (simple_op.Fill k l) h w = if_inside_raises p.exceptions four _ _ _
  simple_raises (simple_op.Get k) h w = takes_raises p.exceptions four p.layouts fp k w.input w
  simple_raises (simple_op.Raise e) h w = h
  simple_raises (simple_op.RaiseSlot k) h w = number_between p.exceptions four (slot_in fp k w) _ refl
  simple_raises (simple_op.Number k n) h w = tt
  simple_raises (simple_op.Move k j) h w = tt
  simple_raises (simple_op.Compare r k i j) h w = tt
  simple_raises (simple_op.Complement k j) h w = tt
  simple_raises (simple_op.Offset k i j) h w = tt
  simple_raises (simple_op.Advance k j n) h w = tt
  simple_raises (simple_op.FrameAddress k j) h w = tt
  simple_raises (simple_op.LibraryAddress k n) h w = tt
  simple_raises (simple_op.ReadLibrary k n) h w = tt
  simple_raises (simple_op.WriteLibrary n k) h w = tt
  simple_raises (simple_op.Start s i) h w = tt
  simple_raises (simple_op.Put k) h w = tt

goes_on_raises : (x : ℕ) (r : Ended) (f : World → Ended) → RaisesOneOf x r → ((w : World) → RaisesOneOf x (f w)) → RaisesOneOf x (goes_on r f)
goes_on_raises x (Ends w) f h g = g w
goes_on_raises x (Exits w) f h g = tt
goes_on_raises x (Returns w) f h g = tt
goes_on_raises x (Raises e w) f h g = h
goes_on_raises x (Cut w) f h g = tt

after_turn_raises : (x : ℕ) (r : Ended) (f : World → Ended) → RaisesOneOf x r → ((w : World) → RaisesOneOf x (f w)) → RaisesOneOf x (after_turn r f)
after_turn_raises x (Ends w) f h g = g w
after_turn_raises x (Exits w) f h g = tt
after_turn_raises x (Returns w) f h g = tt
after_turn_raises x (Raises e w) f h g = h
after_turn_raises x (Cut w) f h g = tt

turns_raise : (x n : ℕ) (f : World → Ended) → ((w : World) → RaisesOneOf x (f w)) → (w : World) → RaisesOneOf x (turns n f w)
turns_raise x zero f g w = tt
turns_raise x (suc n) f g w = after_turn_raises x (f (paid 1 w)) (turns n f) (g (paid 1 w)) (turns_raise x n f g)

caught_raises : (x : ℕ) (r : Ended) (f : ℕ → World → Ended) → ((e : ℕ) (w : World) → RaisesOneOf x (f e w)) → RaisesOneOf x (caught r f)
caught_raises x (Ends w) f g = tt
caught_raises x (Exits w) f g = tt
caught_raises x (Returns w) f g = tt
caught_raises x (Raises e w) f g = g e w
caught_raises x (Cut w) f g = tt

chosen_raises : (x : ℕ) (b : Bool) (r s : Ended) → RaisesOneOf x r → RaisesOneOf x s → RaisesOneOf x (if b then r else s)
chosen_raises x true r s h g = h
chosen_raises x false r s h g = g

follows_raises : (x : ℕ) (e : Edge) (f : Bool → Ended) (g : ℕ → Ended) → ((b : Bool) → RaisesOneOf x (f b)) → ((n : ℕ) → RaisesOneOf x (g n)) → RaisesOneOf x (follows e f g)
follows_raises x (edge.Leaf b) f g h i = h b
follows_raises x (edge.NodeAfter n) f g h i = i n

back_raises : (x : ℕ) (r : Ended) → RaisesOneOf x r → RaisesOneOf x (back r)
back_raises x (Ends w) h = tt
back_raises x (Exits w) h = tt
back_raises x (Returns w) h = tt
back_raises x (Raises e w) h = h
back_raises x (Cut w) h = tt

-- each call raises one of the exceptions
abbrev CallsRaise : ℕ → Calls → Type 0
CallsRaise x calls = (f fp left : ℕ) (w : World) → RaisesOneOf x (calls f fp left w)

called_raises : (x : ℕ) (calls : Calls) → 4 ≤ x → CallsRaise x calls → (width fp left f : ℕ) (w : World) → RaisesOneOf x (called calls width fp left f w)
called_raises x calls four h width fp zero f w = (omega arith, omega (arith, four))
called_raises x calls four h width fp (suc left) f w = h f _ left (paid 1 w)

module _ (p : Kernel) (graph : DecId → List Edges) (four : 4 ≤ p.exceptions) (calls : Calls) (good : CallsRaise p.exceptions calls) (fuel width fp left slots : ℕ) where
  mutual
    op_raises : (o : Op) → OpFits p slots graph o → (w : World) → RaisesOneOf p.exceptions (does_op p calls fuel width fp left o w)
    op_raises (simple s) h w = simple_raises p four slots fp s h w
    op_raises (choose k a b) h w = chosen_raises p.exceptions (is_true (slot_in fp k w)) _ _ (code_raises a h.1 (paid 1 w)) (code_raises b h.2 (paid 1 w))
    op_raises (forever a) h w = turns_raise p.exceptions fuel _ (code_raises a h) w
    op_raises (for_loop a) h w = turns_raise p.exceptions (fuel + 2 ^ 32) _ (code_raises a h) w
    op_raises exit h w = tt
    op_raises returns h w = tt
    op_raises (catch a k b) h w = caught_raises p.exceptions _ _ (λ e v. code_raises b h.2 (with_slot fp k (pos e) v))
    op_raises (decide d i k ns) h w = walks_raise d i k ns zero zero [] h.5 w
    op_raises (call f) h w = called_raises p.exceptions calls four good width fp left f w

    code_raises : (a : Code) → CodeFits p slots graph a → (w : World) → RaisesOneOf p.exceptions (does_code p calls fuel width fp left a w)
    code_raises no_op h w = tt
    code_raises (and_op o a) h w = goes_on_raises p.exceptions (does_op p calls fuel width fp left o w) _ (op_raises o h.0 w) (code_raises a h.1)

    walks_raise : (d : DecId) (i : InstId) (k : ℕ) (ns : Nodes) (n skipped : ℕ) (steps : List Step) → NodesFit p slots graph ns → (w : World)
        → RaisesOneOf p.exceptions (walks p calls fuel width fp left d i k ns n skipped steps w)
    walks_raise d i k no_node n skipped steps h w = tt
    walks_raise d i k (and_node a j t f ns) n (suc skipped) steps h w = walks_raise d i k ns (suc n) skipped steps h.4 w
    walks_raise d i k (and_node a j t f ns) n zero steps h w = goes_on_raises p.exceptions (does_code p calls fuel width fp left a (paid 1 w)) _
        (code_raises a h.0 (paid 1 w))
        (λ v. follows_raises p.exceptions (taken (is_true (slot_in fp j v)) t f) _ _ (λ b. tt)
        (λ others. walks_raise d i k ns (suc n) others (record { at_node = n; value = is_true (slot_in fp j v) } ∷ steps) h.4 v))

module _ (graph : DecId → List Edges) (p : Kernel) (well : IsWellFormed graph p) where
  executed_raises : (calls : Calls) → CallsRaise p.exceptions calls → (fuel : ℕ) (bs : List Body) (f fp left : ℕ) (w : World)
      → Everywhere (λ b. CodeFits p (b.width + most_arguments) graph b.code) bs
      → RaisesOneOf p.exceptions (executed p calls fuel (slice_get bs f) fp left w)
  executed_raises calls good fuel [] f fp left w h = tt
  executed_raises calls good fuel (b ∷ bs) zero fp left w h =
      back_raises p.exceptions _ (code_raises p graph well.predefined calls good fuel b.width fp left (b.width + most_arguments) b.code h.0 (paid 1 w))
  executed_raises calls good fuel (b ∷ bs) (suc f) fp left w h = executed_raises calls good fuel bs f fp left w h.1

  pub calls_raise : (fuel : ℕ) → CallsRaise p.exceptions (calls_in p fuel)
  calls_raise zero f fp left w = tt
  calls_raise (suc fuel) f fp left w = executed_raises (calls_in p fuel) (calls_raise fuel) (suc fuel) p.bodies f fp left w well.bodies

  pub exec_raises : (fuel : ℕ) (input : List ℤ) → RaisesOneOf p.exceptions (exec p fuel input)
  exec_raises fuel input = calls_raise fuel p.main area_end nested_calls (begin p input)
