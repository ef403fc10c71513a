-- Worked examples: small kernels, and what is observed of their executions.
use Rattle.std.specs.Prelude.{◌≡◌, ℕ, ◌+◌, ℤ, pos, negsuc, true, false, List, [], ◌∷◌, Some, None, option_map}
use Rattle.cov_base.specs.declared.event.Event.{Event}
use Rattle.cov_base.specs.declared.event.Event.TheVariants.{Start, Done}
use Rattle.ada_meaning.specs.Execution.{Ending, by_return, by_exception, Execution}
use Rattle.kernel_ir.specs.declared.kernel.Layout.TheVariants as layout
use Rattle.kernel_ir.specs.declared.simple.Simple.{Simple}
use Rattle.kernel_ir.specs.declared.simple.Simple.TheVariants.{Number, Move, Compare, Complement, Negate, Absolute, Arithmetic, Within, Index, Offset, Advance, FrameAddress, LibraryAddress, Load, Store, ReadLibrary, WriteLibrary, Copy, Fill, Start as StartOf, Get, Put, Raise, RaiseSlot}
use Rattle.kernel_ir.specs.declared.simple.Operator.TheVariants.{Add, Divide, Modulo, Remainder}
use Rattle.kernel_ir.specs.declared.simple.Relation.TheVariants.{Equal, Less}
use Rattle.kernel_ir.specs.declared.code.Edge.TheVariants.{Leaf, NodeAfter}
use Rattle.kernel_ir.specs.declared.kernel.Kernel.{Kernel}
use Rattle.kernel_ir.specs.Tree.{Op, simple, choose, forever, for_loop, exit, returns, catch, decide, call, Code, no_op, and_op, Nodes, no_node, and_node}
use Rattle.cov_base.specs.Expr.{condition, operator}
use Rattle.cov_base.specs.Graph.{Edges, graph}
use Rattle.cov_base.specs.declared.position.DecId.{DecId}
use Rattle.kernel_ir.specs.World.{world_in, area_end}
use Rattle.kernel_ir.specs.Limits.{IsWellFormed, IsWithin, kernel_instructions}
use Rattle.kernel_ir.specs.Obligations.{rows, conditions}
use Rattle.kernel_ir.specs.Meaning.{begin, calls_in, nested_calls, exec, ended}

infixr 5 ◌next◌ ◌then◌
-- an operation before others, and one that holds no others
abbrev pub ◌then◌ : Op → Code → Code
◌then◌ o a = and_op o a

abbrev pub ◌next◌ : Simple → Code → Code
◌next◌ s a = and_op (simple s) a

-- puts the values of these slots
abbrev pub puts : List ℕ → Code
puts [] = no_op
puts (k ∷ ks) = Put k next puts ks

-- puts a number, by slot 9
abbrev pub says : ℕ → Code → Code
says n a = Number 9 (pos n) next Put 9 next a

-- a kernel of two bodies with frames of 10 words; main is the first of them
abbrev pub pair : (main called : Code) → Kernel
pair main called = record {
  bodies = record { code = main; width = 10 } ∷ record { code = called; width = 10 } ∷ [];
  main = 0;
  layouts = layout.Word (pos 7) ∷ layout.Array 2 0 ∷ layout.Record (1 ∷ 0 ∷ []) ∷ [];
  library = 3 ∷ 4 ∷ 5 ∷ 6 ∷ [];
  exceptions = 5;
}

-- a kernel of one body
abbrev pub plain : Code → Kernel
plain main = pair main no_op

-- what is observed of an execution
pub record Observed : Type 0 where
  pub ending : Ending
  pub output : List ℤ
  pub cost : ℕ

abbrev pub observed : Execution → Observed
observed x = record { ending = x.ending; output = x.output; cost = x.cost }

-- under this fuel, the execution on this input ends so
abbrev pub Gives : Kernel → (fuel : ℕ) → (input : List ℤ) → Ending → (output : List ℤ) → (cost : ℕ) → Type 0
Gives p fuel input ending output cost =
    option_map observed (ended (exec p fuel input)) ≡ Some (record { ending = ending; output = output; cost = cost })

-- under this fuel, the execution without input shows these events
abbrev pub Tells : Kernel → (fuel : ℕ) → List Event → Type 0
Tells p fuel events = option_map (λ x. x.events) (ended (exec p fuel [])) ≡ Some events

-- under this fuel, the execution without input is cut off
abbrev pub IsCutOff : Kernel → (fuel : ℕ) → Type 0
IsCutOff p fuel = ended (exec p fuel []) ≡ None

-- numbers, moves, relations and `not`; of a number that is no truth value, too
abbrev pub Values : Type 0
Values =
    Gives (plain (Number 0 (pos 2) next Move 1 0 next Compare Equal 2 0 1 next Compare Less 3 0 1 next Complement 4 2 next Complement 5 0 next puts (1 ∷ 2 ∷ 3 ∷ 4 ∷ 5 ∷ [])))
    1 [] by_return (pos 2 ∷ pos 1 ∷ pos 0 ∷ pos 0 ∷ pos 1 ∷ []) 12

-- the operators: division truncates, `rem` has the dividend's sign, `mod` the divisor's
abbrev pub Operators : Type 0
Operators =
    Gives (plain (Number 0 (negsuc 6) next Number 1 (pos 2) next Arithmetic Divide 2 0 1 next Arithmetic Remainder 3 0 1 next Arithmetic Modulo 4 0 1
    next Negate 5 0 next Absolute 6 0 next Arithmetic Modulo 7 5 4 next puts (2 ∷ 3 ∷ 4 ∷ 5 ∷ 6 ∷ 7 ∷ [])))
    1 [] by_return (negsuc 2 ∷ negsuc 0 ∷ pos 1 ∷ pos 7 ∷ pos 7 ∷ pos 0 ∷ []) 15

-- what raises Constraint_Error: a result that is no word, a divisor of 0, a value outside a range
abbrev pub Checks : Type 0
Checks =
    Gives (plain (Number 0 (pos 2147483647) next Number 1 (pos 1) next Arithmetic Add 2 0 1 next puts (2 ∷ []))) 1 [] (by_exception 1) [] 4
    × Gives (plain (Number 0 (negsuc 2147483647) next Negate 1 0 next puts (1 ∷ []))) 1 [] (by_exception 1) [] 3
    × Gives (plain (Number 0 (negsuc 2147483647) next Number 1 (negsuc 0) next Arithmetic Divide 2 0 1 next puts (2 ∷ []))) 1 [] (by_exception 1) [] 4
    × Gives (plain (Number 0 (pos 1) next Number 1 (pos 0) next Arithmetic Remainder 2 0 1 next puts (2 ∷ []))) 1 [] (by_exception 1) [] 4
    × Gives (plain (Number 0 (pos 1) next Within 0 (pos 1) (pos 3) next says 8 (Within 0 (pos 2) (pos 3) next says 9 no_op)))
    1 [] (by_exception 1) (pos 8 ∷ []) 6

-- words by address: of the frame, of the library level, and of neither
abbrev pub Words : Type 0
Words =
    Gives (plain (FrameAddress 0 5 next LibraryAddress 1 2 next Load 2 1 next Store 0 2 next ReadLibrary 3 1 next WriteLibrary 0 3 next ReadLibrary 4 0
    next puts (5 ∷ 4 ∷ [])))
    1 [] by_return (pos 5 ∷ pos 4 ∷ []) 10
    × Gives (plain (Number 0 (negsuc 0) next Load 1 0 next puts (1 ∷ []))) 1 [] (by_exception 2) [] 3
    × Gives (plain (FrameAddress 0 0 next Advance 0 0 (pos 1) next Store 0 0 next puts (1 ∷ []))) 1 [] (by_exception 2) [] 4
    × Gives (plain (Number 0 (pos 2147483647) next Advance 1 0 (pos 1) next puts (1 ∷ []))) 1 [] by_return (negsuc 2147483647 ∷ []) 4

-- components: the third one of an array of two words each, with the indices 5 to 7, that stands in the slots 4 to 9
abbrev pub Components : Type 0
Components =
    Gives (plain (FrameAddress 0 9 next Number 1 (pos 7) next Index 2 1 (pos 5) (pos 7) 2 next Offset 3 0 2 next Store 3 1 next puts (2 ∷ 5 ∷ [])))
    1 [] by_return (pos 4 ∷ pos 7 ∷ []) 8
    × Gives (plain (Number 1 (pos 8) next Index 2 1 (pos 5) (pos 7) 2 next puts (2 ∷ []))) 1 [] (by_exception 1) [] 3

-- copies and first values, a word after another
abbrev pub Composites : Type 0
Composites =
    Gives (plain (FrameAddress 0 5 next LibraryAddress 1 1 next Copy 0 1 3 next Fill 1 2 next ReadLibrary 6 3 next ReadLibrary 7 0 next puts (5 ∷ 4 ∷ 3 ∷ 6 ∷ 7 ∷ [])))
    1 [] by_return (pos 4 ∷ pos 5 ∷ pos 6 ∷ pos 7 ∷ pos 3 ∷ []) 20

-- the input and its end
abbrev pub Input : Type 0
Input =
    Gives (plain (Get 0 next Put 0 next Get 0 next says 1 no_op)) 1 (pos 6 ∷ []) (by_exception 4) (pos 6 ∷ []) 4

-- A decision `a and then (b or else c)`, where a decides a decision of its own: its three nodes, with the values of slots 0, 1 and 2.
abbrev pub three_nodes : Nodes
three_nodes =
    and_node (says 1 no_op) 0 (NodeAfter 0) (Leaf false)
    (and_node (says 2 no_op) 1 (Leaf true) (NodeAfter 0)
    (and_node (says 3 no_op) 2 (Leaf true) (Leaf false) no_node))

abbrev pub deciding : (a b c : ℕ) → Kernel
deciding a b c =
    plain (Number 0 (pos a) next Number 1 (pos b) next Number 2 (pos c) next StartOf (record { 0 = 8 }) (record { 0 = 2 })
    next decide (record { 0 = 4 }) (record { 0 = 2 }) 3 three_nodes
    then choose 3 (says 7 no_op) (says 9 no_op)
    then no_op)

abbrev pub Decisions : Type 0
Decisions =
    Gives (deciding 1 0 1) 1 [] by_return (pos 1 ∷ pos 2 ∷ pos 3 ∷ pos 7 ∷ []) 19
    × Gives (deciding 2 0 1) 1 [] by_return (pos 1 ∷ pos 9 ∷ []) 13
    × Tells (deciding 1 0 1) 1 (Start (record { 0 = 8 }) (record { 0 = 2 }) ∷ Done (record { 0 = 4 }) (record { 0 = 2 }) (record { seen = 7; value = 5 }) ∷ [])
    × Tells (deciding 2 0 1) 1 (Start (record { 0 = 8 }) (record { 0 = 2 }) ∷ Done (record { 0 = 4 }) (record { 0 = 2 }) (record { seen = 1; value = 0 }) ∷ [])
    × Tells (deciding 1 1 0) 1 (Start (record { 0 = 8 }) (record { 0 = 2 }) ∷ Done (record { 0 = 4 }) (record { 0 = 2 }) (record { seen = 3; value = 3 }) ∷ [])

-- an evaluation that an exception leaves gives no vector
abbrev pub Abandoned : Type 0
Abandoned = Tells (plain (decide (record { 0 = 4 }) (record { 0 = 2 }) 3 (and_node (Raise 5 next no_op) 0 (Leaf true) (Leaf false) no_node) then no_op)) 1 []

-- loops: left by an exit, by a return, and not at all
abbrev pub Loops : Type 0
Loops =
    Gives (plain (Number 0 (pos 1) next for_loop (says 4 (Compare Equal 1 0 2 next choose 1 (exit then no_op) no_op then Number 2 (pos 1) next no_op)) then says 5 no_op))
    1 [] by_return (pos 4 ∷ pos 4 ∷ pos 5 ∷ []) 16
    × Gives (plain (forever (returns then no_op) then says 5 no_op)) 1 [] by_return [] 3
    × IsCutOff (plain (forever no_op then no_op)) 3

-- a handler has the exception's number in its slot, and can raise it again; what is no number is Program_Error
abbrev pub Handlers : Type 0
Handlers =
    Gives (plain (catch (Raise 5 next no_op) 2 (Put 2 next RaiseSlot 2 next no_op) then no_op)) 1 [] (by_exception 5) (pos 5 ∷ []) 5
    × Gives (plain (catch (says 1 no_op) 2 (says 2 no_op) then says 3 no_op)) 1 [] by_return (pos 1 ∷ pos 3 ∷ []) 6
    × Gives (plain (Number 0 (pos 6) next RaiseSlot 0 next no_op)) 1 [] (by_exception 2) [] 3

-- arguments are the words below the frame, and so are results; what the called body returns ends there
abbrev pub CallsOf : Type 0
CallsOf =
    Gives (pair (Number 10 (pos 5) next call 1 then puts (10 ∷ [])) (Put 0 next Advance 0 0 (pos 1) next returns then says 9 no_op))
    2 [] by_return (pos 5 ∷ pos 6 ∷ []) 8
    × IsCutOff (pair (call 1 then no_op) no_op) 1

-- A body that calls itself, as often as its argument says. Where two calls may nest, a third one raises Storage_Error, in its caller.
abbrev pub deep : ℕ → Kernel
deep n =
    pair (Number 10 (pos n) next catch (call 1 then no_op) 1 (puts (1 ∷ [])) then no_op)
    (Number 1 (pos 1) next Compare Less 2 1 0 next choose 2 (Advance 10 0 (negsuc 0) next catch (call 1 then no_op) 1 (Put 0 next RaiseSlot 1 next no_op) then no_op) no_op then no_op)

-- what is put where two calls may nest
abbrev pub put_in : ℕ → List ℤ
put_in n = (world_in (calls_in (deep n) 9 0 area_end 2 (begin (deep n) []))).seen.output

abbrev pub Depth : Type 0
Depth = (put_in 2 ≡ []) × (put_in 3 ≡ pos 3 ∷ pos 3 ∷ pos 2 ∷ []) × (nested_calls + 1 ≡ 512)

-- a decision whose second condition decides another one, inside a handler
abbrev pub nested : Kernel
nested =
    plain (StartOf (record { 0 = 1 }) (record { 0 = 0 })
    next catch no_op 0
    (StartOf (record { 0 = 2 }) (record { 0 = 0 })
    next decide (record { 0 = 0 }) (record { 0 = 0 }) 1
    (and_node no_op 0 (NodeAfter 0) (Leaf false)
    (and_node (decide (record { 0 = 1 }) (record { 0 = 0 }) 0 (and_node no_op 0 (Leaf true) (Leaf false) no_node) then no_op) 0 (Leaf true) (Leaf false) no_node))
    then no_op)
    then no_op)

-- what is marked, in the order of the code
abbrev pub Marks : Type 0
Marks =
    (rows nested ≡ record { statement = record { 0 = 1 }; instance = record { 0 = 0 } } ∷ record { statement = record { 0 = 2 }; instance = record { 0 = 0 } } ∷ [])
    × (conditions nested
    ≡ record { decision = record { 0 = 0 }; at_node = 0; instance = record { 0 = 0 } }
    ∷ record { decision = record { 0 = 1 }; at_node = 0; instance = record { 0 = 0 } }
    ∷ record { decision = record { 0 = 0 }; at_node = 1; instance = record { 0 = 0 } } ∷ [])

-- the graph of a decision with three conditions, for each decision
abbrev pub and_or : DecId → List Edges
and_or d = graph (operator true condition (operator false condition condition))

-- the nodes of the decision with three conditions are its graph, and its kernel is well-formed and within the limits
abbrev pub WithinLimits : Type 0
WithinLimits =
    IsWellFormed and_or (deciding 1 0 1)
    × IsWithin (deciding 1 0 1)
    × (kernel_instructions (deciding 1 0 1) ≡ 182)
