-- The values of chains of operators.
use Rattle.std.specs.Prelude.{ℕ, ℤ, List, [], ◌∷◌, Option}
use Rattle.std.specs.Option.{option_and_then}
use Rattle.ada_meaning.specs.Statics.{computed}
use Rattle.ada_tree.specs.View.{operator_of}
use Rattle.ada_judged.specs.declared.static_tree.StaticOperand.{StaticOperand}
use Rattle.ada_rules.specs.Statics.{Facts, value_in}

-- an operator and what stands right of it, behind a value
abbrev pub operated_by : List Facts → ℕ → StaticOperand → ℤ → Option ℤ
operated_by instances n o x = option_and_then (computed (operator_of o.operator) x) (value_in instances n o.operand)

-- several, from the left
abbrev pub operated : List Facts → ℕ → Option ℤ → List StaticOperand → Option ℤ
operated instances n x [] = x
operated instances n x (o ∷ os) = operated instances n (option_and_then (operated_by instances n o) x) os
