-- Static expressions as plain data.
use Rattle.std.specs.Prelude.{ℕ, ◌+◌, Bool, true, false, List, [], ◌∷◌}
use Rattle.ada_meaning.specs.Types.{Static, static_sign, static_operation}
use Rattle.ada_tree.specs.View as tree
use Rattle.ada_entities.specs.EntityViews.{constant_of}
use Rattle.ada_tree.specs.View.{sign_of, operator_of}
use Rattle.ada_judged.specs.declared.static_tree.StaticTree.TheInside.{Inside}
use Rattle.ada_judged.specs.declared.static_tree.StaticKind.{StaticKind}
use Rattle.ada_judged.specs.declared.static_tree.StaticKind.TheVariants as kind
use Rattle.ada_judged.specs.declared.static_tree.StaticOperand.{StaticOperand}

abbrev pub with_operand : Static → StaticOperand → Static
with_operand e o = static_operation (operator_of o.operator) e o.operand

-- an operand and those right of it, from the left
abbrev pub with_operands : Static → List StaticOperand → Static
with_operands e [] = e
with_operands e (o ∷ os) = with_operands (with_operand e o) os

abbrev pub is_filled : {A : Type 0} → List A → Bool
is_filled [] = false
is_filled (x ∷ xs) = true

-- a chain has at least one operator
abbrev pub has_operators : StaticKind → Bool
has_operators (kind.Operations e os) = is_filled os.items
has_operators x = true

abbrev pub static_at : StaticKind → Static
static_at (kind.Value e) = tree.static_of e
static_at (kind.Constant c) = constant_of c
static_at (kind.Signed s e) = static_sign (sign_of s) e.value
static_at (kind.Operations e os) = with_operands e.value os.items

abbrev pub static_of_tree : Inside → Static
static_of_tree t = static_at t.kind

-- how large it is
abbrev pub static_size : Static → ℕ
static_size (static_sign s e) = static_size e + 1
static_size (static_operation o e f) = static_size e + static_size f + 1
static_size e = 1
