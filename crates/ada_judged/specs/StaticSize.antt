-- A static expression is larger than its parts.
use Rattle.std.specs.Prelude.{◌+◌, ◌≤◌, max, List, [], ◌∷◌, IsTrue}
use Rattle.std.proofs.Common.{arith}
use Rattle.std.proofs.lemmas.Bool.{false≢true}
use denote.Param.Weighed.{most}
use Rattle.ada_meaning.specs.Types.{Static}
use Rattle.ada_judged.specs.declared.static_tree.StaticTree.TheInside.{Inside}
use Rattle.ada_judged.specs.declared.static_tree.StaticTree.TheDeep.{deep-StaticTree, deep-StaticKind, deep-StaticOperand}
use Rattle.ada_judged.specs.declared.static_tree.StaticKind.{StaticKind}
use Rattle.ada_judged.specs.declared.static_tree.StaticKind.TheVariants as kind
use Rattle.ada_judged.specs.declared.static_tree.StaticOperand.{StaticOperand}
use Rattle.ada_judged.specs.StaticView.{with_operand, with_operands, is_filled, has_operators, static_at, static_of_tree, static_size}

operands_below : (a : Static) (os : List StaticOperand)
    → (static_size a ≤ static_size (with_operands a os)) × (most deep-StaticOperand os ≤ static_size (with_operands a os))
operands_below a [] = (omega arith, omega arith)
operands_below a (o ∷ os) = let h = operands_below (with_operand a o) os in (omega (arith, h.0), omega (arith, h.0, h.1))

operations_below : (a : Static) (os : List StaticOperand) → IsTrue (is_filled os)
    → max (static_size a + 1) (most deep-StaticOperand os) ≤ static_size (with_operands a os)
operations_below a [] h = absurd (false≢true h)
operations_below a (o ∷ os) h = omega (arith, (operands_below a (o ∷ os)).1, (operands_below (with_operand a o) os).0)

pub tree_is_larger : (t : Inside) → IsTrue (has_operators t.kind) → deep-StaticTree t ≤ static_size (static_of_tree t)
tree_is_larger t f = omega (arith, of_kind t.kind f)
  where
    of_kind : (k : StaticKind) → IsTrue (has_operators k) → deep-StaticKind k ≤ static_size (static_at k)
    of_kind (kind.Value e) h = omega arith
    of_kind (kind.Constant c) h = omega arith
    of_kind (kind.Signed s a) h = omega arith
    of_kind (kind.Operations a os) h = omega (arith, operations_below a.value os.items h)
