-- A part of code is no larger than the code.
use Rattle.std.proofs.Common.{ℕ, zero, suc, ◌+◌, ◌<◌, ◌≤◌, List, [], ◌∷◌, length, get_or, arith}
use Rattle.kernel_ir.specs.Tree.{op_size, code_size, nodes_size}
use Rattle.kernel_ir.specs.TreeView.{nodes_of, op_of, ops_of}
use Rattle.kernel_ir.specs.declared.code.Node.{Node}
use Rattle.kernel_ir.specs.declared.code.Op.{Op as DeclaredOp}

pub op_within : (os : List DeclaredOp) (i : ℕ) (d : DeclaredOp) → i < length os → op_size (op_of (get_or os i d)) + 1 ≤ code_size (ops_of os)
op_within [] i d h = absurd (omega arith)
op_within (o ∷ os) zero d h = omega (arith, ops_positive os)
  where
    ops_positive : (os : List DeclaredOp) → 1 ≤ code_size (ops_of os)
    ops_positive [] = omega arith
    ops_positive (o ∷ os) = omega (arith, ops_positive os)
op_within (o ∷ os) (suc i) d h = omega (arith, op_within os i d (omega arith))

pub node_within : (ns : List Node) (i : ℕ) (d : Node) → i < length ns → code_size (get_or ns i d).operand ≤ nodes_size (nodes_of ns)
node_within [] i d h = absurd (omega arith)
node_within (n ∷ ns) zero d h = omega arith
node_within (n ∷ ns) (suc i) d h = omega (arith, node_within ns i d (omega arith))
