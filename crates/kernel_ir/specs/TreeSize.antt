-- Code is larger than its parts.
use Rattle.std.specs.Prelude.{◌+◌, ◌≤◌, List, [], ◌∷◌}
use Rattle.std.proofs.Common.{arith}
use denote.Param.Weighed.{most}
use Rattle.kernel_ir.specs.Tree.{op_size, code_size, nodes_size}
use Rattle.kernel_ir.specs.TreeView.{nodes_of, op_of, ops_of, code_of}
use Rattle.kernel_ir.specs.declared.code.Code.TheInside.{Inside}
use Rattle.kernel_ir.specs.declared.code.Code.TheDeep.{deep-Code, deep-Op, deep-Node}
use Rattle.kernel_ir.specs.declared.code.Node.{Node}
use Rattle.kernel_ir.specs.declared.code.Op.{Op as DeclaredOp}
use Rattle.kernel_ir.specs.declared.code.Op.TheVariants as kind

nodes_below : (ns : List Node) → most deep-Node ns ≤ nodes_size (nodes_of ns) + 1
nodes_below [] = omega arith
nodes_below (n ∷ ns) = omega (arith, nodes_below ns)

op_below : (o : DeclaredOp) → deep-Op o ≤ op_size (op_of o)
op_below (kind.Simple s) = omega arith
op_below (kind.Choose k a b) = omega arith
op_below (kind.Forever a) = omega arith
op_below (kind.ForLoop a) = omega arith
op_below kind.Exit = omega arith
op_below kind.Returns = omega arith
op_below (kind.Catch a k b) = omega arith
op_below (kind.Decide d i k ns) = omega (arith, nodes_below ns.items)
op_below (kind.Call f) = omega arith

ops_below : (os : List DeclaredOp) → most deep-Op os + 1 ≤ code_size (ops_of os)
ops_below [] = omega arith
ops_below (o ∷ os) = omega (arith, ops_below os, op_below o)

pub code_is_larger : (c : Inside) → deep-Code c ≤ code_size (code_of c)
code_is_larger c = omega (arith, ops_below c.ops.items)
