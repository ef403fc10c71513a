-- The tree that code of the program is seen as.
use Rattle.std.specs.Prelude.{List, [], ◌∷◌}
use Rattle.kernel_ir.specs.Tree.{Op, simple, choose, forever, for_loop, exit, returns, catch, decide, call, Code, no_op, and_op, Nodes, no_node, and_node}
use Rattle.kernel_ir.specs.declared.code.Code.TheInside.{Inside}
use Rattle.kernel_ir.specs.declared.code.Node.{Node}
use Rattle.kernel_ir.specs.declared.code.Op.{Op as DeclaredOp}
use Rattle.kernel_ir.specs.declared.code.Op.TheVariants as kind

abbrev pub nodes_of : List Node → Nodes
nodes_of [] = no_node
nodes_of (n ∷ ns) = and_node n.operand n.slot n.on_true n.on_false (nodes_of ns)

abbrev pub op_of : DeclaredOp → Op
op_of (kind.Simple s) = simple s
op_of (kind.Choose k a b) = choose k a b
op_of (kind.Forever a) = forever a
op_of (kind.ForLoop a) = for_loop a
op_of kind.Exit = exit
op_of kind.Returns = returns
op_of (kind.Catch a k b) = catch a k b
op_of (kind.Decide d i k ns) = decide d i k (nodes_of ns.items)
op_of (kind.Call f) = call f

abbrev pub ops_of : List DeclaredOp → Code
ops_of [] = no_op
ops_of (o ∷ os) = and_op (op_of o) (ops_of os)

abbrev pub code_of : Inside → Code
code_of c = ops_of c.ops.items
