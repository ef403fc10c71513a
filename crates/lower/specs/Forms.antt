-- Nodes before others, and how the edges of a short-circuit control form lead: from its first operand, and from each one right of it, in order.
use Rattle.std.specs.Prelude.{ℕ, ◌+◌, Bool, true, false, not, List, [], ◌∷◌}
use Rattle.ada_meaning.specs.Tree as tree
use Rattle.kernel_ir.specs.declared.code.Edge.{Edge}
use Rattle.kernel_ir.specs.declared.code.Edge.TheVariants as edge
use Rattle.kernel_ir.specs.declared.code.Node.{Node}
use Rattle.kernel_ir.specs.Tree.{Nodes, and_node}
use Rattle.statement_code.specs.Values.{past}

-- nodes before others
abbrev pub with_nodes : List Node → Nodes → Nodes
with_nodes [] rest = rest
with_nodes (n ∷ ns) rest = and_node n.operand n.slot n.on_true n.on_false (with_nodes ns rest)

-- how many conditions tests have
abbrev pub conditions_in : List tree.Test → ℕ
conditions_in [] = 0
conditions_in (t ∷ ts) = tree.conditions_of t + conditions_in ts

-- Where an edge of an operand leads that has these right of it, of an edge of the whole form: that of the neutral value to the next
-- operand, the other one past all of them.
abbrev pub edge_before : (is_neutral : Bool) → List tree.Test → Edge → Edge
edge_before is_neutral [] e = e
edge_before true (t ∷ ts) e = edge.NodeAfter 0
edge_before false (t ∷ ts) e = past (conditions_in (t ∷ ts)) e

abbrev pub true_before : (neutral : Bool) → List tree.Test → Edge → Edge
true_before neutral right e = edge_before neutral right e

abbrev pub false_before : (neutral : Bool) → List tree.Test → Edge → Edge
false_before neutral right e = edge_before (not neutral) right e
