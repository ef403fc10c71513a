-- What holds of short-circuit control forms, which group to the left, and of nodes that are put.
use Rattle.std.proofs.Common.{◌≡◌, ℕ, ◌+◌, Bool, false, List, [], ◌∷◌, ◌++◌, Result, Ok, Err, IfOk, refl, sym, ap, ◌∙◌, arith}
use Rattle.ada_meaning.specs.Tree as tree
use Rattle.ada_tree.specs.View.{with_tests}
use Rattle.kernel_ir.specs.declared.code.Edge.{Edge}
use Rattle.kernel_ir.specs.declared.code.Edge.TheVariants as edge
use Rattle.kernel_ir.specs.declared.code.Node.{Node}
use Rattle.kernel_ir.specs.Sequence.{joined}
use Rattle.kernel_ir.specs.Tree.{Code, no_op, Nodes, no_node, and_node}
use Rattle.kernel_ir.specs.TreeView.{nodes_of}
use Rattle.lower.specs.Forms.{with_nodes, conditions_in, edge_before}
use Rattle.statement_code.specs.Values.{past}

-- its conditions are those of its operands
pub form_conditions : (neutral : Bool) (t : tree.Test) (us : List tree.Test) → tree.conditions_of (with_tests neutral t us) ≡ tree.conditions_of t + conditions_in us
form_conditions neutral t [] = omega arith
form_conditions neutral t (u ∷ us) = omega (arith, form_conditions neutral (tree.operator neutral t u) us)

-- past one operand, and past those right of it
pub past_twice : (c : ℕ) (us : List tree.Test) (e : Edge) → past c (edge_before false us e) ≡ past (c + conditions_in us) e
past_twice c [] e = let same : c ≡ c + 0 = omega arith in ap (λ n. past n e) same
past_twice c (u ∷ us) (edge.Leaf outcome) = refl
past_twice c (u ∷ us) (edge.NodeAfter skipped) =
    let m = conditions_in (u ∷ us) in
    let same : c + (m + skipped) ≡ c + m + skipped = omega arith in
    ap edge.NodeAfter same

-- one more node, and all of them
pub node_put : (ns : List Node) (n : Node) (rest : Nodes) → with_nodes (ns ++ n ∷ []) rest ≡ with_nodes ns (and_node n.operand n.slot n.on_true n.on_false rest)
node_put [] n rest = refl
node_put (m ∷ ns) n rest = ap (and_node m.operand m.slot m.on_true m.on_false) (node_put ns n rest)

pub all_nodes_put : (ns : List Node) → with_nodes ns no_node ≡ nodes_of ns
all_nodes_put [] = refl
all_nodes_put (n ∷ ns) = ap (and_node n.operand n.slot n.on_true n.on_false) (all_nodes_put ns)

-- a sum of counts that may not fit in memory
pub count_is : {E : Type 0} (r : Result ℕ E) (a b n : ℕ) → IfOk r (λ m. m ≡ a + b) → a + b ≡ n → IfOk r (λ m. m ≡ n)
count_is (Ok m) a b n h same = h ∙ same
count_is (Err e) a b n h same = tt

-- a node that was put, with the code of its condition
pub condition_put : (ns ms : List Node) (n : Node) (a x : Code) (rest : Nodes) → ms ≡ ns ++ n ∷ [] → n.operand ≡ joined a x → a ≡ no_op
    → with_nodes ms rest ≡ with_nodes ns (and_node x n.slot n.on_true n.on_false rest)
condition_put ns ms n a x rest put coded empty =
    ap (λ xs. with_nodes xs rest) put ∙ node_put ns n rest
    ∙ ap (λ b. with_nodes ns (and_node b n.slot n.on_true n.on_false rest)) (coded ∙ ap (λ b. joined b x) empty)

-- all nodes of a decision
pub decision_put : (ns ms : List Node) (x : Nodes) → ms ≡ [] → with_nodes ns no_node ≡ with_nodes ms x → nodes_of ns ≡ x
decision_put ns ms x empty put = sym (all_nodes_put ns) ∙ put ∙ ap (λ xs. with_nodes xs x) empty
