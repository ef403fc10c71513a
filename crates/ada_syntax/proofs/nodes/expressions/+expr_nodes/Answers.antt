use Rattle.std.proofs.Common.{ap, arith, sum_by}
use Rattle.std.proofs.lemmas.List.{at_drop_all}
use Rattle.std.proofs.lemmas.List.Sums.{get_or-le-sum_by}
use Rattle.std.proofs.lemmas.Grind.{common_steps}
use Rattle.ada_syntax.specs.Nodes as count
use Rattle.ada_syntax.specs.Tree.{expr_size, name_size, simple}
use Rattle.ada_syntax.specs.TreeView.{expr_at}
use Rattle.ada_syntax.proofs.SizeLaws.{expr_size_positive, operand_size, suffix_size, expr_size-with_operands, expr_size-joined, name_size-with_suffixes}
use Rattle.ada_syntax.proofs.NodeLaws.{nodes}
use Rattle.ada_syntax.proofs.nodes.expressions.+expr_nodes.Goals as goal

pub nodes_of_operands-nodes_of_expr-requires : goal.nodes_of_operands-nodes_of_expr-requires
nodes_of_operands-nodes_of_expr-requires t c =
    (omega (arith, c.decreases, get_or-le-sum_by operand_size c.args.operands.now c.loop-operand.operand-index c.operand-item.result (omega arith), ap operand_size c.operand-item.is), tt)

pub nodes_of_operands-returns : goal.nodes_of_operands-returns
nodes_of_operands-returns t c =
    omega (arith, at_drop_all (λ xs. sum_by count.operand_nodes xs) c.args.operands.now c.loop-operand.operand-index (omega arith))

pub nodes_of_joined-nodes_of_expr-requires : goal.nodes_of_joined-nodes_of_expr-requires
nodes_of_joined-nodes_of_expr-requires t c =
    (omega (arith, c.decreases, get_or-le-sum_by expr_size c.args.exprs.now c.loop-expr.expr-index c.expr-item.result (omega arith), ap expr_size c.expr-item.is), tt)

pub nodes_of_joined-returns : goal.nodes_of_joined-returns
nodes_of_joined-returns t c =
    omega (arith, at_drop_all (λ xs. sum_by (count.joined_nodes c.args.operator) xs) c.args.exprs.now c.loop-expr.expr-index (omega arith))

pub nodes_of_exprs-nodes_of_expr-requires : goal.nodes_of_exprs-nodes_of_expr-requires
nodes_of_exprs-nodes_of_expr-requires t c =
    (omega (arith, c.decreases, get_or-le-sum_by expr_size c.args.exprs.now c.loop-expr.expr-index c.expr-item.result (omega arith), ap expr_size c.expr-item.is), tt)

pub nodes_of_exprs-returns : goal.nodes_of_exprs-returns
nodes_of_exprs-returns t c =
    omega (arith, at_drop_all (λ xs. sum_by count.expr_nodes xs) c.args.exprs.now c.loop-expr.expr-index (omega arith))

pub nodes_of_suffixes-nodes_of_suffix-requires : goal.nodes_of_suffixes-nodes_of_suffix-requires
nodes_of_suffixes-nodes_of_suffix-requires t c =
    (omega (arith, c.decreases, get_or-le-sum_by suffix_size c.args.suffixes.now c.loop-suffix.suffix-index c.suffix-item.result (omega arith), ap suffix_size c.suffix-item.is), tt)

pub nodes_of_suffixes-returns : goal.nodes_of_suffixes-returns
nodes_of_suffixes-returns t c =
    omega (arith, at_drop_all (λ xs. sum_by count.suffix_nodes xs) c.args.suffixes.now c.loop-suffix.suffix-index (omega arith))

pub nodes_of_expr-nodes_of_operands-requires : goal.nodes_of_expr-nodes_of_operands-requires
nodes_of_expr-nodes_of_operands-requires t c =
    let p = c.expr.inside.pos in
    let a = c.in-Product.first.value in
    let same = ap (λ k. expr_size (expr_at p k)) c.in-Product.is in
    (omega (arith, c.decreases, expr_size_positive a, expr_size-with_operands p a c.in-Product.others.items, same, ap expr_size c.expr.view_is, ap (λ xs. sum_by operand_size xs) c.deref-in-Product-2.ensures.value), tt)

pub nodes_of_expr-nodes_of_operands-requires-in-Sum : goal.nodes_of_expr-nodes_of_operands-requires-in-Sum
nodes_of_expr-nodes_of_operands-requires-in-Sum t c =
    let p = c.expr.inside.pos in
    let a = c.in-Sum.first.value in
    let same = ap (λ k. expr_size (expr_at p k)) c.in-Sum.is in
    (omega (arith, c.decreases, expr_size_positive a, expr_size-with_operands p a c.in-Sum.others.items, same, ap expr_size c.expr.view_is, ap (λ xs. sum_by operand_size xs) c.deref-in-Sum-2.ensures.value), tt)

pub nodes_of_expr-nodes_of_joined-requires : goal.nodes_of_expr-nodes_of_joined-requires
nodes_of_expr-nodes_of_joined-requires t c =
    let p = c.expr.inside.pos in
    let a = c.in-Logical.first.value in
    let same = ap (λ k. expr_size (expr_at p k)) c.in-Logical.is in
    (omega (arith, c.decreases, expr_size_positive a, expr_size-joined p c.in-Logical.operator a c.in-Logical.others.items, same, ap expr_size c.expr.view_is, ap (λ xs. sum_by expr_size xs) c.deref-in-Logical-2.ensures.value), tt)

pub nodes_of_name-nodes_of_suffixes-requires : goal.nodes_of_name-nodes_of_suffixes-requires
nodes_of_name-nodes_of_suffixes-requires t c =
    (omega (arith, c.decreases, name_size-with_suffixes (simple c.name.inside.prefix) c.name.inside.suffixes.items, ap name_size c.name.view_is, ap (λ xs. sum_by suffix_size xs) c.deref.ensures.value), tt)

pub nodes_of_joined-loop-expr-preserved : goal.nodes_of_joined-loop-expr-preserved
nodes_of_joined-loop-expr-preserved t c = grind (arith, common_steps)

pub nodes_of_operands-loop-operand-preserved : goal.nodes_of_operands-loop-operand-preserved
nodes_of_operands-loop-operand-preserved t c = grind (arith, common_steps)

pub nodes_of_suffixes-loop-suffix-preserved : goal.nodes_of_suffixes-loop-suffix-preserved
nodes_of_suffixes-loop-suffix-preserved t c = grind (arith, common_steps)

pub nodes_of_exprs-loop-expr-preserved : goal.nodes_of_exprs-loop-expr-preserved
nodes_of_exprs-loop-expr-preserved t c = grind (arith, common_steps)

pub nodes_of_expr-returns-in-Logical : goal.nodes_of_expr-returns-in-Logical
nodes_of_expr-returns-in-Logical t c = grind (arith, common_steps, nodes)

pub nodes_of_expr-returns-in-Sum : goal.nodes_of_expr-returns-in-Sum
nodes_of_expr-returns-in-Sum t c = grind (arith, common_steps, nodes)

pub nodes_of_expr-returns-in-Product : goal.nodes_of_expr-returns-in-Product
nodes_of_expr-returns-in-Product t c = grind (arith, common_steps, nodes)

pub nodes_of_name-returns : goal.nodes_of_name-returns
nodes_of_name-returns t c = grind (arith, common_steps, nodes)
