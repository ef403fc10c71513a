use Rattle.std.proofs.Common.{ap, sym, ◌∙◌, arith}
use Rattle.ada_judged.specs.declared.static_tree.StaticOperand.{StaticOperand}
use Rattle.ada_judged.specs.StaticView.{static_at, static_size}
use Rattle.ada_rules.specs.Statics.{value_in}
use Rattle.ada_demands.specs.TreeValues.{operated}
use Rattle.ada_demands.proofs.TreeLaws.{operands_size, chain_size, operand_within, static_positive, chain_value, chain_step}
use Rattle.ada_demands.proofs.facts.Instances.+trees.Goals as goal

pub tree-chain-requires : goal.tree-chain-requires
tree-chain-requires t c =
    let first = c.in-Operations.first.value in
    let others = c.in-Operations.others.items in
    let is = ap static_size (sym c.tree.view_is ∙ ap static_at c.in-Operations.is) in
    (omega (arith, c.decreases, is, chain_size first others, static_positive first, ap operands_size c.as_slice.ensures.value), tt)

pub chain-tree-operand-requires : goal.chain-tree-operand-requires
chain-tree-operand-requires t c = (
  omega (
    arith,
    c.decreases,
    operand_within c.args.others.now c.loop-other.other-index c.other-item.result (omega arith),
    ap (λ (x : StaticOperand). static_size x.operand) c.other-item.is,
  ),
  tt,
)

pub chain-loop-other-preserved : goal.chain-loop-other-preserved
chain-loop-other-preserved t c =
    chain_step c.args.self.now c.args.instance c.args.others.now c.loop-other.other-index c.other-item.result c.loop-other.value c.tree-operand.result
    c.operation-value.result (omega arith) c.other-item.is c.tree-operand.ensures c.operation-value.ensures
    ∙ c.loop-other.invariant

pub tree-returns-in-Operations : goal.tree-returns-in-Operations
tree-returns-in-Operations t c =
    let instances = c.args.self.now in
    let n = c.args.instance in
    let first = c.in-Operations.first.value in
    let others = c.in-Operations.others.items in
    c.chain.ensures
    ∙ (ap (λ x. operated instances n x c.as_slice.result.now) (c.tree-in-Operations.ensures ∙ ap (value_in instances n) c.deref-in-Operations.ensures)
    ∙ (ap (λ os. operated instances n (value_in instances n first) os) c.as_slice.ensures.value
    ∙ (sym (chain_value instances n first others)
    ∙ (ap (λ k. value_in instances n (static_at k)) (sym c.in-Operations.is) ∙ ap (value_in instances n) c.tree.view_is))))
