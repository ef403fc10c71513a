use Rattle.ada_meaning.specs.Tree as tree
use Rattle.ada_tree.specs.View.{scalar_range_of, composite_by}
use Rattle.obligations.proofs.Chains.{value_held}
use Rattle.obligations.proofs.nested.add_in_value.Goals as goal

pub returns-in-OthersScalar : goal.returns-in-OthersScalar
returns-in-OthersScalar c =
    let o = c.in-OthersScalar in
    rw (o.is, value_held c.args.statement o.field-0 (tree.scalar_value (scalar_range_of o.field-1) o.expr))
    c.add_in_expression-in-OthersScalar.ensures

pub returns-in-OthersComposite : goal.returns-in-OthersComposite
returns-in-OthersComposite c =
    let o = c.in-OthersComposite in
    rw (o.is, value_held c.args.statement o.field-0 (composite_by o.field-1 o.field-2 o.field-3 o.parts.items))
    (rw c.deref-in-OthersComposite.ensures.value at c.add_in_parts-in-OthersComposite.ensures)
