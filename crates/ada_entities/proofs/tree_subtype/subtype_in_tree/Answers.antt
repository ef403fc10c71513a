use Rattle.std.proofs.Common.{◌≡◌, ap, subst}
use Rattle.ada_tree.specs.declared.types.Subtype.TheVariants as tree_subtype
use Rattle.ada_entities.specs.Trees.{named_by, named_in_tree, IsInTree}
use Rattle.ada_entities.proofs.TreeUnfolding.{named}
use Rattle.ada_entities.proofs.tree_subtype.subtype_in_tree.Goals as goal

pub returns-in-Composite-clause-is : goal.returns-in-Composite-clause-is
returns-in-Composite-clause-is c =
    let composite = c.in-Composite.composite in
    let same : named_in_tree c.args.subtype ≡ tree_subtype.Composite composite.seen composite.number =
    ap (λ t. named_by t c.args.subtype.range) c.in-Composite.is in
    subst (IsInTree c.args.subtype) same (named c.args.subtype)

pub returns-in-Scalar-clause-is : goal.returns-in-Scalar-clause-is
returns-in-Scalar-clause-is c =
    let same : named_in_tree c.args.subtype ≡ tree_subtype.Scalar c.args.subtype.range =
    ap (λ t. named_by t c.args.subtype.range) c.in-Scalar.is in
    subst (IsInTree c.args.subtype) same (named c.args.subtype)
