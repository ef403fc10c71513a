use Rattle.std.proofs.Common.{map, sym, ap, subst, ◌∙◌}
use Rattle.ada_tree.specs.declared.types.CompositeType.TheVariants as composite
use Rattle.ada_entities.specs.declared.composite.Component.{Component}
use Rattle.ada_entities.specs.Trees.{named_in_tree, IsDefinedInTree}
use Rattle.ada_entities.proofs.TreeUnfolding.{record_defined}
use Rattle.ada_entities.proofs.tree_subtype.definition_in_tree.Goals as goal

pub returns-in_ok-components-in-Record : goal.returns-in_ok-components-in-Record
returns-in_ok-components-in-Record c =
    let ts = c.in_ok-components-in-Record.components in
    let named = c.in_ok-components-in-Record.ensures ∙ ap (map (λ (x : Component). named_in_tree x.subtype)) c.as_slice.ensures in
    subst (λ d. IsDefinedInTree d (composite.Record ts)) (sym c.in-Record.is) (record_defined _ ts named)
