-- The components so far are named.
use Rattle.std.proofs.Common.{◌≡◌, map, take}
use Rattle.ada_entities.specs.declared.composite.Component.{Component}
use Rattle.ada_entities.specs.Trees.{named_in_tree}
use Rattle.ada_entities.proofs.tree_subtype.components_in_tree.Given as goal

abbrev pub invariant-loop-component : goal.invariant-loop-component
invariant-loop-component l =
    l.subtypes.items ≡ map (λ (c : Component). named_in_tree c.subtype) (take l.component-index l.components)
