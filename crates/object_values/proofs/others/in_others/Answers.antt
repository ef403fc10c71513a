use Rattle.std.proofs.Common.{sym, ◌∙◌}
use Rattle.object_values.specs.declared.single.Single.TheVariants as single
use Rattle.object_values.specs.Values.{single_of, single_in, in_indices}
use Rattle.object_values.proofs.ValueLaws.{unfolded_by}
use Rattle.object_values.proofs.others.in_others.Goals as goal
use Rattle.ada_entities.specs.Trees.{shapes_in_tree}

pub returns-in-Some-Scalar : goal.returns-in-Some-Scalar
returns-in-Some-Scalar c k =
    let i = c.in-Some-Scalar in
    unfolded_by (shapes_in_tree k) i.indices (single_of (single.Scalar i.range i.expr))
    ∙ (λ z. in_indices (sym i.is-0 z) (single_in k (sym i.is-1 z)))

pub returns-in-Some-Composite : goal.returns-in-Some-Composite
returns-in-Some-Composite c k =
    let i = c.in-Some-Composite in
    unfolded_by (shapes_in_tree k) i.indices (single_of (single.Composite i.owner i.number i.object i.parts))
    ∙ (λ z. in_indices (sym i.is-0 z) (single_in k (sym i.is-1 z)))
