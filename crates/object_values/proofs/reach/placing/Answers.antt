use Rattle.std.proofs.Common.{[], sym, ap, ◌∙◌}
use Rattle.ada_tree.specs.View.{others_of}
use Rattle.ada_rules.specs.Declarations.{value_for}
use Rattle.ada_entities.specs.Views.{subtype_of}
use Rattle.object_values.specs.Reached.{reached_value}
use Rattle.object_values.proofs.Knowing.{known_there}
use Rattle.object_values.proofs.ValueFor.{in_their_indices}
use Rattle.object_values.proofs.reach.placing.Goals as goal

pub returns-in_default : goal.returns-in_default
returns-in_default c known k b = ((λ e. c.in_ok-reach.ensures known k b e ∙ ap (reached_value k.types e) c.in_default.is), tt)

pub returns : goal.returns
returns c known k b =
    let reach = c.in-Some.reach in
    let there = known_there c.args.symbols.now known k b reach.component.of (sym c.knows.ensures ∙ c.if-not-knows.false) in (
      (λ e. c.in_ok-reach.ensures known k b e ∙ ap (reached_value k.types e) c.in-Some.is
          ∙ in_their_indices reach.indices.items c.in_ok-indices.indices (value_for (subtype_of k.types reach.component) [] e)
          (λ v. ap (λ rs. others_of rs v) (sym c.as_slice.ensures.value) ∙ c.in_ok-indices.ensures v)),
      there,
    )
