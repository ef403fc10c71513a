use Rattle.std.proofs.Common.{◌≡◌, option_map, refl, sym, ap, ◌∙◌}
use Rattle.ada_rules.specs.Declarations.{value_for, value_place}
use Rattle.ada_entities.specs.Views.{subtype_of}
use Rattle.ada_judged.specs.JudgedView.{judged_of}
use Rattle.object_values.specs.Values.{value_in}
use Rattle.object_values.specs.NewValues.{Is}
use Rattle.object_values.proofs.NewValueLaws.{none_refused}
use Rattle.object_values.proofs.initial.typed_value.Goals as goal

pub returns-in_default : goal.returns-in_default
returns-in_default c known k b n =
    let is : Is k c.args.value.kind c.args.value.form (judged_of k c.args.value) = record { kind = refl; form = refl; variable = refl } in
    let none = sym (c.in_ok-found.ensures known k b (judged_of k c.args.value) is) ∙ ap (option_map (value_in k.types)) c.in_default.is in
    rw (c.refused.ensures, c.in_ok-value_place.ensures known k b) (none_refused (value_place c.args.pos (subtype_of k.types c.args.subtype) c.args.others.now) _ (value_for (subtype_of k.types c.args.subtype) c.args.others.now (judged_of k c.args.value)) none)
