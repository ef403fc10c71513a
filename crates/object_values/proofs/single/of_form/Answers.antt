use Rattle.std.proofs.Common.{◌∙◌}
use Rattle.ada_judged.specs.JudgedView.{form_of, variable_in}
use Rattle.object_values.proofs.ValueLaws.{scalar_form, composite_form}
use Rattle.object_values.proofs.single.of_form.Goals as goal

pub returns-in-Scalar : goal.returns-in-Scalar
returns-in-Scalar c k there =
    rw c.into_expr.ensures (scalar_form k c.args.subtype c.in-Scalar.field-0 (form_of c.args.form) (variable_in k c.args.form) c.in-Scalar.is)

pub returns-in-Composite : goal.returns-in-Composite
returns-in-Composite c k there =
    c.composite.ensures k c.args.subtype c.in-Composite.is there
    ∙ composite_form k c.args.subtype c.in-Composite.of (form_of c.args.form) (variable_in k c.args.form) c.in-Composite.is
