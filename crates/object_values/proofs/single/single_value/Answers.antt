use Rattle.std.proofs.Common.{◌≡◌, sym, ◌∙◌}
use Rattle.ada_entities.specs.Views.{subtype_of}
use Rattle.ada_judged.specs.Views.{kind_of}
use Rattle.ada_judged.specs.JudgedView.{form_of, variable_in}
use Rattle.object_values.proofs.ValueLaws.{fit}
use Rattle.object_values.proofs.single.single_value.Goals as goal

pub returns : goal.returns
returns c k there =
    c.of_form.ensures k there
    ∙ fit (subtype_of k.types c.args.subtype) (kind_of k.types c.args.kind) (form_of c.args.form) (variable_in k c.args.form)
    (sym (c.if-not-fits.ensures k.types))
