use Rattle.std.proofs.Common.{sym, ap, ◌∙◌, option_map}
use Rattle.ada_tree.specs.Programs.{bounds_of}
use Rattle.ada_resolved.proofs.TypeForms.{scalar_form, no_scalar_form}
use Rattle.ada_resolved.proofs.sizes.TypeSizes.scalar_form.Goals as goal

pub returns-in-Some-clause-shape : goal.returns-in-Some-clause-shape
returns-in-Some-clause-shape c = λ below.
    scalar_form c.args.self.now.program.now c.args.instance below c.args.range c.in-Some.range
    (sym c.bounds_in.ensures ∙ ap (option_map bounds_of) c.in-Some.is)

pub returns-in-None-clause-shape : goal.returns-in-None-clause-shape
returns-in-None-clause-shape c = λ below.
    c.nothing.ensures.shape
    ∙ no_scalar_form c.args.self.now.program.now c.args.instance below c.args.range (sym c.bounds_in.ensures ∙ ap (option_map bounds_of) c.in-None.is)
