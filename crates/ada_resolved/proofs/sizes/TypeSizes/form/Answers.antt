use Rattle.std.proofs.Common.{ap, slice_get, sym, ◌∙◌}
use Rattle.ada_tree.specs.Programs.{types_of}
use Rattle.ada_resolved.specs.Forms.{shape_of}
use Rattle.ada_resolved.proofs.TypeForms.{named_before, named_behind, naming, numbered_shape}
use Rattle.ada_resolved.proofs.sizes.TypeSizes.form.Goals as goal

pub returns-in-Scalar-clause-shape : goal.returns-in-Scalar-clause-shape
returns-in-Scalar-clause-shape c = c.scalar_form.ensures.shape c.args.of.below ∙ ap (λ s. shape_of c.args.self.now.program.now (naming c.args.self.now.program.now c.args.of s)) (sym c.in-Scalar.is)

pub returns-then-of-number-clause-shape : goal.returns-then-of-number-clause-shape
returns-then-of-number-clause-shape c =
    c.nothing.ensures.shape
    ∙ named_behind c.args.self.now.program.now c.args.of.instance c.args.of.below c.in-Composite.owner c.in-Composite.number c.if-of-number.true
    ∙ ap (λ s. shape_of c.args.self.now.program.now (naming c.args.self.now.program.now c.args.of s)) (sym c.in-Composite.is)

pub returns-else-of-number-clause-shape : goal.returns-else-of-number-clause-shape
returns-else-of-number-clause-shape c =
    c.numbered_form.ensures.shape
    ∙ ap (λ i. numbered_shape c.args.self.now.program.now i c.in-Composite.number (slice_get (types_of c.args.self.now.program.now.types) c.in-Composite.number)) c.owner_in.ensures
    ∙ named_before c.args.self.now.program.now c.args.of.instance c.args.of.below c.in-Composite.owner c.in-Composite.number c.if-of-number.false
    ∙ ap (λ s. shape_of c.args.self.now.program.now (naming c.args.self.now.program.now c.args.of s)) (sym c.in-Composite.is)
