use Rattle.ada_resolved.proofs.TypeForms.{named_words, nothing_words, scalar_words, size_is_small}
use Rattle.ada_resolved.proofs.sizes.TypeSizes.size.Goals as goal

pub returns-in-Scalar-clause-words : goal.returns-in-Scalar-clause-words
returns-in-Scalar-clause-words c =
    scalar_words c.args.self.now.program.now c.args.of c.in-Scalar.field-0 c.size_in.result c.in-Scalar.is c.size_in.ensures

pub returns-then-of-number-clause-words : goal.returns-then-of-number-clause-words
returns-then-of-number-clause-words c =
    nothing_words c.args.self.now.program.now c.args.of c.in-Composite.field-0 c.in-Composite.number c.in-Composite.is c.if-of-number.true

pub returns-else-of-number-clause-words : goal.returns-else-of-number-clause-words
returns-else-of-number-clause-words c =
    named_words c.args.self.now.program.now c.args.of c.in-Composite.field-0 c.in-Composite.number c.size_in-in-Composite.result c.in-Composite.is c.if-of-number.false
    c.size_in-in-Composite.ensures

pub returns-else-of-number-clause-small : goal.returns-else-of-number-clause-small
returns-else-of-number-clause-small c = size_is_small c.args.self.now.program.now c.args.of c.size_in-in-Composite.result c.size_in-in-Composite.ensures
