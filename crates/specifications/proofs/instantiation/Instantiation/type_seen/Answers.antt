use Rattle.std.proofs.Common.{sym, ap, ◌∙◌}
use Rattle.ada_rules.specs.Entities.{type_seen}
use Rattle.ada_rules.specs.Types.{identity_of, is_integer}
use Rattle.ada_entities.specs.Views as views
use Rattle.ada_entities.specs.Views.{type_of}
use Rattle.specifications.specs.Actuals.{actuals_of}
use Rattle.specifications.proofs.ActualLaws.{composite_apart}
use Rattle.specifications.proofs.instantiation.Instantiation.type_seen.Goals as goal

pub returns-in-Scalar-clause-identity : goal.returns-in-Scalar-clause-identity
returns-in-Scalar-clause-identity c k =
    let xs = actuals_of k c.args.self.now.actuals.now in
    ap identity_of (c.scalar_seen.ensures k ∙ ap (λ t. type_seen c.args.self.now.number xs (type_of k.types t)) (sym c.in-Scalar.is))

pub returns-in-Scalar-clause-integer : goal.returns-in-Scalar-clause-integer
returns-in-Scalar-clause-integer c k =
    let xs = actuals_of k c.args.self.now.actuals.now in
    ap is_integer (c.scalar_seen.ensures k ∙ ap (λ t. type_seen c.args.self.now.number xs (type_of k.types t)) (sym c.in-Scalar.is))

pub returns-in-Composite-clause-identity : goal.returns-in-Composite-clause-identity
returns-in-Composite-clause-identity c k =
    let n = c.args.self.now.number in
    let xs = actuals_of k c.args.self.now.actuals.now in
    ap identity_of (c.seen.ensures k.types)
    ∙ composite_apart k.types c.in-Composite.composite n (views.actuals_of k.types n) xs
    ∙ ap (λ t. identity_of (type_seen n xs (type_of k.types t))) (sym c.in-Composite.is)
