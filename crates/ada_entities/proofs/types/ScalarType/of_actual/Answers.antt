use Rattle.std.proofs.Common.{Some, sym, ap, ◌∙◌}
use Rattle.ada_rules.specs.Entities.{given_type}
use Rattle.ada_rules.specs.Types as rules
use Rattle.ada_entities.specs.Views.{given_of}
use Rattle.ada_entities.proofs.types.ScalarType.of_actual.Goals as goal

pub returns-in-Integer : goal.returns-in-Integer
returns-in-Integer c =
    ap rules.integer_type c.of_actual.ensures ∙ ap (λ t. given_type (Some (given_of (Some t)))) (sym c.in-Integer.is)

pub returns-in-Enumeration : goal.returns-in-Enumeration
returns-in-Enumeration c =
    ap (λ i. rules.enumeration i c.in-Enumeration.count) c.of_actual-in-Enumeration.ensures
    ∙ ap (λ t. given_type (Some (given_of (Some t)))) (sym c.in-Enumeration.is)

pub returns-in-Formal : goal.returns-in-Formal
returns-in-Formal c = ap (λ t. given_type (Some (given_of (Some t)))) (sym c.in-Formal.is)
