use Rattle.std.proofs.Common.{[], refl}
use Rattle.ada_meaning.specs.Collected.{in_expr}
use Rattle.obligations.specs.Entries.{of_nested}
use Rattle.obligations.proofs.Lists.{then_added, same_added, nothing_added, nested_parts}
use Rattle.obligations.proofs.nested.add_in_turns.Goals as goal

pub returns-in-Subtype : goal.returns-in-Subtype
returns-in-Subtype c = rw c.in-Subtype.is (nothing_added c.args.listing.now [] refl)

pub returns-in_ok-add_in_expression-in-Bounds : goal.returns-in_ok-add_in_expression-in-Bounds
returns-in_ok-add_in_expression-in-Bounds c =
    let first = in_expr c.args.statement c.in-Bounds.first in
    let last = in_expr c.args.statement c.in-Bounds.last in
    rw c.in-Bounds.is
    (same_added c.add_in_expression-in-Bounds.result _ _ _ _ (nested_parts first last)
    (then_added c.add_in_expression-in-Bounds.result _ _ _ (of_nested first) (of_nested last) c.in_ok-add_in_expression-in-Bounds.ensures c.add_in_expression-in-Bounds.ensures))
