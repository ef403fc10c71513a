use Rattle.std.proofs.Common.{[], refl}
use Rattle.ada_meaning.specs.Collected.{in_value}
use Rattle.ada_tree.specs.View.{label_of, value_of}
use Rattle.obligations.specs.Entries.{of_label, of_nested}
use Rattle.obligations.proofs.Lists.{then_added, same_added, nothing_added, initialized_parts}
use Rattle.obligations.proofs.statements.add_declaration.Goals as goal

pub returns-in_ok-add_statement-in-Initialized : goal.returns-in_ok-add_statement-in-Initialized
returns-in_ok-add_statement-in-Initialized c =
    let l = label_of c.in-Initialized.label in
    let v = value_of c.in-Initialized.value in
    rw c.in-Initialized.is
    (same_added c.add_in_value.result _ _ _ _ (initialized_parts l c.in-Initialized.field-1 v)
    (then_added c.add_in_value.result _ _ _ (of_label l) (of_nested (in_value l.number v)) c.in_ok-add_statement-in-Initialized.ensures c.add_in_value.ensures))

pub returns-in-WithoutValue : goal.returns-in-WithoutValue
returns-in-WithoutValue c = rw c.in-WithoutValue.is (nothing_added c.args.listing.now [] refl)
