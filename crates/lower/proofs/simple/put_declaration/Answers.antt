use Rattle.ada_meaning.specs.Tree as tree
use Rattle.ada_tree.specs.View.{label_of, value_of}
use Rattle.lower.specs.Settings.{assign_for}
use Rattle.lower.specs.Stated.{start_for}
use Rattle.lower.proofs.Building.{then_put}
use Rattle.lower.proofs.simple.put_declaration.Goals as goal

pub returns-in_ok-put_start-in-Initialized : goal.returns-in_ok-put_start-in-Initialized
returns-in_ok-put_start-in-Initialized c =
    rw c.in-Initialized.is
    (then_put c.put_assignment.result c.args.code.now c.put_start.new.code c.put_assignment.new.code (start_for c.args.context.now (label_of c.in-Initialized.label))
    (assign_for c.args.context.now c.args.slot (tree.local_object c.in-Initialized.number) tree.whole (value_of c.in-Initialized.value))
    c.in_ok-put_start-in-Initialized.ensures c.put_assignment.ensures)
