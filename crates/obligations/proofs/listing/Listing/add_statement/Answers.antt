use Rattle.ada_tree.specs.View.{label_of}
use Rattle.obligations.proofs.Lists.{statement_added}
use Rattle.obligations.proofs.listing.Listing.add_statement.Goals as goal

pub returns : goal.returns
returns c =
    statement_added _ _ _ _ _ (label_of c.args.label) c.self.view_is c.statement_entry.ensures c.in_ok-push.ensures.items
