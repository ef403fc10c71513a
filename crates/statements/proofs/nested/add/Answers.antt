use Rattle.std.proofs.Common.{sym}
use Rattle.std.proofs.lemmas.List.{append-nil}
use Rattle.statements.specs.Nested.{all_in_tree}
use Rattle.statements.proofs.nested.add.Goals as goal

pub returns-in-None : goal.returns-in-None
returns-in-None c k = rw c.in-None.is (sym (append-nil (all_in_tree k c.args.made.now.items)))
