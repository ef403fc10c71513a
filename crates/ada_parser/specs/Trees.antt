-- Parts of a statement that are read one after the other.
use Rattle.std.specs.Prelude.{List}
use Rattle.ada_syntax.specs.Tree.{Expr}
use Rattle.ada_syntax.specs.StatementTree.{Statement, Branches, no_branches, branch, Alternatives, no_alternatives, alternative, Handlers, no_handlers, handler}
use Rattle.ada_syntax.specs.StatementView.{statements_of}
use Rattle.ada_syntax.specs.declared.statement.Choice.{Choice}
use Rattle.ada_syntax.specs.declared.statement.ExceptionChoice.{ExceptionChoice}

-- one more branch behind those before
abbrev pub with_branch : Branches → Expr × List Statement → Branches
with_branch no_branches b = branch b.0 (statements_of b.1) no_branches
with_branch (branch e ss bs) b = branch e ss (with_branch bs b)

abbrev pub with_alternative : Alternatives → List Choice × List Statement → Alternatives
with_alternative no_alternatives a = alternative a.0 (statements_of a.1) no_alternatives
with_alternative (alternative cs ss rest) a = alternative cs ss (with_alternative rest a)

abbrev pub with_handler : Handlers → List ExceptionChoice × List Statement → Handlers
with_handler no_handlers h = handler h.0 (statements_of h.1) no_handlers
with_handler (handler cs ss rest) h = handler cs ss (with_handler rest h)
