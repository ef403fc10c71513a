-- What is read of a branch, an alternative or a handler.
use Rattle.std.specs.Prelude.{List}
use Rattle.ada_syntax.specs.Tree.{Expr}
use Rattle.ada_syntax.specs.StatementTree.{Statement}
use Rattle.ada_syntax.specs.declared.statement.Branch.{Branch}
use Rattle.ada_syntax.specs.declared.statement.Alternative.{Alternative}
use Rattle.ada_syntax.specs.declared.statement.Handler.{Handler}
use Rattle.ada_syntax.specs.declared.statement.Choice.{Choice}
use Rattle.ada_syntax.specs.declared.statement.ExceptionChoice.{ExceptionChoice}

abbrev pub branch_parts : Branch → Expr × List Statement
branch_parts b = (b.condition, b.statements.items)

abbrev pub alternative_parts : Alternative → List Choice × List Statement
alternative_parts a = (a.choices, a.statements.items)

abbrev pub handler_parts : Handler → List ExceptionChoice × List Statement
handler_parts h = (h.choices, h.statements.items)
