-- The plain data that a statement of the program is seen as.
use Rattle.std.specs.Prelude.{List, [], ◌∷◌}
use Rattle.cov_base.specs.declared.position.Pos.{Pos}
use Rattle.ada_syntax.specs.StatementTree.{Statement, null, assignment, call, exemption, conditional, case_of, repeat, exit, returns, raise, block, Statements, no_statements, then_also, Branches, no_branches, branch, Alternatives, no_alternatives, alternative, Handlers, no_handlers, handler, Handled, handled}
use Rattle.ada_syntax.specs.declared.statement.Statement.TheInside.{Inside}
use Rattle.ada_syntax.specs.declared.statement.HandledStatements.TheInside.{Inside as InsideHandled}
use Rattle.ada_syntax.specs.declared.statement.Branch.{Branch}
use Rattle.ada_syntax.specs.declared.statement.Alternative.{Alternative}
use Rattle.ada_syntax.specs.declared.statement.Handler.{Handler}
use Rattle.ada_syntax.specs.declared.statement.StatementKind.{StatementKind}
use Rattle.ada_syntax.specs.declared.statement.StatementKind.TheVariants as kind

abbrev pub statements_of : List Statement → Statements
statements_of [] = no_statements
statements_of (s ∷ ss) = then_also s (statements_of ss)

abbrev pub branches_of : List Branch → Branches
branches_of [] = no_branches
branches_of (b ∷ bs) = branch b.condition (statements_of b.statements.items) (branches_of bs)

abbrev pub alternatives_of : List Alternative → Alternatives
alternatives_of [] = no_alternatives
alternatives_of (a ∷ rest) = alternative a.choices (statements_of a.statements.items) (alternatives_of rest)

abbrev pub handlers_of : List Handler → Handlers
handlers_of [] = no_handlers
handlers_of (h ∷ hs) = handler h.choices (statements_of h.statements.items) (handlers_of hs)

abbrev pub handled_of : InsideHandled → Handled
handled_of h = handled (statements_of h.statements.items) (handlers_of h.handlers.items)

-- the statement of this form, whose first token stands at this place
abbrev pub statement_at : Pos → StatementKind → Statement
statement_at p kind.Null = null p
statement_at p (kind.Assignment n i) = assignment p n i
statement_at p (kind.Call n) = call p n
statement_at p (kind.Pragma a) = exemption p a
statement_at p (kind.If b bs ss) = conditional p b.condition (statements_of b.statements.items) (branches_of bs.items) (statements_of ss.items)
statement_at p (kind.Case e xs) = case_of p e (alternatives_of xs.items)
statement_at p (kind.Loop s ss) = repeat p s (statements_of ss.items)
statement_at p (kind.Exit e) = exit p e
statement_at p (kind.Return e) = returns p e
statement_at p (kind.Raise n) = raise p n
statement_at p (kind.Block ds h) = block p ds h

abbrev pub statement_of : Inside → Statement
statement_of s = statement_at s.pos s.kind
