-- A statement is larger than its parts.
use Rattle.std.specs.Prelude.{◌+◌, ◌≤◌, List, [], ◌∷◌}
use Rattle.std.proofs.Common.{arith}
use denote.Param.Weighed.{most}
use Rattle.ada_syntax.specs.StatementTree.{Statement, statement_size, statements_size, branches_size, alternatives_size, handlers_size, handled_size}
use Rattle.ada_syntax.specs.StatementView.{statements_of, branches_of, alternatives_of, handlers_of, handled_of, statement_at, statement_of}
use Rattle.ada_syntax.specs.declared.statement.Statement.TheInside.{Inside}
use Rattle.ada_syntax.specs.declared.statement.HandledStatements.TheInside.{Inside as InsideHandled}
use Rattle.ada_syntax.specs.declared.statement.HandledStatements.TheDeep.{deep-Statement, deep-StatementKind, deep-Branch, deep-Alternative, deep-Handler, deep-HandledStatements}
use Rattle.ada_syntax.specs.declared.statement.Branch.{Branch}
use Rattle.ada_syntax.specs.declared.statement.Alternative.{Alternative}
use Rattle.ada_syntax.specs.declared.statement.Handler.{Handler}
use Rattle.ada_syntax.specs.declared.statement.StatementKind.{StatementKind}
use Rattle.ada_syntax.specs.declared.statement.StatementKind.TheVariants as kind

statements_below : (ss : List Statement) → most (λ s. statement_size s + 1) ss ≤ statements_size (statements_of ss) + 1
statements_below [] = omega arith
statements_below (s ∷ ss) = omega (arith, statements_below ss)

branches_below : (bs : List Branch) → most deep-Branch bs ≤ branches_size (branches_of bs) + 1
branches_below [] = omega arith
branches_below (b ∷ bs) = omega (arith, branches_below bs, statements_below b.statements.items)

alternatives_below : (xs : List Alternative) → most deep-Alternative xs ≤ alternatives_size (alternatives_of xs) + 1
alternatives_below [] = omega arith
alternatives_below (a ∷ rest) = omega (arith, alternatives_below rest, statements_below a.statements.items)

handlers_below : (hs : List Handler) → most deep-Handler hs ≤ handlers_size (handlers_of hs) + 1
handlers_below [] = omega arith
handlers_below (h ∷ hs) = omega (arith, handlers_below hs, statements_below h.statements.items)

pub handled_is_larger : (h : InsideHandled) → deep-HandledStatements h ≤ handled_size (handled_of h)
handled_is_larger h = omega (arith, statements_below h.statements.items, handlers_below h.handlers.items)

pub statement_is_larger : (s : Inside) → deep-Statement s ≤ statement_size (statement_of s)
statement_is_larger s = omega (arith, of_kind s.kind)
  where
    of_kind : (k : StatementKind) → deep-StatementKind k ≤ statement_size (statement_at s.pos k)
    of_kind kind.Null = omega arith
    of_kind (kind.Assignment n i) = omega arith
    of_kind (kind.Call n) = omega arith
    of_kind (kind.Pragma a) = omega arith
    of_kind (kind.If b bs ss) = omega (arith, statements_below b.statements.items, branches_below bs.items, statements_below ss.items)
    of_kind (kind.Case e xs) = omega (arith, alternatives_below xs.items)
    of_kind (kind.Loop scheme ss) = omega (arith, statements_below ss.items)
    of_kind (kind.Exit e) = omega arith
    of_kind (kind.Return e) = omega arith
    of_kind (kind.Raise n) = omega arith
    of_kind (kind.Block ds h) = omega arith
