-- Statements as plain data (Ada RM 2012, 5, 11.2).
use Rattle.std.specs.Prelude.{ℕ, ◌+◌, List, Option}
use Rattle.cov_base.specs.declared.position.Pos.{Pos}
use Rattle.ada_syntax.specs.Tree.{Expr, Name}
use Rattle.ada_syntax.specs.declared.declaration.Declaration.{Declaration}
use Rattle.ada_syntax.specs.declared.declaration.Initial.{Initial}
use Rattle.ada_syntax.specs.declared.declaration.Pragma.{Pragma}
use Rattle.ada_syntax.specs.declared.statement.Choice.{Choice}
use Rattle.ada_syntax.specs.declared.statement.ExceptionChoice.{ExceptionChoice}
use Rattle.ada_syntax.specs.declared.statement.LoopScheme.{LoopScheme}

mutual
  -- a statement, with the place of its first token
  pub data Statement : Type 0 where
    null : Pos → Statement
    assignment : Pos → Name → Initial → Statement
    call : Pos → Name → Statement
    exemption : Pos → Pragma → Statement
    -- the first condition and its statements, the other branches, and the statements of the else part
    conditional : Pos → Expr → Statements → Branches → Statements → Statement
    case_of : Pos → Expr → Alternatives → Statement
    repeat : Pos → LoopScheme → Statements → Statement
    exit : Pos → Option Expr → Statement
    returns : Pos → Option Expr → Statement
    raise : Pos → Option Name → Statement
    block : Pos → Option (List Declaration) → Handled → Statement

  pub data Statements : Type 0 where
    no_statements : Statements
    then_also : Statement → Statements → Statements

  pub data Branches : Type 0 where
    no_branches : Branches
    branch : Expr → Statements → Branches → Branches

  pub data Alternatives : Type 0 where
    no_alternatives : Alternatives
    alternative : List Choice → Statements → Alternatives → Alternatives

  pub data Handlers : Type 0 where
    no_handlers : Handlers
    handler : List ExceptionChoice → Statements → Handlers → Handlers

  -- statements, and what handles their exceptions
  pub data Handled : Type 0 where
    handled : Statements → Handlers → Handled

-- the place of a statement's first token
abbrev pub statement_pos : Statement → Pos
statement_pos (null p) = p
statement_pos (assignment p n i) = p
statement_pos (call p n) = p
statement_pos (exemption p a) = p
statement_pos (conditional p e ss bs es) = p
statement_pos (case_of p e xs) = p
statement_pos (repeat p s ss) = p
statement_pos (exit p e) = p
statement_pos (returns p e) = p
statement_pos (raise p n) = p
statement_pos (block p ds h) = p

-- a measure of trees: a tree has more than each of its parts
abbrev mutual
  pub statement_size : Statement → ℕ
  statement_size (null p) = 1
  statement_size (assignment p n i) = 1
  statement_size (call p n) = 1
  statement_size (exemption p a) = 1
  statement_size (conditional p e ss bs es) = statements_size ss + branches_size bs + statements_size es + 1
  statement_size (case_of p e xs) = alternatives_size xs + 1
  statement_size (repeat p s ss) = statements_size ss + 1
  statement_size (exit p e) = 1
  statement_size (returns p e) = 1
  statement_size (raise p n) = 1
  statement_size (block p ds h) = handled_size h + 1

  pub statements_size : Statements → ℕ
  statements_size no_statements = 0
  statements_size (then_also s ss) = statement_size s + statements_size ss

  pub branches_size : Branches → ℕ
  branches_size no_branches = 0
  branches_size (branch e ss bs) = statements_size ss + branches_size bs

  pub alternatives_size : Alternatives → ℕ
  alternatives_size no_alternatives = 0
  alternatives_size (alternative cs ss xs) = statements_size ss + alternatives_size xs

  pub handlers_size : Handlers → ℕ
  handlers_size no_handlers = 0
  handlers_size (handler cs ss hs) = statements_size ss + handlers_size hs

  pub handled_size : Handled → ℕ
  handled_size (handled ss hs) = statements_size ss + handlers_size hs + 1
