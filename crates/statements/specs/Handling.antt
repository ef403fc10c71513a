-- Handlers, as the walk makes them one by one.
use Rattle.std.specs.Prelude.{Bool, List, [], ◌∷◌, Result, Ok, Err, Some}
use Rattle.cov_base.specs.declared.position.Pos.{Pos}
use Rattle.ada_syntax.specs.StatementTree as text
use Rattle.ada_syntax.specs.declared.statement.ExceptionChoice.{ExceptionChoice}
use Rattle.ada_meaning.specs.Tree as tree
use Rattle.ada_rules.specs.Plan.{Plan, ◌>>=◌, rule}
use Rattle.ada_rules.specs.Environment.{State, Given, given, Env, in_handler}
use Rattle.ada_rules.specs.Statements.{all_caught, all_stated, stmts_of}

pub record Caught : Type 0 where
  pub choices : List tree.ExceptionChoice
  pub statements : List tree.Stmt

-- in front of others
abbrev pub with_handlers : List Caught → tree.Handlers → tree.Handlers
with_handlers [] hs = hs
with_handlers (c ∷ cs) hs = tree.handler c.choices (stmts_of c.statements) (with_handlers cs hs)

abbrev pub behind_handlers : List Caught → Result (Given tree.Handlers) Pos → Result (Given tree.Handlers) Pos
behind_handlers done (Ok g) = Ok (given (with_handlers done g.value) g.next)
behind_handlers done (Err p) = Err p

-- one handler, as a plan of its own
abbrev pub handler_once : Env → State → Bool → Pos → List ExceptionChoice → text.Statements → Plan (Given Caught)
handler_once env s b p cs ss = do
  ds ← all_caught env s b p cs
  xs ← all_stated (in_handler env) ds.next p ss
  rule (Some (given (record { choices = ds.value; statements = xs.value }) xs.next))
