-- Statements with others in them, by the parts that are looked at one by one.
use Rattle.std.specs.Prelude.{Bool, ◌&&◌, nat_eq, length, List, ◌∷◌, map, Some, Result}
use Rattle.cov_base.specs.declared.position.Pos.{Pos}
use Rattle.ada_syntax.specs.Tree as source
use Rattle.ada_syntax.specs.StatementTree as text
use Rattle.ada_syntax.specs.StatementView.{statements_of, branches_of, alternatives_of, handlers_of}
use Rattle.ada_syntax.specs.declared.declaration.DiscreteRange.{DiscreteRange}
use Rattle.ada_syntax.specs.declared.name.Identifier.{Identifier}
use Rattle.ada_syntax.specs.declared.statement.Alternative.{Alternative}
use Rattle.ada_syntax.specs.declared.statement.Branch.{Branch}
use Rattle.ada_syntax.specs.declared.statement.Choice.{Choice}
use Rattle.ada_syntax.specs.declared.statement.Direction.{Direction}
use Rattle.ada_syntax.specs.declared.statement.Handler.{Handler}
use Rattle.ada_meaning.specs.Tree as tree
use Rattle.ada_tree.specs.declared.statement.Branch.{Branch as TreeBranch}
use Rattle.ada_tree.specs.View.{label_of}
use Rattle.ada_rules.specs.Plan.{Plan, ◌>>=◌, rule, outcome_after, answer_at}
use Rattle.ada_rules.specs.Environment.{State, Given, given, Env, statement_label, started}
use Rattle.ada_rules.specs.Expressions.{decision}
use Rattle.ada_rules.specs.Statements as rules
use Rattle.ada_rules.specs.Statements.{Arm, Chosen, Selector, all_arms, all_chosen, all_handlers, all_stated}
use Rattle.ada_rules.specs.Statements.{branched, is_last, one, stmts_of}
use Rattle.ada_entities.specs.EntityViews.{Tables}
use Rattle.statement_parts.specs.Simple.{in_tree}
use Rattle.statements.specs.Handling.{Caught, handler_once}
use Rattle.statements.specs.Loops.{Begun, begun_plan, in_turn}

-- statements of the typed program, as the rules have them
abbrev pub all_in_tree : Tables → List tree.Stmt → List tree.Stmt
all_in_tree k xs = map (in_tree k) xs

-- a branch of an if statement, as the rules have it
abbrev pub branch_in : Tables → TreeBranch → Chosen
branch_in k b = record {
  label = label_of b.decision.label;
  test = b.decision.test;
  statements = all_in_tree k b.statements.items;
}

-- one branch of an if statement
abbrev pub branched_once : Env → State → Pos → source.Expr → text.Statements → Plan (Given Chosen)
branched_once env s p e ss = do
  t ← decision env s p e
  xs ← all_stated env t.next p ss
  rule (Some (given (record { label = t.value.0; test = t.value.1; statements = xs.value }) xs.next))

-- one alternative of a case statement
abbrev pub arm_once : Env → State → Selector → Pos → List Choice → text.Statements → Plan (Given Arm)
arm_once env s x p cs ss = do
  ds ← all_chosen env s x p cs
  xs ← all_stated env ds.next p ss
  rule (Some (given (record { choices = ds.value; statements = xs.value }) xs.next))

-- what stands behind all branches of an if statement
abbrev pub then_else : Env → Pos → tree.Label → text.Statements → Given (List Chosen) → Plan (Given (List tree.Stmt))
then_else env p l es cs = do
  zs ← all_stated env cs.next p es
  rule (Some (one (tree.if_statement l (rules.branches_of cs.value zs.value)) zs.next))

-- An if statement is its branches, the first like those behind it, and then its else part.
abbrev pub in_branches : Env → State → Pos → Branch → List Branch → text.Statements
    → Result (Given (List tree.Stmt)) Pos
in_branches env s p b bs es =
    answer_at p (outcome_after (branched env (started s) p (branches_of (b ∷ bs))).answer
    (then_else env p (statement_label s p) es))

-- the branches behind one
abbrev pub then_branches : Env → Pos → List Branch → Given Chosen → Plan (Given (List Chosen))
then_branches env p bs c = do
  cs ← branched env c.next p (branches_of bs)
  rule (Some (given (c.value ∷ cs.value) cs.next))

abbrev pub from_branch : Env → State → Pos → Branch → List Branch → Result (Given (List Chosen)) Pos
from_branch env s p b bs =
    answer_at p (outcome_after
    (answer_at p (branched_once env s p b.condition (statements_of b.statements.items)).outcome)
    (then_branches env p bs))

-- the statements of a for loop, once it has begun
abbrev pub then_turns : Env → Pos → tree.Label → Identifier → Direction → text.Statements → Given Begun
    → Plan (Given (List tree.Stmt))
then_turns env p l i d ss b = do
  xs ← all_stated (in_turn env i b.value) b.next p ss
  rule (Some (one (tree.for_loop l b.value.parameter (rules.is_reverse d) b.value.turns.over
      (stmts_of xs.value)) xs.next))

-- A for loop is its beginning, and then its statements.
abbrev pub in_turns : Env → State → Pos → Identifier → Direction → DiscreteRange → text.Statements
    → Result (Given (List tree.Stmt)) Pos
in_turns env s p i d r ss =
    answer_at p (outcome_after (answer_at p (begun_plan env (started s) p i r).outcome)
    (then_turns env p (statement_label s p) i d ss))

-- the alternatives behind one
abbrev pub then_arms : Env → Selector → Pos → List Alternative → Given Arm → Plan (Given (List Arm))
then_arms env x p rest a = do
  ys ← all_arms env a.next x p (alternatives_of rest)
  rule (Some (given (a.value ∷ ys.value) ys.next))

abbrev pub from_arm : Env → State → Selector → Pos → Alternative → List Alternative → Result (Given (List Arm)) Pos
from_arm env s x p a rest =
    answer_at p (outcome_after (answer_at p (arm_once env s x p a.choices (statements_of a.statements.items)).outcome)
    (then_arms env x p rest))

-- `others` may stand in the last handler alone, as its only choice.
abbrev pub allows_others : Handler → List Handler → Bool
allows_others h hs = is_last (handlers_of hs) && nat_eq (length h.choices) 1

-- the handlers behind one
abbrev pub then_handlers : Env → Pos → List Handler → Given Caught → Plan (Given tree.Handlers)
then_handlers env p hs c = do
  ys ← all_handlers env c.next p (handlers_of hs)
  rule (Some (given (tree.handler c.value.choices (stmts_of c.value.statements) ys.value) ys.next))

abbrev pub from_handler : Env → State → Pos → Handler → List Handler → Result (Given tree.Handlers) Pos
from_handler env s p h hs =
    answer_at p (outcome_after
    (answer_at p (handler_once env s (allows_others h hs) p h.choices (statements_of h.statements.items)).outcome)
    (then_handlers env p hs))
