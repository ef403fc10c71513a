-- Statements, branches, alternatives in a row, of the rules' definitions.
use Rattle.std.proofs.Common.{◌≡◌, List, [], ◌∷◌, map, Result, Ok}
use Rattle.cov_base.specs.declared.position.Pos.{Pos}
use Rattle.cov_base.specs.declared.failure.Failure.{Failure}
use Rattle.ada_syntax.specs.StatementTree as text
use Rattle.ada_syntax.specs.declared.statement.Alternative.{Alternative as SourceAlternative}
use Rattle.ada_syntax.specs.declared.statement.Branch.{Branch as SourceBranch}
use Rattle.ada_meaning.specs.Tree as tree
use Rattle.ada_tree.specs.declared.statement.Branch.{Branch}
use Rattle.ada_rules.specs.Environment.{State, Given, given, Env}
use Rattle.ada_rules.specs.Statements.{Chosen, Arm}
use Rattle.ada_entities.specs.declared.fault.Refusal.{Refusal}
use Rattle.ada_entities.specs.Answers.{Refuses, refused_at, no_memory}
use Rattle.ada_entities.specs.EntityViews.{Tables}
use Rattle.statement_parts.specs.declared.selectors.Selector.{Selector}
use Rattle.statement_parts.specs.Selectors.{selector_in}
use Rattle.statement_parts.proofs.Walks.{IsWalk}
use Rattle.program_walk.specs.Changes.{Grows}
use Rattle.program_walk.specs.declared.context.Context.{Context}
use Rattle.program_walk.specs.declared.walk.Walk.{Walk}
use Rattle.program_walk.specs.States.{state_of}
use Rattle.program_walk.specs.Walks.{Begins, Continues, StandsAt}
use Rattle.statements.specs.Nested.{branch_in}
use Rattle.statements.specs.Made.{branch_at, arm_at}
use Rattle.statements.proofs.NestedLaws.{one_statement, the_statements, statements_walk, the_branches, branches_walk, the_arms, arms_walk}
use Rattle.statements.proofs.Rows.{Reaches}

abbrev pub statement_by : Tables → Env → Pos → State → text.Statement → Result (Given (List tree.Stmt)) Pos
statement_by k env p = one_statement env p

abbrev pub statements_by : Tables → Env → Pos → State → List text.Statement → Result (Given (List tree.Stmt)) Pos
statements_by k env p = the_statements env p

pub rows_of_statements : (k : Tables) (env : Env) (p : Pos) → IsWalk (statement_by k env p) (λ ys. ys) (statements_by k env p)
rows_of_statements k env p = statements_walk env p

-- the branches of an if statement at one place, wherever else they are asked for
abbrev pub branch_by : Pos → Tables → Env → Pos → State → SourceBranch → Result (Given Chosen) Pos
branch_by at k env p s b = branch_at env s at b.condition b.statements.items

abbrev pub branches_by : Pos → Tables → Env → Pos → State → List SourceBranch → Result (Given (List Chosen)) Pos
branches_by at k env p = the_branches env at

pub rows_of_branches : (at : Pos) (k : Tables) (env : Env) (p : Pos)
    → IsWalk (branch_by at k env p) (λ y. y ∷ []) (branches_by at k env p)
rows_of_branches at k env p = branches_walk env at

-- the first branch, before those behind it
pub first_branch_reaches : (at : Pos) (c : Context) (old new : Walk) (x : SourceBranch) (xs : List SourceBranch) (b : Branch) → Continues old new
    → Grows old.symbols new.symbols
    → ((k : Tables) (env : Env) → StandsAt c old k env → Begins new k
    → branch_at env (state_of k old) at x.condition x.statements.items ≡ Ok (given (branch_in k b) (state_of k new)))
    → Reaches (branches_by at) c old new (x ∷ xs) xs (λ k. map (branch_in k) (b ∷ []))
first_branch_reaches at c old new x xs b goes grows passes = record {
  comes = λ p k env h begins. (branches_walk env at).passes (state_of k old) x xs (given (branch_in k b) (state_of k new)) (passes k env h begins);
  continues = goes;
  grows = grows;
}

pub first_branch_refused : (env : Env) (p : Pos) (s : State) (x : SourceBranch) (xs : List SourceBranch) (f : Failure Refusal)
    → Refuses (branch_at env s p x.condition x.statements.items) f → Refuses (the_branches env p s (x ∷ xs)) f
first_branch_refused env p s x xs f (refused_at {p = q} h) = refused_at ((branches_walk env p).refuses s x xs q h)
first_branch_refused env p s x xs f no_memory = no_memory

abbrev pub arm_by : Selector → Tables → Env → Pos → State → SourceAlternative → Result (Given Arm) Pos
arm_by x k env p s a = arm_at env s (selector_in k x) p a

abbrev pub arms_by : Selector → Tables → Env → Pos → State → List SourceAlternative → Result (Given (List Arm)) Pos
arms_by x k env p = the_arms env p (selector_in k x)

pub rows_of_arms : (x : Selector) (k : Tables) (env : Env) (p : Pos) → IsWalk (arm_by x k env p) (λ y. y ∷ []) (arms_by x k env p)
rows_of_arms x k env p = arms_walk env p (selector_in k x)
