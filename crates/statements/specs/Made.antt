-- What the walk over statements makes, as the rules have it.
use Rattle.std.specs.Prelude.{◌≡◌, Bool, ◌&&◌, nat_eq, length, List, [], ◌++◌, map, Option, Some, None, Result, Ok, Err}
use Rattle.std.specs.declared.vec.Vec.{Vec}
use Rattle.std.specs.declared.alloc.Global.{Global}
use Rattle.cov_base.specs.declared.failure.Failure.{Failure}
use Rattle.cov_base.specs.declared.position.Pos.{Pos}
use Rattle.ada_syntax.specs.Tree.{Expr}
use Rattle.ada_syntax.specs.StatementTree as text
use Rattle.ada_syntax.specs.StatementView.{statements_of, branches_of}
use Rattle.ada_syntax.specs.declared.statement.Alternative.{Alternative as SourceAlternative}
use Rattle.ada_syntax.specs.declared.statement.Branch.{Branch as SourceBranch}
use Rattle.ada_syntax.specs.declared.statement.Handler.{Handler as SourceHandler}
use Rattle.ada_syntax.specs.declared.statement.LoopScheme.{LoopScheme}
use Rattle.ada_meaning.specs.Tree as tree
use Rattle.ada_tree.specs.declared.statement.Alternative.{Alternative}
use Rattle.ada_tree.specs.declared.statement.Branch.{Branch}
use Rattle.ada_tree.specs.declared.statement.Declaration.{Declaration}
use Rattle.ada_tree.specs.declared.statement.Handler.{Handler}
use Rattle.ada_tree.specs.Programs.{unfolded_handlers}
use Rattle.ada_tree.specs.View as view
use Rattle.ada_rules.specs.Plan.{answer_at}
use Rattle.ada_rules.specs.Environment.{Env, State, Given}
use Rattle.ada_rules.specs.Statements as rules
use Rattle.ada_entities.specs.declared.fault.Refusal.{Refusal}
use Rattle.ada_entities.specs.EntityViews.{Tables}
use Rattle.ada_entities.specs.Trees.{shapes_in_tree}
use Rattle.statement_parts.specs.Cases.{arms_in}
use Rattle.statement_parts.specs.Simple.{in_program}
use Rattle.statements.specs.declared.nested.Frame.{Frame}
use Rattle.statements.specs.Handling.{Caught, handler_once}
use Rattle.statements.specs.Nested.{all_in_tree, branch_in, branched_once, arm_once}

-- a statement, where one is made: a pragma makes none
abbrev pub some_in_program : Tables → Option tree.Stmt → List tree.Stmt
some_in_program k None = []
some_in_program k (Some x) = in_program k x

abbrev pub all_in_program : Tables → Vec tree.Stmt Global → List tree.Stmt
all_in_program k made = all_in_tree k made.items

abbrev pub branches_there : Tables → Vec Branch Global → List rules.Chosen
branches_there k made = map (branch_in k) made.items

abbrev pub arms_there : Tables → Vec Alternative Global → List rules.Arm
arms_there k made = arms_in k made.items

-- a handler, and the statements and the handlers of a body or a block
abbrev pub handler_in : Tables → Handler → Caught
handler_in k h = record {
  choices = map view.exception_choice_of h.choices;
  statements = all_in_tree k h.statements.items;
}

abbrev pub handlers_in : Tables → List Handler → tree.Handlers
handlers_in k hs = unfolded_handlers (shapes_in_tree k.types) (view.handlers_of hs)

abbrev pub handlers_there : Tables → Vec Handler Global → tree.Handlers
handlers_there k made = handlers_in k made.items

abbrev pub frame_there : Tables → Frame → rules.Frame
frame_there k f = record {
  statements = all_in_tree k f.statements.items;
  handlers = handlers_in k f.handlers.items;
}

-- what was made is one of a list
abbrev pub IsMade : Result tree.Stmt (Failure Refusal) → Result (Option tree.Stmt) (Failure Refusal) → Type 0
IsMade (Ok x) result = result ≡ Ok (Some x)
IsMade (Err f) result = result ≡ Err f

-- a statement that is added, where there is one
abbrev pub AddsStatement : (old new : List tree.Stmt) → Option tree.Stmt → Type 0
AddsStatement old new x = (k : Tables) → all_in_tree k new ≡ all_in_tree k old ++ some_in_program k x

abbrev pub IsBlockOf : List Declaration → Frame → tree.Block → Type 0
IsBlockOf ds f b =
    b ≡ tree.block (map view.declaration_of ds) (view.statements_of f.statements.items)
    (view.handlers_of f.handlers.items)

-- an if statement of the text
abbrev pub conditional_of : Pos → SourceBranch → List SourceBranch → List text.Statement → text.Statement
conditional_of p b bs es =
    text.conditional p b.condition (statements_of b.statements.items) (branches_of bs) (statements_of es)

-- a loop of the text
abbrev pub loop_of : Pos → LoopScheme → List text.Statement → text.Statement
loop_of p s ss = text.repeat p s (statements_of ss)

-- what one branch, one alternative and one handler come to
abbrev pub branch_at : Env → State → Pos → Expr → List text.Statement → Result (Given rules.Chosen) Pos
branch_at env s p e ss = answer_at p (branched_once env s p e (statements_of ss)).outcome

abbrev pub arm_at : Env → State → rules.Selector → Pos → SourceAlternative → Result (Given rules.Arm) Pos
arm_at env s x p a = answer_at p (arm_once env s x p a.choices (statements_of a.statements.items)).outcome

abbrev pub handler_at : Env → State → (is_last : Bool) → Pos → SourceHandler → Result (Given Caught) Pos
handler_at env s b p h =
    answer_at p
    (handler_once env s (b && nat_eq (length h.choices) 1) p h.choices (statements_of h.statements.items)).outcome
