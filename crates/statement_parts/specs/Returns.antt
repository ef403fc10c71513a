-- Returns, as the checker makes them.
use Rattle.std.specs.Prelude.{◌≡◌, List, Option, Some, None, if◌then◌else◌, Result}
use Rattle.cov_base.specs.declared.failure.Failure.{Failure}
use Rattle.ada_meaning.specs.Tree as tree
use Rattle.ada_syntax.specs.Tree.{Expr}
use Rattle.ada_tree.specs.declared.label.Label.{Label}
use Rattle.ada_tree.specs.View.{label_of}
use Rattle.ada_rules.specs.Plan.{Plan, ◌>>=◌, answer_at}
use Rattle.ada_rules.specs.Types.{type_in, range_in, fits}
use Rattle.ada_rules.specs.Environment.{Returning, no_result, result_of, State, Given, given, Env}
use Rattle.ada_rules.specs.Denoted.{expr_of_form}
use Rattle.ada_rules.specs.Expressions.{itself, judged}
use Rattle.ada_rules.specs.Statements.{returned, returned_value, typed_stmt}
use Rattle.ada_entities.specs.declared.fault.Refusal.{Refusal}
use Rattle.ada_entities.specs.declared.types.Subtype.{Subtype}
use Rattle.ada_entities.specs.Answers.{Answers}
use Rattle.ada_entities.specs.Views.{TypeTables, subtype_of}
use Rattle.ada_entities.specs.EntityViews.{Tables}
use Rattle.ada_judged.specs.declared.judged.Form.{Form}
use Rattle.ada_judged.specs.declared.kind.Kind.{Kind}
use Rattle.ada_judged.specs.Views.{kind_of}
use Rattle.ada_judged.specs.JudgedView.{form_of}
use Rattle.ada_phrases.specs.declared.decisions.Decisions.{Decisions}
use Rattle.ada_phrases.specs.declared.scope.Step.{Step}
use Rattle.ada_phrases.specs.Answers.{counted}
use Rattle.ada_phrases.specs.Scopes.{step_of}
use Rattle.object_values.specs.program_walk.specs.declared.site.Site.{Site}
use Rattle.object_values.specs.program_walk.specs.Sites.{StandsAt}
use Rattle.statement_parts.specs.Simple.{in_program}

-- what `return` gives: nothing, or a value of a subtype
abbrev pub returning_of : TypeTables → Option Subtype → Returning
returning_of k None = no_result
returning_of k (Some t) = result_of (subtype_of k t)

-- `return` without a value
abbrev pub IsReturn : Step → Label → Option Subtype → Result tree.Stmt (Failure Refusal) → Type 0
IsReturn step l t result =
    (k : Tables) (env : Env) (s : State) → env.step ≡ step_of step → env.returning ≡ returning_of k.types t
    → Answers (λ x. given (in_program k x) s)
    (answer_at l.place (typed_stmt env (label_of l) s (returned (label_of l) env.returning)).outcome) result

-- the return of an expression of this kind and form
abbrev pub returned_by : Tables → Label → Option Subtype → Kind → Form → Option tree.Stmt
returned_by k l None x f = None
returned_by k l (Some t) x f =
    if fits (type_in (subtype_of k.types t)) (kind_of k.types x)
    then Some (tree.return_value (label_of l) (range_in (subtype_of k.types t)) (expr_of_form (form_of f)))
    else None

abbrev pub giving : tree.Label → Env → State → Expr → Plan (Given (List tree.Stmt))
giving l env s e = do
  x ← judged env itself s e
  typed_stmt env l x.next (returned_value l x.value env.returning)

abbrev pub IsReturnOfValue : Site → (old new : Decisions) → Label → Option Subtype → Expr
    → Result tree.Stmt (Failure Refusal) → Type 0
IsReturnOfValue site old new l t e result =
    (k : Tables) (env : Env) (s : State) → StandsAt site k env → env.returning ≡ returning_of k.types t
    → Answers (λ x. given (in_program k x) (counted new s))
    (answer_at l.place (giving (label_of l) env (counted old s) e).outcome) result
