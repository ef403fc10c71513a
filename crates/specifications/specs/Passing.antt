-- The actuals of an instance, one behind the other.
use Rattle.std.specs.Prelude.{ℕ, nat_eq, Bool, List, [], ◌∷◌, ◌++◌, Option, Some, None, option_map, Result, if◌then◌else◌}
use Rattle.std.specs.Borrow.{Bor}
use Rattle.std.specs.declared.vec.Vec.{Vec}
use Rattle.std.specs.declared.alloc.Global.{Global}
use Rattle.cov_base.specs.declared.failure.Failure.{Failure}
use Rattle.cov_base.specs.declared.position.Pos.{Pos}
use Rattle.ada_syntax.specs.Tree as source
use Rattle.ada_rules.specs.Plan.{Plan, ◌>>=◌, answer_at}
use Rattle.ada_rules.specs.Entities as rules
use Rattle.ada_rules.specs.Entities.{Region, Actual}
use Rattle.ada_rules.specs.Environment.{Step, typed_rule, State, Given, given, Env}
use Rattle.ada_rules.specs.Denoted as names
use Rattle.ada_rules.specs.Expressions.{itself, denoted, judged}
use Rattle.ada_rules.specs.Instances.{actual_for_name, any_actual, actual_plan, any_plan}
use Rattle.ada_entities.specs.declared.entity.Entity.{Entity}
use Rattle.ada_entities.specs.declared.fault.Refusal.{Refusal}
use Rattle.ada_entities.specs.Answers.{Answers}
use Rattle.ada_entities.specs.EntityViews.{Tables, entity_of, region_of}
use Rattle.ada_phrases.specs.declared.names.Denoted.{Denoted}
use Rattle.ada_phrases.specs.declared.scope.Step.{Step as CodeStep}
use Rattle.ada_phrases.specs.DenotedView.{denotes}
use Rattle.ada_phrases.specs.Scopes.{step_of}
use Rattle.program_walk.specs.Places.{StandsAt}
use Rattle.specifications.specs.declared.actual.InstanceActual.{InstanceActual}
use Rattle.specifications.specs.declared.passing.InstanceWalk.{InstanceWalk}
use Rattle.specifications.specs.Actuals.{actual_of, actuals_of, actuals_in}

-- what a name gives for a formal type or subprogram
abbrev pub name_given : Env → ℕ → List Actual → rules.Entity → Given names.Denoted → Plan (Given Actual)
name_given env n before f d =
    typed_rule env.step (given any_actual d.next)
    (option_map (λ a. given a d.next) (actual_for_name n before f d.value))

abbrev pub by_name : Env → State → ℕ → List Actual → rules.Entity → source.Name → Plan (Given Actual)
by_name env s n before f x = denoted env s x >>= name_given env n before f

-- no other expression will do
abbrev pub by_other : Env → State → source.Expr → Plan (Given Actual)
by_other env s x = judged env itself s x >>= (λ y. typed_rule env.step (given any_actual y.next) None)

abbrev pub name_plan : Env → State → ℕ → List Actual → rules.Entity → source.Expr → Plan (Given Actual)
name_plan env s n before f (source.named p x) = by_name env s n before f x
name_plan env s n before f x = by_other env s x

-- an actual for a formal, if there is one
abbrev pub plan_for : Env → State → ℕ → List Actual → Option rules.Entity → source.Expr → Plan (Given Actual)
plan_for env s n before None x = any_plan env s x
plan_for env s n before (Some f) x = actual_plan env s n before f x

-- the formals of a generic, and of what is none no formals
abbrev pub formals_seen : Tables → Option (Bor (List (List ℕ × Entity))) → Region
formals_seen k None = []
formals_seen k (Some r) = region_of k r.now

abbrev pub IsForName : InstanceWalk → List InstanceActual → Entity → Pos → Denoted
    → Result InstanceActual (Failure Refusal) → Type 0
IsForName walk before f p d result =
    (k : Tables) (env : Env) (s : State) → StandsAt walk.place k env
    → Answers (λ a. given (actual_of k a) s)
    (answer_at p (name_given env walk.number (actuals_of k before) (entity_of k f) (given (denotes k d) s)).outcome)
    result

-- what no name gives for a formal type or subprogram
abbrev pub IsNoActual : CodeStep → Pos → Result InstanceActual (Failure Refusal) → Type 0
IsNoActual step p result =
    (k : Tables) (s : State)
    → Answers (λ a. given (actual_of k a) s) (answer_at p (typed_rule (step_of step) (given any_actual s) None).outcome) result

-- an actual is kept where there is a formal for it
abbrev pub kept : {F A : Type 0} → Option F → List A → A → List A
kept None xs x = xs
kept (Some f) xs x = xs ++ x ∷ []

-- as many as there are formals, where the step counts them
abbrev pub counted_rule : Step → Pos → Bool → Given (List Actual) → Result (Given (List Actual)) Pos
counted_rule st p b g = answer_at p (typed_rule st g (if b then Some g else None)).outcome

abbrev pub IsCounted : CodeStep → Pos → (formals count : ℕ) → List InstanceActual
    → Result (Vec InstanceActual Global) (Failure Refusal) → Type 0
IsCounted step p formals count xs result =
    (k : Tables) (s : State)
    → Answers (λ ys. given (actuals_in k ys) s)
    (counted_rule (step_of step) p (nat_eq formals count) (given (actuals_of k xs) s)) result
