-- Results of functions, as the checker keeps them.
use Rattle.std.specs.Prelude.{List, Option, Some, None, Result, if◌then◌else◌}
use Rattle.cov_base.specs.declared.position.Pos.{Pos}
use Rattle.cov_base.specs.declared.failure.Failure.{Failure}
use Rattle.ada_syntax.specs.Tree.{Name}
use Rattle.ada_meaning.specs.Types.{here}
use Rattle.ada_rules.specs.Plan.{answer_at}
use Rattle.ada_rules.specs.Entities as rules
use Rattle.ada_rules.specs.Entities.{Region}
use Rattle.ada_rules.specs.Environment.{typed_rule, State, Given, given, Env, with_local}
use Rattle.ada_rules.specs.Expressions.{Marked as RulesMark}
use Rattle.ada_rules.specs.Subprograms as subprograms
use Rattle.ada_rules.specs.Subprograms.{is_function_profile, as_result, with_result, result_judged}
use Rattle.ada_entities.specs.Answers.{Answers}
use Rattle.ada_entities.specs.declared.fault.Refusal.{Refusal}
use Rattle.ada_entities.specs.declared.routines.Parameter.{Parameter}
use Rattle.ada_entities.specs.declared.routines.ResultMark.{ResultMark}
use Rattle.ada_entities.specs.EntityViews.{Tables}
use Rattle.ada_phrases.specs.declared.decisions.Decisions.{Decisions}
use Rattle.ada_phrases.specs.declared.scope.Step.{Step}
use Rattle.ada_phrases.specs.Answers.{counted}
use Rattle.ada_phrases.specs.Scopes.{step_of}
use Rattle.program_walk.specs.declared.marks.Marked.{Marked}
use Rattle.program_walk.specs.declared.site.Site.{Site}
use Rattle.program_walk.specs.Marks.{marked_of}
use Rattle.program_walk.specs.Sites.{StandsAt}
use Rattle.specifications.specs.Profiles.{parameters_of, results_of}

-- the result of a function, where it may be one
abbrev pub function_mark : List rules.Parameter → RulesMark → Option rules.Parameter
function_mark qs m = if is_function_profile qs m then Some (as_result m) else None

-- a profile with these parameters and this result, whose parameters are declared in this region
abbrev pub profile_with : Tables → Region → List Parameter → Option ResultMark → subprograms.Profile
profile_with k region qs r =
    record { parameters = parameters_of k here qs; result = results_of k here r; region = region }

-- the rule on results, in a specification that begins at this place
abbrev pub IsResult : Step → Pos → List Parameter → Marked → Result ResultMark (Failure Refusal) → Type 0
IsResult step p qs m result =
    (k : Tables) (region : Region) (before s : State)
    → let q : Given subprograms.Profile = given (profile_with k region qs None) before in
    let t : Given RulesMark = given (marked_of k m) s in
    Answers (λ r. given (profile_with k region qs (Some r)) s)
    (answer_at p (typed_rule (step_of step) (with_result q t)
    (if is_function_profile q.value.parameters t.value then Some (with_result q t) else None)).outcome) result

-- the result, or none
abbrev pub ComesToResult : Site → (old new : Decisions) → Pos → List Parameter → Option Name
    → Result (Option ResultMark) (Failure Refusal) → Type 0
ComesToResult site old new p qs n result =
    (k : Tables) (env : Env) (region : Region) (s : State) → StandsAt site k (with_local env region)
    → Answers (λ r. given (profile_with k region qs r) (counted new s))
    (answer_at p (result_judged env (given (profile_with k region qs None) (counted old s)) n).outcome) result
