-- What the walk answers: what the rules give, as the checker keeps it.
use Rattle.std.specs.Prelude.{◌≡◌, List, [], ◌∷◌, ◌++◌, reverse, Option, Result, Ok, Err}
use Rattle.std.specs.Option.{ok_or}
use Rattle.cov_base.specs.declared.position.Pos.{Pos}
use Rattle.cov_base.specs.declared.failure.Failure.{Failure}
use Rattle.cov_base.specs.declared.failure.Failure.TheVariants.{WantOfMemory}
use Rattle.ada_rules.specs.Plan.{Plan, outcome_after, answer_at}
use Rattle.ada_rules.specs.Environment.{State, Given, given, Env}
use Rattle.ada_entities.specs.declared.fault.Refusal.{Refusal}
use Rattle.ada_entities.specs.Answers.{refusal, Answers}
use Rattle.ada_entities.specs.EntityViews.{Tables}
use Rattle.ada_phrases.specs.declared.decisions.Decisions.{Decisions}
use Rattle.ada_phrases.specs.declared.scope.Step.{Step}
use Rattle.ada_phrases.specs.declared.scope.Step.TheVariants as step
use Rattle.ada_phrases.specs.declared.scope.Scope.{Scope}
use Rattle.ada_phrases.specs.Scopes.{StandsIn}

-- a state with these decisions, and with places where they have too many conditions
abbrev pub counted : Decisions → State → State
counted d s = record s { decisions = d.count; excesses = reverse d.excesses.items }

-- A construct that is looked at in a scope, from these decisions to those, comes to what the rules say wherever such a
-- scope stands.
abbrev pub ComesTo : {A B : Type 0} → (Tables → A → B) → Scope → (old new : Decisions)
    → (Tables → Env → State → Result (Given B) Pos) → Result A (Failure Refusal) → Type 0
ComesTo view scope old new answer result =
    (k : Tables) (env : Env) (s : State) → StandsIn scope k env
    → Answers (λ x. given (view k x) (counted new s)) (answer k env (counted old s)) result

-- what a rule on types gives; the step of names goes on with something in place of it
abbrev pub typed_answer : {A : Type 0} → Step → Pos → A → Option A → Result A (Failure Refusal)
typed_answer step.Naming p anything o = Ok anything
typed_answer step.Typing p anything o = ok_or o (refusal p)

-- the same of a rule that takes memory
abbrev pub IsTypedFound : {A E : Type 0} → Step → Pos → A → Result (Option A) E → Result A (Failure Refusal) → Type 0
IsTypedFound own p x (Ok o) r = r ≡ typed_answer own p x o
IsTypedFound own p x (Err e) r = r ≡ Err WantOfMemory

-- constructs that grow to the right, each round the one before it
abbrev pub along : {A X : Type 0} → Pos → (A → X → Plan A) → Result A Pos → List X → Result A Pos
along p f r [] = r
along p f r (x ∷ xs) = along p f (answer_at p (outcome_after r (λ a. f a x))) xs

-- a list behind items that were looked at before it
abbrev pub before : {A : Type 0} → List A → Result (Given (List A)) Pos → Result (Given (List A)) Pos
before done (Ok g) = Ok (given (done ++ g.value) g.next)
before done (Err p) = Err p
