-- What an object is set to, in both steps.
use Rattle.std.proofs.Common.{◌≡◌, Option, None, option_map, Result, Ok, Err, IfOk, refl, sym, ap, subst, ◌∙◌}
use Rattle.cov_base.specs.declared.position.Pos.{Pos}
use Rattle.cov_base.specs.declared.failure.Failure.{Failure}
use Rattle.ada_syntax.specs.declared.declaration.Initial.{Initial}
use Rattle.ada_rules.specs.Plan.{Plan, ruled, answer_at}
use Rattle.ada_rules.specs.Types.{AdaSubtype}
use Rattle.ada_rules.specs.Environment.{Step, naming, typing, typed_rule, State, Given, given, Env}
use Rattle.ada_rules.specs.Denoted.{Judged}
use Rattle.ada_rules.specs.Expressions.{itself, judged}
use Rattle.ada_rules.specs.Declarations.{NewValue, any_value, value_for, known_of, value_place, new_value}
use Rattle.ada_entities.specs.declared.fault.Refusal.{Refusal}
use Rattle.ada_entities.specs.Answers.{refusal, Refuses, refused_at, no_memory}
use Rattle.program_walk.specs.ada_phrases.proofs.Parts.{passes_on, in_part}

abbrev any_new : NewValue
any_new = record { value = any_value; known = None }

abbrev found_new : AdaSubtype → Initial → Given Judged → Option (Given NewValue)
found_new t i x = option_map (λ v. given (record { value = v; known = known_of i.others x.value }) x.next) (value_for t i.others x.value)

abbrev then_new : Step → AdaSubtype → Initial → Given Judged → Plan (Given NewValue)
then_new st t i x = typed_rule st (given any_new x.next) (found_new t i x)

module _ (env : Env) (s : State) (p : Pos) (t : AdaSubtype) (i : Initial) where
  abbrev there : Pos
  there = value_place p t i.others

  pub refused_there : (f : Failure Refusal) → Refuses (judged env itself s i.value).answer f → Refuses (new_value env s p t i).answer f
  refused_there f h = in_part there (judged env itself s i.value).answer (then_new env.step t i) f h

  pub named_there : (x : Given Judged) → (judged env itself s i.value).answer ≡ Ok x → env.step ≡ naming
      → (new_value env s p t i).answer ≡ Ok (given any_new x.next)
  named_there x h e =
      passes_on there (judged env itself s i.value).answer (then_new env.step t i) x h
      ∙ ap (λ st. answer_at there (then_new st t i x).outcome) e

  pub typed_there : (x : Given Judged) → (judged env itself s i.value).answer ≡ Ok x → env.step ≡ typing
      → (new_value env s p t i).answer ≡ answer_at (value_place p t i.others) (ruled (found_new t i x))
  typed_there x h e =
      passes_on there (judged env itself s i.value).answer (then_new env.step t i) x h
      ∙ ap (λ st. answer_at there (then_new st t i x).outcome) e

-- a rule on types that nothing meets
pub none_refused : {A B : Type 0} (p : Pos) (g : A → B) (o : Option A) → o ≡ None → Refuses (answer_at p (ruled (option_map g o))) (refusal p)
none_refused p g o h = refused_at (ap (λ x. answer_at p (ruled (option_map g x))) h)

pub ruleset parts = (no_memory)

-- what is ensured of a result that came
pub when_ok : {A E : Type 0} (P : A → Type 0) (r : Result A E) (x : A) → r ≡ Ok x → IfOk r P → P x
when_ok P r x is h = subst (λ y. IfOk y P) is h
