-- What a rule on types gives at the end of a construct, seen through another function.
use Rattle.std.proofs.Common.{◌≡◌, Option, Some, None, option_map, Result, refl, sym, subst}
use Rattle.cov_base.specs.declared.position.Pos.{Pos}
use Rattle.cov_base.specs.declared.failure.Failure.{Failure}
use Rattle.ada_rules.specs.Plan.{answer_at}
use Rattle.ada_rules.specs.Environment as rules
use Rattle.ada_rules.specs.Environment.{State, given, typed_rule}
use Rattle.ada_entities.specs.declared.fault.Refusal.{Refusal}
use Rattle.ada_entities.specs.Answers.{refusal, refused_at, no_memory, Answers}
use Rattle.ada_phrases.specs.declared.scope.Step.{Step}
use Rattle.ada_phrases.specs.declared.scope.Step.TheVariants as step
use Rattle.ada_phrases.specs.Answers.{typed_answer}
use Rattle.ada_phrases.specs.Scopes.{step_of}

module _ {A B C : Type 0} (view : A → B) (g : B → C) (n : State) (p : Pos) where
  in_step : (own : Step) (anything : A) (found : Option A)
      → Answers (λ x. given (g (view x)) n)
      (answer_at p (typed_rule (step_of own) (given (g (view anything)) n) (option_map (λ x. given (g x) n) (option_map view found))).outcome)
      (typed_answer own p anything found)
  in_step step.Naming anything found = refl
  in_step step.Typing anything None = refused_at refl
  in_step step.Typing anything (Some x) = refl

  pub gives_as : (st : rules.Step) (own : Step) (anything : A) (found : Option A) (b : C) (o : Option B) (r : Result A (Failure Refusal))
      → st ≡ step_of own → g (view anything) ≡ b → option_map view found ≡ o → r ≡ typed_answer own p anything found
      → Answers (λ x. given (g (view x)) n) (answer_at p (typed_rule st (given b n) (option_map (λ x. given (g x) n) o)).outcome) r
  gives_as st own anything found b o r s e h is =
      subst (λ x. Answers (λ x. given (g (view x)) n) (answer_at p (typed_rule st (given b n) (option_map (λ x. given (g x) n) o)).outcome) x) (sym is)
      (subst (λ t. Answers (λ x. given (g (view x)) n) (answer_at p (typed_rule t (given b n) (option_map (λ x. given (g x) n) o)).outcome) (typed_answer own p anything found)) (sym s)
      (subst (λ y. Answers (λ x. given (g (view x)) n) (answer_at p (typed_rule (step_of own) (given y n) (option_map (λ x. given (g x) n) o)).outcome) (typed_answer own p anything found)) e
      (subst (λ y. Answers (λ x. given (g (view x)) n) (answer_at p (typed_rule (step_of own) (given (g (view anything)) n) (option_map (λ x. given (g x) n) y)).outcome) (typed_answer own p anything found)) h
      (in_step own anything found))))

pub mapped_twice : {A B C : Type 0} (f : A → B) (g : B → C) (o : Option A) → option_map (λ x. g (f x)) o ≡ option_map g (option_map f o)
mapped_twice f g None = refl
mapped_twice f g (Some x) = refl

pub ruleset parts = (no_memory)
