-- The name of a type or subtype: it passes with the name, or is refused with it.
use Rattle.std.proofs.Common.{◌≡◌, Option, Some, None, option_map, unwrap_or, Result, Ok, refl, sym, ap, ◌∙◌, subst}
use Rattle.std.specs.Option.{option_and_then, ok_or}
use Rattle.cov_base.specs.declared.position.Pos.{Pos}
use Rattle.cov_base.specs.declared.failure.Failure.{Failure}
use Rattle.ada_syntax.specs.Tree.{Name, name_pos}
use Rattle.ada_rules.specs.Plan.{rule, ruled, outcome_after, answer_at}
use Rattle.ada_rules.specs.Environment.{Step, typed_rule, State, Given, given, Env}
use Rattle.ada_rules.specs.Denoted.{Denoted}
use Rattle.ada_rules.specs.Expressions.{denoted, any_mark, marked, mark_or_any, mark_part, scalar_only, scalar_mark}
use Rattle.ada_entities.specs.declared.fault.Refusal.{Refusal}
use Rattle.ada_entities.specs.Answers.{refusal, Refuses, refused_at, Answers}
use Rattle.ada_phrases.proofs.Parts.{in_part}

module _ (env : Env) (s : State) (n : Name) where
  pub mark_passes : (st : Step) (d : Given Denoted) → env.step ≡ st → (denoted env s n).answer ≡ Ok d
      → (mark_part env s n).answer ≡ answer_at (name_pos n) (ruled (option_map (λ m. given m d.next) (mark_or_any st d.value)))
  mark_passes st d h ok =
      ap (λ r. answer_at (name_pos n) (outcome_after r (λ d. rule (option_map (λ m. given m d.next) (mark_or_any env.step d.value))))) ok
      ∙ ap (λ t. answer_at (name_pos n) (ruled (option_map (λ m. given m d.next) (mark_or_any t d.value)))) h

  pub mark_refused : (f : Failure Refusal) → Refuses (denoted env s n).answer f → Refuses (mark_part env s n).answer f
  mark_refused f r =
      in_part (name_pos n) (denoted env s n).answer (λ d. rule (option_map (λ m. given m d.next) (mark_or_any env.step d.value))) f r

  pub scalar_passes : (st : Step) (d : Given Denoted) → env.step ≡ st → (denoted env s n).answer ≡ Ok d
      → (scalar_mark env s n).answer
      ≡ answer_at (name_pos n) (typed_rule st (given (unwrap_or (marked d.value) any_mark) d.next)
      (option_map (λ m. given m d.next) (option_and_then scalar_only (marked d.value)))).outcome
  scalar_passes st d h ok =
      ap (λ r. answer_at (name_pos n) (outcome_after r (λ d. typed_rule env.step (given (unwrap_or (marked d.value) any_mark) d.next)
      (option_map (λ m. given m d.next) (option_and_then scalar_only (marked d.value)))))) ok
      ∙ ap (λ t. answer_at (name_pos n) (typed_rule t (given (unwrap_or (marked d.value) any_mark) d.next)
      (option_map (λ m. given m d.next) (option_and_then scalar_only (marked d.value)))).outcome) h

  pub scalar_refused : (f : Failure Refusal) → Refuses (denoted env s n).answer f → Refuses (scalar_mark env s n).answer f
  scalar_refused f r =
      in_part (name_pos n) (denoted env s n).answer (λ d. typed_rule env.step (given (unwrap_or (marked d.value) any_mark) d.next)
      (option_map (λ m. given m d.next) (option_and_then scalar_only (marked d.value)))) f r

-- what a rule gives, where something is asked for
pub asked_for : {A B : Type 0} (view : A → B) (s : State) (p : Pos) (found : Option A) (o : Option B) (r : Result A (Failure Refusal))
    → option_map view found ≡ o → r ≡ ok_or found (refusal p)
    → Answers (λ x. given (view x) s) (answer_at p (ruled (option_map (λ x. given x s) o))) r
asked_for {A = A} view s p found o r e is =
    subst (λ x. Answers (λ y. given (view y) s) (answer_at p (ruled (option_map (λ y. given y s) o))) x) (sym is)
    (subst (λ x. Answers (λ y. given (view y) s) (answer_at p (ruled (option_map (λ y. given y s) x))) (ok_or found (refusal p))) e (each found))
  where
    each : (found : Option A) → Answers (λ y. given (view y) s) (answer_at p (ruled (option_map (λ y. given y s) (option_map view found)))) (ok_or found (refusal p))
    each None = refused_at refl
    each (Some x) = refl
