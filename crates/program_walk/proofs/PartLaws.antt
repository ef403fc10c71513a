-- Expressions that have to be static, in both steps.
use Rattle.std.proofs.Common.{◌≡◌, Bool, true, false, Option, Some, None, Ok, ap, ◌∙◌}
use Rattle.std.specs.Option.{option_and_then}
use Rattle.cov_base.specs.declared.position.Pos.{Pos}
use Rattle.cov_base.specs.declared.failure.Failure.{Failure}
use Rattle.ada_syntax.specs.Tree as source
use Rattle.ada_syntax.specs.Tree.{expr_pos}
use Rattle.ada_meaning.specs.Types.{Static}
use Rattle.ada_rules.specs.Plan.{Plan, ruled, answer_at}
use Rattle.ada_rules.specs.Types.{Kind}
use Rattle.ada_rules.specs.Statics.{Test}
use Rattle.ada_rules.specs.Environment.{Step, naming, typing, typed_rule, State, Given, given, map_given, Env, demanded}
use Rattle.ada_rules.specs.Denoted.{Judged}
use Rattle.ada_rules.specs.Expressions.{itself, judged, Valued, any_valued, static_known, accepted, static_part}
use Rattle.ada_entities.specs.declared.fault.Refusal.{Refusal}
use Rattle.ada_entities.specs.Answers.{refusal, Refuses, refused_at, no_memory}
use Rattle.ada_phrases.proofs.Parts.{passes_on, in_part}
use Rattle.program_walk.specs.Parts.{demanded_value}

abbrev wanted : Env → Pos → (Kind → Bool) → (Static → Test) → Given Judged → Option (Given Valued)
wanted env p accepts test x = option_and_then (accepted env x.next p accepts test x.value) x.value.known

abbrev then_part : Step → Env → Pos → (Kind → Bool) → (Static → Test) → Given Judged → Plan (Given Valued)
then_part st env p accepts test x = typed_rule st (given any_valued x.next) (wanted env p accepts test x)

module _ (env : Env) (s : State) (accepts : Kind → Bool) (test : Static → Test) (e : source.Expr) where
  pub refused_there : (f : Failure Refusal) → Refuses (judged env itself s e).answer f → Refuses (static_part env s accepts test e).answer f
  refused_there f h = in_part (expr_pos e) (judged env itself s e).answer (then_part env.step env (expr_pos e) accepts test) f h

  pub named_there : (x : Given Judged) → (judged env itself s e).answer ≡ Ok x → env.step ≡ naming
      → (static_part env s accepts test e).answer ≡ Ok (given any_valued x.next)
  named_there x h st =
      passes_on (expr_pos e) (judged env itself s e).answer (then_part env.step env (expr_pos e) accepts test) x h
      ∙ ap (λ y. answer_at (expr_pos e) (then_part y env (expr_pos e) accepts test x).outcome) st

  pub typed_there : (x : Given Judged) → (judged env itself s e).answer ≡ Ok x → env.step ≡ typing
      → (static_part env s accepts test e).answer ≡ answer_at (expr_pos e) (ruled (wanted env (expr_pos e) accepts test x))
  typed_there x h st =
      passes_on (expr_pos e) (judged env itself s e).answer (then_part env.step env (expr_pos e) accepts test) x h
      ∙ ap (λ y. answer_at (expr_pos e) (then_part y env (expr_pos e) accepts test x).outcome) st

-- what has no static value, what is of another type, and what is accepted
pub unknown_refused : {A B : Type 0} (p : Pos) (f : A → Option B) (o : Option A) → o ≡ None
    → Refuses (answer_at p (ruled (option_and_then f o))) (refusal p)
unknown_refused p f o h = refused_at (ap (λ x. answer_at p (ruled (option_and_then f x))) h)

module _ (env : Env) (s : State) (p : Pos) (b : Bool) (x : Kind) (test : Static → Test) (known : Option Static) (e : Static) (h : known ≡ Some e) where
  pub other_refused : b ≡ false → Refuses (answer_at p (ruled (option_and_then (demanded_value env s p b x test) known))) (refusal p)
  other_refused other =
      refused_at (ap (λ o. answer_at p (ruled (option_and_then (demanded_value env s p b x test) o))) h
      ∙ ap (λ y. answer_at p (ruled (demanded_value env s p y x test e))) other)

  pub accepted_value : (v : Static) (n : State) → b ≡ true → static_known env e (demanded env p (test e) s) ≡ given v n
      → answer_at p (ruled (option_and_then (demanded_value env s p b x test) known)) ≡ Ok (given (record { value = v; kind = x }) n)
  accepted_value v n own is =
      ap (λ o. answer_at p (ruled (option_and_then (demanded_value env s p b x test) o))) h
      ∙ ap (λ y. answer_at p (ruled (demanded_value env s p y x test e))) own
      ∙ ap (λ (g : Given Static). Ok (map_given (λ w. record { value = w; kind = x }) g)) is

pub ruleset parts = (no_memory)
