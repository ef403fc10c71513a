-- Choices of handlers, one by one.
use Rattle.std.proofs.Common.{◌≡◌, Bool, true, false, List, [], ◌∷◌, Option, Some, option_map, Result, Ok, refl, ap, ◌∙◌}
use Rattle.cov_base.specs.declared.position.Pos.{Pos}
use Rattle.cov_base.specs.declared.failure.Failure.{Failure}
use Rattle.ada_syntax.specs.Tree.{Name, name_pos}
use Rattle.ada_syntax.specs.declared.statement.ExceptionChoice.{ExceptionChoice}
use Rattle.ada_syntax.specs.declared.statement.ExceptionChoice.TheVariants as taken
use Rattle.ada_meaning.specs.Tree as tree
use Rattle.ada_rules.specs.Plan.{Plan, ◌>>=◌, rule, outcome_after, answer_at}
use Rattle.ada_rules.specs.Environment.{State, Given, given, Env, typed_rule}
use Rattle.ada_rules.specs.Denoted.{Denoted}
use Rattle.ada_rules.specs.Expressions.{denoted}
use Rattle.ada_rules.specs.Statements.{exception_of, where_allowed, caught, all_caught}
use Rattle.ada_entities.specs.declared.fault.Refusal.{Refusal}
use Rattle.ada_entities.specs.Answers.{Refuses}
use Rattle.ada_phrases.proofs.Parts.{passes_on, in_part}
use Rattle.statement_parts.specs.Handlers.{others_choice}
use Rattle.statement_parts.proofs.Ends.{mapped_twice}
use Rattle.statement_parts.proofs.Walks.{IsWalk, listed}

where_mapped : {A B : Type 0} (b : Bool) (f : A → B) (x : A) → where_allowed b (f x) ≡ option_map f (where_allowed b x)
where_mapped true f x = refl
where_mapped false f x = refl

abbrev pub choice_rule : Env → State → Option tree.ExceptionChoice → Plan (Given tree.ExceptionChoice)
choice_rule env s o = typed_rule env.step (given tree.other_exceptions s) (option_map (λ c. given c s) o)

module _ (env : Env) (b : Bool) where
  pub others_is : (s : State) (p : Pos) → (caught env s b (taken.Others p)).answer ≡ answer_at p (choice_rule env s (others_choice b)).outcome
  others_is s p =
      ap (λ o. answer_at p (typed_rule env.step (given tree.other_exceptions s) o).outcome) (where_mapped b (λ c. given c s) tree.other_exceptions)

  -- by name
  abbrev then_named : Given Denoted → Plan (Given tree.ExceptionChoice)
  then_named d =
      typed_rule env.step (given tree.other_exceptions d.next) (option_map (λ e. given (tree.named_exception e) d.next) (exception_of d.value))

  module _ (s : State) (n : Name) where
    pub name_refused : (f : Failure Refusal) → Refuses (denoted env s n).answer f → Refuses (caught env s b (taken.Named n)).answer f
    name_refused f h = in_part (name_pos n) (denoted env s n).answer then_named f h

    pub name_passes : (d : Given Denoted) → (denoted env s n).answer ≡ Ok d
        → (caught env s b (taken.Named n)).answer
        ≡ answer_at (name_pos n) (choice_rule env d.next (option_map tree.named_exception (exception_of d.value))).outcome
    name_passes d h =
        passes_on (name_pos n) (denoted env s n).answer then_named d h
        ∙ ap (λ o. answer_at (name_pos n) (typed_rule env.step (given tree.other_exceptions d.next) o).outcome)
        (mapped_twice tree.named_exception (λ c. given c d.next) (exception_of d.value))

  -- choices in order
  module _ (p : Pos) where
    abbrev pub one : State → ExceptionChoice → Result (Given tree.ExceptionChoice) Pos
    one s c = (caught env s b c).answer

    abbrev pub all : State → List ExceptionChoice → Result (Given (List tree.ExceptionChoice)) Pos
    all s cs = (all_caught env s b p cs).answer

    abbrev then_others : List ExceptionChoice → Given tree.ExceptionChoice → Plan (Given (List tree.ExceptionChoice))
    then_others cs d = all_caught env d.next b p cs >>= (λ ds. rule (Some (given (d.value ∷ ds.value) ds.next)))

    pub choices_walk : IsWalk one (λ c. c ∷ []) all
    choices_walk = record {
      ends = λ s. refl;
      passes = λ s c cs d h. ap (λ r. answer_at p (outcome_after r (then_others cs))) h ∙ listed p d.value (all d.next cs);
      refuses = λ s c cs q h. ap (λ r. answer_at p (outcome_after r (then_others cs))) h;
    }
