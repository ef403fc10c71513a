-- Choices of case statements, one by one.
use Rattle.std.proofs.Common.{◌≡◌, List, [], ◌∷◌, Some, Result, Ok, refl, ap, ◌∙◌}
use Rattle.cov_base.specs.declared.position.Pos.{Pos}
use Rattle.cov_base.specs.declared.failure.Failure.{Failure}
use Rattle.ada_syntax.specs.Tree.{Expr, expr_pos}
use Rattle.ada_syntax.specs.declared.declaration.Bounds.{Bounds}
use Rattle.ada_syntax.specs.declared.statement.Choice.{Choice}
use Rattle.ada_syntax.specs.declared.statement.Choice.TheVariants as choice
use Rattle.ada_meaning.specs.Tree as tree
use Rattle.ada_rules.specs.Plan.{Plan, ◌>>=◌, rule, outcome_after, answer_at}
use Rattle.ada_rules.specs.Types.{fits}
use Rattle.ada_rules.specs.Statics.{in_order}
use Rattle.ada_rules.specs.Environment.{State, Given, given, Env, demanded}
use Rattle.ada_rules.specs.Expressions.{Valued, static_part}
use Rattle.ada_rules.specs.Statements.{Selector, among, chosen, all_chosen}
use Rattle.ada_entities.specs.declared.fault.Refusal.{Refusal}
use Rattle.ada_entities.specs.Answers.{Refuses}
use Rattle.ada_phrases.proofs.Parts.{passes_on, in_part, refused_as}
use Rattle.statement_parts.proofs.Walks.{IsWalk, listed}

module _ (env : Env) (x : Selector) where
  abbrev named_part : State → Expr → Result (Given Valued) Pos
  named_part s e = (static_part env s (fits x.type) (among x.values) e).answer

  -- one value
  abbrev then_value : Given Valued → Plan (Given tree.Choice)
  then_value v = rule (Some (given (tree.value_choice v.value.value) v.next))

  module _ (s : State) (e : Expr) where
    pub value_refused : (f : Failure Refusal) → Refuses (named_part s e) f → Refuses (chosen env s x (choice.Value e)).answer f
    value_refused f h = in_part (expr_pos e) (named_part s e) then_value f h

    pub value_passes : (v : Given Valued) → named_part s e ≡ Ok v
        → (chosen env s x (choice.Value e)).answer ≡ Ok (given (tree.value_choice v.value.value) v.next)
    value_passes v h = passes_on (expr_pos e) (named_part s e) then_value v h

  -- the values between two bounds
  abbrev ranged : Bounds → Given Valued → Given Valued → Given tree.Choice
  ranged b low high =
      given (tree.range_choice low.value.value high.value.value)
      (demanded env (expr_pos b.low) (in_order low.value.value high.value.value) high.next)

  abbrev then_range : Bounds → Given Valued → Given Valued → Plan (Given tree.Choice)
  then_range b low high = rule (Some (ranged b low high))

  abbrev then_high : Bounds → Given Valued → Plan (Given tree.Choice)
  then_high b low = static_part env low.next (fits x.type) (among x.values) b.high >>= then_range b low

  module _ (s : State) (b : Bounds) where
    pub low_refused : (f : Failure Refusal) → Refuses (named_part s b.low) f → Refuses (chosen env s x (choice.Range b)).answer f
    low_refused f h = in_part (expr_pos b.low) (named_part s b.low) (then_high b) f h

    module _ (low : Given Valued) (h : named_part s b.low ≡ Ok low) where
      pub high_refused : (f : Failure Refusal) → Refuses (named_part low.next b.high) f → Refuses (chosen env s x (choice.Range b)).answer f
      high_refused f g =
          refused_as _ _ f (passes_on (expr_pos b.low) (named_part s b.low) (then_high b) low h)
          (in_part (expr_pos b.low) (named_part low.next b.high) (then_range b low) f g)

      pub range_passes : (high : Given Valued) → named_part low.next b.high ≡ Ok high
          → (chosen env s x (choice.Range b)).answer ≡ Ok (ranged b low high)
      range_passes high g =
          passes_on (expr_pos b.low) (named_part s b.low) (then_high b) low h
          ∙ passes_on (expr_pos b.low) (named_part low.next b.high) (then_range b low) high g

  -- choices in order
  module _ (p : Pos) where
    abbrev pub one : State → Choice → Result (Given tree.Choice) Pos
    one s c = (chosen env s x c).answer

    abbrev pub all : State → List Choice → Result (Given (List tree.Choice)) Pos
    all s cs = (all_chosen env s x p cs).answer

    abbrev then_others : List Choice → Given tree.Choice → Plan (Given (List tree.Choice))
    then_others cs d = all_chosen env d.next x p cs >>= (λ ds. rule (Some (given (d.value ∷ ds.value) ds.next)))

    pub choices_walk : IsWalk one (λ c. c ∷ []) all
    choices_walk = record {
      ends = λ s. refl;
      passes = λ s c cs d h. ap (λ r. answer_at p (outcome_after r (then_others cs))) h ∙ listed p d.value (all d.next cs);
      refuses = λ s c cs q h. ap (λ r. answer_at p (outcome_after r (then_others cs))) h;
    }
