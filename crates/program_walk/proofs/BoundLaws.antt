-- Static bounds, one behind the other.
use Rattle.std.proofs.Common.{◌≡◌, Bool, Some, Ok, ◌∙◌}
use Rattle.cov_base.specs.declared.failure.Failure.{Failure}
use Rattle.ada_syntax.specs.Tree.{expr_pos}
use Rattle.ada_syntax.specs.declared.declaration.Bounds.{Bounds}
use Rattle.ada_meaning.specs.Types.{Range}
use Rattle.ada_rules.specs.Plan.{Plan, ◌>>=◌, rule}
use Rattle.ada_rules.specs.Types.{Kind}
use Rattle.ada_rules.specs.Environment.{State, Given, Env}
use Rattle.ada_rules.specs.Expressions.{Valued, static_part}
use Rattle.ada_rules.specs.Declarations.{in_range, ordered, bounded}
use Rattle.ada_entities.specs.declared.fault.Refusal.{Refusal}
use Rattle.ada_entities.specs.Answers.{Refuses}
use Rattle.ada_phrases.proofs.Parts.{passes_on, in_part, refused_as}

abbrev both : Env → Bounds → Given Valued → Given Valued → Plan (Given Range)
both env b low high = rule (Some (ordered env (expr_pos b.low) low.value.value high.value.value high.next))

abbrev then_high : Env → (Kind → Bool) → Range → Bounds → Given Valued → Plan (Given Range)
then_high env accepts r b low = static_part env low.next accepts (in_range r) b.high >>= both env b low

module _ (env : Env) (s : State) (accepts : Kind → Bool) (r : Range) (b : Bounds) where
  pub low_refused : (f : Failure Refusal) → Refuses (static_part env s accepts (in_range r) b.low).answer f → Refuses (bounded env s accepts r b).answer f
  low_refused f h = in_part (expr_pos b.low) (static_part env s accepts (in_range r) b.low).answer (then_high env accepts r b) f h

  module _ (x : Given Valued) (low : (static_part env s accepts (in_range r) b.low).answer ≡ Ok x) where
    pub high_refused : (f : Failure Refusal) → Refuses (static_part env x.next accepts (in_range r) b.high).answer f
        → Refuses (bounded env s accepts r b).answer f
    high_refused f h =
        refused_as _ _ f (passes_on (expr_pos b.low) (static_part env s accepts (in_range r) b.low).answer (then_high env accepts r b) x low)
        (in_part (expr_pos b.low) (static_part env x.next accepts (in_range r) b.high).answer (both env b x) f h)

    pub both_pass : (y : Given Valued) → (static_part env x.next accepts (in_range r) b.high).answer ≡ Ok y
        → (bounded env s accepts r b).answer ≡ Ok (ordered env (expr_pos b.low) x.value.value y.value.value y.next)
    both_pass y high =
        passes_on (expr_pos b.low) (static_part env s accepts (in_range r) b.low).answer (then_high env accepts r b) x low
        ∙ passes_on (expr_pos b.low) (static_part env x.next accepts (in_range r) b.high).answer (both env b x) y high
