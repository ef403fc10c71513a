-- Ranges of indices: two bounds, one behind the other, and a mark.
use Rattle.std.proofs.Common.{◌≡◌, Option, None, Some, option_map, Ok, ap, subst, ◌∙◌}
use Rattle.cov_base.specs.declared.position.Pos.{Pos}
use Rattle.cov_base.specs.declared.failure.Failure.{Failure}
use Rattle.ada_syntax.specs.Tree.{Name, expr_pos, name_pos}
use Rattle.ada_syntax.specs.declared.declaration.Bounds.{Bounds}
use Rattle.ada_syntax.specs.declared.declaration.DiscreteRange.TheVariants as discrete
use Rattle.ada_meaning.specs.Types.{Range}
use Rattle.ada_rules.specs.Plan.{Plan, ◌>>=◌, rule, ruled, answer_at}
use Rattle.ada_rules.specs.Types.{AdaSubtype, base, integer_subtype, is_discrete, common}
use Rattle.ada_rules.specs.Environment.{Step, typed_rule, State, Given, given, Env}
use Rattle.ada_rules.specs.Expressions.{Valued, static_part, Marked, scalar_mark}
use Rattle.ada_rules.specs.Declarations.{in_range, index_between, index_of}
use Rattle.ada_entities.specs.declared.fault.Refusal.{Refusal}
use Rattle.ada_entities.specs.Answers.{refusal, Refuses, refused_at}
use Rattle.ada_phrases.proofs.Parts.{passes_on, in_part, refused_as}

pub none_refused : {A B : Type 0} (p : Pos) (f : A → B) (o : Option A) → o ≡ None → Refuses (answer_at p (ruled (option_map f o))) (refusal p)
none_refused p f o h = refused_at (ap (λ x. answer_at p (ruled (option_map f x))) h)

pub some_passes : {A B : Type 0} (p : Pos) (f : A → B) (o : Option A) (x : A) → o ≡ Some x → answer_at p (ruled (option_map f o)) ≡ Ok (f x)
some_passes p f o x h = ap (λ y. answer_at p (ruled (option_map f y))) h

abbrev both : Step → Env → Bounds → Given Valued → Given Valued → Plan (Given AdaSubtype)
both st env b low high =
    typed_rule st (given integer_subtype high.next) (option_map (index_between env (expr_pos b.low) low high) (common low.value.kind high.value.kind))

abbrev then_high : Env → Bounds → Given Valued → Plan (Given AdaSubtype)
then_high env b low = static_part env low.next is_discrete (in_range base) b.high >>= both env.step env b low

module _ (env : Env) (s : State) (b : Bounds) (r : Range) (e : r ≡ base) where
  pub low_refused : (f : Failure Refusal) → Refuses (static_part env s is_discrete (in_range r) b.low).answer f
      → Refuses (index_of env s (discrete.Bounds b)).answer f
  low_refused f h =
      in_part (expr_pos b.low) (static_part env s is_discrete (in_range base) b.low).answer (then_high env b) f
      (subst (λ q. Refuses (static_part env s is_discrete (in_range q) b.low).answer f) e h)

  module _ (x : Given Valued) (low : (static_part env s is_discrete (in_range r) b.low).answer ≡ Ok x) where
    low_passes : (index_of env s (discrete.Bounds b)).answer ≡ answer_at (expr_pos b.low) (then_high env b x).outcome
    low_passes =
        passes_on (expr_pos b.low) (static_part env s is_discrete (in_range base) b.low).answer (then_high env b) x
        (subst (λ q. (static_part env s is_discrete (in_range q) b.low).answer ≡ Ok x) e low)

    pub high_refused : (f : Failure Refusal) → Refuses (static_part env x.next is_discrete (in_range r) b.high).answer f
        → Refuses (index_of env s (discrete.Bounds b)).answer f
    high_refused f h =
        refused_as _ _ f low_passes
        (in_part (expr_pos b.low) (static_part env x.next is_discrete (in_range base) b.high).answer (both env.step env b x) f
        (subst (λ q. Refuses (static_part env x.next is_discrete (in_range q) b.high).answer f) e h))

    pub both_pass : (y : Given Valued) (st : Step) → (static_part env x.next is_discrete (in_range r) b.high).answer ≡ Ok y → env.step ≡ st
        → (index_of env s (discrete.Bounds b)).answer ≡ answer_at (expr_pos b.low) (both st env b x y).outcome
    both_pass y st high is =
        low_passes
        ∙ passes_on (expr_pos b.low) (static_part env x.next is_discrete (in_range base) b.high).answer (both env.step env b x) y
        (subst (λ q. (static_part env x.next is_discrete (in_range q) b.high).answer ≡ Ok y) e high)
        ∙ ap (λ t. answer_at (expr_pos b.low) (both t env b x y).outcome) is

abbrev by_mark : Given Marked → Plan (Given AdaSubtype)
by_mark m = rule (Some (given m.value.subtype m.next))

module _ (env : Env) (s : State) (n : Name) where
  pub mark_refused : (f : Failure Refusal) → Refuses (scalar_mark env s n).answer f → Refuses (index_of env s (discrete.Mark n)).answer f
  mark_refused f h = in_part (name_pos n) (scalar_mark env s n).answer by_mark f h

  pub mark_passes : (x : Given Marked) → (scalar_mark env s n).answer ≡ Ok x
      → (index_of env s (discrete.Mark n)).answer ≡ Ok (given x.value.subtype x.next)
  mark_passes x h = passes_on (name_pos n) (scalar_mark env s n).answer by_mark x h
