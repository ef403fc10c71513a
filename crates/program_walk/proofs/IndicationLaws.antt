-- Subtype indications: a mark, and its constraint.
use Rattle.std.proofs.Common.{◌≡◌, Bool, true, false, if◌then◌else◌, Option, Some, None, option_map, Ok, Err, Result, refl, ap, ◌∙◌}
use Rattle.cov_base.specs.declared.position.Pos.{Pos}
use Rattle.cov_base.specs.declared.failure.Failure.{Failure}
use Rattle.ada_syntax.specs.Tree.{name_pos}
use Rattle.ada_syntax.specs.declared.declaration.Bounds.{Bounds}
use Rattle.ada_syntax.specs.declared.declaration.SubtypeIndication.{SubtypeIndication}
use Rattle.ada_meaning.specs.Types.{Range}
use Rattle.ada_rules.specs.Plan.{Plan, answer_at, outcome_after}
use Rattle.ada_rules.specs.Types.{AdaSubtype, of_type, type_in, range_in, is_scalar, fits}
use Rattle.ada_rules.specs.Environment.{Step, typed_rule, State, Given, given, Env}
use Rattle.ada_rules.specs.Expressions.{Marked, mark_part}
use Rattle.ada_rules.specs.Declarations.{bounded, constrained, constraint_of, indicated}
use Rattle.ada_entities.specs.declared.fault.Refusal.{Refusal}
use Rattle.ada_entities.specs.Answers.{Refuses}
use Rattle.ada_phrases.proofs.Parts.{passes_on, in_part}
use Rattle.program_walk.specs.Subtypes.{constrained_to, narrowing}

where_scalar : (b : Bool) (t : AdaSubtype) (n : State)
    → option_map (λ x. given x n) (if b then Some t else None) ≡ (if b then Some (given t n) else None)
where_scalar true t n = refl
where_scalar false t n = refl

-- the constraint that a mark has, in other words
pub same_narrowing : (env : Env) (m : Given Marked) (p : Pos) (b : Bounds)
    → answer_at p (narrowing env m.next m.value.subtype b).outcome ≡ answer_at p (constraint_of env m (Some b)).outcome
same_narrowing env m p b =
    behind (bounded env m.next (fits (type_in m.value.subtype)) (range_in m.value.subtype) b).answer
  where
    t : AdaSubtype
    t = m.value.subtype

    behind : (o : Result (Given Range) Pos)
        → answer_at p (outcome_after o (λ r. typed_rule env.step (given t r.next) (option_map (λ x. given x r.next) (constrained_to t r.value))))
        ≡ answer_at p (outcome_after o (λ r. typed_rule env.step (given t r.next) (constrained m.value r)))
    behind (Ok r) =
        ap (λ o. answer_at p (typed_rule env.step (given t r.next) o).outcome) (where_scalar (is_scalar (type_in t)) (of_type (type_in t) r.value) r.next)
    behind (Err q) = refl

module _ (env : Env) (s : State) (i : SubtypeIndication) where
  pub mark_refused : (f : Failure Refusal) → Refuses (mark_part env s i.mark).answer f → Refuses (indicated env s i).answer f
  mark_refused f h = in_part (name_pos i.mark) (mark_part env s i.mark).answer (λ m. constraint_of env m i.constraint) f h

  pub mark_passes : (x : Given Marked) (c : Option Bounds) → (mark_part env s i.mark).answer ≡ Ok x → i.constraint ≡ c
      → (indicated env s i).answer ≡ answer_at (name_pos i.mark) (constraint_of env x c).outcome
  mark_passes x c h e =
      passes_on (name_pos i.mark) (mark_part env s i.mark).answer (λ m. constraint_of env m i.constraint) x h
      ∙ ap (λ o. answer_at (name_pos i.mark) (constraint_of env x o).outcome) e

-- a mark, and bounds behind it
abbrev then_narrowed : Step → AdaSubtype → Given Range → Plan (Given AdaSubtype)
then_narrowed st t r = typed_rule st (given t r.next) (option_map (λ x. given x r.next) (constrained_to t r.value))

module _ (env : Env) (s : State) (t : AdaSubtype) (b : Bounds) (p : Pos) where
  pub bounds_refused : (f : Failure Refusal) → Refuses (bounded env s (fits (type_in t)) (range_in t) b).answer f
      → Refuses (answer_at p (narrowing env s t b).outcome) f
  bounds_refused f h = in_part p (bounded env s (fits (type_in t)) (range_in t) b).answer (then_narrowed env.step t) f h

  pub bounds_pass : (r : Given Range) (st : Step) → (bounded env s (fits (type_in t)) (range_in t) b).answer ≡ Ok r → env.step ≡ st
      → answer_at p (narrowing env s t b).outcome ≡ answer_at p (then_narrowed st t r).outcome
  bounds_pass r st h e =
      passes_on p (bounded env s (fits (type_in t)) (range_in t) b).answer (then_narrowed env.step t) r h
      ∙ ap (λ y. answer_at p (then_narrowed y t r).outcome) e
