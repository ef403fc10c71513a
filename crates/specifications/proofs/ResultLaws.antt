-- Results of functions, of the rules' definitions.
use Rattle.std.proofs.Common.{◌≡◌, Bool, true, false, ◌&&◌, List, [], ◌∷◌, Option, Some, None, option_map, Ok, refl, sym, ap, ◌∙◌, if◌then◌else◌}
use Rattle.std.specs.List.{list_all}
use Rattle.cov_base.specs.declared.position.Pos.{Pos}
use Rattle.cov_base.specs.declared.failure.Failure.{Failure}
use Rattle.ada_syntax.specs.Tree.{Name}
use Rattle.ada_meaning.specs.Types.{here}
use Rattle.ada_tree.specs.Programs.{mode_of}
use Rattle.ada_rules.specs.Plan.{Plan, answer_at}
use Rattle.ada_rules.specs.Types.{type_in, is_scalar}
use Rattle.ada_rules.specs.Entities as rules
use Rattle.ada_rules.specs.Entities.{Region}
use Rattle.ada_rules.specs.Environment as rules_step
use Rattle.ada_rules.specs.Environment.{typed_rule, State, Given, given, Env, with_local}
use Rattle.ada_rules.specs.Expressions.{Marked, mark_part}
use Rattle.ada_rules.specs.Subprograms.{Profile, is_in, is_function_profile, as_result, with_result, result_judged}
use Rattle.ada_entities.specs.Answers.{Refuses, Answers}
use Rattle.ada_entities.specs.declared.fault.Refusal.{Refusal}
use Rattle.ada_entities.specs.declared.routines.Parameter.{Parameter}
use Rattle.ada_entities.specs.declared.routines.ResultMark.{ResultMark}
use Rattle.ada_entities.specs.EntityViews.{Tables}
use Rattle.ada_entities.specs.RoutineViews.{result_of}
use Rattle.ada_phrases.specs.declared.scope.Step.{Step}
use Rattle.ada_phrases.specs.declared.scope.Step.TheVariants as step
use Rattle.ada_phrases.specs.Answers.{typed_answer}
use Rattle.ada_phrases.specs.Scopes.{step_of}
use Rattle.ada_phrases.proofs.Parts.{passes_on, in_part, by_type, answers_as}
use Rattle.program_walk.specs.declared.marks.Marked.{Marked as CodeMark}
use Rattle.program_walk.specs.Marks.{marked_of}
use Rattle.specifications.specs.Profiles.{parameters_of}
use Rattle.specifications.specs.Results.{function_mark, profile_with}

pub picked : {A B : Type 0} (c : Bool) (f : A → B) (x : A) → (if c then Some (f x) else None) ≡ option_map f (if c then Some x else None)
picked true f x = refl
picked false f x = refl

pub seen_through : {A B C : Type 0} (f : A → B) (g : B → C) (o : Option A) → option_map (λ x. g (f x)) o ≡ option_map g (option_map f o)
seen_through f g None = refl
seen_through f g (Some x) = refl

-- a function's result, as a part of its specification
abbrev pub ruled_result : rules_step.Step → Given Profile → Given Marked → Plan (Given Profile)
ruled_result st q t = typed_rule st (with_result q t) (if is_function_profile q.value.parameters t.value then Some (with_result q t) else None)

module _ (env : Env) (p : Pos) (q : Given Profile) (n : Name) where
  pub mark_refused : (f : Failure Refusal) → Refuses (mark_part (with_local env q.value.region) q.next n).answer f
      → Refuses (answer_at p (result_judged env q (Some n)).outcome) f
  mark_refused f h = in_part p (mark_part (with_local env q.value.region) q.next n).answer (ruled_result env.step q) f h

  pub mark_passes : (t : Given Marked) (own : Step) → env.step ≡ step_of own
      → (mark_part (with_local env q.value.region) q.next n).answer ≡ Ok t
      → answer_at p (result_judged env q (Some n)).outcome ≡ answer_at p (ruled_result (step_of own) q t).outcome
  mark_passes t own step_is h =
      passes_on p (mark_part (with_local env q.value.region) q.next n).answer (ruled_result env.step q) t h
      ∙ (λ z. answer_at p (ruled_result (step_is z) q t).outcome)

-- the profile of a function
abbrev pub function_profile : Tables → Region → List Parameter → CodeMark → Profile
function_profile k region qs m = record { parameters = parameters_of k here qs; result = Some (as_result (marked_of k m)); region = region }

abbrev pub anything : CodeMark → ResultMark
anything m = record { mark = m.identity; subtype = m.subtype }

-- the rule on results
pub rule_seen : (k : Tables) (region : Region) (qs : List Parameter) (m : CodeMark) (s : State) (p : Pos) (found : Option ResultMark)
    → option_map (result_of k.types) found ≡ function_mark (parameters_of k here qs) (marked_of k m)
    → Answers (λ r. given (profile_with k region qs (Some r)) s)
    (answer_at p (typed_rule (step_of step.Typing)
    (given (function_profile k region qs m) s)
    (if is_function_profile (parameters_of k here qs) (marked_of k m) then Some (given (function_profile k region qs m) s) else None)).outcome)
    (typed_answer step.Typing p (anything m) found)
rule_seen k region qs m s p found h =
    let c : Bool = is_function_profile (parameters_of k here qs) (marked_of k m) in
    let whole : rules.Parameter → Profile = λ r. record { parameters = parameters_of k here qs; result = Some r; region = region } in
    answers_as (λ r. given (profile_with k region qs (Some r)) s) _ _ (typed_answer step.Typing p (anything m) found)
    (ap (λ o. answer_at p (typed_rule (step_of step.Typing) (given (function_profile k region qs m) s) o).outcome)
    (picked c (λ (q : Profile). given q s) (function_profile k region qs m)))
    (by_type (λ r. profile_with k region qs (Some r)) s (step_of step.Typing) step.Typing p (anything m) found (function_profile k region qs m)
    (if c then Some (function_profile k region qs m) else None) refl refl
    (seen_through (result_of k.types) whole found ∙ (ap (option_map whole) h ∙ sym (picked c whole (as_result (marked_of k m))))))

-- parameters of mode `in`, and a scalar result
in_seen : (k : Tables) (qs : List Parameter) → list_all (λ q. is_in (mode_of q.mode)) qs ≡ list_all (λ q. is_in q.mode) (parameters_of k here qs)
in_seen k [] = refl
in_seen k (q ∷ qs) = ap (λ b. is_in (mode_of q.mode) && b) (in_seen k qs)

pub function_parts : (k : Tables) (qs : List Parameter) (m : CodeMark) (a b : Bool) → a ≡ list_all (λ q. is_in (mode_of q.mode)) qs
    → b ≡ is_scalar (type_in (marked_of k m).subtype) → (a && b) ≡ is_function_profile (parameters_of k here qs) (marked_of k m)
function_parts k qs m a b h g = λ z. (h ∙ in_seen k qs) z && g z
