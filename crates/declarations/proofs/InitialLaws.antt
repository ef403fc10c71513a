-- Initial values of objects of the library level, in both steps.
use Rattle.std.proofs.Common.{◌≡◌, true, option_map, Ok, ap, ◌∙◌, subst}
use Rattle.cov_base.specs.declared.position.Pos.{Pos}
use Rattle.cov_base.specs.declared.failure.Failure.{Failure}
use Rattle.ada_meaning.specs.Types.{Range}
use Rattle.ada_syntax.specs.declared.declaration.Initial.{Initial}
use Rattle.ada_rules.specs.Plan.{Plan, answer_at}
use Rattle.ada_rules.specs.Types.{AdaSubtype, range_in}
use Rattle.ada_rules.specs.Environment.{Step, typed_rule, State, Given, given, Env}
use Rattle.ada_rules.specs.Expressions.{Valued, static_part}
use Rattle.ada_rules.specs.Declarations.{in_range, innermost, initial_for, value_place, LibraryValue, library_value, no_library_value}
use Rattle.ada_entities.specs.declared.fault.Refusal.{Refusal}
use Rattle.ada_entities.specs.Answers.{Refuses, no_memory}
use Rattle.ada_phrases.proofs.Parts.{passes_on, in_part}
use Rattle.declarations.specs.Initials.{with_known}

abbrev then_value : Step → AdaSubtype → Initial → Given Valued → Plan (Given LibraryValue)
then_value st t i x = typed_rule st (given no_library_value x.next) (option_map (with_known i.others x.value x.next) (initial_for t i.others x.value))

module _ (env : Env) (s : State) (p : Pos) (t : AdaSubtype) (i : Initial) (r : Range) (e : r ≡ range_in (innermost t i.others)) where
  abbrev there : Pos
  there = value_place p t i.others

  pub value_refused : (f : Failure Refusal) → Refuses (static_part env s (λ k. true) (in_range r) i.value).answer f
      → Refuses (library_value env s p t i).answer f
  value_refused f h =
      in_part there (static_part env s (λ k. true) (in_range (range_in (innermost t i.others))) i.value).answer (then_value env.step t i) f
      (subst (λ q. Refuses (static_part env s (λ k. true) (in_range q) i.value).answer f) e h)

  pub value_passes : (x : Given Valued) (st : Step) → (static_part env s (λ k. true) (in_range r) i.value).answer ≡ Ok x → env.step ≡ st
      → (library_value env s p t i).answer ≡ answer_at (value_place p t i.others) (then_value st t i x).outcome
  value_passes x st h is =
      passes_on there (static_part env s (λ k. true) (in_range (range_in (innermost t i.others))) i.value).answer (then_value env.step t i) x
      (subst (λ q. (static_part env s (λ k. true) (in_range q) i.value).answer ≡ Ok x) e h)
      ∙ ap (λ y. answer_at there (then_value y t i x).outcome) is

pub ruleset parts = (no_memory)
