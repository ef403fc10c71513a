-- Subprogram declarations, of the rules' definitions.
use Rattle.std.proofs.Common.{◌≡◌, ℕ, Option, Some, None, option_map, true, Ok, ap, ◌∙◌}
use Rattle.cov_base.specs.declared.failure.Failure.{Failure}
use Rattle.ada_syntax.specs.declared.unit.Specification.{Specification}
use Rattle.ada_rules.specs.Plan.{Plan, ◌>>=◌, rule, answer_at}
use Rattle.ada_rules.specs.Entities.{key, routine, Region, redefined}
use Rattle.ada_rules.specs.Environment.{State, Given, given, Env, with_local, hide}
use Rattle.ada_rules.specs.Subprograms.{Profile, specified, declared_only, body_number, routine_of, subprogram_declared}
use Rattle.ada_entities.specs.Answers.{refusal, Refuses, refused_at}
use Rattle.ada_entities.specs.declared.fault.Refusal.{Refusal}
use Rattle.ada_phrases.proofs.Parts.{passes_on, in_part, refused_as}

-- what a declaration leaves behind
abbrev pub declared_routine : Env → State → Specification → Region → Given Profile → Given Region
declared_routine env s x region q =
    given (redefined (key x.name) (routine (routine_of env (key x.name) true q.value)) region) (declared_only s q.next)

abbrev at_body : Env → State → Specification → Region → Given Profile → Option ℕ → Plan (Given Region)
at_body env s x region q o = rule (option_map (λ n. declared_routine env s x region q) o)

abbrev then_body : Env → State → Specification → Region → Given Profile → Plan (Given Region)
then_body env s x region q = at_body env s x region q (body_number env.world env.unit_name (key x.name))

abbrev then_specified : Env → State → Specification → Region → Plan (Given Region)
then_specified env s x region = specified (with_local env region) s x >>= then_body env s x region

module _ (env : Env) (s : State) (x : Specification) where
  pub name_refused : (f : Failure Refusal) → Refuses (hide env.local x.name).answer f → Refuses (subprogram_declared env s x).answer f
  name_refused f h = in_part x.pos (hide env.local x.name).answer (then_specified env s x) f h

  module _ (region : Region) (hidden : (hide env.local x.name).answer ≡ Ok region) where
    pub profile_refused : (f : Failure Refusal) → Refuses (specified (with_local env region) s x).answer f → Refuses (subprogram_declared env s x).answer f
    profile_refused f h =
        refused_as _ _ f (passes_on x.pos (hide env.local x.name).answer (then_specified env s x) region hidden)
        (in_part x.pos (specified (with_local env region) s x).answer (then_body env s x region) f h)

    module _ (q : Given Profile) (ok : (specified (with_local env region) s x).answer ≡ Ok q) where
      with_body : (o : Option ℕ) → body_number env.world env.unit_name (key x.name) ≡ o
          → (subprogram_declared env s x).answer ≡ answer_at x.pos (at_body env s x region q o).outcome
      with_body o h =
          passes_on x.pos (hide env.local x.name).answer (then_specified env s x) region hidden
          ∙ (passes_on x.pos (specified (with_local env region) s x).answer (then_body env s x region) q ok
          ∙ ap (λ n. answer_at x.pos (at_body env s x region q n).outcome) h)

      pub no_body : body_number env.world env.unit_name (key x.name) ≡ None → Refuses (subprogram_declared env s x).answer (refusal x.pos)
      no_body h = refused_at (with_body None h)

      pub declared_passes : (n : ℕ) → body_number env.world env.unit_name (key x.name) ≡ Some n
          → (subprogram_declared env s x).answer ≡ Ok (declared_routine env s x region q)
      declared_passes n h = with_body (Some n) h
