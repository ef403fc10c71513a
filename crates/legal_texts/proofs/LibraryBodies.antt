-- The body of a library subprogram, part by part.
use Rattle.std.proofs.Common.{◌≡◌, ℕ, false, [], Some, Ok, ap, ◌∙◌}
use Rattle.ada_syntax.specs.declared.unit.SubprogramBody.{SubprogramBody}
use Rattle.ada_syntax.specs.declared.unit.Unit.{Unit as LibraryUnit}
use Rattle.ada_rules.specs.Entities.{key}
use Rattle.ada_rules.specs.Environment.{typing, World, interface_of, State, Given, Env}
use Rattle.ada_rules.specs.Library.{Library}
use Rattle.ada_rules.specs.Plan.{◌>>=◌, rule}
use Rattle.ada_rules.specs.Subprograms.{Profile, specified, body_judged}
use Rattle.ada_rules.specs.Units.{env_of, at_unit, seen_in, subprogram_body, routine_entity}
use Rattle.legal_programs.proofs.Adding.{adds_both, Add}
use Rattle.legal_programs.proofs.Extending.{specified_adds}
use Rattle.legal_programs.proofs.ExtendingUnits.{adds_at_unit}
use Rattle.legal_programs.proofs.Passed.{of_ok, passed_part, passed_rule}
use Rattle.legal_texts.proofs.InterfaceWalk.{same_some}
use Rattle.legal_texts.proofs.MadeBodies.{IsMade, judged_made}

-- where a body of a library subprogram stands
abbrev pub body_env : Library → World → ℕ → LibraryUnit → SubprogramBody → Env
body_env l w n u b =
    record (env_of typing w n (key b.specification.name) (seen_in w l u (routine_entity (interface_of w n)))) { is_library = false }

-- a body that was looked at
pub record IsBodyAt (env : Env) (b : SubprogramBody) (s t : State) : Type 0 where
  pub profile : Given Profile
  pub specifies : (specified env (at_unit s) b.specification).answer ≡ Ok profile
  pub judged : (body_judged env s b [] [] profile).answer ≡ Ok t
  pub made : IsMade env.generic profile.value s t

pub body_at : (env : Env) → env.step ≡ typing → (b : SubprogramBody) (s t : State) → (subprogram_body env s b).answer ≡ Ok t → IsBodyAt env b s t
body_at env step b s t h =
    let first = passed_part b.specification.pos (specified env (at_unit s) b.specification).answer (λ q. body_judged env s b [] [] q >>= (λ next. rule (Some next))) t h in
    let q = first.value in
    let second = passed_part b.specification.pos (body_judged env s b [] [] q).answer (λ next. rule (Some next)) t first.rest in
    let judged : (body_judged env s b [] [] q).answer ≡ Ok t = second.is ∙ ap (λ r. Ok r) (same_some (passed_rule b.specification.pos (Some second.value) t second.rest)) in
    let adds = of_ok (Add (at_unit s)) (specified env (at_unit s) b.specification).answer q first.is (specified_adds env (at_unit s) b.specification) in
    record {
      profile = q;
      specifies = first.is;
      judged = judged;
      made = of_ok (IsMade env.generic q.value s) (body_judged env s b [] [] q).answer t judged
          (judged_made env step s b [] [] q (adds_both s (at_unit s) q.next (adds_at_unit s) adds));
    }
