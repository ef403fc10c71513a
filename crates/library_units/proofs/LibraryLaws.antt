-- Bodies of library subprograms, of the rules' definitions.
use Rattle.std.proofs.Common.{◌≡◌, false, [], ◌∷◌, Some, Ok, sym, ap, ◌∙◌, if◌then◌else◌}
use Rattle.cov_base.specs.declared.failure.Failure.{Failure}
use Rattle.ada_syntax.specs.declared.unit.SubprogramBody.{SubprogramBody}
use Rattle.ada_rules.specs.Plan.{Plan, ◌>>=◌, rule, answer_at}
use Rattle.ada_rules.specs.Environment.{State, Given, Env, with_local}
use Rattle.ada_rules.specs.Subprograms.{Profile, specified, body_judged}
use Rattle.ada_rules.specs.Units.{at_unit, subprogram_body}
use Rattle.ada_entities.specs.Answers.{Refuses}
use Rattle.ada_entities.specs.declared.fault.Refusal.{Refusal}
use Rattle.ada_entities.specs.RegionCode.{innermost, enclosing}
use Rattle.ada_phrases.proofs.Parts.{passes_on, in_part, refused_as}
use Rattle.program_walk.specs.declared.symbols.Symbols.{Symbols}
use Rattle.program_walk.specs.Changes.{IsOpen, Becomes}
use Rattle.program_walk.proofs.InsideLaws.{grows_inside, grows_itself}

module _ (env : Env) (before : State) (b : SubprogramBody) where
  abbrev at_end : State → Plan State
  at_end next = rule (Some next)

  abbrev then_body : Given Profile → Plan State
  then_body q = body_judged env before b [] [] q >>= at_end

  pub profile_refused : (f : Failure Refusal) → Refuses (specified env (at_unit before) b.specification).answer f
      → Refuses (subprogram_body env before b).answer f
  profile_refused f h = in_part b.specification.pos (specified env (at_unit before) b.specification).answer then_body f h

  module _ (q : Given Profile) (given_there : (specified env (at_unit before) b.specification).answer ≡ Ok q) where
    behind_profile : (subprogram_body env before b).answer ≡ answer_at b.specification.pos (then_body q).outcome
    behind_profile = passes_on b.specification.pos (specified env (at_unit before) b.specification).answer then_body q given_there

    pub body_refused : (f : Failure Refusal) → Refuses (body_judged env before b [] [] q).answer f → Refuses (subprogram_body env before b).answer f
    body_refused f h =
        refused_as _ _ f behind_profile (in_part b.specification.pos (body_judged env before b [] [] q).answer at_end f h)

    pub body_passes : (n : State) → (body_judged env before b [] [] q).answer ≡ Ok n → (subprogram_body env before b).answer ≡ Ok n
    body_passes n h =
        behind_profile ∙ passes_on b.specification.pos (body_judged env before b [] [] q).answer at_end n h

-- a region with nothing in it is the same when nothing is declared in it
pub bare : (env : Env) → env.local ≡ [] → env.is_library ≡ false → env ≡ with_local env []
bare env h inside =
    let own = sym (ap (λ b. if b then [] else env.own) inside) in
    λ z. record env { local = h z; own = own z }

-- a region that opens inside one
pub opens_into : (a b : Symbols) → IsOpen a → Becomes a b (innermost b.regions ∷ a.regions) a.units
    → Becomes a b (innermost b.regions ∷ innermost (enclosing b.regions) ∷ enclosing a.regions) a.units
opens_into a b open_now enters =
    let kept = (grows_inside a a open_now (grows_itself a)).regions in
    record {
      known = enters.known;
      stays = enters.stays;
      begins = enters.begins;
      regions =
          enters.regions
          ∙ ap (λ rs. innermost b.regions ∷ rs)
          (kept ∙ ap (λ rs. innermost rs ∷ enclosing a.regions) (sym (ap enclosing enters.regions)));
      units = enters.units;
    }
