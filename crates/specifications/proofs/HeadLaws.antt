-- Heads of bodies, of the rules' definitions, and the regions of the walk behind them.
use Rattle.std.proofs.Common.{◌≡◌, ℕ, ◌<◌, List, [], ◌∷◌, length, Some, Ok, refl, sym, ap, ◌∙◌, subst}
use Rattle.cov_base.specs.declared.failure.Failure.{Failure}
use Rattle.ada_syntax.specs.declared.unit.Specification.{Specification}
use Rattle.ada_syntax.specs.declared.unit.SubprogramBody.{SubprogramBody}
use Rattle.ada_rules.specs.Plan.{Plan, ◌>>=◌, rule, outcome_after, answer_at}
use Rattle.ada_rules.specs.Entities.{key, Region}
use Rattle.ada_rules.specs.Environment.{State, Given, given, Env, with_local, opened}
use Rattle.ada_rules.specs.Subprograms.{Profile, fresh, parameters_judged, result_judged, specified, completed, conforming, body_judged, with_routine, packaged_body}
use Rattle.ada_entities.specs.Answers.{Refuses}
use Rattle.ada_entities.specs.declared.entity.Entity.{Entity}
use Rattle.ada_entities.specs.declared.fault.Refusal.{Refusal}
use Rattle.ada_entities.specs.RegionCode.{innermost, enclosing}
use Rattle.ada_phrases.proofs.Parts.{passes_on, in_part, refused_as}
use Rattle.program_walk.specs.declared.extent.Extent.{Extent}
use Rattle.program_walk.specs.declared.symbols.Symbols.{Symbols}
use Rattle.program_walk.specs.Alike.{IsKnownRegion, AreKnownRegions}
use Rattle.program_walk.specs.Changes.{Becomes, Closes, ChangesInside, Reopens}
use Rattle.program_walk.proofs.RegionChanges.{first}

-- a specification is looked at alike, whatever is counted of the subprogram round it
pub specified_alike : (env : Env) (s t : State) (x : Specification) → fresh s ≡ fresh t → (specified env s x).answer ≡ (specified env t x).answer
specified_alike env s t x e =
    ap (λ (n : State). answer_at x.pos
    (outcome_after (parameters_judged (opened env) n x.pos x.parameters).answer (λ q. result_judged (opened env) q x.result_mark))) e

module _ (env : Env) (s : State) (b : SubprogramBody) where
  abbrev pub behind_body : Region → Profile → State → Plan (Given Region)
  behind_body region q next = rule (Some (given (with_routine env region b.specification.name q) next))

  abbrev pub then_body : Region → Given Profile → Plan (Given Region)
  then_body region q =
      body_judged env s b (with_routine env region b.specification.name q.value) (key b.specification.name) q >>= behind_body region q.value

  abbrev then_conforming : Region → Given Profile → Plan (Given Region)
  then_conforming region q =
      conforming b.specification.pos region b.specification.name q.value >>= (λ fit. then_body region q)

  abbrev then_specified : Region → Plan (Given Region)
  then_specified region = specified (with_local env region) s b.specification >>= then_conforming region

  pub name_refused : (f : Failure Refusal) → Refuses (completed env.local b.specification.name).answer f → Refuses (packaged_body env s b).answer f
  name_refused f h = in_part b.specification.pos (completed env.local b.specification.name).answer then_specified f h

  module _ (region : Region) (named : (completed env.local b.specification.name).answer ≡ Ok region) where
    behind_name : (packaged_body env s b).answer ≡ answer_at b.specification.pos (then_specified region).outcome
    behind_name = passes_on b.specification.pos (completed env.local b.specification.name).answer then_specified region named

    pub profile_refused : (f : Failure Refusal) → Refuses (specified (with_local env region) s b.specification).answer f
        → Refuses (packaged_body env s b).answer f
    profile_refused f h =
        refused_as _ _ f behind_name
        (in_part b.specification.pos (specified (with_local env region) s b.specification).answer (then_conforming region) f h)

    module _ (q : Given Profile) (given_there : (specified (with_local env region) s b.specification).answer ≡ Ok q) where
      behind_profile : (packaged_body env s b).answer ≡ answer_at b.specification.pos (then_conforming region q).outcome
      behind_profile =
          behind_name
          ∙ passes_on b.specification.pos (specified (with_local env region) s b.specification).answer (then_conforming region) q given_there

      pub conformity_refused : (f : Failure Refusal)
          → Refuses (conforming b.specification.pos region b.specification.name q.value).answer f → Refuses (packaged_body env s b).answer f
      conformity_refused f h =
          refused_as _ _ f behind_profile
          (in_part b.specification.pos (conforming b.specification.pos region b.specification.name q.value).answer (λ fit. then_body region q) f h)

      module _ (fit : (conforming b.specification.pos region b.specification.name q.value).answer ≡ Ok tt) where
        behind_head : (packaged_body env s b).answer ≡ answer_at b.specification.pos (then_body region q).outcome
        behind_head =
            behind_profile
            ∙ passes_on b.specification.pos (conforming b.specification.pos region b.specification.name q.value).answer
            (λ fit. then_body region q) tt fit

        pub body_refused : (f : Failure Refusal)
            → Refuses (body_judged env s b (with_routine env region b.specification.name q.value) (key b.specification.name) q).answer f
            → Refuses (packaged_body env s b).answer f
        body_refused f h =
            refused_as _ _ f behind_head
            (in_part b.specification.pos
            (body_judged env s b (with_routine env region b.specification.name q.value) (key b.specification.name) q).answer
            (behind_body region q.value) f h)

        pub body_passes : (n : State)
            → (body_judged env s b (with_routine env region b.specification.name q.value) (key b.specification.name) q).answer ≡ Ok n
            → (packaged_body env s b).answer ≡ Ok (given (with_routine env region b.specification.name q.value) n)
        body_passes n h =
            behind_head
            ∙ passes_on b.specification.pos
            (body_judged env s b (with_routine env region b.specification.name q.value) (key b.specification.name) q).answer
            (behind_body region q.value) n h

-- the innermost region leads only to what is there, where all do
pub innermost_known : (e : Extent) (rs : List (List (List ℕ × Entity))) → AreKnownRegions e rs → IsKnownRegion e (innermost rs)
innermost_known e [] known k l a = refl
innermost_known e (r ∷ rs) known k l a = ap first (known k l a)

-- the region round one that opened changes
pub round_changes : (a b c : Symbols) → Becomes a b (innermost b.regions ∷ a.regions) a.units
    → Becomes b c (innermost c.regions ∷ enclosing (enclosing b.regions)) b.units → ChangesInside a c
round_changes a b c enters named = record {
  known = λ h. named.known (enters.known h);
  stays = λ h k l alike. enters.stays h k l (named.stays (enters.known h) k l alike);
  begins = λ k h. enters.begins k (named.begins k h);
  regions = named.regions ∙ ap (λ rs. innermost c.regions ∷ enclosing (enclosing rs)) enters.regions;
  units = named.units ∙ enters.units;
}

-- and another opens inside it
pub opens_round : (a b c : Symbols) (r : List (List ℕ × Entity)) → ChangesInside a b → Reopens b c r
    → Becomes a c (innermost c.regions ∷ innermost (enclosing c.regions) ∷ enclosing a.regions) a.units
opens_round a b c r inside opens =
    let round = inside.regions ∙ ap (λ rs. innermost rs ∷ enclosing a.regions) (sym (ap enclosing opens.regions)) in
    record {
      known = λ h. opens.known (inside.known h);
      stays = λ h k l alike. inside.stays h k l (opens.stays (inside.known h) k l alike);
      begins = λ k h. inside.begins k (opens.begins k h);
      regions = opens.regions ∙ (λ z. sym (ap innermost opens.regions) z ∷ round z);
      units = opens.units ∙ inside.units;
    }

-- what opens leaves a region open round it
pub opens_inside : (a b : Symbols) → 0 < length a.regions → Becomes a b (innermost b.regions ∷ a.regions) a.units → 0 < length (enclosing b.regions)
opens_inside a b open_now enters = subst (λ rs. 0 < length rs) (sym (ap enclosing enters.regions)) open_now

-- the innermost region closes, and the one round it changes
pub closes_and_changes : (a b c : Symbols) → Closes a b → ChangesInside b c
    → Becomes a c (innermost c.regions ∷ enclosing (enclosing a.regions)) a.units
closes_and_changes a b c closes changes = record {
  known = λ h. changes.known (closes.known h);
  stays = λ h k l alike. closes.stays h k l (changes.stays (closes.known h) k l alike);
  begins = λ k h. closes.begins k (changes.begins k h);
  regions = changes.regions ∙ ap (λ rs. innermost c.regions ∷ enclosing rs) closes.regions;
  units = changes.units ∙ closes.units;
}
