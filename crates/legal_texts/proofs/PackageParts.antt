-- What the items of packages come to, part by part.
use Rattle.std.proofs.Common.{◌≡◌, ℕ, true, if◌then◌else◌, List, ◌∷◌, Option, Some, None, option_map, Ok, refl, ap, ◌∙◌}
use Rattle.cov_base.specs.declared.position.Pos.{Pos}
use Rattle.ada_syntax.specs.declared.declaration.Declaration.{Declaration}
use Rattle.ada_syntax.specs.declared.name.Identifier.{Identifier}
use Rattle.ada_syntax.specs.declared.unit.BodyItem.{BodyItem}
use Rattle.ada_syntax.specs.declared.unit.BodyItem.TheVariants as item
use Rattle.ada_syntax.specs.declared.unit.PackageItem.{PackageItem}
use Rattle.ada_syntax.specs.declared.unit.PackageItem.TheVariants as part
use Rattle.ada_syntax.specs.declared.unit.Specification.{Specification}
use Rattle.ada_syntax.specs.declared.unit.SubprogramBody.{SubprogramBody}
use Rattle.ada_rules.specs.Plan.{Plan, ◌>>=◌, rule, construct}
use Rattle.ada_rules.specs.Entities.{key, routine, Region, entity_of, redefined}
use Rattle.ada_rules.specs.Environment.{State, Given, given, Env, with_local, hide}
use Rattle.ada_rules.specs.Declarations.{Declared, declared}
use Rattle.ada_rules.specs.Subprograms.{Profile, specified, declared_only, body_number, routine_of, subprogram_declared, to_complete, completed, conforms, conforming, body_judged, with_routine, packaged_body}
use Rattle.ada_rules.specs.Units.{package_item, package_items, body_item, body_items}
use Rattle.legal_programs.proofs.Passed.{passed_part, passed_rule, passed_test}
use Rattle.legal_texts.proofs.InterfaceWalk.{same_some}

record IsMapped {A B : Type 0} (f : A → B) (o : Option A) (y : B) : Type 0 where
  value : A
  is : o ≡ Some value
  same : f value ≡ y

mapped_of : {A B : Type 0} (f : A → B) (o : Option A) (y : B) → option_map f o ≡ Some y → IsMapped f o y
mapped_of f None y h = absurd (none_is_some h)
  where
    none_is_some : None ≡ Some y → ⊥
    none_is_some e = cc
mapped_of f (Some x) y h = record { value = x; is = refl; same = same_some h }

-- a declaration of a subprogram
pub record IsDeclaredThere (env : Env) (s : State) (x : Specification) (g : Given Region) : Type 0 where
  pub region : Region
  pub hides : (hide env.local x.name).answer ≡ Ok region
  pub profile : Given Profile
  pub specifies : (specified (with_local env region) s x).answer ≡ Ok profile
  pub number : ℕ
  pub numbered : body_number env.world env.unit_name (key x.name) ≡ Some number
  pub is : given (redefined (key x.name) (routine (routine_of env (key x.name) true profile.value)) region) (declared_only s profile.next) ≡ g

pub declared_there : (env : Env) (s : State) (x : Specification) (g : Given Region) → (subprogram_declared env s x).answer ≡ Ok g → IsDeclaredThere env s x g
declared_there env s x g h =
    let first = passed_part x.pos (hide env.local x.name).answer
    (λ region. specified (with_local env region) s x
    >>= (λ q. rule (option_map (λ n. given (redefined (key x.name) (routine (routine_of env (key x.name) true q.value)) region) (declared_only s q.next))
    (body_number env.world env.unit_name (key x.name))))) g h in
    let region = first.value in
    let second = passed_part x.pos (specified (with_local env region) s x).answer
    (λ q. rule (option_map (λ n. given (redefined (key x.name) (routine (routine_of env (key x.name) true q.value)) region) (declared_only s q.next))
    (body_number env.world env.unit_name (key x.name)))) g first.rest in
    let q = second.value in
    let third = mapped_of (λ (n : ℕ). given (redefined (key x.name) (routine (routine_of env (key x.name) true q.value)) region) (declared_only s q.next))
    (body_number env.world env.unit_name (key x.name)) g (passed_rule x.pos _ g second.rest) in
    record { region = region; hides = first.is; profile = q; specifies = second.is; number = third.value; numbered = third.is; is = third.same }

-- a body
pub record IsPackaged (env : Env) (s : State) (b : SubprogramBody) (g : Given Region) : Type 0 where
  pub region : Region
  pub completes : (completed env.local b.specification.name).answer ≡ Ok region
  pub profile : Given Profile
  pub specifies : (specified (with_local env region) s b.specification).answer ≡ Ok profile
  pub fits : conforms profile.value (entity_of (key b.specification.name) region) ≡ true
  pub next : State
  pub judged : (body_judged env s b (with_routine env region b.specification.name profile.value) (key b.specification.name) profile).answer ≡ Ok next
  pub is : given (with_routine env region b.specification.name profile.value) next ≡ g

module _ (env : Env) (s : State) (b : SubprogramBody) where
  abbrev after_conforming : Region → Given Profile → Plan (Given Region)
  after_conforming region q =
      body_judged env s b (with_routine env region b.specification.name q.value) (key b.specification.name) q
      >>= (λ next. rule (Some (given (with_routine env region b.specification.name q.value) next)))

  abbrev after_specified : Region → Given Profile → Plan (Given Region)
  after_specified region q = conforming b.specification.pos region b.specification.name q.value >>= (λ fit. after_conforming region q)

  abbrev after_completed : Region → Plan (Given Region)
  after_completed region = specified (with_local env region) s b.specification >>= after_specified region

  pub packaged_there : (g : Given Region) → (packaged_body env s b).answer ≡ Ok g → IsPackaged env s b g
  packaged_there g h =
      let first = passed_part b.specification.pos (completed env.local b.specification.name).answer after_completed g h in
      let region = first.value in
      let second = passed_part b.specification.pos (specified (with_local env region) s b.specification).answer (after_specified region) g first.rest in
      let q = second.value in
      let third = passed_part b.specification.pos (conforming b.specification.pos region b.specification.name q.value).answer (λ fit. after_conforming region q) g second.rest in
      let fourth = passed_part b.specification.pos
      (body_judged env s b (with_routine env region b.specification.name q.value) (key b.specification.name) q).answer
      (λ next. rule (Some (given (with_routine env region b.specification.name q.value) next))) g third.rest in
      record {
        region = region;
        completes = first.is;
        profile = q;
        specifies = second.is;
        fits = (passed_test (conforms q.value (entity_of (key b.specification.name) region)) tt third.value
            (passed_rule b.specification.pos (if conforms q.value (entity_of (key b.specification.name) region) then Some tt else None) third.value third.is)).0;
        next = fourth.value;
        judged = fourth.is;
        is = same_some (passed_rule b.specification.pos (Some (given (with_routine env region b.specification.name q.value) fourth.value)) g fourth.rest);
      }

pub completes_to : (region : Region) (i : Identifier) (after : Region) → (completed region i).answer ≡ Ok after → to_complete region i (entity_of (key i) region) ≡ Some after
completes_to region i after h = passed_rule i.pos (to_complete region i (entity_of (key i) region)) after h

-- the first of several items
pub record IsStep (env : Env) (s : State) (q : Pos) (i : PackageItem) (items : List PackageItem) (g : Given Region) : Type 0 where
  pub first : Given Region
  pub is : (construct q (package_item env s i)).answer ≡ Ok first
  pub rest : (package_items (with_local env first.value) first.next q items).answer ≡ Ok g

pub step_of : (env : Env) (s : State) (q : Pos) (i : PackageItem) (items : List PackageItem) (g : Given Region) → (package_items env s q (i ∷ items)).answer ≡ Ok g
    → IsStep env s q i items g
step_of env s q i items g h =
    let first = passed_part q (construct q (package_item env s i)).answer (λ r. package_items (with_local env r.value) r.next q items >>= (λ rest. rule (Some rest))) g h in
    let rest = passed_part q (package_items (with_local env first.value.value) first.value.next q items).answer (λ r. rule (Some r)) g first.rest in
    record { first = first.value; is = first.is; rest = rest.is ∙ ap (λ r. Ok r) (same_some (passed_rule q (Some rest.value) g rest.rest)) }

pub record IsBodyStep (env : Env) (s : State) (q : Pos) (i : BodyItem) (items : List BodyItem) (g : Given Region) : Type 0 where
  pub first : Given Region
  pub is : (construct q (body_item env s i)).answer ≡ Ok first
  pub rest : (body_items (with_local env first.value) first.next q items).answer ≡ Ok g

pub body_step_of : (env : Env) (s : State) (q : Pos) (i : BodyItem) (items : List BodyItem) (g : Given Region) → (body_items env s q (i ∷ items)).answer ≡ Ok g
    → IsBodyStep env s q i items g
body_step_of env s q i items g h =
    let first = passed_part q (construct q (body_item env s i)).answer (λ r. body_items (with_local env r.value) r.next q items >>= (λ rest. rule (Some rest))) g h in
    let rest = passed_part q (body_items (with_local env first.value.value) first.value.next q items).answer (λ r. rule (Some r)) g first.rest in
    record { first = first.value; is = first.is; rest = rest.is ∙ ap (λ r. Ok r) (same_some (passed_rule q (Some rest.value) g rest.rest)) }

pub record IsDeclarationStep (env : Env) (s : State) (d : Declaration) (g : Given Region) : Type 0 where
  pub made : Declared
  pub is : (declared env s d).answer ≡ Ok made
  pub same : given made.region made.next ≡ g

pub declaration_step : (env : Env) (s : State) (q : Pos) (d : Declaration) (g : Given Region) → (construct q (package_item env s (part.Declaration d))).answer ≡ Ok g
    → IsDeclarationStep env s d g
declaration_step env s q d g h =
    let one = passed_part q (declared env s d).answer (λ x. rule (Some (given x.region x.next))) g h in
    record { made = one.value; is = one.is; same = same_some (passed_rule q (Some (given one.value.region one.value.next)) g one.rest) }

pub subprogram_step : (env : Env) (s : State) (q : Pos) (x : Specification) (g : Given Region) → (construct q (package_item env s (part.Subprogram x))).answer ≡ Ok g
    → (subprogram_declared env s x).answer ≡ Ok g
subprogram_step env s q x g h =
    let one = passed_part q (subprogram_declared env s x).answer (λ r. rule (Some r)) g h in
    one.is ∙ ap (λ r. Ok r) (same_some (passed_rule q (Some one.value) g one.rest))

pub body_step : (env : Env) (s : State) (q : Pos) (b : SubprogramBody) (g : Given Region) → (construct q (body_item env s (item.Body b))).answer ≡ Ok g
    → (packaged_body env s b).answer ≡ Ok g
body_step env s q b g h =
    let one = passed_part q (packaged_body env s b).answer (λ r. rule (Some r)) g h in
    one.is ∙ ap (λ r. Ok r) (same_some (passed_rule q (Some one.value) g one.rest))
