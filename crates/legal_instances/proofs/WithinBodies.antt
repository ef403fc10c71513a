-- Specifications, bodies and what packages declare look statically no further than what was declared before.
use Rattle.std.proofs.Common.{◌≡◌, ◌≤◌, ◌+◌, ℕ, nat_eq, Bool, true, false, if◌then◌else◌, List, [], ◌∷◌, ◌++◌, Option, Some, None, option_map, IfSome, IfOk, is_some, refl, ◌∙◌}
use Rattle.cov_base.specs.Lists.{Everywhere}
use Rattle.cov_base.specs.declared.position.Pos.{Pos}
use Rattle.ada_syntax.specs.Tree.{Name}
use Rattle.ada_syntax.specs.declared.name.Identifier.{Identifier}
use Rattle.ada_syntax.specs.declared.unit.BodyItem.{BodyItem}
use Rattle.ada_syntax.specs.declared.unit.BodyItem.TheVariants as item
use Rattle.ada_syntax.specs.declared.unit.PackageItem.{PackageItem}
use Rattle.ada_syntax.specs.declared.unit.PackageItem.TheVariants as part
use Rattle.ada_syntax.specs.declared.unit.Parameter.{Parameter as SourceParameter}
use Rattle.ada_syntax.specs.declared.unit.Specification.{Specification}
use Rattle.ada_syntax.specs.declared.unit.SubprogramBody.{SubprogramBody}
use Rattle.ada_meaning.specs.Program as program
use Rattle.ada_rules.specs.Plan.{Plan, ◌>>=◌, rule}
use Rattle.ada_rules.specs.Types.{AdaSubtype}
use Rattle.ada_rules.specs.Entities.{key, Parameter, Entity, hidden, mark, literal, object, formal_object, routine, raisable, component, test_io, unit, Region, entity_of, redefined}
use Rattle.ada_rules.specs.Environment.{typed_rule, State, Given, given, Env, with_local, opened, exceeded, hide, hide_all}
use Rattle.ada_rules.specs.Expressions.{Marked, mark_part}
use Rattle.ada_rules.specs.Declarations.{with_objects, all_declared}
use Rattle.ada_rules.specs.Statements.{all_handled, block_of}
use Rattle.ada_rules.specs.Subprograms.{mode_of, Profile, parameter_entity, parameters_for, parameter_objects, most_parameters, limited, parameters_judged, is_function_profile, with_result, result_judged, fresh, specified, declared_only, body_number, routine_of, subprogram_declared, to_complete, completed, conforming, closed_by, may_end, body_made, inside_body, body_judged, with_routine, packaged_body}
use Rattle.ada_rules.specs.Units.{package_item, package_items, body_item, body_items}
use Rattle.ada_rules.specs.Declarations.{declared}
use Rattle.legal_laws.proofs.Passing.{if_test, if_map, IfPassed, answered, ruled_so, part_so, typed_so, any_answer, every_both}
use Rattle.legal_instances.specs.Within.{Made, IsEntityWithin, IsRegionWithin, IsHere, Goes, own_of}
use Rattle.legal_instances.proofs.WithinMore.{subtype_on, region_on, goes_same, goes_both, here_next, here_local, here_opened}
use Rattle.legal_instances.proofs.WithinStatics.{GivesSo, MarkSo, SubtypeSo, mark_so, hidden_so, all_hidden_so, redefined_so, name_so}
use Rattle.legal_instances.proofs.WithinDeclarations.{DeclaredSo, declared_so, all_declared_so}
use Rattle.legal_instances.proofs.WithinStatements.{Go, handled_go}

module _ (had : Made) where
  abbrev pub RegionSo : Option ℕ → ℕ → Region → Type 0
  RegionSo o n region = IsRegionWithin had (is_some o) n region

  -- a profile
  abbrev ParametersSo : Option ℕ → ℕ → List Parameter → Type 0
  ParametersSo o n qs = Everywhere (λ q. SubtypeSo had o n q.subtype) qs

  pub record ProfileSo (o : Option ℕ) (n : ℕ) (q : Profile) : Type 0 where
    pub parameters : ParametersSo o n q.parameters
    pub result : IfSome q.result (λ x. SubtypeSo had o n x.subtype)
    pub region : RegionSo o n q.region

  parameters_so : (o : Option ℕ) (n : ℕ) (m : program.Mode) (t : Marked) (is : List Identifier) → MarkSo had o n t → ParametersSo o n (parameters_for m t is)
  parameters_so o n m t [] h = tt
  parameters_so o n m t (i ∷ is) h = (h, parameters_so o n m t is h)

  parameters_on : (o : Option ℕ) (n m : ℕ) → n ≤ m → (qs : List Parameter) → ParametersSo o n qs → ParametersSo o m qs
  parameters_on o n m less [] h = tt
  parameters_on o n m less (q ∷ qs) h = (subtype_on had (is_some o) n m less q.subtype h.0, parameters_on o n m less qs h.1)

  objects_so : (o : Option ℕ) (k : ℕ) (m : program.Mode) (t : AdaSubtype) (n : ℕ) (region : Region) (is : List Identifier) → SubtypeSo had o k t → RegionSo o k region
      → RegionSo o k (parameter_objects m t n region is)
  objects_so o k m t n region [] h g = g
  objects_so o k m t n region (i ∷ is) h g =
      objects_so o k m t (n + 1) (redefined (key i) (parameter_entity n m t) region) is h
      (redefined_so had (is_some o) k (key i) (parameter_entity n m t) region (record { subtype = h; known = tt }) g)

  exceeded_constants : (b : Bool) (q : Pos) (s : State) → (exceeded b q s).constants_declared ≡ s.constants_declared
  exceeded_constants true q s = refl
  exceeded_constants false q s = refl

  limited_constants : (n : ℕ) (is : List Identifier) (s : State) → (limited n is s).constants_declared ≡ s.constants_declared
  limited_constants n [] s = refl
  limited_constants n (i ∷ is) s = limited_constants (n + 1) is (exceeded (nat_eq n most_parameters) i.pos s) ∙ exceeded_constants (nat_eq n most_parameters) i.pos s

  pub parameters_judged_so : (env : Env) (s : State) (p : Pos) (qs : List SourceParameter) → IsHere had env s
      → IfOk (parameters_judged env s p qs).answer (GivesSo had env.generic (ProfileSo env.generic) s)
  parameters_judged_so env s p [] here =
      record { goes = goes_same had env.generic s s refl here.constants; value = record { parameters = tt; result = tt; region = here.place.regions.0 } }
  parameters_judged_so env s p (q ∷ qs) here =
      answered (GivesSo had env.generic (ProfileSo env.generic) s) p _
      (part_so (RegionSo env.generic (own_of env.generic s.constants_declared)) (GivesSo had env.generic (ProfileSo env.generic) s) (hide_all p env.local q.names).answer
      (λ names. mark_part (with_local env names) s q.mark >>= after_mark names)
      (all_hidden_so had (is_some env.generic) (own_of env.generic s.constants_declared) p env.local q.names here.place.regions.0)
      (λ names h. part_so (GivesSo had env.generic (MarkSo had env.generic) s) (GivesSo had env.generic (ProfileSo env.generic) s)
      (mark_part (with_local env names) s q.mark).answer (after_mark names)
      (mark_so had (with_local env names) s q.mark (here_local had env s names here h))
      (λ t k. with_rest names t h k (parameters_judged_so (env_then names t) (state_then t) p qs))))
    where
      env_then : Region → Given Marked → Env
      env_then names t = with_local env (parameter_objects (mode_of q.mode) t.value.subtype t.next.objects names q.names)

      state_then : Given Marked → State
      state_then t = with_objects t.value.subtype q.names (limited t.next.objects q.names t.next)

      after_mark : Region → Given Marked → Plan (Given Profile)
      after_mark names t = parameters_judged (env_then names t) (state_then t) p qs
          >>= (λ rest. rule (Some (given (record {
            parameters = parameters_for (mode_of q.mode) t.value q.names ++ rest.value.parameters;
            result = None;
            region = rest.value.region;
          }) rest.next)))

      with_rest : (names : Region) (t : Given Marked) → RegionSo env.generic (own_of env.generic s.constants_declared) names → GivesSo had env.generic (MarkSo had env.generic) s t
          → (IsHere had (env_then names t) (state_then t) → IfOk (parameters_judged (env_then names t) (state_then t) p qs).answer (GivesSo had env.generic (ProfileSo env.generic) (state_then t)))
          → IfPassed (after_mark names t).outcome (GivesSo had env.generic (ProfileSo env.generic) s)
      with_rest names t h k rest_so =
          let on = goes_same had env.generic t.next (state_then t) (limited_constants t.next.objects q.names t.next) k.goes.constants in
          let before = goes_both had env.generic s t.next (state_then t) k.goes on in
          let later = on.more in
          part_so (GivesSo had env.generic (ProfileSo env.generic) (state_then t)) (GivesSo had env.generic (ProfileSo env.generic) s)
          (parameters_judged (env_then names t) (state_then t) p qs).answer _
          (rest_so (here_local had env (state_then t) (parameter_objects (mode_of q.mode) t.value.subtype t.next.objects names q.names)
          (here_next had env s (state_then t) here before)
          (objects_so env.generic (own_of env.generic (state_then t).constants_declared) (mode_of q.mode) t.value.subtype t.next.objects names q.names
          (subtype_on had (is_some env.generic) (own_of env.generic t.next.constants_declared) (own_of env.generic (state_then t).constants_declared) later t.value.subtype k.value)
          (region_on had (is_some env.generic) (own_of env.generic s.constants_declared) (own_of env.generic (state_then t).constants_declared) before.more names h))))
          (λ rest r. record {
            goes = goes_both had env.generic s (state_then t) rest.next before r.goes;
            value = record {
              parameters = every_both (λ x. SubtypeSo had env.generic (own_of env.generic rest.next.constants_declared) x.subtype)
                  (parameters_for (mode_of q.mode) t.value q.names) rest.value.parameters
                  (parameters_on env.generic (own_of env.generic (state_then t).constants_declared) (own_of env.generic rest.next.constants_declared) r.goes.more (parameters_for (mode_of q.mode) t.value q.names)
                  (parameters_on env.generic (own_of env.generic t.next.constants_declared) (own_of env.generic (state_then t).constants_declared) later (parameters_for (mode_of q.mode) t.value q.names)
                  (parameters_so env.generic (own_of env.generic t.next.constants_declared) (mode_of q.mode) t.value q.names k.value)))
                  r.value.parameters;
              result = tt;
              region = r.value.region;
            };
          })

  result_so : (env : Env) (s : State) (q : Given Profile) (r : Option Name) → IsHere had env s → GivesSo had env.generic (ProfileSo env.generic) s q
      → IfPassed (result_judged env q r).outcome (GivesSo had env.generic (ProfileSo env.generic) s)
  result_so env s q None here h = h
  result_so env s q (Some n) here h =
      part_so (GivesSo had env.generic (MarkSo had env.generic) q.next) (GivesSo had env.generic (ProfileSo env.generic) s) (mark_part (with_local env q.value.region) q.next n).answer
      (λ t. typed_rule env.step (with_result q t) (if is_function_profile q.value.parameters t.value then Some (with_result q t) else None))
      (mark_so had (with_local env q.value.region) q.next n (here_local had env q.next q.value.region (here_next had env s q.next here h.goes) h.value.region))
      (λ t k. typed_so (GivesSo had env.generic (ProfileSo env.generic) s) env.step _ _ here.place.step
      (if_test (GivesSo had env.generic (ProfileSo env.generic) s) (is_function_profile q.value.parameters t.value) (Some (with_result q t))
      (λ b. record {
        goes = goes_both had env.generic s q.next t.next h.goes k.goes;
        value = record {
          parameters = parameters_on env.generic (own_of env.generic q.next.constants_declared) (own_of env.generic t.next.constants_declared) k.goes.more q.value.parameters h.value.parameters;
          result = k.value;
          region = region_on had (is_some env.generic) (own_of env.generic q.next.constants_declared) (own_of env.generic t.next.constants_declared) k.goes.more q.value.region h.value.region;
        };
      })))

  pub specified_so : (env : Env) (s : State) (x : Specification) → IsHere had env s → IfOk (specified env s x).answer (GivesSo had env.generic (ProfileSo env.generic) s)
  specified_so env s x here =
      let start = goes_same had env.generic s (fresh s) refl here.constants in
      answered (GivesSo had env.generic (ProfileSo env.generic) s) x.pos _
      (part_so (GivesSo had env.generic (ProfileSo env.generic) (fresh s)) (GivesSo had env.generic (ProfileSo env.generic) s) (parameters_judged (opened env) (fresh s) x.pos x.parameters).answer
      (λ q. result_judged (opened env) q x.result_mark)
      (parameters_judged_so (opened env) (fresh s) x.pos x.parameters (here_opened had env (fresh s) (here_next had env s (fresh s) here start)))
      (λ q h. result_so (opened env) s q x.result_mark (here_opened had env s here)
      (record { goes = goes_both had env.generic s (fresh s) q.next start h.goes; value = h.value })))

  routine_so : (o : Option ℕ) (n : ℕ) (env : Env) (name : List ℕ) (b : Bool) (q : Profile) → ProfileSo o n q → IsEntityWithin had (is_some o) n (routine (routine_of env name b q))
  routine_so o n env name b q h = record { parameters = h.parameters; result = h.result }

  pub subprogram_so : (env : Env) (s : State) (x : Specification) → IsHere had env s → IfOk (subprogram_declared env s x).answer (GivesSo had env.generic (RegionSo env.generic) s)
  subprogram_so env s x here =
      answered (GivesSo had env.generic (RegionSo env.generic) s) x.pos _
      (part_so (RegionSo env.generic (own_of env.generic s.constants_declared)) (GivesSo had env.generic (RegionSo env.generic) s) (hide env.local x.name).answer
      (λ region. specified (with_local env region) s x >>= (λ q. rule (option_map (λ n. given (redefined (key x.name) (routine (routine_of env (key x.name) true q.value)) region) (declared_only s q.next))
      (body_number env.world env.unit_name (key x.name)))))
      (hidden_so had (is_some env.generic) (own_of env.generic s.constants_declared) env.local x.name here.place.regions.0)
      (λ region h. part_so (GivesSo had env.generic (ProfileSo env.generic) s) (GivesSo had env.generic (RegionSo env.generic) s) (specified (with_local env region) s x).answer
      (λ q. rule (option_map (λ n. given (redefined (key x.name) (routine (routine_of env (key x.name) true q.value)) region) (declared_only s q.next)) (body_number env.world env.unit_name (key x.name))))
      (specified_so (with_local env region) s x (here_local had env s region here h))
      (λ q k. ruled_so (GivesSo had env.generic (RegionSo env.generic) s) _
      (if_map (λ n. Unit {0}) (GivesSo had env.generic (RegionSo env.generic) s) (λ n. given (redefined (key x.name) (routine (routine_of env (key x.name) true q.value)) region) (declared_only s q.next))
      (body_number env.world env.unit_name (key x.name)) (any_of (body_number env.world env.unit_name (key x.name)))
      (λ n u. record {
        goes = record { constants = k.goes.constants; more = k.goes.more };
        value = redefined_so had (is_some env.generic) (own_of env.generic q.next.constants_declared) (key x.name) (routine (routine_of env (key x.name) true q.value)) region
            (routine_so env.generic (own_of env.generic q.next.constants_declared) env (key x.name) true q.value k.value)
            (region_on had (is_some env.generic) (own_of env.generic s.constants_declared) (own_of env.generic q.next.constants_declared) k.goes.more region h);
      })))))
    where
      any_of : (x : Option ℕ) → IfSome x (λ n. Unit {0})
      any_of None = tt
      any_of (Some n) = tt

  -- bodies
  inside_here : (env : Env) (s : State) (region : Region) (name : List ℕ) (q : Profile) → IsHere had env s → RegionSo env.generic (own_of env.generic s.constants_declared) region
      → RegionSo env.generic (own_of env.generic s.constants_declared) q.region → IsHere had (inside_body env region name q) s
  inside_here env s region name q here h k =
      let there = here_local had env s region here h in record {
        place = record {
          step = there.place.step;
          regions = (k, there.place.regions);
          own_region = there.place.own_region;
          units = there.place.units;
          test_io = there.place.test_io;
        };
        constants = there.constants;
      }

  pub body_so : (env : Env) (s before : State) (b : SubprogramBody) (region : Region) (name : List ℕ) (q : Given Profile) → IsHere had env s
      → GivesSo had env.generic (ProfileSo env.generic) s q → RegionSo env.generic (own_of env.generic q.next.constants_declared) region
      → IfOk (body_judged env before b region name q).answer (Goes had env.generic s)
  body_so env s before b region name q here h k =
      let there = inside_here env q.next region name q.value (here_next had env s q.next here h.goes) k h.value.region in
      answered (Goes had env.generic s) b.specification.pos _
      (part_so (DeclaredSo had env.generic q.next) (Goes had env.generic s) (all_declared (inside_body env region name q.value) q.next b.specification.pos b.declarations).answer
      (λ x. all_handled (with_local (inside_body env region name q.value) x.region) x.next b.specification.pos b.statements
      >>= (λ f. closed_by b.specification.pos b.specification.name b.end_name
      >>= (λ end. typed_rule env.step (body_made env before q.value (block_of x.made f.value) f.next)
      (if may_end b q.value.result then Some (body_made env before q.value (block_of x.made f.value) f.next) else None))))
      (all_declared_so had (inside_body env region name q.value) q.next b.specification.pos b.declarations there)
      (λ x u. part_so (Go had env.generic x.next) (Goes had env.generic s) (all_handled (with_local (inside_body env region name q.value) x.region) x.next b.specification.pos b.statements).answer
      (λ f. closed_by b.specification.pos b.specification.name b.end_name
      >>= (λ end. typed_rule env.step (body_made env before q.value (block_of x.made f.value) f.next)
      (if may_end b q.value.result then Some (body_made env before q.value (block_of x.made f.value) f.next) else None)))
      (handled_go had (with_local (inside_body env region name q.value) x.region) x.next b.specification.pos b.statements
      (here_local had (inside_body env region name q.value) x.next x.region (here_next had (inside_body env region name q.value) q.next x.next there u.goes) u.region))
      (λ f g. part_so (λ e. Unit {0}) (Goes had env.generic s) (closed_by b.specification.pos b.specification.name b.end_name).answer
      (λ end. typed_rule env.step (body_made env before q.value (block_of x.made f.value) f.next)
      (if may_end b q.value.result then Some (body_made env before q.value (block_of x.made f.value) f.next) else None))
      (any_answer (closed_by b.specification.pos b.specification.name b.end_name).answer)
      (λ end v. let all = goes_both had env.generic s x.next f.next (goes_both had env.generic s q.next x.next h.goes u.goes) g in
      typed_so (Goes had env.generic s) env.step _ _ here.place.step
      (if_test (Goes had env.generic s) (may_end b q.value.result) _ (λ e. record { constants = all.constants; more = all.more }))))))

  completed_if : (b : Bool) (n : ℕ) (region : Region) (i : Identifier) (o : Option Entity) → IsRegionWithin had b n region → IfSome (to_complete region i o) (IsRegionWithin had b n)
  completed_if b n region i None h = name_so had b n region i hidden h tt
  completed_if b n region i (Some hidden) h = tt
  completed_if b n region i (Some (mark j t)) h = tt
  completed_if b n region i (Some (literal t x)) h = tt
  completed_if b n region i (Some (object v)) h = tt
  completed_if b n region i (Some (formal_object t e)) h = tt
  completed_if b n region i (Some (routine r)) h = if_test (IsRegionWithin had b n) r.awaits_body (Some region) (λ e. h)
  completed_if b n region i (Some (raisable e)) h = tt
  completed_if b n region i (Some component) h = tt
  completed_if b n region i (Some test_io) h = tt
  completed_if b n region i (Some (unit m)) h = tt

  pub packaged_so : (env : Env) (s : State) (b : SubprogramBody) → IsHere had env s → IfOk (packaged_body env s b).answer (GivesSo had env.generic (RegionSo env.generic) s)
  packaged_so env s b here =
      answered (GivesSo had env.generic (RegionSo env.generic) s) b.specification.pos _
      (part_so (RegionSo env.generic (own_of env.generic s.constants_declared)) (GivesSo had env.generic (RegionSo env.generic) s) (completed env.local b.specification.name).answer
      (λ region. specified (with_local env region) s b.specification
      >>= (λ q. conforming b.specification.pos region b.specification.name q.value
      >>= (λ fit. body_judged env s b (with_routine env region b.specification.name q.value) (key b.specification.name) q
      >>= (λ next. rule (Some (given (with_routine env region b.specification.name q.value) next))))))
      (answered (RegionSo env.generic (own_of env.generic s.constants_declared)) b.specification.name.pos _
      (ruled_so (RegionSo env.generic (own_of env.generic s.constants_declared)) _
      (completed_if (is_some env.generic) (own_of env.generic s.constants_declared) env.local b.specification.name (entity_of (key b.specification.name) env.local) here.place.regions.0)))
      (λ region h. part_so (GivesSo had env.generic (ProfileSo env.generic) s) (GivesSo had env.generic (RegionSo env.generic) s) (specified (with_local env region) s b.specification).answer
      (λ q. conforming b.specification.pos region b.specification.name q.value
      >>= (λ fit. body_judged env s b (with_routine env region b.specification.name q.value) (key b.specification.name) q
      >>= (λ next. rule (Some (given (with_routine env region b.specification.name q.value) next)))))
      (specified_so (with_local env region) s b.specification (here_local had env s region here h))
      (λ q k. part_so (λ u. Unit {0}) (GivesSo had env.generic (RegionSo env.generic) s) (conforming b.specification.pos region b.specification.name q.value).answer
      (λ fit. body_judged env s b (with_routine env region b.specification.name q.value) (key b.specification.name) q
      >>= (λ next. rule (Some (given (with_routine env region b.specification.name q.value) next))))
      (any_answer (conforming b.specification.pos region b.specification.name q.value).answer)
      (λ fit u. let with_own = redefined_so had (is_some env.generic) (own_of env.generic q.next.constants_declared) (key b.specification.name)
      (routine (routine_of env (key b.specification.name) false q.value)) region
      (routine_so env.generic (own_of env.generic q.next.constants_declared) env (key b.specification.name) false q.value k.value)
      (region_on had (is_some env.generic) (own_of env.generic s.constants_declared) (own_of env.generic q.next.constants_declared) k.goes.more region h) in
      part_so (λ t. Goes had env.generic q.next t) (GivesSo had env.generic (RegionSo env.generic) s)
      (body_judged env s b (with_routine env region b.specification.name q.value) (key b.specification.name) q).answer
      (λ next. rule (Some (given (with_routine env region b.specification.name q.value) next)))
      (body_so env q.next s b (with_routine env region b.specification.name q.value) (key b.specification.name) q
      (here_next had env s q.next here k.goes)
      (record { goes = goes_same had env.generic q.next q.next refl k.goes.constants; value = k.value }) with_own)
      (λ t g. record {
        goes = goes_both had env.generic s q.next t k.goes g;
        value = region_on had (is_some env.generic) (own_of env.generic q.next.constants_declared) (own_of env.generic t.constants_declared) g.more
            (with_routine env region b.specification.name q.value) with_own;
      })))))

  -- what packages declare
  item_so : (env : Env) (s : State) (i : PackageItem) → IsHere had env s → IfPassed (package_item env s i).outcome (GivesSo had env.generic (RegionSo env.generic) s)
  item_so env s (part.Declaration d) here =
      part_so (DeclaredSo had env.generic s) (GivesSo had env.generic (RegionSo env.generic) s) (declared env s d).answer
      (λ x. rule (Some (given x.region x.next))) (declared_so had env s d here) (λ x h. record { goes = h.goes; value = h.region })
  item_so env s (part.Subprogram x) here =
      part_so (GivesSo had env.generic (RegionSo env.generic) s) (GivesSo had env.generic (RegionSo env.generic) s) (subprogram_declared env s x).answer
      (λ r. rule (Some r)) (subprogram_so env s x here) (λ r h. h)

  pub items_so : (env : Env) (s : State) (p : Pos) (is : List PackageItem) → IsHere had env s → IfOk (package_items env s p is).answer (GivesSo had env.generic (RegionSo env.generic) s)
  items_so env s p [] here = record { goes = goes_same had env.generic s s refl here.constants; value = here.place.regions.0 }
  items_so env s p (i ∷ is) here =
      answered (GivesSo had env.generic (RegionSo env.generic) s) p _
      (part_so (GivesSo had env.generic (RegionSo env.generic) s) (GivesSo had env.generic (RegionSo env.generic) s) _
      (λ r. package_items (with_local env r.value) r.next p is >>= (λ rest. rule (Some rest)))
      (answered (GivesSo had env.generic (RegionSo env.generic) s) p (package_item env s i).outcome (item_so env s i here))
      (λ r h. part_so (GivesSo had env.generic (RegionSo env.generic) r.next) (GivesSo had env.generic (RegionSo env.generic) s) (package_items (with_local env r.value) r.next p is).answer
      (λ rest. rule (Some rest))
      (items_so (with_local env r.value) r.next p is (here_local had env r.next r.value (here_next had env s r.next here h.goes) h.value))
      (λ rest k. record { goes = goes_both had env.generic s r.next rest.next h.goes k.goes; value = k.value })))

  body_item_so : (env : Env) (s : State) (i : BodyItem) → IsHere had env s → IfPassed (body_item env s i).outcome (GivesSo had env.generic (RegionSo env.generic) s)
  body_item_so env s (item.Declared i) here = item_so env s i here
  body_item_so env s (item.Body b) here =
      part_so (GivesSo had env.generic (RegionSo env.generic) s) (GivesSo had env.generic (RegionSo env.generic) s) (packaged_body env s b).answer
      (λ r. rule (Some r)) (packaged_so env s b here) (λ r h. h)

  pub body_items_so : (env : Env) (s : State) (p : Pos) (is : List BodyItem) → IsHere had env s → IfOk (body_items env s p is).answer (GivesSo had env.generic (RegionSo env.generic) s)
  body_items_so env s p [] here = record { goes = goes_same had env.generic s s refl here.constants; value = here.place.regions.0 }
  body_items_so env s p (i ∷ is) here =
      answered (GivesSo had env.generic (RegionSo env.generic) s) p _
      (part_so (GivesSo had env.generic (RegionSo env.generic) s) (GivesSo had env.generic (RegionSo env.generic) s) _
      (λ r. body_items (with_local env r.value) r.next p is >>= (λ rest. rule (Some rest)))
      (answered (GivesSo had env.generic (RegionSo env.generic) s) p (body_item env s i).outcome (body_item_so env s i here))
      (λ r h. part_so (GivesSo had env.generic (RegionSo env.generic) r.next) (GivesSo had env.generic (RegionSo env.generic) s) (body_items (with_local env r.value) r.next p is).answer
      (λ rest. rule (Some rest))
      (body_items_so (with_local env r.value) r.next p is (here_local had env r.next r.value (here_next had env s r.next here h.goes) h.value))
      (λ rest k. record { goes = goes_both had env.generic s r.next rest.next h.goes k.goes; value = k.value })))
