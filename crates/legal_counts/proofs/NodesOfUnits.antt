-- The subprograms of a legal program are those of the bodies of its units, in their order, and have no more nodes than these have tokens outside their declarations of types.
use Rattle.std.proofs.Common.{◌≡◌, ◌≤◌, ◌+◌, ℕ, suc, true, false, if◌then◌else◌, List, [], ◌∷◌, ◌++◌, map, reverse, length, Option, Some, None, IfOk, slice_get, refl, sym, ap, ◌∙◌, subst, append-nil, append_assoc, arith, length-append}
use Rattle.std.specs.Prelude.{sum_by}
use Rattle.std.proofs.lemmas.List.Sums.{sum_by-append, sum_by-cons}
use mathlib.Core.List.{reverse-cons}
use Rattle.cov_base.specs.Lists.{Everywhere}
use Rattle.cov_base.specs.declared.position.Pos.{Pos}
use Rattle.ada_syntax.specs.Nodes.{if_present, one_if_present, name_nodes, mode_nodes, parameter_nodes, kind_nodes, declaration_nodes, handled_nodes, body_nodes, package_item_nodes, body_item_nodes, formal_nodes, item_nodes, with_nodes, unit_nodes}
use Rattle.ada_syntax.specs.Tree.{Name}
use Rattle.ada_syntax.specs.declared.name.Identifier.{Identifier}
use Rattle.ada_syntax.specs.declared.unit.Parameter.{Parameter as SourceParameter}
use Rattle.ada_syntax.specs.declared.unit.Specification.{Specification}
use Rattle.ada_syntax.specs.declared.unit.BodyItem.{BodyItem}
use Rattle.ada_syntax.specs.declared.unit.BodyItem.TheVariants as item
use Rattle.ada_syntax.specs.declared.unit.LibraryItem.{LibraryItem}
use Rattle.ada_syntax.specs.declared.unit.LibraryItem.TheVariants as library
use Rattle.ada_syntax.specs.declared.unit.PackageBody.{PackageBody}
use Rattle.ada_syntax.specs.declared.unit.PackageItem.{PackageItem}
use Rattle.ada_syntax.specs.declared.unit.PackageItem.TheVariants as part
use Rattle.ada_syntax.specs.declared.unit.SubprogramBody.{SubprogramBody}
use Rattle.ada_syntax.specs.declared.unit.Unit.{Unit as LibraryUnit}
use Rattle.ada_meaning.specs.Program.{Mode, Subprogram, Program}
use Rattle.ada_rules.specs.Plan.{Plan, ◌>>=◌, rule}
use Rattle.ada_rules.specs.Denoted.{nowhere}
use Rattle.ada_rules.specs.Entities.{key, unit, Parameter, Region}
use Rattle.ada_rules.specs.Environment.{typing, typed_rule, World, interface_of, State, beginning_state, Given, given, Env, with_local, opened, hide_all}
use Rattle.ada_rules.specs.Expressions.{Marked, mark_part}
use Rattle.ada_rules.specs.Declarations.{with_objects, Declared, declared, all_declared}
use Rattle.ada_rules.specs.Library.{Library, unit_named}
use Rattle.ada_rules.specs.Statements.{Frame, block_of, all_handled}
use Rattle.ada_rules.specs.Subprograms.{mode_of, Profile, parameters_for, parameter_objects, limited, parameters_judged, with_result, is_function_profile, result_judged, fresh, specified, subprogram_declared, typed_parameters, completed, conforming, closed_by, may_end, body_made, inside_body, body_judged, with_routine, packaged_body}
use Rattle.ada_rules.specs.Units.{all_interfaces, world_before, withs_of, env_of, package_item, body_item, body_items, at_unit, behind_unit, seen_in, region_of, seen_in_body, in_body, package_body, package_body_of, library_body, routine_entity, bodies_judged, all_bodies_judged}
use Rattle.legal_laws.proofs.Passing.{IfPassed, if_test, answered, part_so, typed_either, both_ok, any_answer}
use Rattle.legal_programs.specs.Homes.{IsThere, HasHome}
use Rattle.legal_programs.specs.Deciding.{IsWholeRegion, IsWholeEnv}
use Rattle.program_weights.specs.BodyTexts.{bodies_among, bodies_of_item, bodies_in}
use Rattle.legal_counts.specs.Choices.{BodyHasChoices, UnitsHaveChoices}
use Rattle.legal_counts.specs.Within.{AreWithin}
use Rattle.legal_programs.specs.WholeWorld.{IsWholeWorld, IsWholeStandard}
use Rattle.legal_programs.specs.Walked.{IsLegal}
use Rattle.legal_programs.proofs.Adding.{adds_both, Add, AddsOn, declaration_adds, declarations_add}
use Rattle.legal_programs.proofs.AddingStatements.{handled_add}
use Rattle.legal_programs.proofs.Counted.{states_of}
use Rattle.legal_programs.proofs.Extending.{specified_adds, subprogram_adds}
use Rattle.legal_programs.proofs.ExtendingUnits.{adds_at_unit}
use Rattle.legal_programs.proofs.Headings.{are_headed, have_homes}
use Rattle.legal_programs.proofs.DecidedBodies.{Bodies as Turned, Profiled, body_item_turn, completed_whole, specified_calm}
use Rattle.legal_programs.proofs.DecidedPrograms.{none_declared}
use Rattle.legal_programs.proofs.DecidedUnits.{Seen, env_whole, in_region, interface_whole, interfaces_seen, package_env_whole, region_whole, routine_whole, seen_more_whole}
use Rattle.legal_programs.proofs.Passed.{of_ok}
use Rattle.statement_code.specs.Sizes as size
use Rattle.legal_counts.proofs.Lists.{every_parts}
use Rattle.legal_counts.proofs.NodesOfStatements.{DeclaresIn, declarations_few, FrameAs, handled_few, block_in}
use Rattle.legal_counts.proofs.OutsideTypes.{kind_outside, declaration_outside, handled_outside, kind_split, declarations_split, handled_split, IsOutside, AreOutside, within_text}
use Rattle.legal_programs.proofs.WholeRegions.{local_whole, redefined_whole}
use Rattle.legal_counts.proofs.ExceptionNames.{kind_exceptions, declared_exceptions, handled_exceptions, body_exceptions, package_item_exceptions, package_items_exceptions, body_items_exceptions, item_exceptions, units_exceptions}
use Rattle.legal_types.specs.TypeTokens.{kind_types, declared_types, handled_types, body_types, package_item_types, package_items_types, body_items_types, item_types, units_types}

-- lists beside each other
outside_joined : (ss ts : List Subprogram) (bs cs : List SubprogramBody) → AreOutside ss bs → AreOutside ts cs → AreOutside (ss ++ ts) (bs ++ cs)
outside_joined [] ts [] cs h k = k
outside_joined (s ∷ ss) ts (b ∷ bs) cs h k = (h.0, outside_joined ss ts bs cs h.1 k)
outside_joined [] ts (b ∷ bs) cs h k = absurd h
outside_joined (s ∷ ss) ts [] cs h k = absurd h

-- the subprograms that were made so far are those of these bodies, and behind a construct those of these more
abbrev Made : List SubprogramBody → State → Type 0
Made bs s = AreOutside (reverse s.subprograms) bs

abbrev pub More : List SubprogramBody → State → State → Type 0
More bs s t = (cs : List SubprogramBody) → Made cs s → Made (cs ++ bs) t

more_none : (s t : State) → t.subprograms ≡ s.subprograms → More [] s t
more_none s t e cs h =
    subst (λ ss. AreOutside (reverse ss) (cs ++ [])) (sym e) (subst (AreOutside (reverse s.subprograms)) (sym (append-nil cs)) h)

more_both : (bs cs : List SubprogramBody) (s t u : State) → More bs s t → More cs t u → More (bs ++ cs) s u
more_both bs cs s t u h k ds before = subst (AreOutside (reverse u.subprograms)) (append_assoc ds bs cs) (k (ds ++ bs) (h ds before))

more_made : (b : SubprogramBody) (s t : State) (m : Subprogram) → t.subprograms ≡ (m ∷ s.subprograms) → IsOutside m b → More (b ∷ []) s t
more_made b s t m e h cs before =
    subst (λ ss. AreOutside ss (cs ++ b ∷ [])) (sym (ap reverse e ∙ reverse-cons m s.subprograms))
    (outside_joined (reverse s.subprograms) (m ∷ []) cs (b ∷ []) before (h, tt))

-- parameters
parameter_count : (n : ℕ) (qs : List Parameter) → length (typed_parameters n qs) ≡ length qs
parameter_count n [] = refl
parameter_count n (q ∷ qs) = ap suc (parameter_count (n + 1) qs)

name_count : (m : Mode) (t : Marked) (is : List Identifier) → length (parameters_for m t is) ≡ length is
name_count m t [] = refl
name_count m t (i ∷ is) = ap suc (name_count m t is)

abbrev FewParameters : ℕ → Given Profile → Type 0
FewParameters c g = length g.value.parameters ≤ c

abbrev with_parameters : SourceParameter → Given Marked → State
with_parameters q t = with_objects t.value.subtype q.names (limited t.next.objects q.names t.next)

parameters_few : (env : Env) (s : State) (at : Pos) (qs : List SourceParameter) → IfOk (parameters_judged env s at qs).answer (FewParameters (sum_by parameter_nodes qs))
parameters_few env s at [] = nothing_in (sum_by parameter_nodes [])
  where
    nothing_in : (n : ℕ) → 0 ≤ n
    nothing_in n = omega (arith)
parameters_few env s at (q ∷ qs) =
    let all = sum_by parameter_nodes (q ∷ qs) in
    answered (FewParameters all) at _
    (part_so (λ names. Unit {0}) (FewParameters all) (hide_all at env.local q.names).answer
    (λ names. mark_part (with_local env names) s q.mark
    >>= (λ t. parameters_judged (with_local env (parameter_objects (mode_of q.mode) t.value.subtype t.next.objects names q.names)) (with_parameters q t) at qs
    >>= (λ rest. rule (Some (given (record { parameters = parameters_for (mode_of q.mode) t.value q.names ++ rest.value.parameters; result = None; region = rest.value.region }) rest.next)))))
    (any_answer (hide_all at env.local q.names).answer)
    (λ names u. part_so (λ t. Unit {0}) (FewParameters all) (mark_part (with_local env names) s q.mark).answer
    (λ t. parameters_judged (with_local env (parameter_objects (mode_of q.mode) t.value.subtype t.next.objects names q.names)) (with_parameters q t) at qs
    >>= (λ rest. rule (Some (given (record { parameters = parameters_for (mode_of q.mode) t.value q.names ++ rest.value.parameters; result = None; region = rest.value.region }) rest.next))))
    (any_answer (mark_part (with_local env names) s q.mark).answer)
    (λ t v. part_so (FewParameters (sum_by parameter_nodes qs)) (FewParameters all)
    (parameters_judged (with_local env (parameter_objects (mode_of q.mode) t.value.subtype t.next.objects names q.names)) (with_parameters q t) at qs).answer
    (λ rest. rule (Some (given (record { parameters = parameters_for (mode_of q.mode) t.value q.names ++ rest.value.parameters; result = None; region = rest.value.region }) rest.next)))
    (parameters_few (with_local env (parameter_objects (mode_of q.mode) t.value.subtype t.next.objects names q.names)) (with_parameters q t) at qs)
    (λ rest k. counted (length (parameters_for (mode_of q.mode) t.value q.names ++ rest.value.parameters)) (length (parameters_for (mode_of q.mode) t.value q.names)) (length rest.value.parameters)
    (length q.names) (mode_nodes q.mode) (name_nodes q.mark) (sum_by parameter_nodes qs) all
    (length-append (parameters_for (mode_of q.mode) t.value q.names) rest.value.parameters) (name_count (mode_of q.mode) t.value q.names) (sum_by-cons parameter_nodes q qs) k))))
  where
    counted : (n a b is m k sum all : ℕ) → n ≡ a + b → a ≡ is → all ≡ (is + m + k) + sum → b ≤ sum → n ≤ all
    counted n a b is m k sum all e f g h = omega (arith, e, f, g, h)

result_few : (env : Env) → env.step ≡ typing → (c : ℕ) (q : Given Profile) (n : Option Name) → FewParameters c q → IfPassed (result_judged env q n).outcome (FewParameters c)
result_few env step c q None h = h
result_few env step c q (Some n) h =
    part_so (λ t. Unit {0}) (FewParameters c) (mark_part (with_local env q.value.region) q.next n).answer
    (λ t. typed_rule env.step (with_result q t) (if is_function_profile q.value.parameters t.value then Some (with_result q t) else None))
    (any_answer (mark_part (with_local env q.value.region) q.next n).answer)
    (λ t k. typed_either (FewParameters c) env.step (with_result q t) _ h (if_test (FewParameters c) (is_function_profile q.value.parameters t.value) _ (λ b. h)))

specified_few : (env : Env) → env.step ≡ typing → (s : State) (x : Specification) → IfOk (specified env s x).answer (FewParameters (sum_by parameter_nodes x.parameters))
specified_few env step s x =
    let all = sum_by parameter_nodes x.parameters in
    answered (FewParameters all) x.pos _
    (part_so (FewParameters all) (FewParameters all) (parameters_judged (opened env) (fresh s) x.pos x.parameters).answer
    (λ q. result_judged (opened env) q x.result_mark) (parameters_few (opened env) (fresh s) x.pos x.parameters)
    (λ q h. result_few (opened env) step all q x.result_mark h))

-- a body
module _ (env : Env) (step : env.step ≡ typing) (whole : IsWholeEnv env) (before : State) (b : SubprogramBody) (region : Region) (of_region : IsWholeRegion region)
    (name : List ℕ) (q : Given Profile) (of_profile : IsWholeRegion q.value.region) (adds : Add before q)
    (few : FewParameters (sum_by parameter_nodes b.specification.parameters) q) (filled : BodyHasChoices b) where
  abbrev inside : Env
  inside = inside_body env region name q.value

  inside_whole : IsWholeEnv inside
  inside_whole =
      let outer = local_whole env region whole of_region in
      record { regions = (of_profile, outer.regions); own = outer.own; units = outer.units; test_io = outer.test_io }

  abbrev made : Declared → Given Frame → State
  made x f = body_made env before q.value (block_of x.made f.value) f.next

  abbrev one_made : Declared → Given Frame → Subprogram
  one_made x f = record {
    generic = env.generic;
    parameters = typed_parameters 0 q.value.parameters;
    objects = map (λ w. w.subtype) (reverse f.next.words);
    body = block_of x.made f.value;
  }

  one_within : (x : Declared) (f : Given Frame) → size.declarations_nodes x.made ≤ sum_by declaration_outside b.declarations → FrameAs (handled_outside b.statements) f → IsOutside (one_made x f) b
  one_within x f h k = record {
    parameters = subst (λ n. n ≤ sum_by parameter_nodes b.specification.parameters) (sym (parameter_count 0 q.value.parameters)) few;
    block = block_in x.made f.value (sum_by declaration_outside b.declarations) (handled_outside b.statements) h k;
  }

  judged_within : IfOk (body_judged env before b region name q).answer (More (b ∷ []) before)
  judged_within =
      let declared_in = sum_by declaration_outside b.declarations in
      answered (More (b ∷ []) before) b.specification.pos _
      (part_so (λ x. DeclaresIn declared_in x × AddsOn q.next x) (More (b ∷ []) before) (all_declared inside q.next b.specification.pos b.declarations).answer
      (λ x. all_handled (with_local inside x.region) x.next b.specification.pos b.statements
      >>= (λ f. closed_by b.specification.pos b.specification.name b.end_name
      >>= (λ u. typed_rule env.step (made x f) (if may_end b q.value.result then Some (made x f) else None))))
      (both_ok (DeclaresIn declared_in) (AddsOn q.next) (all_declared inside q.next b.specification.pos b.declarations).answer
      (declarations_few inside q.next b.specification.pos b.declarations step inside_whole refl)
      (declarations_add inside q.next b.specification.pos b.declarations))
      (λ x h. part_so (λ f. FrameAs (handled_outside b.statements) f × Add x.next f) (More (b ∷ []) before) (all_handled (with_local inside x.region) x.next b.specification.pos b.statements).answer
      (λ f. closed_by b.specification.pos b.specification.name b.end_name
      >>= (λ u. typed_rule env.step (made x f) (if may_end b q.value.result then Some (made x f) else None)))
      (both_ok (FrameAs (handled_outside b.statements)) (Add x.next) (all_handled (with_local inside x.region) x.next b.specification.pos b.statements).answer
      (handled_few (with_local inside x.region) x.next b.specification.pos b.statements step (local_whole inside x.region inside_whole h.0.1) filled)
      (handled_add (with_local inside x.region) x.next b.specification.pos b.statements))
      (λ f k. part_so (λ u. Unit {0}) (More (b ∷ []) before) (closed_by b.specification.pos b.specification.name b.end_name).answer
      (λ u. typed_rule env.step (made x f) (if may_end b q.value.result then Some (made x f) else None))
      (any_answer (closed_by b.specification.pos b.specification.name b.end_name).answer)
      (λ u v. let all = more_made b before (made x f) (one_made x f)
      (ap (λ ss. one_made x f ∷ ss) (k.1.subprograms ∙ (h.1.subprograms ∙ adds.subprograms)))
      (one_within x f h.0.0 k.0) in
      typed_either (More (b ∷ []) before) env.step (made x f) _ all
      (if_test (More (b ∷ []) before) (may_end b q.value.result) (Some (made x f)) (λ e. all))))))

abbrev Bodies : List SubprogramBody → State → Given Region → Type 0
Bodies ps s g = More ps s g.next

-- a specification: its parameters are whole objects, and no more than its tokens
abbrev Specified : State → SubprogramBody → Given Profile → Type 0
Specified s b q = (Profiled s q × Add s q) × FewParameters (sum_by parameter_nodes b.specification.parameters) q

specified_so : (env : Env) → env.step ≡ typing → IsWholeEnv env → (s : State) (b : SubprogramBody) → IfOk (specified env s b.specification).answer (Specified s b)
specified_so env step whole s b =
    both_ok (λ q. Profiled s q × Add s q) (FewParameters (sum_by parameter_nodes b.specification.parameters)) (specified env s b.specification).answer
    (both_ok (Profiled s) (Add s) (specified env s b.specification).answer (specified_calm env step whole s b.specification) (specified_adds env s b.specification))
    (specified_few env step s b.specification)

module _ (env : Env) (step : env.step ≡ typing) (whole : IsWholeEnv env) (s : State) (b : SubprogramBody) (filled : BodyHasChoices b) where
  abbrev after_conforming : Region → Given Profile → Plan (Given Region)
  after_conforming region q =
      body_judged env s b (with_routine env region b.specification.name q.value) (key b.specification.name) q
      >>= (λ next. rule (Some (given (with_routine env region b.specification.name q.value) next)))

  abbrev after_specified : Region → Given Profile → Plan (Given Region)
  after_specified region q = conforming b.specification.pos region b.specification.name q.value >>= (λ fit. after_conforming region q)

  abbrev after_completed : Region → Plan (Given Region)
  after_completed region = specified (with_local env region) s b.specification >>= after_specified region

  packaged_within : IfOk (packaged_body env s b).answer (Bodies (b ∷ []) s)
  packaged_within =
      answered (Bodies (b ∷ []) s) b.specification.pos _
      (part_so IsWholeRegion (Bodies (b ∷ []) s) (completed env.local b.specification.name).answer after_completed
      (completed_whole env.local b.specification.name whole.regions.0)
      (λ region u. part_so (Specified s b) (Bodies (b ∷ []) s) (specified (with_local env region) s b.specification).answer (after_specified region)
      (specified_so (with_local env region) step (local_whole env region whole u) s b)
      (λ q h. part_so (λ v. Unit {0}) (Bodies (b ∷ []) s) (conforming b.specification.pos region b.specification.name q.value).answer
      (λ fit. after_conforming region q) (any_answer (conforming b.specification.pos region b.specification.name q.value).answer)
      (λ fit v. part_so (More (b ∷ []) s) (Bodies (b ∷ []) s)
      (body_judged env s b (with_routine env region b.specification.name q.value) (key b.specification.name) q).answer
      (λ next. rule (Some (given (with_routine env region b.specification.name q.value) next)))
      (judged_within env step whole s b (with_routine env region b.specification.name q.value) (redefined_whole (key b.specification.name) _ region tt u)
      (key b.specification.name) q h.0.0.1 h.0.1 h.1 filled)
      (λ next k. k)))))

-- items
item_within : (env : Env) (s : State) (i : PackageItem) → IfPassed (package_item env s i).outcome (Bodies [] s)
item_within env s (part.Declaration d) =
    part_so (AddsOn s) (Bodies [] s) (declared env s d).answer (λ x. rule (Some (given x.region x.next))) (declaration_adds env s d)
    (λ x h. more_none s x.next h.subprograms)
item_within env s (part.Subprogram x) =
    part_so (Add s) (Bodies [] s) (subprogram_declared env s x).answer (λ r. rule (Some r)) (subprogram_adds env s x) (λ r h. more_none s r.next h.subprograms)

abbrev one_body : BodyItem → List SubprogramBody
one_body (item.Body b) = b ∷ []
one_body (item.Declared i) = []

body_item_within : (env : Env) (s : State) (i : BodyItem) → env.step ≡ typing → IsWholeEnv env → Everywhere BodyHasChoices (one_body i) → IfPassed (body_item env s i).outcome (Bodies (one_body i) s)
body_item_within env s (item.Declared i) step whole filled = item_within env s i
body_item_within env s (item.Body b) step whole filled =
    part_so (Bodies (b ∷ []) s) (Bodies (b ∷ []) s) (packaged_body env s b).answer (λ r. rule (Some r)) (packaged_within env step whole s b filled.0) (λ r h. h)

bodies_first : (i : BodyItem) (is : List BodyItem) → bodies_among (i ∷ is) ≡ (one_body i ++ bodies_among is)
bodies_first (item.Body b) is = refl
bodies_first (item.Declared i) is = refl

filled_parts : (i : BodyItem) (is : List BodyItem) → Everywhere BodyHasChoices (bodies_among (i ∷ is))
    → Everywhere BodyHasChoices (one_body i) × Everywhere BodyHasChoices (bodies_among is)
filled_parts (item.Body b) is h = ((h.0, tt), h.1)
filled_parts (item.Declared i) is h = (tt, h)

abbrev AndWhole : List SubprogramBody → State → Given Region → Type 0
AndWhole ps s g = Bodies ps s g × Turned s g

body_items_within : (env : Env) (s : State) (p : Pos) (is : List BodyItem) → env.step ≡ typing → IsWholeEnv env → env.is_library ≡ true → Everywhere BodyHasChoices (bodies_among is)
    → IfOk (body_items env s p is).answer (Bodies (bodies_among is) s)
body_items_within env s p [] step whole library filled = more_none s s refl
body_items_within env s p (i ∷ is) step whole library filled =
    let parts = filled_parts i is filled in
    answered (Bodies (bodies_among (i ∷ is)) s) p _
    (part_so (AndWhole (one_body i) s) (Bodies (bodies_among (i ∷ is)) s) _ (λ r. body_items (with_local env r.value) r.next p is >>= (λ rest. rule (Some rest)))
    (both_ok (Bodies (one_body i) s) (Turned s) _
    (answered (Bodies (one_body i) s) p (body_item env s i).outcome (body_item_within env s i step whole parts.0))
    (answered (Turned s) p (body_item env s i).outcome (body_item_turn env s i step whole library)))
    (λ r h. part_so (Bodies (bodies_among is) r.next) (Bodies (bodies_among (i ∷ is)) s) (body_items (with_local env r.value) r.next p is).answer (λ rest. rule (Some rest))
    (body_items_within (with_local env r.value) r.next p is step (local_whole env r.value whole h.1.1) library parts.1)
    (λ rest k. subst (λ ps. More ps s rest.next) (sym (bodies_first i is)) (more_both (one_body i) (bodies_among is) s r.next rest.next h.0 k))))

-- units
module _ (l : Library) where
  package_within : (env : Env) (s : State) (p : Pos) (n : ℕ) (b : PackageBody) → env.step ≡ typing → IsWholeEnv env → IsWholeWorld env.world → env.is_library ≡ true
      → Everywhere BodyHasChoices (bodies_among b.items) → IfOk (package_body env s p n b).answer (More (bodies_among b.items) s)
  package_within env s p n b step whole world library filled =
      answered (More (bodies_among b.items) s) p _
      (part_so (Bodies (bodies_among b.items) (at_unit s)) (More (bodies_among b.items) s)
      (body_items (in_body env n (interface_of env.world n) (region_of (interface_of env.world n))) (at_unit s) p b.items).answer
      (λ region. closed_by p b.name b.end_name >>= (λ end. rule (Some (behind_unit (in_body env n (interface_of env.world n) []) n region.next))))
      (body_items_within (in_body env n (interface_of env.world n) (region_of (interface_of env.world n))) (at_unit s) p b.items step
      (package_env_whole env _ n (region_of (interface_of env.world n)) whole (region_whole (interface_of env.world n) (interface_whole env.world n world))) library filled)
      (λ region h. part_so (λ u. Unit {0}) (More (bodies_among b.items) s) (closed_by p b.name b.end_name).answer
      (λ end. rule (Some (behind_unit (in_body env n (interface_of env.world n) []) n region.next)))
      (any_answer (closed_by p b.name b.end_name).answer) (λ end u qs before. h qs before)))

  body_of_within : (w : World) (s : State) (m : ℕ) (u : LibraryUnit) (b : PackageBody) (o : Option ℕ) → IsThere o → IsWholeWorld w
      → Everywhere BodyHasChoices (bodies_among b.items) → IfOk (package_body_of typing l w s m u b o).answer (More (bodies_among b.items) s)
  body_of_within w s m u b None h world filled = absurd h
  body_of_within w s m u b (Some n) h world filled =
      package_within (env_of typing w m (key b.name) (seen_in_body w l n u)) s u.item_pos n b refl
      (env_whole w m (key b.name) (seen_in_body w l n u) world
      (seen_more_whole w l (withs_of (slice_get l.units n)) (seen_in w l u (unit n)) (in_region l w u (unit n) tt))) world refl filled

  library_within : (env : Env) (s : State) (b : SubprogramBody) → env.step ≡ typing → IsWholeEnv env → BodyHasChoices b → IfOk (library_body env s b).answer (More (b ∷ []) s)
  library_within env s b step whole filled =
      let inner : Env = record env { is_library = false } in
      let is : IsWholeEnv inner = record { regions = whole.regions; own = whole.own; units = whole.units; test_io = whole.test_io } in
      answered (More (b ∷ []) s) b.specification.pos _
      (part_so (Specified (at_unit s) b) (More (b ∷ []) s) (specified inner (at_unit s) b.specification).answer
      (λ q. body_judged inner s b [] [] q >>= (λ next. rule (Some next))) (specified_so inner step is (at_unit s) b)
      (λ q h. part_so (More (b ∷ []) s) (More (b ∷ []) s) (body_judged inner s b [] [] q).answer (λ next. rule (Some next))
      (judged_within inner step is s b [] tt [] q h.0.0.1 (adds_both s (at_unit s) q.next (adds_at_unit s) h.0.1) h.1 filled) (λ next k. k)))

  bodies_within : (w : World) (s : State) (n : ℕ) (u : LibraryUnit) (i : LibraryItem) → HasHome l i → IsWholeWorld w → Everywhere BodyHasChoices (bodies_of_item i)
      → IfOk (bodies_judged typing l w s n u i).answer (More (bodies_of_item i) s)
  bodies_within w s n u (library.PackageBody b) h world filled = body_of_within w s n u b (unit_named l.names (key b.name)) h world filled
  bodies_within w s n u (library.Subprogram b) h world filled =
      library_within (env_of typing w n (key b.specification.name) (seen_in w l u (routine_entity (interface_of w n)))) s b refl
      (env_whole w n (key b.specification.name) (seen_in w l u (routine_entity (interface_of w n))) world
      (in_region l w u (routine_entity (interface_of w n)) (routine_whole l (interface_of w n)))) filled.0
  bodies_within w s n u (library.Package x) h world filled = more_none s s refl
  bodies_within w s n u (library.Instance i) h world filled = more_none s s refl

  all_bodies_within : (w : World) (s : State) (n : ℕ) (us : List LibraryUnit) → Everywhere (λ u. HasHome l u.item) us → IsWholeWorld w
      → UnitsHaveChoices us → IfOk (all_bodies_judged typing l w s n us).answer (More (bodies_in us) s)
  all_bodies_within w s n [] h world filled = more_none s s refl
  all_bodies_within w s n (u ∷ us) h world filled =
      let parts = every_parts BodyHasChoices (bodies_of_item u.item) (bodies_in us) filled in
      answered (More (bodies_in (u ∷ us)) s) nowhere _
      (part_so (More (bodies_of_item u.item) s) (More (bodies_in (u ∷ us)) s) _ (λ x. all_bodies_judged typing l w x (n + 1) us >>= (λ rest. rule (Some rest)))
      (answered (More (bodies_of_item u.item) s) u.pos _
      (part_so (More (bodies_of_item u.item) s) (More (bodies_of_item u.item) s) (bodies_judged typing l w s n u u.item).answer (λ y. rule (Some y)) (bodies_within w s n u u.item h.0 world parts.0) (λ y k. k)))
      (λ x k. part_so (More (bodies_in us) x) (More (bodies_in (u ∷ us)) s) (all_bodies_judged typing l w x (n + 1) us).answer (λ rest. rule (Some rest))
      (all_bodies_within w x (n + 1) us h.1 world parts.1) (λ rest r. more_both (bodies_of_item u.item) (bodies_in us) s x rest k r)))

pub subprograms_outside : (l : Library) (main : List ℕ) (p : Program) → IsLegal l main p → IsWholeStandard l.standard → UnitsHaveChoices l.units
    → AreOutside p.subprograms (bodies_in l.units)
subprograms_outside l main p is standard filled =
    let seen = of_ok (λ y. Seen beginning_state y)
    (all_interfaces typing l (record { world = world_before l; next = beginning_state }) l.order).answer is.walk.seen is.walk.interfaces
    (interfaces_seen l (record { world = world_before l; next = beginning_state }) l.order
    (record { standard = standard; interfaces = none_declared l.units })) in
    subst (λ q. AreOutside q.subprograms (bodies_in l.units)) (sym is.made)
    (of_ok (More (bodies_in l.units) is.walk.seen.next) (all_bodies_judged typing l is.walk.seen.world is.walk.seen.next 0 l.units).answer is.walked.next is.walk.bodies
    (all_bodies_within l is.walk.seen.world is.walk.seen.next 0 l.units (have_homes l 0 l.units (are_headed l 0 l.units is.walk.headings)) seen.1 filled)
    [] (subst (λ ss. AreOutside (reverse ss) []) (sym (states_of l main p is).seen.subprograms) tt))

pub subprograms_within : (l : Library) (main : List ℕ) (p : Program) → IsLegal l main p → IsWholeStandard l.standard → UnitsHaveChoices l.units
    → AreWithin p.subprograms (bodies_in l.units)
subprograms_within l main p is standard filled =
    within_text p.subprograms (bodies_in l.units) (subprograms_outside l main p is standard filled)

-- whole programs: what types weigh and what names exceptions have tokens apart
abbrev pub body_apart : SubprogramBody → ℕ
body_apart b = body_types b + body_exceptions b

pub one_few : (s : Subprogram) (b : SubprogramBody) → IsOutside s b → size.subprogram_nodes s + body_apart b ≤ body_nodes b
one_few s b h =
    one_in (length s.parameters) (size.block_nodes s.body) (sum_by parameter_nodes b.specification.parameters)
    (sum_by declaration_outside b.declarations) (declared_types b.declarations) (declared_exceptions b.declarations) (sum_by declaration_nodes b.declarations)
    (handled_outside b.statements) (handled_types b.statements) (handled_exceptions b.statements) (handled_nodes b.statements)
    (if_present (λ n. 1 + name_nodes n) b.specification.result_mark) (one_if_present b.end_name)
    h.parameters h.block (declarations_split b.declarations) (handled_split b.statements)
  where
    one_in : (n m a c ct cx cn d dt dx dn r e : ℕ) → n ≤ a → m ≤ c + d → c + (ct + cx) ≤ cn → d + (dt + dx) ≤ dn
        → suc (n + m) + ((ct + dt) + (cx + dx)) ≤ (2 + a + r) + 3 + cn + dn + e
    one_in n m a c ct cx cn d dt dx dn r e h k i j = omega (arith, h, k, i, j)

all_few : (ss : List Subprogram) (bs : List SubprogramBody) → AreOutside ss bs → sum_by size.subprogram_nodes ss + sum_by body_apart bs ≤ sum_by body_nodes bs
all_few [] [] h = at_itself 0
  where
    at_itself : (n : ℕ) → n + 0 ≤ n
    at_itself n = omega (arith)
all_few (s ∷ ss) (b ∷ bs) h =
    let left = sum_by-cons size.subprogram_nodes s ss in
    let apart = sum_by-cons body_apart b bs in
    let right = sum_by-cons body_nodes b bs in
    let first = one_few s b h.0 in
    let rest = all_few ss bs h.1 in
    omega (arith, left, apart, right, first, rest)
all_few [] (b ∷ bs) h = absurd h
all_few (s ∷ ss) [] h = absurd h

-- what stands beside the bodies has tokens of its own
nothing_in : (n : ℕ) → 0 + 0 ≤ n
nothing_in n = omega (arith)

package_item_few : (i : PackageItem) → package_item_types i + package_item_exceptions i ≤ package_item_nodes i
package_item_few (part.Declaration d) =
    let split = kind_split d.kind in under (kind_outside d.kind) (kind_types d.kind + kind_exceptions d.kind) (kind_nodes d.kind) split
  where
    under : (a b c : ℕ) → a + b ≤ c → b ≤ c
    under a b c h = omega (arith, h)
package_item_few (part.Subprogram x) = nothing_in (package_item_nodes (part.Subprogram x))

package_items_few : (is : List PackageItem) → package_items_types is + package_items_exceptions is ≤ sum_by package_item_nodes is
package_items_few [] = nothing_in (sum_by package_item_nodes [])
package_items_few (i ∷ is) =
    both_in (package_item_types i) (package_item_exceptions i) (package_items_types is) (package_items_exceptions is) (package_item_nodes i)
    (sum_by package_item_nodes is) (sum_by package_item_nodes (i ∷ is)) (sum_by-cons package_item_nodes i is) (package_item_few i) (package_items_few is)
  where
    both_in : (a x b y c d n : ℕ) → n ≡ c + d → a + x ≤ c → b + y ≤ d → (a + b) + (x + y) ≤ n
    both_in a x b y c d n e h k = omega (arith, e, h, k)

among_few : (is : List BodyItem)
    → sum_by body_nodes (bodies_among is) + (body_items_types is + body_items_exceptions is) ≤ sum_by body_item_nodes is + sum_by body_apart (bodies_among is)
among_few [] = at_itself 0
  where
    at_itself : (n : ℕ) → n + (0 + 0) ≤ n + 0
    at_itself n = omega (arith)
among_few (item.Body b ∷ is) =
    both_in (body_nodes b) (body_types b) (body_exceptions b) (sum_by body_nodes (bodies_among is)) (body_items_types is) (body_items_exceptions is)
    (sum_by body_item_nodes is) (sum_by body_apart (bodies_among is))
    (sum_by body_nodes (b ∷ bodies_among is)) (sum_by body_item_nodes (item.Body b ∷ is)) (sum_by body_apart (b ∷ bodies_among is))
    (sum_by-cons body_nodes b (bodies_among is)) (sum_by-cons body_item_nodes (item.Body b) is) (sum_by-cons body_apart b (bodies_among is)) (among_few is)
  where
    both_in : (n t v a b s c d x y z : ℕ) → x ≡ n + a → y ≡ n + c → z ≡ (t + v) + d → a + (b + s) ≤ c + d → x + ((t + b) + (v + s)) ≤ y + z
    both_in n t v a b s c d x y z e f g h = omega (arith, e, f, g, h)
among_few (item.Declared i ∷ is) =
    more_in (package_item_types i) (package_item_exceptions i) (package_item_nodes i) (sum_by body_nodes (bodies_among is)) (body_items_types is) (body_items_exceptions is)
    (sum_by body_item_nodes is) (sum_by body_apart (bodies_among is)) (sum_by body_item_nodes (item.Declared i ∷ is))
    (sum_by-cons body_item_nodes (item.Declared i) is) (package_item_few i) (among_few is)
  where
    more_in : (t v n a b s c d y : ℕ) → y ≡ n + c → t + v ≤ n → a + (b + s) ≤ c + d → a + ((t + b) + (v + s)) ≤ y + d
    more_in t v n a b s c d y f k h = omega (arith, f, k, h)

pub item_few : (i : LibraryItem) → sum_by body_nodes (bodies_of_item i) + (item_types i + item_exceptions i) ≤ item_nodes i + sum_by body_apart (bodies_of_item i)
item_few (library.PackageBody b) =
    around (sum_by body_nodes (bodies_among b.items)) (body_items_types b.items + body_items_exceptions b.items) (sum_by body_item_nodes b.items)
    (sum_by body_apart (bodies_among b.items)) (one_if_present b.end_name) (among_few b.items)
  where
    around : (a b c d e : ℕ) → a + b ≤ c + d → a + b ≤ (5 + c + e) + d
    around a b c d e h = omega (arith, h)
item_few (library.Subprogram b) =
    let nodes = sum_by-cons body_nodes b [] in
    let apart = sum_by-cons body_apart b [] in
    alone (sum_by body_nodes (b ∷ [])) (body_nodes b) (sum_by body_apart (b ∷ [])) (body_apart b) nodes apart
  where
    alone : (n m t u : ℕ) → n ≡ m + 0 → t ≡ u + 0 → n + u ≤ m + t
    alone n m t u e f = omega (arith, e, f)
item_few (library.Package x) =
    items_in (if_present (λ fs. 1 + sum_by formal_nodes fs) x.formals) (package_items_types x.items + package_items_exceptions x.items)
    (sum_by package_item_nodes x.items) (one_if_present x.end_name) (package_items_few x.items)
  where
    items_in : (f t n e : ℕ) → t ≤ n → 0 + t ≤ (f + 4 + n + e) + 0
    items_in f t n e h = omega (arith, h)
item_few (library.Instance i) = none_at (item_nodes (library.Instance i))
  where
    none_at : (n : ℕ) → 0 + (0 + 0) ≤ n + 0
    none_at n = omega (arith)

units_few : (us : List LibraryUnit)
    → sum_by body_nodes (bodies_in us) + (units_types us + units_exceptions us) ≤ sum_by unit_nodes us + sum_by body_apart (bodies_in us)
units_few [] = at_itself 0
  where
    at_itself : (n : ℕ) → n + (0 + 0) ≤ n + 0
    at_itself n = omega (arith)
units_few (u ∷ us) =
    both_in (sum_by body_nodes (bodies_of_item u.item)) (item_types u.item) (item_exceptions u.item) (item_nodes u.item) (sum_by body_apart (bodies_of_item u.item))
    (sum_by body_nodes (bodies_in us)) (units_types us) (units_exceptions us) (sum_by unit_nodes us) (sum_by body_apart (bodies_in us)) (sum_by with_nodes u.withs)
    (sum_by body_nodes (bodies_of_item u.item ++ bodies_in us)) (sum_by unit_nodes (u ∷ us)) (sum_by body_apart (bodies_of_item u.item ++ bodies_in us))
    (sum_by-append body_nodes (bodies_of_item u.item) (bodies_in us)) (sum_by-cons unit_nodes u us) (sum_by-append body_apart (bodies_of_item u.item) (bodies_in us))
    (item_few u.item) (units_few us)
  where
    both_in : (a b s c d e f t g h w x y z : ℕ) → x ≡ a + e → y ≡ (w + c) + g → z ≡ d + h → a + (b + s) ≤ c + d → e + (f + t) ≤ g + h
        → x + ((b + f) + (s + t)) ≤ y + z
    both_in a b s c d e f t g h w x y z i j k l m = omega (arith, i, j, k, l, m)

few_apart : (l : Library) (main : List ℕ) (p : Program) → IsLegal l main p → IsWholeStandard l.standard → UnitsHaveChoices l.units
    → sum_by size.subprogram_nodes p.subprograms + (units_types l.units + units_exceptions l.units) ≤ sum_by unit_nodes l.units
few_apart l main p is standard filled =
    let bodies = all_few p.subprograms (bodies_in l.units) (subprograms_outside l main p is standard filled) in
    let units = units_few l.units in
    omega (arith, bodies, units)

pub few_beside_types : (l : Library) (main : List ℕ) (p : Program) → IsLegal l main p → IsWholeStandard l.standard → UnitsHaveChoices l.units
    → sum_by size.subprogram_nodes p.subprograms + units_types l.units ≤ sum_by unit_nodes l.units
few_beside_types l main p is standard filled = let all = few_apart l main p is standard filled in omega (arith, all)

pub few_nodes : (l : Library) (main : List ℕ) (p : Program) → IsLegal l main p → IsWholeStandard l.standard → UnitsHaveChoices l.units
    → sum_by size.subprogram_nodes p.subprograms ≤ sum_by unit_nodes l.units
few_nodes l main p is standard filled = let all = few_beside_types l main p is standard filled in omega (arith, all)

pub few_beside_weights : (weight : ℕ) (l : Library) (main : List ℕ) (p : Program) → IsLegal l main p → IsWholeStandard l.standard → UnitsHaveChoices l.units
    → weight ≤ units_types l.units → sum_by size.subprogram_nodes p.subprograms + weight ≤ sum_by unit_nodes l.units
few_beside_weights weight l main p is standard filled light = let all = few_beside_types l main p is standard filled in omega (arith, all, light)

-- so where the text has few, each body has
each_of_sum : (limit : ℕ) (ss : List Subprogram) → sum_by size.subprogram_nodes ss ≤ limit → Everywhere (λ s. size.block_nodes s.body ≤ limit) ss
each_of_sum limit [] few = tt
each_of_sum limit (s ∷ ss) few =
    let sum = sum_by-cons size.subprogram_nodes s ss in
    let rest : sum_by size.subprogram_nodes ss ≤ limit = omega (arith, sum, few) in
    (body_in (length s.parameters) (size.block_nodes s.body) (sum_by size.subprogram_nodes ss) (sum_by size.subprogram_nodes (s ∷ ss)) sum few, each_of_sum limit ss rest)
  where
    body_in : (n b rest all : ℕ) → all ≡ suc (n + b) + rest → all ≤ limit → b ≤ limit
    body_in n b rest all e h = omega (arith, e, h)

pub each_few : (l : Library) (main : List ℕ) (p : Program) → IsLegal l main p → IsWholeStandard l.standard → UnitsHaveChoices l.units → (limit : ℕ)
    → sum_by unit_nodes l.units ≤ limit → Everywhere (λ s. size.block_nodes s.body ≤ limit) p.subprograms
each_few l main p is standard filled limit few =
    let all = few_nodes l main p is standard filled in each_of_sum limit p.subprograms (omega (arith, all, few))
