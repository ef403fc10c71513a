-- The conditions of the decisions of a legal program stand where those of its units stand, in the order in which they do.
use Rattle.std.proofs.Common.{◌≡◌, ◌+◌, ℕ, true, false, if◌then◌else◌, List, [], ◌∷◌, ◌++◌, map, reverse, Option, Some, None, IfOk, slice_get, refl, sym, ap, ◌∙◌, subst, append-nil, append_assoc}
use Rattle.cov_base.specs.Lists.{Everywhere}
use Rattle.cov_base.specs.declared.position.Pos.{Pos}
use Rattle.ada_syntax.specs.declared.unit.BodyItem.{BodyItem}
use Rattle.ada_syntax.specs.declared.unit.BodyItem.TheVariants as item
use Rattle.ada_syntax.specs.declared.unit.LibraryItem.{LibraryItem}
use Rattle.ada_syntax.specs.declared.unit.LibraryItem.TheVariants as library
use Rattle.ada_syntax.specs.declared.unit.PackageBody.{PackageBody}
use Rattle.ada_syntax.specs.declared.unit.PackageItem.{PackageItem}
use Rattle.ada_syntax.specs.declared.unit.PackageItem.TheVariants as part
use Rattle.ada_syntax.specs.declared.unit.SubprogramBody.{SubprogramBody}
use Rattle.ada_syntax.specs.declared.unit.Unit.{Unit as LibraryUnit}
use Rattle.ada_meaning.specs.Collected.{in_block, decisions_of}
use Rattle.ada_meaning.specs.Program.{Subprogram, Program}
use Rattle.ada_rules.specs.Plan.{Plan, ◌>>=◌, rule}
use Rattle.ada_rules.specs.Denoted.{nowhere}
use Rattle.ada_rules.specs.Entities.{key, unit, Region}
use Rattle.ada_rules.specs.Environment.{typing, typed_rule, World, interface_of, State, beginning_state, Given, given, Env, with_local}
use Rattle.ada_rules.specs.Declarations.{Declared, declared, all_declared}
use Rattle.ada_rules.specs.Library.{Library, unit_named}
use Rattle.ada_rules.specs.Statements.{Frame, block_of, all_handled}
use Rattle.ada_rules.specs.Subprograms.{Profile, specified, subprogram_declared, typed_parameters, completed, conforming, closed_by, may_end, body_made, inside_body, body_judged, with_routine, packaged_body}
use Rattle.ada_rules.specs.Units.{all_interfaces, world_before, withs_of, env_of, package_item, body_item, body_items, at_unit, behind_unit, seen_in, region_of, seen_in_body, in_body, package_body, package_body_of, library_body, routine_entity, bodies_judged, all_bodies_judged}
use Rattle.legal_laws.proofs.Passing.{IfPassed, if_test, answered, part_so, typed_either, both_ok, any_answer}
use Rattle.legal_programs.specs.Homes.{IsThere, HasHome}
use Rattle.legal_programs.specs.Deciding.{IsWholeRegion, IsWholeEnv}
use Rattle.legal_counts.specs.ConditionPlaces.{declared_conditions, handled_conditions, body_conditions, items_conditions, unit_conditions, units_conditions}
use Rattle.legal_programs.specs.WholeWorld.{IsWholeWorld, IsWholeStandard}
use Rattle.legal_programs.specs.Walked.{IsLegal}
use Rattle.legal_programs.proofs.Adding.{adds_both, Add, AddsOn, declaration_adds, declarations_add}
use Rattle.legal_programs.proofs.AddingStatements.{handled_add}
use Rattle.legal_programs.proofs.Counted.{states_of}
use Rattle.legal_programs.proofs.Extending.{specified_adds, subprogram_adds}
use Rattle.legal_programs.proofs.ExtendingUnits.{adds_at_unit}
use Rattle.legal_programs.proofs.Headings.{are_headed, have_homes}
use Rattle.legal_programs.proofs.DecidedBodies.{Bodies as Turned, Profiled, body_item_turn, completed_whole, decisions_last, specified_calm}
use Rattle.legal_programs.proofs.DecidedPrograms.{none_declared}
use Rattle.legal_programs.proofs.DecidedUnits.{Seen, env_whole, in_region, interface_whole, interfaces_seen, package_env_whole, region_whole, routine_whole, seen_more_whole}
use Rattle.legal_programs.proofs.Passed.{of_ok}
use Rattle.legal_counts.proofs.ConditionStatements.{DeclaresIn, declarations_placed, FrameAs, handled_placed, block_placed}
use Rattle.legal_counts.proofs.ConditionExpressions.{At, at_as, at_joined, at_none}
use Rattle.legal_programs.proofs.WholeRegions.{local_whole, redefined_whole}

-- the decisions of the subprograms that were made so far stand at these places, and behind a construct at these more
abbrev Placed : List (List Pos) → State → Type 0
Placed ps s = At (decisions_of (reverse s.subprograms)) ps

abbrev pub More : List (List Pos) → State → State → Type 0
More ps s t = (qs : List (List Pos)) → Placed qs s → Placed (qs ++ ps) t

more_none : (s t : State) → t.subprograms ≡ s.subprograms → More [] s t
more_none s t e qs h =
    at_as (decisions_of (reverse t.subprograms)) (decisions_of (reverse s.subprograms)) (qs ++ []) (ap (λ ss. decisions_of (reverse ss)) e)
    (subst (At (decisions_of (reverse s.subprograms))) (sym (append-nil qs)) h)

more_both : (ps rs : List (List Pos)) (s t u : State) → More ps s t → More rs t u → More (ps ++ rs) s u
more_both ps rs s t u h k qs before =
    subst (At (decisions_of (reverse u.subprograms))) (append_assoc qs ps rs) (k (qs ++ ps) (h qs before))

more_made : (ps : List (List Pos)) (s t : State) (m : Subprogram) → t.subprograms ≡ (m ∷ s.subprograms) → At (in_block m.body) ps → More ps s t
more_made ps s t m e h qs before =
    at_as (decisions_of (reverse t.subprograms)) (decisions_of (reverse s.subprograms) ++ in_block m.body) (qs ++ ps)
    (ap (λ ss. decisions_of (reverse ss)) e ∙ decisions_last m s.subprograms)
    (at_joined (decisions_of (reverse s.subprograms)) (in_block m.body) qs ps before h)

-- a body
module _ (env : Env) (step : env.step ≡ typing) (whole : IsWholeEnv env) (before : State) (b : SubprogramBody) (region : Region) (of_region : IsWholeRegion region)
    (name : List ℕ) (q : Given Profile) (of_profile : IsWholeRegion q.value.region) (adds : Add before q) where
  abbrev inside : Env
  inside = inside_body env region name q.value

  inside_whole : IsWholeEnv inside
  inside_whole =
      let outer = local_whole env region whole of_region in
      record { regions = (of_profile, outer.regions); own = outer.own; units = outer.units; test_io = outer.test_io }

  abbrev made : Declared → Given Frame → State
  made x f = body_made env before q.value (block_of x.made f.value) f.next

  abbrev one_made : Declared → Given Frame → Subprogram
  one_made x f = record {
    generic = env.generic;
    parameters = typed_parameters 0 q.value.parameters;
    objects = map (λ w. w.subtype) (reverse f.next.words);
    body = block_of x.made f.value;
  }

  judged_placed : IfOk (body_judged env before b region name q).answer (More (body_conditions b) before)
  judged_placed =
      answered (More (body_conditions b) before) b.specification.pos _
      (part_so (λ x. DeclaresIn (declared_conditions b.declarations) x × AddsOn q.next x) (More (body_conditions b) before) (all_declared inside q.next b.specification.pos b.declarations).answer
      (λ x. all_handled (with_local inside x.region) x.next b.specification.pos b.statements
      >>= (λ f. closed_by b.specification.pos b.specification.name b.end_name
      >>= (λ u. typed_rule env.step (made x f) (if may_end b q.value.result then Some (made x f) else None))))
      (both_ok (DeclaresIn (declared_conditions b.declarations)) (AddsOn q.next) (all_declared inside q.next b.specification.pos b.declarations).answer
      (declarations_placed inside q.next b.specification.pos b.declarations step inside_whole refl)
      (declarations_add inside q.next b.specification.pos b.declarations))
      (λ x h. part_so (λ f. FrameAs (handled_conditions b.statements) f × Add x.next f) (More (body_conditions b) before) (all_handled (with_local inside x.region) x.next b.specification.pos b.statements).answer
      (λ f. closed_by b.specification.pos b.specification.name b.end_name
      >>= (λ u. typed_rule env.step (made x f) (if may_end b q.value.result then Some (made x f) else None)))
      (both_ok (FrameAs (handled_conditions b.statements)) (Add x.next) (all_handled (with_local inside x.region) x.next b.specification.pos b.statements).answer
      (handled_placed (with_local inside x.region) x.next b.specification.pos b.statements step (local_whole inside x.region inside_whole h.0.1))
      (handled_add (with_local inside x.region) x.next b.specification.pos b.statements))
      (λ f k. part_so (λ u. Unit {0}) (More (body_conditions b) before) (closed_by b.specification.pos b.specification.name b.end_name).answer
      (λ u. typed_rule env.step (made x f) (if may_end b q.value.result then Some (made x f) else None))
      (any_answer (closed_by b.specification.pos b.specification.name b.end_name).answer)
      (λ u v. let all = more_made (body_conditions b) before (made x f) (one_made x f)
      (ap (λ ss. one_made x f ∷ ss) (k.1.subprograms ∙ (h.1.subprograms ∙ adds.subprograms)))
      (block_placed x.made f.value (declared_conditions b.declarations) (handled_conditions b.statements) h.0.0 k.0) in
      typed_either (More (body_conditions b) before) env.step (made x f) _ all
      (if_test (More (body_conditions b) before) (may_end b q.value.result) (Some (made x f)) (λ e. all))))))

abbrev Bodies : List (List Pos) → State → Given Region → Type 0
Bodies ps s g = More ps s g.next

module _ (env : Env) (step : env.step ≡ typing) (whole : IsWholeEnv env) (s : State) (b : SubprogramBody) where
  abbrev after_conforming : Region → Given Profile → Plan (Given Region)
  after_conforming region q =
      body_judged env s b (with_routine env region b.specification.name q.value) (key b.specification.name) q
      >>= (λ next. rule (Some (given (with_routine env region b.specification.name q.value) next)))

  abbrev after_specified : Region → Given Profile → Plan (Given Region)
  after_specified region q = conforming b.specification.pos region b.specification.name q.value >>= (λ fit. after_conforming region q)

  abbrev after_completed : Region → Plan (Given Region)
  after_completed region = specified (with_local env region) s b.specification >>= after_specified region

  packaged_placed : IfOk (packaged_body env s b).answer (Bodies (body_conditions b) s)
  packaged_placed =
      answered (Bodies (body_conditions b) s) b.specification.pos _
      (part_so IsWholeRegion (Bodies (body_conditions b) s) (completed env.local b.specification.name).answer after_completed
      (completed_whole env.local b.specification.name whole.regions.0)
      (λ region u. part_so (λ q. Profiled s q × Add s q) (Bodies (body_conditions b) s) (specified (with_local env region) s b.specification).answer (after_specified region)
      (both_ok (Profiled s) (Add s) (specified (with_local env region) s b.specification).answer
      (specified_calm (with_local env region) step (local_whole env region whole u) s b.specification) (specified_adds (with_local env region) s b.specification))
      (λ q h. part_so (λ v. Unit {0}) (Bodies (body_conditions b) s) (conforming b.specification.pos region b.specification.name q.value).answer
      (λ fit. after_conforming region q) (any_answer (conforming b.specification.pos region b.specification.name q.value).answer)
      (λ fit v. part_so (More (body_conditions b) s) (Bodies (body_conditions b) s)
      (body_judged env s b (with_routine env region b.specification.name q.value) (key b.specification.name) q).answer
      (λ next. rule (Some (given (with_routine env region b.specification.name q.value) next)))
      (judged_placed env step whole s b (with_routine env region b.specification.name q.value) (redefined_whole (key b.specification.name) _ region tt u)
      (key b.specification.name) q h.0.1 h.1)
      (λ next k. k)))))

-- items
item_placed : (env : Env) (s : State) (i : PackageItem) → IfPassed (package_item env s i).outcome (Bodies [] s)
item_placed env s (part.Declaration d) =
    part_so (AddsOn s) (Bodies [] s) (declared env s d).answer (λ x. rule (Some (given x.region x.next))) (declaration_adds env s d)
    (λ x h. more_none s x.next h.subprograms)
item_placed env s (part.Subprogram x) =
    part_so (Add s) (Bodies [] s) (subprogram_declared env s x).answer (λ r. rule (Some r)) (subprogram_adds env s x) (λ r h. more_none s r.next h.subprograms)

abbrev one_conditions : BodyItem → List (List Pos)
one_conditions (item.Body b) = body_conditions b
one_conditions (item.Declared i) = []

body_item_placed : (env : Env) (s : State) (i : BodyItem) → env.step ≡ typing → IsWholeEnv env → IfPassed (body_item env s i).outcome (Bodies (one_conditions i) s)
body_item_placed env s (item.Declared i) step whole = item_placed env s i
body_item_placed env s (item.Body b) step whole =
    part_so (Bodies (body_conditions b) s) (Bodies (body_conditions b) s) (packaged_body env s b).answer (λ r. rule (Some r)) (packaged_placed env step whole s b) (λ r h. h)

conditions_first : (i : BodyItem) (is : List BodyItem) → items_conditions (i ∷ is) ≡ (one_conditions i ++ items_conditions is)
conditions_first (item.Body b) is = refl
conditions_first (item.Declared i) is = refl

abbrev AndWhole : List (List Pos) → State → Given Region → Type 0
AndWhole ps s g = Bodies ps s g × Turned s g

body_items_placed : (env : Env) (s : State) (p : Pos) (is : List BodyItem) → env.step ≡ typing → IsWholeEnv env → env.is_library ≡ true
    → IfOk (body_items env s p is).answer (Bodies (items_conditions is) s)
body_items_placed env s p [] step whole library = more_none s s refl
body_items_placed env s p (i ∷ is) step whole library =
    answered (Bodies (items_conditions (i ∷ is)) s) p _
    (part_so (AndWhole (one_conditions i) s) (Bodies (items_conditions (i ∷ is)) s) _ (λ r. body_items (with_local env r.value) r.next p is >>= (λ rest. rule (Some rest)))
    (both_ok (Bodies (one_conditions i) s) (Turned s) _
    (answered (Bodies (one_conditions i) s) p (body_item env s i).outcome (body_item_placed env s i step whole))
    (answered (Turned s) p (body_item env s i).outcome (body_item_turn env s i step whole library)))
    (λ r h. part_so (Bodies (items_conditions is) r.next) (Bodies (items_conditions (i ∷ is)) s) (body_items (with_local env r.value) r.next p is).answer (λ rest. rule (Some rest))
    (body_items_placed (with_local env r.value) r.next p is step (local_whole env r.value whole h.1.1) library)
    (λ rest k. subst (λ ps. More ps s rest.next) (sym (conditions_first i is)) (more_both (one_conditions i) (items_conditions is) s r.next rest.next h.0 k))))

-- units
module _ (l : Library) where
  package_placed : (env : Env) (s : State) (p : Pos) (n : ℕ) (b : PackageBody) → env.step ≡ typing → IsWholeEnv env → IsWholeWorld env.world → env.is_library ≡ true
      → IfOk (package_body env s p n b).answer (More (items_conditions b.items) s)
  package_placed env s p n b step whole world library =
      answered (More (items_conditions b.items) s) p _
      (part_so (Bodies (items_conditions b.items) (at_unit s)) (More (items_conditions b.items) s)
      (body_items (in_body env n (interface_of env.world n) (region_of (interface_of env.world n))) (at_unit s) p b.items).answer
      (λ region. closed_by p b.name b.end_name >>= (λ end. rule (Some (behind_unit (in_body env n (interface_of env.world n) []) n region.next))))
      (body_items_placed (in_body env n (interface_of env.world n) (region_of (interface_of env.world n))) (at_unit s) p b.items step
      (package_env_whole env _ n (region_of (interface_of env.world n)) whole (region_whole (interface_of env.world n) (interface_whole env.world n world))) library)
      (λ region h. part_so (λ u. Unit {0}) (More (items_conditions b.items) s) (closed_by p b.name b.end_name).answer
      (λ end. rule (Some (behind_unit (in_body env n (interface_of env.world n) []) n region.next)))
      (any_answer (closed_by p b.name b.end_name).answer) (λ end u qs before. h qs before)))

  body_of_placed : (w : World) (s : State) (m : ℕ) (u : LibraryUnit) (b : PackageBody) (o : Option ℕ) → IsThere o → IsWholeWorld w
      → IfOk (package_body_of typing l w s m u b o).answer (More (items_conditions b.items) s)
  body_of_placed w s m u b None h world = absurd h
  body_of_placed w s m u b (Some n) h world =
      package_placed (env_of typing w m (key b.name) (seen_in_body w l n u)) s u.item_pos n b refl
      (env_whole w m (key b.name) (seen_in_body w l n u) world
      (seen_more_whole w l (withs_of (slice_get l.units n)) (seen_in w l u (unit n)) (in_region l w u (unit n) tt))) world refl

  library_placed : (env : Env) (s : State) (b : SubprogramBody) → env.step ≡ typing → IsWholeEnv env → IfOk (library_body env s b).answer (More (body_conditions b) s)
  library_placed env s b step whole =
      let inner : Env = record env { is_library = false } in
      let is : IsWholeEnv inner = record { regions = whole.regions; own = whole.own; units = whole.units; test_io = whole.test_io } in
      answered (More (body_conditions b) s) b.specification.pos _
      (part_so (λ q. Profiled (at_unit s) q × Add (at_unit s) q) (More (body_conditions b) s) (specified inner (at_unit s) b.specification).answer
      (λ q. body_judged inner s b [] [] q >>= (λ next. rule (Some next)))
      (both_ok (Profiled (at_unit s)) (Add (at_unit s)) (specified inner (at_unit s) b.specification).answer
      (specified_calm inner step is (at_unit s) b.specification) (specified_adds inner (at_unit s) b.specification))
      (λ q h. part_so (More (body_conditions b) s) (More (body_conditions b) s) (body_judged inner s b [] [] q).answer (λ next. rule (Some next))
      (judged_placed inner step is s b [] tt [] q h.0.1 (adds_both s (at_unit s) q.next (adds_at_unit s) h.1)) (λ next k. k)))

  bodies_placed : (w : World) (s : State) (n : ℕ) (u : LibraryUnit) (i : LibraryItem) → HasHome l i → IsWholeWorld w → IfOk (bodies_judged typing l w s n u i).answer (More (unit_conditions i) s)
  bodies_placed w s n u (library.PackageBody b) h world = body_of_placed w s n u b (unit_named l.names (key b.name)) h world
  bodies_placed w s n u (library.Subprogram b) h world =
      library_placed (env_of typing w n (key b.specification.name) (seen_in w l u (routine_entity (interface_of w n)))) s b refl
      (env_whole w n (key b.specification.name) (seen_in w l u (routine_entity (interface_of w n))) world
      (in_region l w u (routine_entity (interface_of w n)) (routine_whole l (interface_of w n))))
  bodies_placed w s n u (library.Package x) h world = more_none s s refl
  bodies_placed w s n u (library.Instance i) h world = more_none s s refl

  all_bodies_placed : (w : World) (s : State) (n : ℕ) (us : List LibraryUnit) → Everywhere (λ u. HasHome l u.item) us → IsWholeWorld w
      → IfOk (all_bodies_judged typing l w s n us).answer (More (units_conditions us) s)
  all_bodies_placed w s n [] h world = more_none s s refl
  all_bodies_placed w s n (u ∷ us) h world =
      answered (More (units_conditions (u ∷ us)) s) nowhere _
      (part_so (More (unit_conditions u.item) s) (More (units_conditions (u ∷ us)) s) _ (λ x. all_bodies_judged typing l w x (n + 1) us >>= (λ rest. rule (Some rest)))
      (answered (More (unit_conditions u.item) s) u.pos _
      (part_so (More (unit_conditions u.item) s) (More (unit_conditions u.item) s) (bodies_judged typing l w s n u u.item).answer (λ y. rule (Some y)) (bodies_placed w s n u u.item h.0 world) (λ y k. k)))
      (λ x k. part_so (More (units_conditions us) x) (More (units_conditions (u ∷ us)) s) (all_bodies_judged typing l w x (n + 1) us).answer (λ rest. rule (Some rest))
      (all_bodies_placed w x (n + 1) us h.1 world) (λ rest r. more_both (unit_conditions u.item) (units_conditions us) s x rest k r)))

pub conditions_placed : (l : Library) (main : List ℕ) (p : Program) → IsLegal l main p → IsWholeStandard l.standard → At (decisions_of p.subprograms) (units_conditions l.units)
conditions_placed l main p is standard =
    let seen = of_ok (λ y. Seen beginning_state y)
    (all_interfaces typing l (record { world = world_before l; next = beginning_state }) l.order).answer is.walk.seen is.walk.interfaces
    (interfaces_seen l (record { world = world_before l; next = beginning_state }) l.order
    (record { standard = standard; interfaces = none_declared l.units })) in
    subst (λ q. At (decisions_of q.subprograms) (units_conditions l.units)) (sym is.made)
    (of_ok (More (units_conditions l.units) is.walk.seen.next) (all_bodies_judged typing l is.walk.seen.world is.walk.seen.next 0 l.units).answer is.walked.next is.walk.bodies
    (all_bodies_placed l is.walk.seen.world is.walk.seen.next 0 l.units (have_homes l 0 l.units (are_headed l 0 l.units is.walk.headings)) seen.1)
    [] (at_as (decisions_of (reverse is.walk.seen.next.subprograms)) [] [] (ap (λ ss. decisions_of (reverse ss)) (states_of l main p is).seen.subprograms) at_none))
