-- The statement obligations of a legal program stand where the statements of its units stand, in the order of the text.
use Rattle.std.proofs.Common.{◌≡◌, ◌+◌, ℕ, false, if◌then◌else◌, List, [], ◌∷◌, ◌++◌, map, reverse, Option, Some, None, IfOk, refl, sym, ap, ◌∙◌, subst, append-nil, append_assoc}
use Rattle.cov_base.specs.Lists.{Everywhere}
use Rattle.cov_base.specs.declared.position.Pos.{Pos}
use Rattle.ada_syntax.specs.declared.unit.BodyItem.{BodyItem}
use Rattle.ada_syntax.specs.declared.unit.BodyItem.TheVariants as item
use Rattle.ada_syntax.specs.declared.unit.LibraryItem.{LibraryItem}
use Rattle.ada_syntax.specs.declared.unit.LibraryItem.TheVariants as library
use Rattle.ada_syntax.specs.declared.unit.PackageBody.{PackageBody}
use Rattle.ada_syntax.specs.declared.unit.PackageItem.{PackageItem}
use Rattle.ada_syntax.specs.declared.unit.PackageItem.TheVariants as part
use Rattle.ada_syntax.specs.declared.unit.SubprogramBody.{SubprogramBody}
use Rattle.ada_syntax.specs.declared.unit.Unit.{Unit as LibraryUnit}
use Rattle.ada_meaning.specs.Collected.{block_labels, labels_of}
use Rattle.ada_meaning.specs.Program.{Subprogram, Program}
use Rattle.ada_rules.specs.Plan.{Plan, ◌>>=◌, rule}
use Rattle.ada_rules.specs.Denoted.{nowhere}
use Rattle.ada_rules.specs.Entities.{key, Region}
use Rattle.ada_rules.specs.Environment.{typing, typed_rule, World, interface_of, State, Given, given, Env, with_local}
use Rattle.ada_rules.specs.Declarations.{Declared, declared, all_declared}
use Rattle.ada_rules.specs.Library.{Library, unit_named}
use Rattle.ada_rules.specs.Statements.{Frame, block_of, all_handled}
use Rattle.ada_rules.specs.Subprograms.{Profile, specified, subprogram_declared, typed_parameters, completed, conforming, closed_by, may_end, body_made, inside_body, body_judged, with_routine, packaged_body}
use Rattle.ada_rules.specs.Units.{env_of, package_item, body_item, body_items, at_unit, behind_unit, seen_in, region_of, seen_in_body, in_body, package_body, package_body_of, library_body, routine_entity, bodies_judged, all_bodies_judged}
use Rattle.legal_laws.proofs.Passing.{IfPassed, if_test, answered, part_so, typed_either, both_ok, any_answer}
use Rattle.legal_programs.specs.Homes.{IsThere, HasHome}
use Rattle.legal_programs.specs.TextPlaces.{declared_places, handled_places, body_places, items_places, unit_places, units_places}
use Rattle.legal_programs.specs.Walked.{IsLegal}
use Rattle.legal_programs.proofs.Adding.{adds_both, Add, AddsOn, declaration_adds, declarations_add}
use Rattle.legal_programs.proofs.AddingStatements.{handled_add}
use Rattle.legal_programs.proofs.Counted.{states_of}
use Rattle.legal_programs.proofs.Extending.{specified_adds, subprogram_adds}
use Rattle.legal_programs.proofs.ExtendingUnits.{adds_at_unit}
use Rattle.legal_programs.proofs.Headings.{are_headed, have_homes}
use Rattle.legal_programs.proofs.Lists.{map_joined}
use Rattle.legal_programs.proofs.MadeUnits.{labels_of_last}
use Rattle.legal_programs.proofs.Passed.{of_ok}
use Rattle.legal_programs.proofs.PlacedStatements.{Stand, Declares, declarations_placed, FrameAs, handled_placed, block_placed}

-- the labels of the subprograms that were made so far stand at these places, and behind a construct at these more
abbrev Placed : List Pos → State → Type 0
Placed ps s = Stand (labels_of (reverse s.subprograms)) ps

abbrev pub More : List Pos → State → State → Type 0
More ps s t = (qs : List Pos) → Placed qs s → Placed (qs ++ ps) t

more_none : (s t : State) → t.subprograms ≡ s.subprograms → More [] s t
more_none s t e qs h =
    ap (λ ss. map (λ l. l.place) (labels_of (reverse ss))) e ∙ (h ∙ sym (append-nil qs))

more_both : (ps rs : List Pos) (s t u : State) → More ps s t → More rs t u → More (ps ++ rs) s u
more_both ps rs s t u h k qs before = k (qs ++ ps) (h qs before) ∙ append_assoc qs ps rs

more_made : (ps : List Pos) (s t : State) (m : Subprogram) → t.subprograms ≡ (m ∷ s.subprograms) → Stand (block_labels m.body) ps → More ps s t
more_made ps s t m e h qs before =
    ap (λ ss. map (λ l. l.place) (labels_of (reverse ss))) e
    ∙ (ap (map (λ l. l.place)) (labels_of_last m s.subprograms)
    ∙ (map_joined (λ l. l.place) (labels_of (reverse s.subprograms)) (block_labels m.body) ∙ (λ i. before i ++ h i)))

-- a body
module _ (env : Env) (step : env.step ≡ typing) (before : State) (b : SubprogramBody) (region : Region) (name : List ℕ) (q : Given Profile) (adds : Add before q) where
  abbrev inside : Env
  inside = inside_body env region name q.value

  abbrev made : Declared → Given Frame → State
  made x f = body_made env before q.value (block_of x.made f.value) f.next

  abbrev one_made : Declared → Given Frame → Subprogram
  one_made x f = record {
    generic = env.generic;
    parameters = typed_parameters 0 q.value.parameters;
    objects = map (λ w. w.subtype) (reverse f.next.words);
    body = block_of x.made f.value;
  }

  judged_placed : IfOk (body_judged env before b region name q).answer (More (body_places b) before)
  judged_placed =
      answered (More (body_places b) before) b.specification.pos _
      (part_so (λ x. Declares (declared_places b.declarations) x × AddsOn q.next x) (More (body_places b) before) (all_declared inside q.next b.specification.pos b.declarations).answer
      (λ x. all_handled (with_local inside x.region) x.next b.specification.pos b.statements
      >>= (λ f. closed_by b.specification.pos b.specification.name b.end_name
      >>= (λ u. typed_rule env.step (made x f) (if may_end b q.value.result then Some (made x f) else None))))
      (both_ok (Declares (declared_places b.declarations)) (AddsOn q.next) (all_declared inside q.next b.specification.pos b.declarations).answer
      (declarations_placed inside q.next b.specification.pos b.declarations step refl)
      (declarations_add inside q.next b.specification.pos b.declarations))
      (λ x h. part_so (λ f. FrameAs (handled_places b.statements) f × Add x.next f) (More (body_places b) before) (all_handled (with_local inside x.region) x.next b.specification.pos b.statements).answer
      (λ f. closed_by b.specification.pos b.specification.name b.end_name
      >>= (λ u. typed_rule env.step (made x f) (if may_end b q.value.result then Some (made x f) else None)))
      (both_ok (FrameAs (handled_places b.statements)) (Add x.next) (all_handled (with_local inside x.region) x.next b.specification.pos b.statements).answer
      (handled_placed (with_local inside x.region) x.next b.specification.pos b.statements step)
      (handled_add (with_local inside x.region) x.next b.specification.pos b.statements))
      (λ f k. part_so (λ u. Unit {0}) (More (body_places b) before) (closed_by b.specification.pos b.specification.name b.end_name).answer
      (λ u. typed_rule env.step (made x f) (if may_end b q.value.result then Some (made x f) else None))
      (any_answer (closed_by b.specification.pos b.specification.name b.end_name).answer)
      (λ u v. let all = more_made (body_places b) before (made x f) (one_made x f)
      (ap (λ ss. one_made x f ∷ ss) (k.1.subprograms ∙ (h.1.subprograms ∙ adds.subprograms)))
      (block_placed x.made f.value (declared_places b.declarations) (handled_places b.statements) h.0 k.0) in
      typed_either (More (body_places b) before) env.step (made x f) _ all
      (if_test (More (body_places b) before) (may_end b q.value.result) (Some (made x f)) (λ e. all))))))

abbrev Bodies : List Pos → State → Given Region → Type 0
Bodies ps s g = More ps s g.next

module _ (env : Env) (step : env.step ≡ typing) (s : State) (b : SubprogramBody) where
  abbrev after_conforming : Region → Given Profile → Plan (Given Region)
  after_conforming region q =
      body_judged env s b (with_routine env region b.specification.name q.value) (key b.specification.name) q
      >>= (λ next. rule (Some (given (with_routine env region b.specification.name q.value) next)))

  abbrev after_specified : Region → Given Profile → Plan (Given Region)
  after_specified region q = conforming b.specification.pos region b.specification.name q.value >>= (λ fit. after_conforming region q)

  abbrev after_completed : Region → Plan (Given Region)
  after_completed region = specified (with_local env region) s b.specification >>= after_specified region

  packaged_placed : IfOk (packaged_body env s b).answer (Bodies (body_places b) s)
  packaged_placed =
      answered (Bodies (body_places b) s) b.specification.pos _
      (part_so (λ r. Unit {0}) (Bodies (body_places b) s) (completed env.local b.specification.name).answer after_completed
      (any_answer (completed env.local b.specification.name).answer)
      (λ region u. part_so (Add s) (Bodies (body_places b) s) (specified (with_local env region) s b.specification).answer (after_specified region)
      (specified_adds (with_local env region) s b.specification)
      (λ q h. part_so (λ v. Unit {0}) (Bodies (body_places b) s) (conforming b.specification.pos region b.specification.name q.value).answer
      (λ fit. after_conforming region q) (any_answer (conforming b.specification.pos region b.specification.name q.value).answer)
      (λ fit v. part_so (More (body_places b) s) (Bodies (body_places b) s)
      (body_judged env s b (with_routine env region b.specification.name q.value) (key b.specification.name) q).answer
      (λ next. rule (Some (given (with_routine env region b.specification.name q.value) next)))
      (judged_placed env step s b (with_routine env region b.specification.name q.value) (key b.specification.name) q h)
      (λ next k. k)))))

-- items
item_placed : (env : Env) (s : State) (i : PackageItem) → IfPassed (package_item env s i).outcome (Bodies [] s)
item_placed env s (part.Declaration d) =
    part_so (AddsOn s) (Bodies [] s) (declared env s d).answer (λ x. rule (Some (given x.region x.next))) (declaration_adds env s d)
    (λ x h. more_none s x.next h.subprograms)
item_placed env s (part.Subprogram x) =
    part_so (Add s) (Bodies [] s) (subprogram_declared env s x).answer (λ r. rule (Some r)) (subprogram_adds env s x) (λ r h. more_none s r.next h.subprograms)

abbrev one_places : BodyItem → List Pos
one_places (item.Body b) = body_places b
one_places (item.Declared i) = []

body_item_placed : (env : Env) (s : State) (i : BodyItem) → env.step ≡ typing → IfPassed (body_item env s i).outcome (Bodies (one_places i) s)
body_item_placed env s (item.Declared i) step = item_placed env s i
body_item_placed env s (item.Body b) step =
    part_so (Bodies (body_places b) s) (Bodies (body_places b) s) (packaged_body env s b).answer (λ r. rule (Some r)) (packaged_placed env step s b) (λ r h. h)

places_first : (i : BodyItem) (is : List BodyItem) → items_places (i ∷ is) ≡ (one_places i ++ items_places is)
places_first (item.Body b) is = refl
places_first (item.Declared i) is = refl

body_items_placed : (env : Env) (s : State) (p : Pos) (is : List BodyItem) → env.step ≡ typing → IfOk (body_items env s p is).answer (Bodies (items_places is) s)
body_items_placed env s p [] step = more_none s s refl
body_items_placed env s p (i ∷ is) step =
    answered (Bodies (items_places (i ∷ is)) s) p _
    (part_so (Bodies (one_places i) s) (Bodies (items_places (i ∷ is)) s) _ (λ r. body_items (with_local env r.value) r.next p is >>= (λ rest. rule (Some rest)))
    (answered (Bodies (one_places i) s) p (body_item env s i).outcome (body_item_placed env s i step))
    (λ r h. part_so (Bodies (items_places is) r.next) (Bodies (items_places (i ∷ is)) s) (body_items (with_local env r.value) r.next p is).answer (λ rest. rule (Some rest))
    (body_items_placed (with_local env r.value) r.next p is step)
    (λ rest k. subst (λ ps. More ps s rest.next) (sym (places_first i is)) (more_both (one_places i) (items_places is) s r.next rest.next h k))))

-- units
module _ (l : Library) where
  package_placed : (env : Env) (s : State) (p : Pos) (n : ℕ) (b : PackageBody) → env.step ≡ typing → IfOk (package_body env s p n b).answer (More (items_places b.items) s)
  package_placed env s p n b step =
      answered (More (items_places b.items) s) p _
      (part_so (Bodies (items_places b.items) (at_unit s)) (More (items_places b.items) s)
      (body_items (in_body env n (interface_of env.world n) (region_of (interface_of env.world n))) (at_unit s) p b.items).answer
      (λ region. closed_by p b.name b.end_name >>= (λ end. rule (Some (behind_unit (in_body env n (interface_of env.world n) []) n region.next))))
      (body_items_placed (in_body env n (interface_of env.world n) (region_of (interface_of env.world n))) (at_unit s) p b.items step)
      (λ region h. part_so (λ u. Unit {0}) (More (items_places b.items) s) (closed_by p b.name b.end_name).answer
      (λ end. rule (Some (behind_unit (in_body env n (interface_of env.world n) []) n region.next)))
      (any_answer (closed_by p b.name b.end_name).answer) (λ end u qs before. h qs before)))

  body_of_placed : (w : World) (s : State) (m : ℕ) (u : LibraryUnit) (b : PackageBody) (o : Option ℕ) → IsThere o
      → IfOk (package_body_of typing l w s m u b o).answer (More (items_places b.items) s)
  body_of_placed w s m u b None h = absurd h
  body_of_placed w s m u b (Some n) h = package_placed (env_of typing w m (key b.name) (seen_in_body w l n u)) s u.item_pos n b refl

  library_placed : (env : Env) (s : State) (b : SubprogramBody) → env.step ≡ typing → IfOk (library_body env s b).answer (More (body_places b) s)
  library_placed env s b step =
      answered (More (body_places b) s) b.specification.pos _
      (part_so (Add (at_unit s)) (More (body_places b) s) (specified (record env { is_library = false }) (at_unit s) b.specification).answer
      (λ q. body_judged (record env { is_library = false }) s b [] [] q >>= (λ next. rule (Some next)))
      (specified_adds (record env { is_library = false }) (at_unit s) b.specification)
      (λ q h. part_so (More (body_places b) s) (More (body_places b) s) (body_judged (record env { is_library = false }) s b [] [] q).answer (λ next. rule (Some next))
      (judged_placed (record env { is_library = false }) step s b [] [] q (adds_both s (at_unit s) q.next (adds_at_unit s) h)) (λ next k. k)))

  bodies_placed : (w : World) (s : State) (n : ℕ) (u : LibraryUnit) (i : LibraryItem) → HasHome l i → IfOk (bodies_judged typing l w s n u i).answer (More (unit_places i) s)
  bodies_placed w s n u (library.PackageBody b) h = body_of_placed w s n u b (unit_named l.names (key b.name)) h
  bodies_placed w s n u (library.Subprogram b) h =
      library_placed (env_of typing w n (key b.specification.name) (seen_in w l u (routine_entity (interface_of w n)))) s b refl
  bodies_placed w s n u (library.Package x) h = more_none s s refl
  bodies_placed w s n u (library.Instance i) h = more_none s s refl

  all_bodies_placed : (w : World) (s : State) (n : ℕ) (us : List LibraryUnit) → Everywhere (λ u. HasHome l u.item) us
      → IfOk (all_bodies_judged typing l w s n us).answer (More (units_places us) s)
  all_bodies_placed w s n [] h = more_none s s refl
  all_bodies_placed w s n (u ∷ us) h =
      answered (More (units_places (u ∷ us)) s) nowhere _
      (part_so (More (unit_places u.item) s) (More (units_places (u ∷ us)) s) _ (λ x. all_bodies_judged typing l w x (n + 1) us >>= (λ rest. rule (Some rest)))
      (answered (More (unit_places u.item) s) u.pos _
      (part_so (More (unit_places u.item) s) (More (unit_places u.item) s) (bodies_judged typing l w s n u u.item).answer (λ y. rule (Some y)) (bodies_placed w s n u u.item h.0) (λ y k. k)))
      (λ x k. part_so (More (units_places us) x) (More (units_places (u ∷ us)) s) (all_bodies_judged typing l w x (n + 1) us).answer (λ rest. rule (Some rest))
      (all_bodies_placed w x (n + 1) us h.1) (λ rest r. more_both (unit_places u.item) (units_places us) s x rest k r)))

pub labels_placed : (l : Library) (main : List ℕ) (p : Program) → IsLegal l main p → map (λ x. x.place) (labels_of p.subprograms) ≡ units_places l.units
labels_placed l main p is =
    subst (λ q. map (λ x. x.place) (labels_of q.subprograms) ≡ units_places l.units) (sym is.made)
    (of_ok (More (units_places l.units) is.walk.seen.next) (all_bodies_judged typing l is.walk.seen.world is.walk.seen.next 0 l.units).answer is.walked.next is.walk.bodies
    (all_bodies_placed l is.walk.seen.world is.walk.seen.next 0 l.units (have_homes l 0 l.units (are_headed l 0 l.units is.walk.headings)))
    [] (ap (λ ss. map (λ x. x.place) (labels_of (reverse ss))) (states_of l main p is).seen.subprograms))
