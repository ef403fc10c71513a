-- Each subprogram of a legal program stands in the generic in whose text its body stands.
use Rattle.std.proofs.Common.{◌≡◌, ◌+◌, ℕ, false, if◌then◌else◌, List, [], ◌∷◌, ◌++◌, map, reverse, Option, Some, None, IfOk, slice_get, refl, sym, ap, ◌∙◌, subst, append-nil, append_assoc}
use Rattle.std.specs.Prelude.{unwrap_or}
use mathlib.Core.List.{reverse-cons}
use Rattle.cov_base.specs.Lists.{Everywhere}
use Rattle.cov_base.specs.declared.position.Pos.{Pos}
use Rattle.ada_syntax.specs.declared.unit.BodyItem.{BodyItem}
use Rattle.ada_syntax.specs.declared.unit.BodyItem.TheVariants as item
use Rattle.ada_syntax.specs.declared.unit.LibraryItem.{LibraryItem}
use Rattle.ada_syntax.specs.declared.unit.LibraryItem.TheVariants as library
use Rattle.ada_syntax.specs.declared.unit.PackageBody.{PackageBody}
use Rattle.ada_syntax.specs.declared.unit.PackageItem.{PackageItem}
use Rattle.ada_syntax.specs.declared.unit.PackageItem.TheVariants as part
use Rattle.ada_syntax.specs.declared.unit.SubprogramBody.{SubprogramBody}
use Rattle.ada_syntax.specs.declared.unit.Unit.{Unit as LibraryUnit}
use Rattle.ada_meaning.specs.Program.{Subprogram, Program}
use Rattle.ada_rules.specs.Plan.{Plan, ◌>>=◌, rule}
use Rattle.ada_rules.specs.Denoted.{nowhere}
use Rattle.ada_rules.specs.Entities.{key, Region}
use Rattle.ada_rules.specs.Environment.{typing, typed_rule, no_interface, World, interface_of, State, Given, given, Env, with_local}
use Rattle.ada_rules.specs.Declarations.{Declared, declared, all_declared}
use Rattle.ada_rules.specs.Library.{Library, unit_named}
use Rattle.ada_rules.specs.Statements.{Frame, block_of, all_handled}
use Rattle.ada_rules.specs.Subprograms.{Profile, specified, subprogram_declared, completed, conforming, closed_by, may_end, typed_parameters, body_made, inside_body, body_judged, with_routine, packaged_body}
use Rattle.ada_rules.specs.Units.{is_generic_interface, env_of, package_item, body_item, body_items, at_unit, behind_unit, seen_in, region_of, seen_in_body, in_body, package_body, package_body_of, library_body, routine_entity, bodies_judged, all_bodies_judged}
use Rattle.legal_laws.proofs.Passing.{IfPassed, if_test, answered, part_so, typed_either, any_answer}
use Rattle.legal_programs.specs.Growing.{Adds}
use Rattle.legal_programs.specs.Homes.{IsThere, HasHome}
use Rattle.program_weights.specs.BodyTexts.{bodies_among, bodies_of_item}
use Rattle.legal_types.specs.TextGenerics.{generic_at, generic_of_item}
use Rattle.legal_counts.specs.Generics.{generics_of}
use Rattle.legal_programs.specs.Walked.{IsLegal}
use Rattle.legal_programs.proofs.Adding.{adds_both, Add, AddsOn, declaration_adds, declarations_add}
use Rattle.legal_programs.proofs.AddingStatements.{handled_add}
use Rattle.legal_programs.proofs.Extending.{specified_adds, subprogram_adds}
use Rattle.legal_programs.proofs.ExtendingUnits.{adds_at_unit}
use Rattle.legal_programs.proofs.Counted.{states_of}
use Rattle.legal_programs.proofs.Headings.{are_headed, have_homes}
use Rattle.legal_programs.proofs.Lists.{map_joined}
use Rattle.legal_programs.proofs.Passed.{of_ok}

-- the generics of the subprograms that were made so far are these, and behind a construct these more
abbrev generics : State → List (Option ℕ)
generics s = map (λ m. m.generic) (reverse s.subprograms)

abbrev pub More : List (Option ℕ) → State → State → Type 0
More gs s t = generics t ≡ (generics s ++ gs)

more_none : (s t : State) → t.subprograms ≡ s.subprograms → More [] s t
more_none s t e = ap (λ ms. map (λ m. m.generic) (reverse ms)) e ∙ sym (append-nil (generics s))

more_both : (gs hs : List (Option ℕ)) (s t u : State) → More gs s t → More hs t u → More (gs ++ hs) s u
more_both gs hs s t u h k = k ∙ (ap (λ xs. xs ++ hs) h ∙ append_assoc (generics s) gs hs)

more_made : (g : Option ℕ) (s t : State) (m : Subprogram) → m.generic ≡ g → t.subprograms ≡ (m ∷ s.subprograms) → More (g ∷ []) s t
more_made g s t m same e =
    ap (λ ms. map (λ x. x.generic) (reverse ms)) e
    ∙ (ap (map (λ x. x.generic)) (reverse-cons m s.subprograms)
    ∙ (map_joined (λ x. x.generic) (reverse s.subprograms) (m ∷ []) ∙ ap (λ x. generics s ++ x ∷ []) same))

-- bodies
module _ (env : Env) (before : State) (b : SubprogramBody) (region : Region) (name : List ℕ) (q : Given Profile) (adds : Add before q) where
  abbrev inside : Env
  inside = inside_body env region name q.value

  abbrev made : Declared → Given Frame → State
  made x f = body_made env before q.value (block_of x.made f.value) f.next

  abbrev one_made : Declared → Given Frame → Subprogram
  one_made x f = record {
    generic = env.generic;
    parameters = typed_parameters 0 q.value.parameters;
    objects = map (λ w. w.subtype) (reverse f.next.words);
    body = block_of x.made f.value;
  }

  judged_keeps : IfOk (body_judged env before b region name q).answer (More (env.generic ∷ []) before)
  judged_keeps =
      answered (More (env.generic ∷ []) before) b.specification.pos _
      (part_so (AddsOn q.next) (More (env.generic ∷ []) before) (all_declared inside q.next b.specification.pos b.declarations).answer
      (λ x. all_handled (with_local inside x.region) x.next b.specification.pos b.statements
      >>= (λ f. closed_by b.specification.pos b.specification.name b.end_name
      >>= (λ u. typed_rule env.step (made x f) (if may_end b q.value.result then Some (made x f) else None))))
      (declarations_add inside q.next b.specification.pos b.declarations)
      (λ x h. part_so (Add x.next) (More (env.generic ∷ []) before) (all_handled (with_local inside x.region) x.next b.specification.pos b.statements).answer
      (λ f. closed_by b.specification.pos b.specification.name b.end_name
      >>= (λ u. typed_rule env.step (made x f) (if may_end b q.value.result then Some (made x f) else None)))
      (handled_add (with_local inside x.region) x.next b.specification.pos b.statements)
      (λ f k. part_so (λ u. Unit {0}) (More (env.generic ∷ []) before) (closed_by b.specification.pos b.specification.name b.end_name).answer
      (λ u. typed_rule env.step (made x f) (if may_end b q.value.result then Some (made x f) else None))
      (any_answer (closed_by b.specification.pos b.specification.name b.end_name).answer)
      (λ u v. let all = all_made x f h k in
      typed_either (More (env.generic ∷ []) before) env.step (made x f) _ all
      (if_test (More (env.generic ∷ []) before) (may_end b q.value.result) (Some (made x f)) (λ e. all))))))
    where
      all_made : (x : Declared) (f : Given Frame) → Adds q.next x.next → Adds x.next f.next → More (env.generic ∷ []) before (made x f)
      all_made x f h k = more_made env.generic before (made x f) (one_made x f) refl (ap (λ ms. one_made x f ∷ ms) (k.subprograms ∙ (h.subprograms ∙ adds.subprograms)))

abbrev Bodies : List (Option ℕ) → State → Given Region → Type 0
Bodies gs s g = More gs s g.next

module _ (env : Env) (s : State) (b : SubprogramBody) where
  abbrev after_conforming : Region → Given Profile → Plan (Given Region)
  after_conforming region q =
      body_judged env s b (with_routine env region b.specification.name q.value) (key b.specification.name) q
      >>= (λ next. rule (Some (given (with_routine env region b.specification.name q.value) next)))

  abbrev after_specified : Region → Given Profile → Plan (Given Region)
  after_specified region q = conforming b.specification.pos region b.specification.name q.value >>= (λ fit. after_conforming region q)

  abbrev after_completed : Region → Plan (Given Region)
  after_completed region = specified (with_local env region) s b.specification >>= after_specified region

  packaged_keeps : IfOk (packaged_body env s b).answer (Bodies (env.generic ∷ []) s)
  packaged_keeps =
      answered (Bodies (env.generic ∷ []) s) b.specification.pos _
      (part_so (λ u. Unit {0}) (Bodies (env.generic ∷ []) s) (completed env.local b.specification.name).answer after_completed
      (any_answer (completed env.local b.specification.name).answer)
      (λ region u. part_so (Add s) (Bodies (env.generic ∷ []) s) (specified (with_local env region) s b.specification).answer (after_specified region)
      (specified_adds (with_local env region) s b.specification)
      (λ q h. part_so (λ v. Unit {0}) (Bodies (env.generic ∷ []) s) (conforming b.specification.pos region b.specification.name q.value).answer
      (λ fit. after_conforming region q) (any_answer (conforming b.specification.pos region b.specification.name q.value).answer)
      (λ fit v. part_so (More (env.generic ∷ []) s) (Bodies (env.generic ∷ []) s)
      (body_judged env s b (with_routine env region b.specification.name q.value) (key b.specification.name) q).answer
      (λ next. rule (Some (given (with_routine env region b.specification.name q.value) next)))
      (judged_keeps env s b (with_routine env region b.specification.name q.value) (key b.specification.name) q h)
      (λ next k. k)))))

item_keeps : (env : Env) (s : State) (i : PackageItem) → IfPassed (package_item env s i).outcome (Bodies [] s)
item_keeps env s (part.Declaration d) =
    part_so (AddsOn s) (Bodies [] s) (declared env s d).answer (λ x. rule (Some (given x.region x.next))) (declaration_adds env s d) (λ x h. more_none s x.next h.subprograms)
item_keeps env s (part.Subprogram x) =
    part_so (Add s) (Bodies [] s) (subprogram_declared env s x).answer (λ r. rule (Some r)) (subprogram_adds env s x) (λ r h. more_none s r.next h.subprograms)

abbrev all_of : {X : Type 0} → Option ℕ → List X → List (Option ℕ)
all_of g bs = map (λ b. g) bs

abbrev one_body : BodyItem → List SubprogramBody
one_body (item.Body b) = b ∷ []
one_body (item.Declared i) = []

bodies_first : (g : Option ℕ) (i : BodyItem) (is : List BodyItem) → all_of g (bodies_among (i ∷ is)) ≡ (all_of g (one_body i) ++ all_of g (bodies_among is))
bodies_first g (item.Body b) is = refl
bodies_first g (item.Declared i) is = refl

body_item_keeps : (env : Env) (s : State) (i : BodyItem) → IfPassed (body_item env s i).outcome (Bodies (all_of env.generic (one_body i)) s)
body_item_keeps env s (item.Declared i) = item_keeps env s i
body_item_keeps env s (item.Body b) =
    part_so (Bodies (env.generic ∷ []) s) (Bodies (env.generic ∷ []) s) (packaged_body env s b).answer (λ r. rule (Some r)) (packaged_keeps env s b) (λ r h. h)

body_items_keep : (env : Env) (s : State) (p : Pos) (is : List BodyItem) → IfOk (body_items env s p is).answer (Bodies (all_of env.generic (bodies_among is)) s)
body_items_keep env s p [] = more_none s s refl
body_items_keep env s p (i ∷ is) =
    let all = all_of env.generic (bodies_among (i ∷ is)) in
    answered (Bodies all s) p _
    (part_so (Bodies (all_of env.generic (one_body i)) s) (Bodies all s) _ (λ r. body_items (with_local env r.value) r.next p is >>= (λ rest. rule (Some rest)))
    (answered (Bodies (all_of env.generic (one_body i)) s) p (body_item env s i).outcome (body_item_keeps env s i))
    (λ r h. part_so (Bodies (all_of env.generic (bodies_among is)) r.next) (Bodies all s) (body_items (with_local env r.value) r.next p is).answer (λ rest. rule (Some rest))
    (body_items_keep (with_local env r.value) r.next p is)
    (λ rest k. subst (λ gs. More gs s rest.next) (sym (bodies_first env.generic i is))
    (more_both (all_of env.generic (one_body i)) (all_of env.generic (bodies_among is)) s r.next rest.next h k))))

-- units
module _ (l : Library) where
  package_keeps : (env : Env) (s : State) (p : Pos) (n : ℕ) (b : PackageBody)
      → IfOk (package_body env s p n b).answer (More (all_of (is_generic_interface (interface_of env.world n) n) (bodies_among b.items)) s)
  package_keeps env s p n b =
      let all = all_of (is_generic_interface (interface_of env.world n) n) (bodies_among b.items) in
      answered (More all s) p _
      (part_so (Bodies all (at_unit s)) (More all s) (body_items (in_body env n (interface_of env.world n) (region_of (interface_of env.world n))) (at_unit s) p b.items).answer
      (λ region. closed_by p b.name b.end_name >>= (λ end. rule (Some (behind_unit (in_body env n (interface_of env.world n) []) n region.next))))
      (body_items_keep (in_body env n (interface_of env.world n) (region_of (interface_of env.world n))) (at_unit s) p b.items)
      (λ region h. part_so (λ u. Unit {0}) (More all s) (closed_by p b.name b.end_name).answer
      (λ end. rule (Some (behind_unit (in_body env n (interface_of env.world n) []) n region.next)))
      (any_answer (closed_by p b.name b.end_name).answer) (λ end u. h)))

  body_of_keeps : (w : World) (s : State) (m : ℕ) (u : LibraryUnit) (b : PackageBody) (o : Option ℕ) → IsThere o
      → IfOk (package_body_of typing l w s m u b o).answer (More (all_of (generic_at w o) (bodies_among b.items)) s)
  body_of_keeps w s m u b None h = absurd h
  body_of_keeps w s m u b (Some n) h = package_keeps (env_of typing w m (key b.name) (seen_in_body w l n u)) s u.item_pos n b

  library_keeps : (env : Env) (s : State) (b : SubprogramBody) → IfOk (library_body env s b).answer (More (env.generic ∷ []) s)
  library_keeps env s b =
      let inner : Env = record env { is_library = false } in
      answered (More (env.generic ∷ []) s) b.specification.pos _
      (part_so (Add (at_unit s)) (More (env.generic ∷ []) s) (specified inner (at_unit s) b.specification).answer
      (λ q. body_judged inner s b [] [] q >>= (λ next. rule (Some next))) (specified_adds inner (at_unit s) b.specification)
      (λ q h. part_so (More (env.generic ∷ []) s) (More (env.generic ∷ []) s) (body_judged inner s b [] [] q).answer (λ next. rule (Some next))
      (judged_keeps inner s b [] [] q (adds_both s (at_unit s) q.next (adds_at_unit s) h)) (λ next k. k)))

  bodies_keep : (w : World) (s : State) (n : ℕ) (u : LibraryUnit) (i : LibraryItem) → HasHome l i
      → IfOk (bodies_judged typing l w s n u i).answer (More (all_of (generic_of_item w l i) (bodies_of_item i)) s)
  bodies_keep w s n u (library.PackageBody b) h = body_of_keeps w s n u b (unit_named l.names (key b.name)) h
  bodies_keep w s n u (library.Subprogram b) h =
      library_keeps (env_of typing w n (key b.specification.name) (seen_in w l u (routine_entity (interface_of w n)))) s b
  bodies_keep w s n u (library.Package x) h = more_none s s refl
  bodies_keep w s n u (library.Instance i) h = more_none s s refl

  all_bodies_keep : (w : World) (s : State) (n : ℕ) (us : List LibraryUnit) → Everywhere (λ u. HasHome l u.item) us
      → IfOk (all_bodies_judged typing l w s n us).answer (More (generics_of w l us) s)
  all_bodies_keep w s n [] h = more_none s s refl
  all_bodies_keep w s n (u ∷ us) h =
      let this = all_of (generic_of_item w l u.item) (bodies_of_item u.item) in
      let all = this ++ generics_of w l us in
      answered (More all s) nowhere _
      (part_so (More this s) (More all s) _ (λ x. all_bodies_judged typing l w x (n + 1) us >>= (λ rest. rule (Some rest)))
      (answered (More this s) u.pos _
      (part_so (More this s) (More this s) (bodies_judged typing l w s n u u.item).answer (λ y. rule (Some y)) (bodies_keep w s n u u.item h.0) (λ y k. k)))
      (λ x k. part_so (More (generics_of w l us) x) (More all s) (all_bodies_judged typing l w x (n + 1) us).answer (λ rest. rule (Some rest))
      (all_bodies_keep w x (n + 1) us h.1) (λ rest r. more_both this (generics_of w l us) s x rest k r)))

-- the interfaces are the same behind all bodies
same_generics : (v w : World) (l : Library) (us : List LibraryUnit) → v.interfaces ≡ w.interfaces → generics_of v l us ≡ generics_of w l us
same_generics v w l [] e = refl
same_generics v w l (u ∷ us) e = λ i. all_of (same_item u.item i) (bodies_of_item u.item) ++ same_generics v w l us e i
  where
    same_at : (o : Option ℕ) → generic_at v o ≡ generic_at w o
    same_at None = refl
    same_at (Some n) = ap (λ is. is_generic_interface (unwrap_or (slice_get is n) no_interface) n) e

    same_item : (i : LibraryItem) → generic_of_item v l i ≡ generic_of_item w l i
    same_item (library.PackageBody b) = same_at (unit_named l.names (key b.name))
    same_item (library.Subprogram b) = refl
    same_item (library.Package x) = refl
    same_item (library.Instance i) = refl

pub generics_seen : (l : Library) (main : List ℕ) (p : Program) → (is : IsLegal l main p)
    → map (λ m. m.generic) p.subprograms ≡ generics_of is.walk.seen.world l l.units
generics_seen l main p is =
    let w = is.walk.seen.world in
    let all = of_ok (More (generics_of w l l.units) is.walk.seen.next) (all_bodies_judged typing l w is.walk.seen.next 0 l.units).answer is.walked.next is.walk.bodies
    (all_bodies_keep l w is.walk.seen.next 0 l.units (have_homes l 0 l.units (are_headed l 0 l.units is.walk.headings))) in
    ap (λ q. map (λ m. m.generic) q.subprograms) is.made
    ∙ (all ∙ ap (λ ms. map (λ m. m.generic) (reverse ms) ++ generics_of w l l.units) (states_of l main p is).seen.subprograms)

pub generics_are : (l : Library) (main : List ℕ) (p : Program) → (is : IsLegal l main p)
    → map (λ m. m.generic) p.subprograms ≡ generics_of is.walked.world l l.units
generics_are l main p is =
    generics_seen l main p is ∙ same_generics is.walk.seen.world is.walked.world l l.units (sym (ap (λ v. v.interfaces) is.walk.world))
