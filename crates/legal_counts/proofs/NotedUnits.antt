-- The words that units note are those of the objects of the library level, each in the text of its generic or in none.
use Rattle.std.proofs.Common.{◌≡◌, ◌+◌, ℕ, suc, Bool, false, true, if◌then◌else◌, List, [], ◌∷◌, ◌++◌, map, Option, Some, None, IfOk, slice_get, refl, sym, ap, ◌∙◌, subst, arith}
use Rattle.cov_base.specs.Lists.{Everywhere}
use Rattle.cov_base.specs.declared.position.Pos.{Pos}
use Rattle.ada_syntax.specs.declared.unit.Instance.{Instance}
use Rattle.ada_syntax.specs.declared.unit.LibraryItem.{LibraryItem}
use Rattle.ada_syntax.specs.declared.unit.LibraryItem.TheVariants as library
use Rattle.ada_syntax.specs.declared.unit.PackageBody.{PackageBody}
use Rattle.ada_syntax.specs.declared.unit.PackageSpecification.{PackageSpecification}
use Rattle.ada_syntax.specs.declared.unit.SubprogramBody.{SubprogramBody}
use Rattle.ada_syntax.specs.declared.unit.Unit.{Unit as LibraryUnit}
use Rattle.ada_meaning.specs.Program.{Program}
use Rattle.ada_meaning.specs.Types.{Subtype}
use Rattle.ada_rules.specs.Plan.{Plan, ◌>>=◌, rule}
use Rattle.ada_rules.specs.Entities.{key, hidden, unit, Region}
use Rattle.ada_rules.specs.Environment.{Step, typing, World, interface_of, State, beginning_state, Given, Env}
use Rattle.ada_rules.specs.Denoted.{nowhere}
use Rattle.ada_rules.specs.Instances.{formals_declared, generic_named, formals_of, actuals_judged}
use Rattle.ada_rules.specs.Subprograms.{specified, declared_only, closed_by, body_judged}
use Rattle.ada_rules.specs.Library.{Library, is_instance, instance_number, unit_named}
use Rattle.ada_rules.specs.Units.{env_of, generic_at, package_items, body_items, Walked, at_unit, behind_unit, formals_in, in_specification, with_package, package_judged, with_instance, instance_judged, with_subprogram, library_routine, library_subprogram, seen_in, interface_judged, interface_at, all_interfaces, region_of, is_generic_interface, seen_in_body, in_body, package_body_of, library_body, routine_entity, bodies_judged, all_bodies_judged, world_before}
use Rattle.legal_laws.proofs.Passing.{answered, part_so, any_answer}
use Rattle.legal_programs.specs.Walked.{IsLegal}
use Rattle.legal_programs.proofs.Passed.{of_ok}
use Rattle.legal_types.specs.TextGenerics.{text_generic}
use Rattle.legal_types.specs.TextGenerics.{generic_at as generic_of_package}
use Rattle.legal_counts.specs.LibraryWords.{standing, all_standing, noted_words}
use Rattle.legal_counts.specs.Seen.{package_of, IsOfText}
use Rattle.legal_counts.proofs.NotedDeclarations.{Fits, place_of, IsNoted, Notes, Note, notes_both}
use Rattle.legal_counts.proofs.NotedFormals.{formals_note, actuals_note}
use Rattle.legal_counts.proofs.NotedStatements.{Keep}
use Rattle.legal_counts.proofs.NotedItems.{specified_notes, judged_notes, items_note, body_items_note}

-- there is a unit, which is no instance
abbrev pub IsNoInstance : Option LibraryUnit → Type 0
IsNoInstance None = ⊥
IsNoInstance (Some u) = is_instance u.item ≡ false

-- between two units
pub record AreCounted (w : World) (l : Library) (s : State) : Type 0 where
  pub objects : map standing s.objects_declared ≡ noted_words s.unit_words
  pub words : Everywhere (IsOfText w l) s.unit_words

fits_own : (b : Bool) (g : Option ℕ) → Fits (if b then Some g else None) g
fits_own true g = refl
fits_own false g = tt

-- where what other units see of units is as it is in this world
module _ (w : World) (l : Library) where
  abbrev Counted : State → Type 0
  Counted s = AreCounted w l s

  abbrev Seen : Walked → Type 0
  Seen x = AreCounted w l x.next

  -- a unit of which the text is a part of that of a package
  record IsPartOf (number package_unit : ℕ) (generic : Option ℕ) : Type 0 where
    unit : LibraryUnit
    there : slice_get l.units number ≡ Some unit
    home : package_of l number unit.item ≡ Some package_unit
    text : generic ≡ text_generic w l number unit.item

  entered : (g : Option ℕ) (s : State) → Counted s → IsNoted g (noted_words s.unit_words) s.unit_words (at_unit s)
  entered g s h = record { objects = h.objects; units = refl }

  -- behind the text of a package
  left : (env : Env) (n : ℕ) (s t : State) → Counted s → IsPartOf env.unit_number n env.generic
      → IsNoted env.generic (noted_words s.unit_words) s.unit_words t → Counted (behind_unit env n t)
  left env n s t h part is = record {
    objects = is.objects ∙ ap (λ us. all_standing env.generic t.library_words ++ noted_words us) (sym is.units);
    words = (
      record { unit = part.unit; there = part.there; home = part.home; generic = part.text },
      subst (Everywhere (IsOfText w l)) (sym is.units) h.words,
    );
  }

  -- behind what declares no object of the library level
  passed_by : (s t : State) → Counted s → Notes None (at_unit s) t → Counted t
  passed_by s t h k =
      let is = k.0 None tt (noted_words s.unit_words) s.unit_words (entered None s h) in
      record {
        objects = is.objects ∙ (ap (λ (ws : List Subtype). all_standing None ws ++ noted_words s.unit_words) (k.1 refl) ∙ ap noted_words (sym is.units));
        words = subst (Everywhere (IsOfText w l)) (sym is.units) h.words;
      }

  -- what other units see of a package
  module _ (env : Env) (s : State) (p : Pos) (n : ℕ) (x : PackageSpecification) (part : IsPartOf env.unit_number n (generic_at x.formals n)) (h : Counted s) where
    abbrev inside : Region → Env
    inside formals = in_specification env n x formals

    abbrev text : Option ℕ
    text = generic_at x.formals n

    abbrev closing : Region → Given Region → Plan Walked
    closing formals region = closed_by p x.name x.end_name >>= (λ end. rule (Some (with_package env n x formals region)))

    package_seen : IfOk (package_judged env s p n x).answer Seen
    package_seen =
        answered Seen p _
        (part_so (Keep (at_unit s)) Seen (formals_declared (inside []) (at_unit s) p 0 (formals_in x.formals)).answer
        (λ formals. package_items (inside formals.value) formals.next p x.items >>= closing formals.value)
        (formals_note (inside []) (at_unit s) p 0 (formals_in x.formals))
        (λ formals k. part_so (Note (place_of (inside formals.value)) formals.next) Seen (package_items (inside formals.value) formals.next p x.items).answer
        (closing formals.value) (items_note (inside formals.value) formals.next p x.items)
        (λ region m. part_so (λ u. Unit {0}) Seen (closed_by p x.name x.end_name).answer
        (λ end. rule (Some (with_package env n x formals.value region))) (any_answer (closed_by p x.name x.end_name).answer)
        (λ end u. left (inside []) n s region.next h part
        (m.0 text (fits_own env.is_library text) (noted_words s.unit_words) s.unit_words
        (k.0 text tt (noted_words s.unit_words) s.unit_words (entered text s h)))))))

  -- of an instance, which declares nothing
  instance_seen : (env : Env) (s : State) (p : Pos) (n k : ℕ) (i : Instance) → Counted s → IfOk (instance_judged env s p n k i).answer Seen
  instance_seen env s p n k i h =
      answered Seen p _
      (part_so (λ g. Unit {0}) Seen (generic_named env i.generic_name).answer
      (λ g. actuals_judged env (at_unit s) p k [] (formals_of env.world g) i.actuals
      >>= (λ actuals. rule (Some (with_instance env.world p n k i g actuals.value actuals.next))))
      (any_answer (generic_named env i.generic_name).answer)
      (λ g u. part_so (Keep (at_unit s)) Seen (actuals_judged env (at_unit s) p k [] (formals_of env.world g) i.actuals).answer
      (λ actuals. rule (Some (with_instance env.world p n k i g actuals.value actuals.next)))
      (actuals_note env (at_unit s) p k [] (formals_of env.world g) i.actuals)
      (λ actuals m. let all = passed_by s actuals.next h m in record { objects = all.objects; words = all.words })))

  -- and of a library subprogram
  library_seen : (env : Env) (s : State) (n : ℕ) (b : SubprogramBody) → Counted s → IfOk (library_subprogram env s n b).answer Seen
  library_seen env s n b h =
      answered Seen b.specification.pos _
      (part_so (Keep (at_unit s)) Seen (specified env (at_unit s) b.specification).answer
      (λ q. rule (Some (with_subprogram env.world n (library_routine env b q.value) (declared_only s q.next))))
      (specified_notes env (at_unit s) b.specification)
      (λ q k. passed_by s (declared_only s q.next) h k))

module _ (w : World) (step : Step) (l : Library) where
  abbrev Walks : Walked → Type 0
  Walks x = AreCounted w l x.next

  abbrev Behind : State → Type 0
  Behind s = AreCounted w l s

  -- a specification of a package
  package_part : (n : ℕ) (u : LibraryUnit) (x : PackageSpecification) → slice_get l.units n ≡ Some u → u.item ≡ library.Package x
      → IsPartOf w l n n (generic_at x.formals n)
  package_part n u x there e =
      record { unit = u; there = there; home = ap (package_of l n) e; text = sym (ap (text_generic w l n) e) }

  interface_counted : (x : Walked) (n : ℕ) (u : LibraryUnit) (i : LibraryItem) → slice_get l.units n ≡ Some u → u.item ≡ i → Walks x
      → IfOk (interface_judged step l x.world x.next n u i).answer Walks
  interface_counted x n u (library.Package y) there e h =
      package_seen w l (env_of step x.world n (key y.name) (seen_in x.world l u (unit n))) x.next u.item_pos n y (package_part n u y there e) h
  interface_counted x n u (library.Instance i) there e h =
      instance_seen w l (env_of step x.world n (key i.name) (seen_in x.world l u hidden)) x.next u.item_pos n (instance_number n l.units) i h
  interface_counted x n u (library.Subprogram b) there e h =
      library_seen w l (env_of step x.world n (key b.specification.name) (seen_in x.world l u hidden)) x.next n b h
  interface_counted x n u (library.PackageBody b) there e h = h

  interface_at_counted : (x : Walked) (n : ℕ) (o : Option LibraryUnit) → slice_get l.units n ≡ o → Walks x → IfOk (interface_at step l x n o).answer Walks
  interface_at_counted x n None there h = h
  interface_at_counted x n (Some u) there h =
      answered Walks u.pos _
      (part_so Walks Walks (interface_judged step l x.world x.next n u u.item).answer (λ y. rule (Some y)) (interface_counted x n u u.item there refl h) (λ y k. k))

  pub interfaces_counted : (x : Walked) (ns : List ℕ) → Walks x → IfOk (all_interfaces step l x ns).answer Walks
  interfaces_counted x [] h = h
  interfaces_counted x (n ∷ ns) h =
      answered Walks nowhere _
      (part_so Walks Walks (interface_at step l x n (slice_get l.units n)).answer (λ y. all_interfaces step l y ns >>= (λ rest. rule (Some rest)))
      (interface_at_counted x n (slice_get l.units n) refl h)
      (λ y k. part_so Walks Walks (all_interfaces step l y ns).answer (λ rest. rule (Some rest)) (interfaces_counted y ns k) (λ rest m. m)))

  -- bodies
  package_body_counted : (s : State) (m : ℕ) (u : LibraryUnit) (b : PackageBody) (n : ℕ)
      → IsPartOf w l m n (is_generic_interface (interface_of w n) n) → Behind s
      → IfOk (package_body_of step l w s m u b (Some n)).answer Behind
  package_body_counted s m u b n part h =
      let env = env_of step w m (key b.name) (seen_in_body w l n u) in
      let inner = in_body env n (interface_of w n) (region_of (interface_of w n)) in
      let text = is_generic_interface (interface_of w n) n in
      answered Behind u.item_pos _
      (part_so (Note (place_of inner) (at_unit s)) Behind (body_items inner (at_unit s) u.item_pos b.items).answer
      (λ region. closed_by u.item_pos b.name b.end_name >>= (λ end. rule (Some (behind_unit (in_body env n (interface_of w n) []) n region.next))))
      (body_items_note inner (at_unit s) u.item_pos b.items)
      (λ region k. part_so (λ v. Unit {0}) Behind (closed_by u.item_pos b.name b.end_name).answer
      (λ end. rule (Some (behind_unit (in_body env n (interface_of w n) []) n region.next))) (any_answer (closed_by u.item_pos b.name b.end_name).answer)
      (λ end v. left w l (in_body env n (interface_of w n) []) n s region.next h part
      (k.0 text refl (noted_words s.unit_words) s.unit_words (entered w l text s h)))))

  -- a body, whose package is this one
  body_of_counted : (s : State) (m : ℕ) (u : LibraryUnit) (b : PackageBody) (o : Option ℕ) → slice_get l.units m ≡ Some u → u.item ≡ library.PackageBody b
      → unit_named l.names (key b.name) ≡ o → Behind s
      → IfOk (package_body_of step l w s m u b o).answer Behind
  body_of_counted s m u b None there e named h = h
  body_of_counted s m u b (Some n) there e named h = package_body_counted s m u b n part h
    where
      part : IsPartOf w l m n (is_generic_interface (interface_of w n) n)
      part = record {
        unit = u;
        there = there;
        home = ap (package_of l m) e ∙ named;
        text = sym (ap (text_generic w l m) e ∙ ap (generic_of_package w) named);
      }

  library_body_counted : (env : Env) (s : State) (b : SubprogramBody) → Behind s → IfOk (library_body env s b).answer Behind
  library_body_counted env s b h =
      let inner = record env { is_library = false } in
      answered Behind b.specification.pos _
      (part_so (Keep (at_unit s)) Behind (specified inner (at_unit s) b.specification).answer
      (λ q. body_judged inner s b [] [] q >>= (λ next. rule (Some next)))
      (specified_notes inner (at_unit s) b.specification)
      (λ q k. part_so (Notes None q.next) Behind (body_judged inner s b [] [] q).answer (λ next. rule (Some next))
      (judged_notes inner s b [] [] q)
      (λ next m. passed_by w l s next h (notes_both None (at_unit s) q.next next k m))))

  bodies_counted : (s : State) (n : ℕ) (u : LibraryUnit) (i : LibraryItem) → slice_get l.units n ≡ Some u → u.item ≡ i → Behind s
      → IfOk (bodies_judged step l w s n u i).answer Behind
  bodies_counted s n u (library.PackageBody b) there e h =
      body_of_counted s n u b (unit_named l.names (key b.name)) there e refl h
  bodies_counted s n u (library.Subprogram b) there e h =
      library_body_counted (env_of step w n (key b.specification.name) (seen_in w l u (routine_entity (interface_of w n)))) s b h
  bodies_counted s n u (library.Package x) there e h = h
  bodies_counted s n u (library.Instance i) there e h = h

  pub all_counted : (s : State) (n : ℕ) (us : List LibraryUnit) → ((j : ℕ) → slice_get l.units (n + j) ≡ slice_get us j) → Behind s
      → IfOk (all_bodies_judged step l w s n us).answer Behind
  all_counted s n [] from h = h
  all_counted s n (u ∷ us) from h =
      let none : n + 0 ≡ n = omega (arith) in
      answered Behind nowhere _
      (part_so Behind Behind _ (λ x. all_bodies_judged step l w x (n + 1) us >>= (λ rest. rule (Some rest)))
      (answered Behind u.pos _
      (part_so Behind Behind (bodies_judged step l w s n u u.item).answer (λ y. rule (Some y))
      (bodies_counted s n u u.item (ap (slice_get l.units) (sym none) ∙ from 0) refl h) (λ y k. k)))
      (λ x k. part_so Behind Behind (all_bodies_judged step l w x (n + 1) us).answer (λ rest. rule (Some rest))
      (all_counted x (n + 1) us (λ j. let next : n + 1 + j ≡ n + suc j = omega (arith) in ap (slice_get l.units) next ∙ from (suc j)) k) (λ rest m. m)))

pub none_counted : (w : World) (l : Library) → AreCounted w l beginning_state
none_counted w l = record { objects = refl; words = tt }

-- behind the walks of a legal program
pub objects_counted : (l : Library) (main : List ℕ) (p : Program) → (is : IsLegal l main p) → AreCounted is.walk.seen.world l is.walked.next
objects_counted l main p is =
    let w = is.walk.seen.world in
    let seen : AreCounted w l is.walk.seen.next =
    of_ok (λ (x : Walked). AreCounted w l x.next) (all_interfaces typing l (record { world = world_before l; next = beginning_state }) l.order).answer is.walk.seen
    is.walk.interfaces (interfaces_counted w typing l (record { world = world_before l; next = beginning_state }) l.order (none_counted w l)) in
    of_ok (AreCounted w l) (all_bodies_judged typing l w is.walk.seen.next 0 l.units).answer is.walked.next is.walk.bodies
    (all_counted w typing l is.walk.seen.next 0 l.units (λ j. let none : 0 + j ≡ j = omega (arith) in ap (slice_get l.units) none) seen)
