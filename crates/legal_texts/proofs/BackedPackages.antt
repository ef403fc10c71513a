-- The subprograms that the packages and the generics of a legal program declare are backed by their bodies.
use Rattle.std.proofs.Common.{◌≡◌, ◌+◌, ℕ, pos, List, [], ◌∷◌, length, Option, Some, None, Ok, slice_get, refl, sym, ap, ◌∙◌, subst, arith}
use Rattle.ada_syntax.specs.declared.unit.Formal.{Formal}
use Rattle.ada_syntax.specs.declared.unit.LibraryItem.TheVariants as library
use Rattle.ada_syntax.specs.declared.unit.PackageBody.{PackageBody}
use Rattle.ada_syntax.specs.declared.unit.PackageSpecification.{PackageSpecification}
use Rattle.ada_syntax.specs.declared.unit.SubprogramBody.{SubprogramBody}
use Rattle.ada_syntax.specs.declared.unit.Unit.{Unit as LibraryUnit}
use Rattle.ada_meaning.specs.Declared.{is_function}
use Rattle.ada_meaning.specs.Program.{Subprogram, Program}
use Rattle.ada_rules.specs.Types.{integer, natural, positive, boolean, integer_type, integer_subtype, boolean_subtype, of_type, numbers}
use Rattle.ada_rules.specs.Entities.{key, Routine, routine, unit, Region, entity_of, whole_standard}
use Rattle.ada_rules.specs.Environment.{typing, Interface, no_interface, package_interface, generic_interface, instance_interface, subprogram_interface, BodyName, World, interface_of, State, Given, beginning_state, owner_of}
use Rattle.ada_rules.specs.Library.{Library, item_name, clause_names, is_package_body, all_bodies, bodies_of_item}
use Rattle.ada_rules.specs.Subprograms.{Profile, specified, returning_of, typed_parameters, place_among}
use Rattle.ada_rules.specs.Units.{Walked, env_of, generic_at, interface_with, in_body, at_unit, is_generic_interface, region_of, withs_of, seen_in, seen_in_body, bodies_judged, world_before}
use Rattle.legal_laws.proofs.Giving.{returns_value}
use Rattle.legal_laws.proofs.KnownBodies.{mapped_length}
use Rattle.legal_programs.specs.Growing.{Extends}
use Rattle.legal_programs.specs.Walked.{IsLegal}
use Rattle.legal_programs.proofs.Counted.{states_of}
use Rattle.legal_programs.proofs.Headings.{are_headed}
use Rattle.legal_instances.specs.Ordered.{IsWholeOrder}
use Rattle.legal_texts.specs.Told.{Table, IsToldRegion, Names, IsToldPlace}
use Rattle.legal_texts.proofs.BackedRoutines.{IsBackedAt, made_here, body_backed}
use Rattle.legal_texts.proofs.BodyNumbers.{bodies_numbered}
use Rattle.legal_texts.proofs.InterfaceWalk.{walk_known}
use Rattle.legal_texts.proofs.MarkedNames.{IsMarkedRegion}
use Rattle.legal_texts.proofs.MarkedPlaces.{seen_marked, package_marked}
use Rattle.legal_texts.proofs.OrderOnce.{ordered_once}
use Rattle.legal_texts.proofs.PackageNumbers.{body_in, number_leads}
use Rattle.legal_texts.proofs.LibraryBodies.{body_env, body_at}
use Rattle.legal_texts.proofs.UnitPlaces.{bodies_before}
use Rattle.legal_texts.proofs.FormedPrograms.{no_interfaces}
use Rattle.legal_texts.proofs.UnitParts.{unbehind}
use Rattle.legal_texts.proofs.ToldItems.{marks_of}
use Rattle.legal_texts.proofs.ToldWorlds.{IsToldInterface, IsToldWorld, marks_there, told_step}
use Rattle.legal_texts.proofs.VisitedUnits.{all_visited, package_walked}

-- the predefined marks
abbrev first_table : Table
first_table integer = Some integer_subtype
first_table natural = Some (of_type (integer_type integer) (numbers (pos 0) (pos 2147483647)))
first_table positive = Some (of_type (integer_type integer) (numbers (pos 1) (pos 2147483647)))
first_table boolean = Some boolean_subtype
first_table i = None

module _ (l : Library) (main : List ℕ) (p : Program) (legal : IsLegal l main p) where
  abbrev final : World
  final = legal.walk.seen.world

  abbrev last : State
  last = legal.walked.next

  -- the body of a library subprogram
  pub record IsLibraryBody (n : ℕ) (u : LibraryUnit) (b : SubprogramBody) : Type 0 where
    pub before : State
    pub profile : Given Profile
    pub specifies : (specified (body_env l final n u b) (at_unit before) b.specification).answer ≡ Ok profile
    pub sub : Subprogram
    pub here : slice_get p.subprograms (bodies_before n l.units) ≡ Some sub
    pub stands : sub.generic ≡ None
    pub parameters : typed_parameters 0 profile.value.parameters ≡ sub.parameters
    pub gives : is_function sub ≡ returns_value (returning_of profile.value.result)

  pub library_body : (n : ℕ) (u : LibraryUnit) (b : SubprogramBody) → slice_get l.units n ≡ Some u → u.item ≡ library.Subprogram b → IsLibraryBody n u b
  library_body n u b there item =
      let v = all_visited l main p legal n u there in
      let judged : (bodies_judged typing l final v.before n u (library.Subprogram b)).answer ≡ Ok v.after =
      subst (λ i. (bodies_judged typing l final v.before n u i).answer ≡ Ok v.after) item v.at.judged in
      let body = body_at (body_env l final n u b) refl b v.before v.after judged in
      let m = body.made in
      record {
        before = v.before;
        profile = body.profile;
        specifies = body.specifies;
        sub = m.made;
        here = made_here l main p legal (bodies_before n l.units) v.before v.after m.made m.is_made v.at.extends v.counted;
        stands = m.stands;
        parameters = m.parameters;
        gives = m.gives;
      }

  pub library_number : (n : ℕ) (u : LibraryUnit) (b : SubprogramBody) → slice_get l.units n ≡ Some u → u.item ≡ library.Subprogram b
      → place_among (key b.specification.name) (key b.specification.name) 0 (all_bodies l.units) ≡ Some (bodies_before n l.units)
  library_number n u b there item =
      let none : bodies_before n l.units + 0 ≡ bodies_before n l.units = omega (arith) in
      bodies_numbered l main p legal (bodies_before n l.units + 0) one (body_in l.units n u 0 one there (subst (λ i. slice_get (bodies_of_item i) 0 ≡ Some one) (sym item) refl))
      ∙ ap Some none
    where
      one : BodyName
      one = record { package_name = key b.specification.name; name = key b.specification.name }

  module _ (in_order : IsWholeOrder l) (standard : l.standard ≡ whole_standard) where
    pub told_before : IsToldWorld l (world_before l)
    told_before = record {
      table = first_table;
      told = λ n. subst (IsToldInterface (world_before l) first_table n) (sym (no_interfaces l.units n)) tt;
      predefined = subst (λ s. IsMarkedRegion (Names first_table) s.predefined) (sym standard) (refl, (refl, (refl, (refl, (tt, (tt, (tt, (tt, (tt, tt)))))))));
      test_io = subst (λ s. IsMarkedRegion (Names first_table) s.test_io_declarations) (sym standard) (tt, (tt, (tt, tt)));
      opens = λ o m k e. refl;
      unseen = λ m at e n k. refl;
      bare = λ m u there is_body. no_interfaces l.units m;
      sized = mapped_length (λ (u : LibraryUnit). no_interface) l.units;
    }

    pub told_final : IsToldWorld l final
    told_final =
        walk_known l final last (λ (x : Walked). IsToldWorld l x.world) (told_step l final last)
        (record { world = world_before l; next = beginning_state }) l.order legal.walk.seen legal.walk.interfaces refl (states_of l main p legal).bodies.extends
        (ordered_once l.units l.order in_order.units) (λ m there. no_interfaces l.units m) told_before

    -- where the body of a package or a generic stands
    region_told : (table : Table) (n : ℕ) (i : Interface) → IsToldInterface final table n i → IsToldRegion table (region_of i)
    region_told table n no_interface h = tt
    region_told table n (package_interface region) h = h
    region_told table n (generic_interface formals region) h = h.region_told
    region_told table n (instance_interface g k actuals) h = tt
    region_told table n (subprogram_interface r) h = tt

    pub place_told : (n : ℕ) (u : LibraryUnit) (b : PackageBody) → slice_get l.units n ≡ Some u → u.item ≡ library.PackageBody b → (m : ℕ) (s : State)
        → IsToldPlace told_final.table
        (in_body (env_of typing final n (key b.name) (seen_in_body final l m u)) m (interface_of final m) (region_of (interface_of final m))) s
    place_told n u b there item m s =
        let told = told_final in
        let marks = marks_there l final told in
        let own = region_told told.table m (interface_of final m) (told.told m) in
        let outside = env_of typing final n (key b.name) (seen_in_body final l m u) in
        record {
          place = package_marked (Names told.table) final marks n (key b.name) (is_generic_interface (interface_of final m) m) m (seen_in_body final l m u)
              (region_of (interface_of final m))
              (seen_marked (Names told.table) final marks l (withs_of (slice_get l.units m)) (seen_in final l u (unit m))
              (seen_marked (Names told.table) final marks l (clause_names u.withs) ((key (item_name u.item), unit m) ∷ []) (tt, tt)))
              (marks_of told.table (region_of (interface_of final m)) own);
          local = own;
          is_open = λ j less. told.opens (owner_of (in_body outside m (interface_of final m) (region_of (interface_of final m)))) n j
              (told.bare n u there (ap is_package_body item));
        }

    -- what a package or a generic shows
    region_shown : (o : Option (List Formal)) (formals region : Region) → region_of (interface_with o formals region) ≡ region
    region_shown None formals region = refl
    region_shown (Some fs) formals region = refl

    generic_shown : (o : Option (List Formal)) (formals region : Region) (n : ℕ) → is_generic_interface (interface_with o formals region) n ≡ generic_at o n
    generic_shown None formals region n = refl
    generic_shown (Some fs) formals region n = refl

    pub routine_backed : (n : ℕ) (u : LibraryUnit) (z : PackageSpecification) → slice_get l.units n ≡ Some u → u.item ≡ library.Package z → (formals region : Region)
        → interface_of final n ≡ interface_with z.formals formals region → (name : List ℕ) (r : Routine) (k : ℕ) → entity_of name region ≡ Some (routine r)
        → place_among (key z.name) name 0 (all_bodies l.units) ≡ Some k → IsBackedAt p (generic_at z.formals n) k r
    routine_backed n u z there item formals region is name r k has number =
        let a = number_leads l (are_headed l 0 l.units legal.walk.headings) n u z there item name k number in
        let v = all_visited l main p legal a.unit a.home a.there in
        let judged : (bodies_judged typing l final v.before a.unit a.home (library.PackageBody a.body)).answer ≡ Ok v.after =
        subst (λ i. (bodies_judged typing l final v.before a.unit a.home i).answer ≡ Ok v.after) a.item v.at.judged in
        let region_is : region_of (interface_of final n) ≡ region = ap region_of is ∙ region_shown z.formals formals region in
        let generic_is : is_generic_interface (interface_of final n) n ≡ generic_at z.formals n =
        ap (λ i. is_generic_interface i n) is ∙ generic_shown z.formals formals region n in
        let w = package_walked l final a.unit a.home n a.body region v.before v.after a.named region_is judged in
        let outside = env_of typing final a.unit (key a.body.name) (seen_in_body final l n a.home) in
        let place : IsToldPlace told_final.table (in_body outside n (interface_of final n) region) (at_unit v.before) =
        subst (λ r. IsToldPlace told_final.table (in_body outside n (interface_of final n) r) (at_unit v.before)) region_is
        (place_told a.unit a.home a.body a.there a.item n (at_unit v.before)) in
        let more : Extends w.behind.next last =
        unbehind (in_body outside n (interface_of final n) []) n w.behind.next last (subst (λ (t : State). Extends t last) (sym w.same) v.at.extends) in
        let count : length v.before.subprograms + a.index ≡ k = ap (λ m. m + a.index) v.counted ∙ a.at in
        subst (λ g. IsBackedAt p g k r) generic_is
        (subst (λ m. IsBackedAt p (is_generic_interface (interface_of final n) n) m r) count
        (body_backed l main p legal name r told_final.table (key a.body.name) (in_body outside n (interface_of final n) region) (at_unit v.before) a.home.item_pos a.body.items
        w.behind w.is more place has a.index a.one a.is a.name_is))
