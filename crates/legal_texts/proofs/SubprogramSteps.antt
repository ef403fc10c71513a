-- The step of the walk at a library subprogram: what it shows is known wherever it is seen.
use Rattle.std.proofs.Common.{◌≡◌, ℕ, false, List, [], ◌∷◌, Some, IfSome, Ok, refl, sym, ap, ◌∙◌, subst}
use Rattle.std.specs.Prelude.{unwrap_or}
use Rattle.ada_syntax.specs.declared.unit.LibraryItem.TheVariants as library
use Rattle.ada_syntax.specs.declared.unit.SubprogramBody.{SubprogramBody}
use Rattle.ada_syntax.specs.declared.unit.Unit.{Unit as LibraryUnit}
use Rattle.ada_meaning.specs.Bodies.{StandsIn}
use Rattle.ada_meaning.specs.Program.{Program}
use Rattle.ada_rules.specs.Entities.{key, hidden}
use Rattle.ada_rules.specs.Environment.{typing, Interface, World, interface_of, entity_of_interface, State, Given, Env, with_local, opened}
use Rattle.ada_rules.specs.Expressions.{part_of_interface}
use Rattle.ada_rules.specs.Library.{Library, item_name, clause_names}
use Rattle.ada_rules.specs.Plan.{rule}
use Rattle.ada_rules.specs.Subprograms.{Profile, specified, returning_of, typed_parameters, declared_only, place_among, body_number, routine_of}
use Rattle.ada_rules.specs.Units.{Walked, env_of, at_unit, with_subprogram, library_routine, library_subprogram, seen_in, routine_entity}
use Rattle.legal_laws.specs.Known.{IsOneOf, IsRoutine}
use Rattle.legal_laws.proofs.Giving.{returns_value}
use Rattle.legal_laws.proofs.OwnRoutines.{own_known}
use Rattle.legal_programs.specs.Walked.{IsLegal}
use Rattle.legal_programs.proofs.Passed.{of_ok, passed_part, passed_rule}
use Rattle.legal_texts.proofs.AnywhereKnown.{shapes, Sees, IsAnywhere, ShowsClosed, library_there, unit_there}
use Rattle.legal_texts.proofs.BackedPackages.{IsLibraryBody, library_body, library_number}
use Rattle.legal_texts.proofs.GrownWorlds.{IsGrown, AreAlikeRegions, seen_more_alike, places_alike}
use Rattle.legal_texts.proofs.InterfaceWalk.{IsAtUnit, same_some}
use Rattle.legal_texts.proofs.KeptBodies.{IsShort, specified_short}
use Rattle.legal_texts.proofs.KnownMarks.{known_place}
use Rattle.legal_texts.proofs.KnownObjects.{ObjectsAt}
use Rattle.legal_texts.proofs.UnitParts.{IsKnownMark, marks_known, returns_known}
use Rattle.legal_texts.proofs.Leads.{leads_fit}
use Rattle.legal_texts.proofs.LibraryBodies.{body_env}
use Rattle.legal_texts.proofs.MarkedNames.{IsMarkedProfile, specified_marked}
use Rattle.legal_texts.proofs.PackageItems.{no_subprogram}
use Rattle.legal_texts.proofs.SameProfiles.{specified_same}
use Rattle.legal_texts.proofs.SeenWorlds.{IsRooted, IsSeenSo, IsNewKnown, home_still, world_next}
use Rattle.legal_texts.proofs.UnitPlaces.{bodies_before}
use Rattle.legal_texts.proofs.SetInterfaces.{no_routine, no_routine_generic, no_routine_instance, set_now, step_made, unit_closed}

module _ (l : Library) (main : List ℕ) (p : Program) (legal : IsLegal l main p) where
  abbrev final : World
  final = legal.walk.seen.world

  abbrev last : State
  last = legal.walked.next

  -- a library subprogram
  module _ (closed : ShowsClosed final) (x : Walked) (n : ℕ) (u : LibraryUnit) (b : SubprogramBody) (item : u.item ≡ library.Subprogram b)
      (h : IsSeenSo l main p legal x) where
    abbrev name : List ℕ
    name = key b.specification.name

    abbrev env : Env
    env = env_of typing x.world n name (seen_in x.world l u hidden)

    regions_alike : IsGrown x.world final → AreAlikeRegions (seen_in x.world l u hidden) (seen_in final l u (routine_entity (interface_of final n)))
    regions_alike grown =
        seen_more_alike x.world final grown l (clause_names u.withs) ((key (item_name u.item), hidden) ∷ [])
        ((key (item_name u.item), routine_entity (interface_of final n)) ∷ []) ((refl, tt), tt)

    module _ (q : Given Profile) (specifies : (specified env (at_unit x.next) b.specification).answer ≡ Ok q)
        (at : IsAtUnit l final last x n u (with_subprogram x.world n (library_routine env b q.value) (declared_only x.next q.next))) where
      own : IsLibraryBody l main p legal n u b
      own = library_body l main p legal n u b at.there item

      number_is : unwrap_or (body_number x.world name name) 0 ≡ bodies_before n l.units
      number_is =
          ap (λ bs. unwrap_or (place_among name name 0 bs) 0) h.names
          ∙ ap (λ o. unwrap_or o 0) (library_number l main p legal n u b at.there item)

      profile_same : q.value ≡ own.profile.value
      profile_same =
          specified_same env (body_env l final n u b) refl refl
          (λ region i. leads_fit (with_local (opened env) region) (with_local (opened (body_env l final n u b)) region)
          (places_alike x.world final (with_local (opened env) region) (with_local (opened (body_env l final n u b)) region) region
          (seen_in x.world l u hidden) (seen_in final l u (routine_entity (interface_of final n))) at.grown at.same.standard refl refl refl refl refl refl (regions_alike at.grown)) i)
          (at_unit x.next) (at_unit own.before) b.specification q own.profile specifies own.specifies

      routine_is : IsRoutine p 0 (IsOneOf h.types) (routine_of env name false q.value)
      routine_is =
          let seen = library_there p h.types (IsOneOf h.types) (λ t k. k) h.integers h.booleans x.world h.standard h.shows 0 no_subprogram l (clause_names u.withs)
          ((key (item_name u.item), hidden) ∷ []) (tt, tt) in
          let place = unit_there p h.types (IsOneOf h.types) (λ t k. k) h.integers h.booleans x.world h.standard h.shows 0 no_subprogram n name (seen_in x.world l u hidden) seen in
          let marked = of_ok (λ (g : Given Profile). IsMarkedProfile (IsKnownMark p h.types) g.value) (specified env (at_unit x.next) b.specification).answer q specifies
          (specified_marked (IsKnownMark p h.types) env (at_unit x.next) b.specification (known_place p 0 (IsOneOf h.types) (shapes p 0) (Sees p 0) env place)) in
          own_known p 0 (IsOneOf h.types) h.apart own.sub (bodies_before n l.units) own.here (subst (λ g. StandsIn p g 0) (sym own.stands) refl) env name false q.value (λ e. refl) number_is
          (own.gives ∙ ap (λ z. returns_value (returning_of z.result)) (sym profile_same))
          (ap (λ z. typed_parameters 0 z.parameters) profile_same ∙ own.parameters)
          (marks_known p h.types q.value.parameters marked.parameters) (returns_known p h.types q.value.result marked.result)

      abbrev shows : Interface
      shows = library_routine env b q.value

      abbrev behind : State
      behind = declared_only x.next q.next

      abbrev y : Walked
      y = with_subprogram x.world n shows behind

      objects_still : behind.objects_declared ≡ x.next.objects_declared
      objects_still =
          (of_ok (IsShort (at_unit x.next)) (specified env (at_unit x.next) b.specification).answer q specifies (specified_short env (at_unit x.next) b.specification)).kept.objects refl

      new_known : IsNewKnown l main p legal h.types y n
      new_known =
          let is = set_now l main p legal x n u h shows behind at in
          let r = routine_of env name false q.value in
          record {
            parts = λ part. subst (λ j. IfSome (part_of_interface y.world part j) (IsAnywhere p h.types)) (sym is) tt;
            is_unit = subst (λ j. IsAnywhere p h.types (entity_of_interface n j)) (sym is)
                (record { whole = tt; closed = (unit_closed l main p legal x n u h shows behind at closed).1; known = routine_is });
            region = λ region e. absurd (no_routine r region (sym is ∙ e));
            rooted = subst (IsRooted y.world) (sym is) tt;
            generic = λ formals region e. absurd (no_routine_generic r formals region (sym is ∙ e));
            instance = λ g k actuals e. absurd (no_routine_instance r g k actuals (sym is ∙ e));
          }

      subprogram_next : IsSeenSo l main p legal y
      subprogram_next =
          let step = step_made l main p legal x n u h shows behind at [] objects_still tt tt h.words h.counted in
          world_next l main p legal x n y h step h.types (λ t k. k) new_known h.apart h.owned
          (λ t there i m j e. home_still l main p legal x n y h step h.types (λ t k. k) new_known i m (h.homes t there i m j e))
          (subst (ObjectsAt p 0) (sym objects_still) h.objects)

    pub subprogram_seen : (y : Walked) → IsAtUnit l final last x n u y → (library_subprogram env x.next n b).answer ≡ Ok y → IsSeenSo l main p legal y
    subprogram_seen y at judged =
        let part = passed_part b.specification.pos (specified env (at_unit x.next) b.specification).answer
        (λ q. rule (Some (with_subprogram x.world n (library_routine env b q.value) (declared_only x.next q.next)))) y judged in
        let v = with_subprogram x.world n (library_routine env b part.value.value) (declared_only x.next part.value.next) in
        let same : v ≡ y = same_some (passed_rule b.specification.pos (Some v) y part.rest) in
        subst (IsSeenSo l main p legal) same
        (subprogram_next part.value part.is (subst (IsAtUnit l final last x n u) (sym same) at))
