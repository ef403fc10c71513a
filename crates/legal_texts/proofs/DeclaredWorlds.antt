-- What the units of a legal program show is their own: what a package declares belongs to instance 0, what a generic declares to its text, and a part
-- that an instance shows of its generic is no formal.
use Rattle.std.proofs.Common.{◌≡◌, ℕ, nat_eq, Bool, true, false, if◌then◌else◌, List, [], Option, Some, None, IfSome, Result, Ok, Err, is_some, refl, sym, ap, ◌∙◌, subst, inl, inr}
use Rattle.std.specs.Prelude.{unwrap_or}
use Rattle.std.proofs.lemmas.Bool.{eqb-true, eq-eqb, false≢true}
use Rattle.cov_base.specs.Lists.{Everywhere}
use Rattle.cov_base.specs.declared.position.Pos.{Pos}
use Rattle.ada_syntax.specs.declared.unit.Formal.{Formal}
use Rattle.ada_syntax.specs.declared.unit.Instance.{Instance}
use Rattle.ada_syntax.specs.declared.unit.LibraryItem.{LibraryItem}
use Rattle.ada_syntax.specs.declared.unit.LibraryItem.TheVariants as library
use Rattle.ada_syntax.specs.declared.unit.PackageSpecification.{PackageSpecification}
use Rattle.ada_syntax.specs.declared.unit.SubprogramBody.{SubprogramBody}
use Rattle.ada_syntax.specs.declared.unit.Unit.{Unit as LibraryUnit}
use Rattle.ada_meaning.specs.Program.{Program}
use Rattle.ada_meaning.specs.Types.{here, of_instance}
use Rattle.ada_rules.specs.Plan.{◌>>=◌, rule}
use Rattle.ada_rules.specs.Entities.{key, Entity, hidden, unit, Region, entity_of, shown}
use Rattle.ada_rules.specs.Environment.{typing, Interface, no_interface, package_interface, generic_interface, instance_interface, World, interface_of, State, Given, beginning_state, Env}
use Rattle.ada_rules.specs.Expressions.{unless_formal}
use Rattle.ada_rules.specs.Instances.{formals_declared, generic_named, formals_of, actuals_judged}
use Rattle.ada_rules.specs.Library.{Library, instance_number}
use Rattle.ada_rules.specs.Subprograms.{specified, declared_only, closed_by}
use Rattle.ada_rules.specs.Units.{env_of, generic_at, interface_with, package_items, Walked, at_unit, formals_in, in_specification, with_package, package_judged, with_instance, instance_judged, with_subprogram, library_routine, library_subprogram, seen_in, interface_judged, world_before}
use Rattle.legal_instances.specs.Ordered.{IsWholeOrder}
use Rattle.legal_laws.proofs.Passing.{every_so, some_so}
use Rattle.legal_programs.specs.Closed.{IsOfLibrary}
use Rattle.legal_programs.specs.Walked.{IsLegal}
use Rattle.legal_programs.proofs.Counted.{states_of}
use Rattle.legal_programs.proofs.Passed.{of_ok, passed_part, passed_rule}
use Rattle.legal_texts.proofs.DeclaredHere.{IsDeclaredBy, IsFormalBy, IsOfTextBy, AreFormalsHere, AreOfText, IsOwnedEntity, formals_declare, formals_in_text, items_of_text, part_declared, declared_of_library, declared_owned}
use Rattle.legal_texts.proofs.FormedPrograms.{no_interfaces}
use Rattle.legal_texts.proofs.InterfaceWalk.{IsAtUnit, same_some, walk_known}
use Rattle.legal_texts.proofs.UnitParts.{set_either}
use Rattle.legal_texts.proofs.OrderOnce.{ordered_once}

pub record IsDeclaredGeneric (n : ℕ) (formals region : Region) : Type 0 where
  pub are_formals : Everywhere (λ e. IsFormalBy here n e.1) formals
  pub of_text : Everywhere (IsOfTextBy here n formals) region

-- what the unit with this number shows
abbrev pub IsDeclaredInterface : ℕ → Interface → Type 0
IsDeclaredInterface n (package_interface region) = Everywhere (λ e. IsDeclaredBy (of_instance 0) n e.1) region
IsDeclaredInterface n (generic_interface formals region) = IsDeclaredGeneric n formals region
IsDeclaredInterface n i = Unit {0}

abbrev pub IsDeclaredWorld : World → Type 0
IsDeclaredWorld w = (n : ℕ) → IsDeclaredInterface n (interface_of w n)

abbrev value_or : Given Region → Result (Given Region) Pos → Region
value_or g (Ok h) = h.value
value_or g (Err p) = g.value

-- without formals all is declared
alone : (n : ℕ) (formals : Region) → formals ≡ [] → (region : Region) → Everywhere (IsOfTextBy (of_instance 0) n formals) region
    → Everywhere (λ e. IsDeclaredBy (of_instance 0) n e.1) region
alone n formals none region h = every_so (IsOfTextBy (of_instance 0) n formals) (λ e. IsDeclaredBy (of_instance 0) n e.1) region one h
  where
    one : (e : List ℕ × Entity) → IsOfTextBy (of_instance 0) n formals e → IsDeclaredBy (of_instance 0) n e.1
    one e (inl k) = k
    one e (inr k) = absurd (false≢true (ap (λ r. is_some (entity_of e.0 r)) (sym none) ∙ k.1))

shown_declared : (n : ℕ) (env : Env) (s : State) (q : Pos) (formals : Given Region) (region : Region) → env.local ≡ [] → (o : Option (List Formal))
    → (formals_declared env s q 0 (formals_in o)).answer ≡ Ok formals
    → Everywhere (λ e. IsFormalBy (if is_some (generic_at o n) then here else of_instance 0) n e.1) formals.value
    → Everywhere (IsOfTextBy (if is_some (generic_at o n) then here else of_instance 0) n formals.value) region
    → IsDeclaredInterface n (interface_with o formals.value region)
shown_declared n env s q formals region bare None is f t = alone n formals.value (sym (ap (value_or formals) is) ∙ bare) region t
shown_declared n env s q formals region bare (Some fs) is f t = record { are_formals = f; of_text = t }

module _ (l : Library) where
  -- a package or a generic
  module _ (x : Walked) (n : ℕ) (u : LibraryUnit) (z : PackageSpecification) where
    abbrev outside : Env
    outside = env_of typing x.world n (key z.name) (seen_in x.world l u (unit n))

    abbrev inside : Region → Env
    inside formals = in_specification outside n z formals

    package_declared : (y : Walked) → (package_judged outside x.next u.item_pos n z).answer ≡ Ok y → IsDeclaredInterface n (interface_of y.world n)
    package_declared y judged =
        let first = passed_part u.item_pos (formals_declared (inside []) (at_unit x.next) u.item_pos 0 (formals_in z.formals)).answer
        (λ formals. package_items (inside formals.value) formals.next u.item_pos z.items
        >>= (λ region. closed_by u.item_pos z.name z.end_name >>= (λ end. rule (Some (with_package outside n z formals.value region))))) y judged in
        let formals = first.value in
        let second = passed_part u.item_pos (package_items (inside formals.value) formals.next u.item_pos z.items).answer
        (λ region. closed_by u.item_pos z.name z.end_name >>= (λ end. rule (Some (with_package outside n z formals.value region)))) y first.rest in
        let region = second.value in
        let closing = passed_part u.item_pos (closed_by u.item_pos z.name z.end_name).answer (λ end. rule (Some (with_package outside n z formals.value region))) y second.rest in
        let are_formals = of_ok (λ (g : Given Region). AreFormalsHere (inside []) g.value)
        (formals_declared (inside []) (at_unit x.next) u.item_pos 0 (formals_in z.formals)).answer formals first.is
        (formals_declare (inside []) (at_unit x.next) u.item_pos 0 (formals_in z.formals) tt) in
        let of_text = of_ok (λ (g : Given Region). AreOfText (inside formals.value) formals.value g.value)
        (package_items (inside formals.value) formals.next u.item_pos z.items).answer region second.is
        (items_of_text (inside formals.value) formals.value refl formals.next u.item_pos z.items (formals_in_text (inside formals.value) formals.value are_formals)) in
        let declared : IsDeclaredInterface n (interface_with z.formals formals.value region.value) =
        shown_declared n (inside []) (at_unit x.next) u.item_pos formals region.value refl z.formals first.is are_formals of_text in
        subst (λ (v : Walked). IsDeclaredInterface n (interface_of v.world n)) (same_some (passed_rule u.item_pos (Some (with_package outside n z formals.value region)) y closing.rest))
        (set_either (λ o. IsDeclaredInterface n (unwrap_or o no_interface)) x.world.interfaces n (interface_with z.formals formals.value region.value) declared tt)

  subprogram_declared : (x : Walked) (n : ℕ) (u : LibraryUnit) (b : SubprogramBody) (y : Walked)
      → (library_subprogram (env_of typing x.world n (key b.specification.name) (seen_in x.world l u hidden)) x.next n b).answer ≡ Ok y
      → IsDeclaredInterface n (interface_of y.world n)
  subprogram_declared x n u b y judged =
      let env = env_of typing x.world n (key b.specification.name) (seen_in x.world l u hidden) in
      let part = passed_part b.specification.pos (specified env (at_unit x.next) b.specification).answer
      (λ q. rule (Some (with_subprogram x.world n (library_routine env b q.value) (declared_only x.next q.next)))) y judged in
      subst (λ (v : Walked). IsDeclaredInterface n (interface_of v.world n))
      (same_some (passed_rule b.specification.pos (Some (with_subprogram x.world n (library_routine env b part.value.value) (declared_only x.next part.value.next))) y part.rest))
      (set_either (λ o. IsDeclaredInterface n (unwrap_or o no_interface)) x.world.interfaces n (library_routine env b part.value.value) tt tt)

  instance_declared : (x : Walked) (n : ℕ) (u : LibraryUnit) (z : Instance) (y : Walked)
      → (instance_judged (env_of typing x.world n (key z.name) (seen_in x.world l u hidden)) x.next u.item_pos n (instance_number n l.units) z).answer ≡ Ok y
      → IsDeclaredInterface n (interface_of y.world n)
  instance_declared x n u z y judged =
      let env = env_of typing x.world n (key z.name) (seen_in x.world l u hidden) in
      let k = instance_number n l.units in
      let first = passed_part u.item_pos (generic_named env z.generic_name).answer
      (λ g. actuals_judged env (at_unit x.next) u.item_pos k [] (formals_of x.world g) z.actuals
      >>= (λ actuals. rule (Some (with_instance x.world u.item_pos n k z g actuals.value actuals.next)))) y judged in
      let second = passed_part u.item_pos (actuals_judged env (at_unit x.next) u.item_pos k [] (formals_of x.world first.value) z.actuals).answer
      (λ actuals. rule (Some (with_instance x.world u.item_pos n k z first.value actuals.value actuals.next))) y first.rest in
      subst (λ (v : Walked). IsDeclaredInterface n (interface_of v.world n))
      (same_some (passed_rule u.item_pos (Some (with_instance x.world u.item_pos n k z first.value second.value.value second.value.next)) y second.rest))
      (set_either (λ o. IsDeclaredInterface n (unwrap_or o no_interface)) x.world.interfaces n (instance_interface first.value k second.value.value) tt tt)

  module _ (final : World) (last : State) where
    own_declared : (x : Walked) (n : ℕ) (u : LibraryUnit) (y : Walked) (i : LibraryItem) → (interface_judged typing l x.world x.next n u i).answer ≡ Ok y
        → IsDeclaredWorld x.world → IsDeclaredInterface n (interface_of y.world n)
    own_declared x n u y (library.Subprogram b) judged h = subprogram_declared x n u b y judged
    own_declared x n u y (library.Package z) judged h = package_declared x n u z y judged
    own_declared x n u y (library.PackageBody z) judged h =
        subst (λ (v : Walked). IsDeclaredInterface n (interface_of v.world n)) (same_some (passed_rule u.pos (Some (record { world = x.world; next = x.next })) y judged)) (h n)
    own_declared x n u y (library.Instance z) judged h = instance_declared x n u z y judged

    pub declared_step : (x : Walked) (n : ℕ) (u : LibraryUnit) (y : Walked) → IsAtUnit l final last x n u y → IsDeclaredWorld x.world → IsDeclaredWorld y.world
    declared_step x n u y at h m = by_number (nat_eq n m) refl
      where
        by_number : (b : Bool) → nat_eq n m ≡ b → IsDeclaredInterface m (interface_of y.world m)
        by_number true e = subst (λ k. IsDeclaredInterface k (interface_of y.world k)) (eqb-true n m e) (own_declared x n u y u.item at.judged h)
        by_number false e =
            subst (IsDeclaredInterface m) (sym (at.steps.others m (λ same. false≢true (sym e ∙ eq-eqb n m same)))) (h m)

module _ (l : Library) (main : List ℕ) (p : Program) (legal : IsLegal l main p) (in_order : IsWholeOrder l) where
  abbrev final : World
  final = legal.walk.seen.world

  pub declared_final : IsDeclaredWorld final
  declared_final =
      walk_known l final legal.walked.next (λ (x : Walked). IsDeclaredWorld x.world) (declared_step l final legal.walked.next)
      (record { world = world_before l; next = beginning_state }) l.order legal.walk.seen legal.walk.interfaces refl (states_of l main p legal).bodies.extends
      (ordered_once l.units l.order in_order.units) (λ m there. no_interfaces l.units m)
      (λ n. subst (IsDeclaredInterface n) (sym (no_interfaces l.units n)) tt)

  -- a package
  pub package_owned : (n : ℕ) (region : Region) → interface_of final n ≡ package_interface region
      → Everywhere (λ e. IsOwnedEntity e.1 × IsOfLibrary e.1) region
  package_owned n region is =
      every_so (λ e. IsDeclaredBy (of_instance 0) n e.1) (λ e. IsOwnedEntity e.1 × IsOfLibrary e.1) region
      (λ e k. (declared_owned 0 n e.1 k, declared_of_library (of_instance 0) n e.1 k)) (subst (IsDeclaredInterface n) is (declared_final n))

  -- what an instance shows of a generic
  pub part_of_library : (g : ℕ) (formals region : Region) → interface_of final g ≡ generic_interface formals region → (name : List ℕ)
      → IfSome (unless_formal formals name (shown (entity_of name region))) IsOfLibrary
  part_of_library g formals region is name =
      let h : IsDeclaredGeneric g formals region = subst (IsDeclaredInterface g) is (declared_final g) in
      some_so (IsDeclaredBy here g) IsOfLibrary (unless_formal formals name (shown (entity_of name region))) (declared_of_library here g)
      (part_declared here g formals name region h.of_text)
