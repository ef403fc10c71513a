-- Each unit that is an instance was looked at in the order of dependence, and shows the declarations of its generic; so the text of a generic is known in each
-- instance of the program in which it stands.
use Rattle.std.proofs.Common.{◌≡◌, ◌<◌, ◌+◌, ℕ, zero, suc, Bool, true, false, if◌then◌else◌, List, [], ◌∷◌, ◌++◌, length, Some, Ok, slice_get, refl, sym, ap, ◌∙◌, subst, arith, inl, inr}
use Rattle.std.specs.Prelude.{◌⊎◌, unwrap_or}
use Rattle.std.proofs.lemmas.Bool.{false≢true}
use Rattle.cov_base.specs.Lists.{Everywhere}
use Rattle.ada_syntax.specs.declared.unit.Instance.{Instance as SourceInstance}
use Rattle.ada_syntax.specs.declared.unit.LibraryItem.TheVariants as library
use Rattle.ada_syntax.specs.declared.unit.Unit.{Unit as LibraryUnit}
use Rattle.ada_meaning.specs.Bodies.{StandsIn}
use Rattle.ada_meaning.specs.Program.{Program}
use Rattle.ada_rules.specs.Types.{AdaType}
use Rattle.ada_rules.specs.Entities.{Region, whole_standard}
use Rattle.ada_rules.specs.Denoted.{nowhere}
use Rattle.ada_rules.specs.Environment.{typing, Interface, no_interface, generic_interface, instance_interface, World, interface_of, State, beginning_state}
use Rattle.ada_rules.specs.Library.{Library, is_package_body, instance_number, units_but_bodies, library_of}
use Rattle.ada_rules.specs.Plan.{◌>>=◌, rule}
use Rattle.ada_rules.specs.Units.{Walked, interface_judged, interface_at, all_interfaces, world_before}
use Rattle.legal_laws.specs.Known.{AreApart, IsOneOf, IsRegion}
use Rattle.legal_programs.specs.Growing.{Extends, AddsInterfaces}
use Rattle.legal_programs.specs.Homes.{instances_at}
use Rattle.legal_programs.specs.Walked.{IsLegal}
use Rattle.legal_programs.proofs.Counted.{states_of}
use Rattle.legal_programs.proofs.Extending.{extends_both}
use Rattle.legal_programs.proofs.ExtendingUnits.{interfaces_add}
use Rattle.legal_programs.proofs.Passed.{of_ok, passed_part, passed_rule}
use Rattle.legal_programs.proofs.Worlds.{IsSameWorld}
use Rattle.legal_instances.specs.InOrder.{UnitsRise}
use Rattle.legal_instances.specs.Ordered.{HaveSameItems, IsWholeOrder}
use Rattle.legal_instances.proofs.NumberedInstances.{unit_numbered}
use Rattle.legal_texts.proofs.AnywhereKnown.{shapes, Sees}
use Rattle.legal_texts.proofs.BackedPackages.{told_before}
use Rattle.legal_texts.proofs.FormedPrograms.{no_interfaces}
use Rattle.legal_texts.proofs.GrownWorlds.{IsGrown}
use Rattle.legal_texts.proofs.InstancePlaces.{IsAtInstance, at_instance}
use Rattle.legal_texts.proofs.InterfaceWalk.{same_some, In, StandOnce, is_in, StepsTo, IsStaying, grown_of, at_steps, interface_steps, interfaces_stay, IsAtUnit, IsFresh, unit_known}
use Rattle.legal_texts.proofs.KnownObjects.{one_text, ObjectsAt}
use Rattle.legal_texts.proofs.UnitParts.{below_length, set_there}
use Rattle.legal_texts.proofs.OrderOnce.{count, count_cons, count_none, counted_in, same_count, weight_other, ordered_once}
use Rattle.legal_texts.proofs.SeenTypes.{IsOfText}
use Rattle.legal_texts.proofs.SeenWorlds.{IsSeenSo}
use Rattle.legal_texts.proofs.ToldWorlds.{IsToldWorld, told_step}

-- a unit of the order, where it was looked at
module _ (l : Library) (final : World) (last : State) (K : Walked → Type 0)
    (keep : (x : Walked) (n : ℕ) (u : LibraryUnit) (y : Walked) → IsAtUnit l final last x n u y → K x → K y) where
  pub record IsReached (n : ℕ) (u : LibraryUnit) : Type 0 where
    pub before : Walked
    pub after : Walked
    pub at : IsAtUnit l final last before n u after
    pub known : K before

  at_once : (x : Walked) (n : ℕ) (u : LibraryUnit) (y : Walked) → slice_get l.units n ≡ Some u → (interface_at typing l x n (Some u)).answer ≡ Ok y
      → interface_of x.world n ≡ no_interface → IsGrown x.world final → IsSameWorld x.world final → interface_of final n ≡ interface_of y.world n
      → Extends y.next last → K x → IsReached n u
  at_once x n u y there h fresh grown same set more k =
      let part = passed_part u.pos (interface_judged typing l x.world x.next n u u.item).answer (λ z. rule (Some z)) y h in
      let judged : (interface_judged typing l x.world x.next n u u.item).answer ≡ Ok y =
      part.is ∙ ap (λ z. Ok z) (same_some (passed_rule u.pos (Some part.value) y part.rest)) in
      record {
        before = x;
        after = y;
        at = record {
          there = there;
          judged = judged;
          fresh = fresh;
          grown = grown;
          same = same;
          set = set;
          steps = of_ok (StepsTo x.world n) (interface_judged typing l x.world x.next n u u.item).answer y judged (interface_steps l x.world x.next n u u.item);
          extends = more;
        };
        known = k;
      }

  pub reached : (x : Walked) (ns : List ℕ) (z : Walked) → (all_interfaces typing l x ns).answer ≡ Ok z → z.world ≡ final → Extends z.next last
      → StandOnce ns → IsFresh l x ns → K x → (m : ℕ) (u : LibraryUnit) → slice_get l.units m ≡ Some u → In ns m → IsReached m u
  reached x [] z h end more once fresh k m u there among = absurd among
  reached x (n ∷ ns) z h end more once fresh k m u there among =
      let part = passed_part nowhere (interface_at typing l x n (slice_get l.units n)).answer (λ y. all_interfaces typing l y ns >>= (λ rest. rule (Some rest))) z h in
      let y = part.value in
      let rest = passed_part nowhere (all_interfaces typing l y ns).answer (λ r. rule (Some r)) z part.rest in
      let last_is : (all_interfaces typing l y ns).answer ≡ Ok z = rest.is ∙ ap (λ r. Ok r) (same_some (passed_rule nowhere (Some rest.value) z rest.rest)) in
      let whole = of_ok (λ (r : Walked). IsStaying x.world (n ∷ ns) r.world) (all_interfaces typing l x (n ∷ ns)).answer z h (interfaces_stay l x (n ∷ ns)) in
      let later = of_ok (λ (r : Walked). IsStaying y.world ns r.world) (all_interfaces typing l y ns).answer z last_is (interfaces_stay l y ns) in
      let adds = of_ok (λ (r : Walked). AddsInterfaces (instances_at l ns) y.next r.next) (all_interfaces typing l y ns).answer z last_is (interfaces_add typing l y ns) in
      let steps = of_ok (StepsTo x.world n) (interface_at typing l x n (slice_get l.units n)).answer y part.is (at_steps l x n (slice_get l.units n)) in
      let grown = subst (IsGrown x.world) end (grown_of x.world z.world (n ∷ ns) whole fresh) in
      let same = subst (IsSameWorld x.world) end whole.same in
      let set = ap (λ w. interface_of w n) (sym end) ∙ later.others n once.0 in
      let extends = extends_both y.next z.next last adds.extends more in
      by_place y part.is grown same set extends
      (λ deeper. reached y ns z last_is end more once.1 (λ j in_rest. steps.others j (λ e. once.0 (subst (In ns) (sym e) in_rest)) ∙ fresh j (inr in_rest))
      (unit_known l final last K keep x n (slice_get l.units n) y refl part.is (fresh n (inl refl)) grown same set extends k) m u there deeper) among
    where
      by_place : (y : Walked) → (interface_at typing l x n (slice_get l.units n)).answer ≡ Ok y → IsGrown x.world final → IsSameWorld x.world final
          → interface_of final n ≡ interface_of y.world n → Extends y.next last → (In ns m → IsReached m u) → (n ≡ m) ⊎ In ns m → IsReached m u
      by_place y is grown same set extends rest (inl e) =
          let here : slice_get l.units n ≡ Some u = ap (slice_get l.units) e ∙ there in
          subst (λ j. IsReached j u) e
          (at_once x n u y here (subst (λ o. (interface_at typing l x n o).answer ≡ Ok y) here is) (fresh n (inl refl)) grown same set extends k)
      by_place y is grown same set extends rest (inr deeper) = rest deeper

-- each unit that is no body of a package stands in the order
among_units : (us : List LibraryUnit) (n j : ℕ) (u : LibraryUnit) → slice_get us j ≡ Some u → is_package_body u.item ≡ false → In (units_but_bodies n us) (n + j)
among_units [] n zero u there no_body = absurd (cc there)
among_units [] n (suc j) u there no_body = absurd (cc there)
among_units (v ∷ us) n zero u there no_body =
    let none : n ≡ n + 0 = omega (arith) in
    here (is_package_body v.item) (ap (λ (w : LibraryUnit). is_package_body w.item) (same_some there) ∙ no_body) none
  where
    here : (b : Bool) → b ≡ false → n ≡ n + 0 → In (if b then units_but_bodies (n + 1) us else n ∷ units_but_bodies (n + 1) us) (n + 0)
    here true e same = absurd (false≢true (sym e))
    here false e same = inl same
among_units (v ∷ us) n (suc j) u there no_body =
    let next : (n + 1) + j ≡ n + suc j = omega (arith) in
    subst (In (units_but_bodies n (v ∷ us))) next (behind (is_package_body v.item) (among_units us (n + 1) j u there no_body))
  where
    behind : (b : Bool) → In (units_but_bodies (n + 1) us) (n + 1 + j) → In (if b then units_but_bodies (n + 1) us else n ∷ units_but_bodies (n + 1) us) (n + 1 + j)
    behind true h = h
    behind false h = inr h

none_counted : (m : ℕ) (ns : List ℕ) → (In ns m → ⊥) → count m ns ≡ 0
none_counted m [] none = count_none m
none_counted m (n ∷ ns) none =
    let all = count_cons m n ns in
    let own = weight_other m n (λ e. none (inl e)) in
    let rest = none_counted m ns (λ h. none (inr h)) in
    omega (arith, all, own, rest)

in_both : (xs ys : List ℕ) → HaveSameItems xs ys → (m : ℕ) → In xs m → In ys m
in_both xs ys same m there = of_either (is_in ys m)
  where
    never : (In ys m → ⊥) → ⊥
    never none =
        let zero_there = none_counted m ys none in
        let equal = same_count xs ys same m in
        let some = counted_in m xs there in
        omega (arith, zero_there, equal, some)

    of_either : In ys m ⊎ (In ys m → ⊥) → In ys m
    of_either (inl h) = h
    of_either (inr none) = absurd (never none)

module _ (l : Library) (main : List ℕ) (p : Program) (legal : IsLegal l main p) where
  abbrev final : World
  final = legal.walk.seen.world

  abbrev last : State
  last = legal.walked.next

  module _ (in_order : IsWholeOrder l) (standard_is : l.standard ≡ whole_standard) where
    pub in_turn : (n : ℕ) (u : LibraryUnit) → slice_get l.units n ≡ Some u → is_package_body u.item ≡ false
        → IsReached l final last (λ (x : Walked). IsToldWorld l x.world) (told_step l final last) n u
    in_turn n u there no_body =
        let none : 0 + n ≡ n = omega (arith) in
        reached l final last (λ (x : Walked). IsToldWorld l x.world) (told_step l final last)
        (record { world = world_before l; next = beginning_state }) l.order legal.walk.seen legal.walk.interfaces refl (states_of l main p legal).bodies.extends
        (ordered_once l.units l.order in_order.units) (λ m among. no_interfaces l.units m) (told_before l main p legal in_order standard_is) n u there
        (in_both (units_but_bodies 0 l.units) l.order in_order.units n (subst (In (units_but_bodies 0 l.units)) none (among_units l.units 0 n u there no_body)))

  -- the text of a generic, in an instance in which it stands
  pub record IsTextKnown (types : List AdaType) (g k : ℕ) : Type 0 where
    pub formals : Region
    pub region : Region
    pub shows : interface_of final g ≡ generic_interface formals region
    pub new : List AdaType
    pub own : Everywhere (IsOfText g) new
    pub apart : AreApart p (IsOneOf new)
    pub known : IsRegion p k (IsOneOf (types ++ new)) (shapes p k) (Sees p k) region
    pub objects : ObjectsAt p k legal.walk.seen.next.objects_declared

module _ (us : List LibraryUnit) (main : List ℕ) (p : Program) (legal : IsLegal (library_of whole_standard us) main p) (rise : UnitsRise us)
    (in_order : IsWholeOrder (library_of whole_standard us)) where
  abbrev l : Library
  l = library_of whole_standard us

  -- what a unit that is an instance shows
  pub record IsInstanceThere (n : ℕ) (u : LibraryUnit) (i : SourceInstance) : Type 0 where
    pub before : Walked
    pub after : Walked
    pub at : IsAtUnit l legal.walk.seen.world legal.walked.next before n u after
    pub made : IsAtInstance whole_standard us main p legal rise before n u i after
    pub shows : interface_of legal.walk.seen.world n ≡ instance_interface (Some made.walked.generic) (instance_number n us) made.walked.given.value

  pub instance_shown : (n : ℕ) (u : LibraryUnit) (i : SourceInstance) → slice_get us n ≡ Some u → u.item ≡ library.Instance i → IsInstanceThere n u i
  instance_shown n u i there item =
      let r = in_turn l main p legal in_order refl n u there (ap is_package_body item) in
      let made = at_instance whole_standard us main p legal rise legal.walk.seen.world r.before n u i r.after r.at item in
      let shown : Interface = instance_interface (Some made.walked.generic) (instance_number n us) made.walked.given.value in
      let below : n < length r.before.world.interfaces = subst (λ k. n < k) (sym r.known.sized) (below_length us n u there) in
      record {
        before = r.before;
        after = r.after;
        at = r.at;
        made = made;
        shows = r.at.set ∙ (ap (λ (v : Walked). interface_of v.world n) (sym made.walked.is)
            ∙ ap (λ o. unwrap_or o no_interface) (set_there r.before.world.interfaces n shown below));
      }

  -- so the text of a generic is known in each of its instances
  module _ (seen : IsSeenSo l main p legal legal.walk.seen) where
    pub text_known : (g k : ℕ) → StandsIn p (Some g) k → IsTextKnown l main p legal seen.types g k
    text_known g k stands =
        let unit = unit_numbered whole_standard us main p legal rise g k stands in
        let there = instance_shown unit.place unit.unit unit.instance unit.there unit.is in
        let w = seen.instances unit.place (Some there.made.walked.generic) (instance_number unit.place us) there.made.walked.given.value there.shows in
        let same : w.number ≡ g =
        same_some (one_text p (Some w.number) (Some g) k (subst (StandsIn p (Some w.number)) (sym unit.number) w.stands) stands) in
        subst (λ m. IsTextKnown l main p legal seen.types m k) same
        (subst (IsTextKnown l main p legal seen.types w.number) (sym unit.number)
        (record {
          formals = w.formals;
          region = w.region;
          shows = w.shows;
          new = w.new;
          own = w.own;
          apart = w.apart;
          known = w.known;
          objects = w.objects;
        }))
