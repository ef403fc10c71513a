-- A table of all marks that units show each other: the identities of each unit name what that unit declared, and those of an instance what its
-- generic declared, seen through the instance.
use Rattle.std.proofs.Common.{◌≡◌, ◌≤◌, ◌<◌, ℕ, nat_eq, pred, Bool, true, false, if◌then◌else◌, List, [], ◌∷◌, length, reverse, Option, Some, None, Ok, is_some, set, slice_get, refl, sym, ap, ◌∙◌, subst, arith, inl, inr}
use Rattle.std.specs.Prelude.{◌⊎◌, unwrap_or}
use Rattle.std.proofs.lemmas.Bool.{eqb-true, eq-eqb, false≢true}
use Rattle.cov_base.specs.Lists.{Everywhere}
use Rattle.ada_syntax.specs.declared.unit.Formal.{Formal}
use Rattle.ada_syntax.specs.declared.unit.Instance.{Instance}
use Rattle.ada_syntax.specs.declared.unit.LibraryItem.{LibraryItem}
use Rattle.ada_syntax.specs.declared.unit.LibraryItem.TheVariants as library
use Rattle.ada_syntax.specs.declared.unit.PackageSpecification.{PackageSpecification}
use Rattle.ada_syntax.specs.declared.unit.SubprogramBody.{SubprogramBody}
use Rattle.ada_syntax.specs.declared.unit.Unit.{Unit as LibraryUnit}
use Rattle.ada_meaning.specs.Types.{Owner, here, of_instance}
use Rattle.ada_rules.specs.Plan.{◌>>=◌, rule}
use Rattle.ada_rules.specs.Types.{Identity, declared_in}
use Rattle.ada_rules.specs.Statics.{Facts}
use Rattle.ada_rules.specs.Entities.{key, Entity, hidden, mark, literal, object, formal_object, routine, raisable, component, test_io, unit, Region, Actual}
use Rattle.ada_rules.specs.Environment.{typing, Interface, no_interface, package_interface, generic_interface, instance_interface, subprogram_interface, World, interface_of, State, Given, Env, owner_of}
use Rattle.ada_rules.specs.Expressions.{part_of_generic, part_of_interface}
use Rattle.ada_rules.specs.Instances.{formals_declared, generic_named, formals_of, actuals_judged, facts_made}
use Rattle.ada_rules.specs.Library.{Library, item_name, clause_names, is_package_body, is_instance, instance_number}
use Rattle.ada_rules.specs.Subprograms.{specified, declared_only, closed_by}
use Rattle.ada_rules.specs.Units.{env_of, generic_at, interface_with, package_items, Walked, at_unit, formals_in, in_specification, with_package, package_judged, facts_set, with_instance, instance_judged, with_subprogram, library_routine, library_subprogram, seen_in, interface_judged}
use Rattle.legal_instances.proofs.InstanceNumbers.{IsInstanceAt, number_positive}
use Rattle.legal_instances.proofs.KeptInstances.{numbers_apart}
use Rattle.legal_laws.proofs.Passing.{every_so}
use Rattle.legal_programs.proofs.Passed.{of_ok, passed_part, passed_rule}
use Rattle.legal_texts.specs.Leading.{lead_of}
use Rattle.legal_texts.specs.Told.{Table, IsToldRegion, TellsMore, Names, TellsBehind, IsToldPlace}
use Rattle.legal_texts.proofs.DeclaredHere.{IsDeclaredBy, IsFormalBy, IsOfTextBy, AreFormalsHere, AreOfText, formals_declare, formals_in_text, items_of_text}
use Rattle.legal_texts.proofs.GrownWorlds.{set_others}
use Rattle.legal_texts.proofs.InterfaceWalk.{IsAtUnit, same_some}
use Rattle.legal_texts.proofs.MarkedNames.{IsMarked, IsMarkedRegion, entity_marked}
use Rattle.legal_texts.proofs.MarkedPlaces.{HasMarks, seen_marked, package_marked}
use Rattle.legal_texts.proofs.NamedGenerics.{generic_there}
use Rattle.legal_texts.proofs.UnitParts.{set_either, below_length, set_there, set_length, unit_in}
use Rattle.legal_texts.proofs.SeenMarks.{seen_table, IsOwnMark, AreOwnMarks, seen_other, seen_more_told, seen_none, parts_seen}
use Rattle.legal_texts.proofs.ToldDeclarations.{region_more}
use Rattle.legal_texts.proofs.ToldFormals.{formals_tell}
use Rattle.legal_texts.proofs.ToldItems.{marks_of, marks_more, marked_more, next_place, items_tell}

-- a generic: all that it declares is its own
pub record IsToldGeneric (table : Table) (g : ℕ) (formals region : Region) : Type 0 where
  pub formals_told : IsToldRegion table formals
  pub region_told : IsToldRegion table region
  pub own_formals : AreOwnMarks g formals
  pub own : AreOwnMarks g region

-- an instance of a generic that is there
pub record IsToldInstance (w : World) (table : Table) (g k : ℕ) (actuals : List Actual) : Type 0 where
  pub formals : Region
  pub region : Region
  pub is : interface_of w g ≡ generic_interface formals region
  pub marks : (name : List ℕ) → IsMarked (Names table) (lead_of (part_of_generic k actuals name (generic_interface formals region)))

-- what the unit with this number shows
abbrev pub IsToldInterface : World → Table → ℕ → Interface → Type 0
IsToldInterface w table n no_interface = Unit {0}
IsToldInterface w table n (package_interface region) = IsToldRegion table region
IsToldInterface w table n (generic_interface formals region) = IsToldGeneric table n formals region
IsToldInterface w table n (instance_interface None k actuals) = ⊥
IsToldInterface w table n (instance_interface (Some g) k actuals) = IsToldInstance w table g k actuals
IsToldInterface w table n (subprogram_interface r) = Unit {0}

-- in a world that has the same generics
interface_more : (w v : World) (table more : Table) → TellsMore table more
    → ((g : ℕ) (formals region : Region) → interface_of w g ≡ generic_interface formals region → interface_of v g ≡ interface_of w g)
    → (n : ℕ) (i : Interface) → IsToldInterface w table n i → IsToldInterface v more n i
interface_more w v table more so stays n no_interface h = tt
interface_more w v table more so stays n (package_interface region) h = region_more table more so region h
interface_more w v table more so stays n (generic_interface formals region) h = record {
  formals_told = region_more table more so formals h.formals_told;
  region_told = region_more table more so region h.region_told;
  own_formals = h.own_formals;
  own = h.own;
}
interface_more w v table more so stays n (instance_interface None k actuals) h = absurd h
interface_more w v table more so stays n (instance_interface (Some g) k actuals) h = record {
  formals = h.formals;
  region = h.region;
  is = stays g h.formals h.region h.is ∙ h.is;
  marks = λ name. marked_more table more so (lead_of (part_of_generic k actuals name (generic_interface h.formals h.region))) (h.marks name);
}
interface_more w v table more so stays n (subprogram_interface r) h = tt

pub part_told : (w : World) (table : Table) (name : List ℕ) (n : ℕ) (i : Interface) → IsToldInterface w table n i
    → IsMarked (Names table) (lead_of (part_of_interface w name i))
part_told w table name n no_interface h = tt
part_told w table name n (package_interface region) h = entity_marked (Names table) name region (marks_of table region h)
part_told w table name n (generic_interface formals region) h = tt
part_told w table name n (instance_interface None k actuals) h = absurd h
part_told w table name n (instance_interface (Some g) k actuals) h =
    subst (λ i. IsMarked (Names table) (lead_of (part_of_generic k actuals name i))) (sym h.is) (h.marks name)
part_told w table name n (subprogram_interface r) h = tt

abbrev is_missing : Interface → Bool
is_missing no_interface = true
is_missing i = false

set_is_there : (i : Interface) → is_missing i ≡ false → i ≡ no_interface → ⊥
set_is_there i e f = false≢true (sym e ∙ ap is_missing f)

-- owners
abbrev owner_in : Identity → Owner
owner_in (declared_in o u n) = o
owner_in i = here

abbrev number_in : Owner → ℕ
number_in (of_instance i) = i
number_in here = 0

instance_apart : (i : ℕ) → 1 ≤ i → (b : Bool) → of_instance i ≡ (if b then here else of_instance 0) → ⊥
instance_apart i less true e = cc
instance_apart i less false e = let same : i ≡ 0 = ap number_in e in omega (arith, less, same)

mark_own : (g : ℕ) (x : Entity) → IsDeclaredBy here g x ⊎ IsFormalBy here g x → IsOwnMark g x
mark_own g (mark i t) (inl h) = h
mark_own g (mark i t) (inr h) = h.identity
mark_own g hidden h = tt
mark_own g (literal t x) h = tt
mark_own g (object v) h = tt
mark_own g (formal_object t x) h = tt
mark_own g (routine r) h = tt
mark_own g (raisable x) h = tt
mark_own g component h = tt
mark_own g test_io h = tt
mark_own g (unit n) h = tt

text_own : (g : ℕ) (formals : Region) (e : List ℕ × Entity) → IsOfTextBy here g formals e → IsOwnMark g e.1
text_own g formals e (inl h) = mark_own g e.1 (inl h)
text_own g formals e (inr h) = mark_own g e.1 (inr h.0)

module _ (l : Library) where
  pub record IsToldWorld (w : World) : Type 0 where
    pub table : Table
    pub told : (n : ℕ) → IsToldInterface w table n (interface_of w n)
    pub predefined : IsMarkedRegion (Names table) w.standard.predefined
    pub test_io : IsMarkedRegion (Names table) w.standard.test_io_declarations
    pub opens : (o : Owner) (m k : ℕ) → interface_of w m ≡ no_interface → table (declared_in o m k) ≡ None
    pub unseen : (m : ℕ) → IsInstanceAt l.units m → interface_of w m ≡ no_interface → (n k : ℕ) → table (declared_in (of_instance (instance_number m l.units)) n k) ≡ None
    pub bare : (m : ℕ) (u : LibraryUnit) → slice_get l.units m ≡ Some u → is_package_body u.item ≡ true → interface_of w m ≡ no_interface
    pub sized : length w.interfaces ≡ length l.units

  pub marks_there : (w : World) (h : IsToldWorld w) → HasMarks (Names h.table) w
  marks_there w h = record {
    units = λ n name. part_told w h.table name n (interface_of w n) (h.told n);
    predefined = h.predefined;
    test_io = h.test_io;
  }

  -- with the interface of one unit more
  module _ (w : World) (h : IsToldWorld w) (n : ℕ) (u : LibraryUnit) (there : slice_get l.units n ≡ Some u) (no_body : is_package_body u.item ≡ false)
      (fresh : interface_of w n ≡ no_interface) (i : Interface) (is_set : i ≡ no_interface → ⊥) (facts : List Facts) (table : Table) (more : TellsMore h.table table) where
    abbrev pub now : World
    now = record w { interfaces = set w.interfaces n i; instances = facts }

    at_other : (m : ℕ) → (n ≡ m → ⊥) → interface_of now m ≡ interface_of w m
    at_other m other = ap (λ o. unwrap_or o no_interface) (set_others w.interfaces n m i other)

    pub generic_stays : (g : ℕ) (formals region : Region) → interface_of w g ≡ generic_interface formals region → interface_of now g ≡ interface_of w g
    generic_stays g formals region is = at_other g (λ same. none_there (sym is ∙ (ap (interface_of w) (sym same) ∙ fresh)))
      where
        none_there : generic_interface formals region ≡ no_interface → ⊥
        none_there e = cc

    module _ (own : IsToldInterface now table n i)
        (opens : (q : Owner) (m k : ℕ) → (n ≡ m → ⊥) → interface_of w m ≡ no_interface → table (declared_in q m k) ≡ None)
        (unseen : (m : ℕ) → IsInstanceAt l.units m → (n ≡ m → ⊥) → interface_of w m ≡ no_interface → (v k : ℕ)
        → table (declared_in (of_instance (instance_number m l.units)) v k) ≡ None) where
      told_now : (m : ℕ) → IsToldInterface now table m (interface_of now m)
      told_now m = by_number (nat_eq n m) refl
        where
          by_number : (b : Bool) → nat_eq n m ≡ b → IsToldInterface now table m (interface_of now m)
          by_number true e =
              subst (λ k. IsToldInterface now table k (interface_of now k)) (eqb-true n m e)
              (set_either (λ o. IsToldInterface now table n (unwrap_or o no_interface)) w.interfaces n i own tt)
          by_number false e =
              subst (IsToldInterface now table m) (sym (at_other m (λ same. false≢true (sym e ∙ eq-eqb n m same))))
              (interface_more w now h.table table more generic_stays m (interface_of w m) (h.told m))

      set_now : interface_of now n ≡ no_interface → ⊥
      set_now none =
          let less : n < length w.interfaces = subst (λ m. n < m) (sym h.sized) (below_length l.units n u there) in
          is_set (sym (ap (λ o. unwrap_or o no_interface) (set_there w.interfaces n i less)) ∙ none)

      not_now : (m : ℕ) → interface_of now m ≡ no_interface → n ≡ m → ⊥
      not_now m none same = set_now (ap (interface_of now) same ∙ none)

      before : (m : ℕ) → interface_of now m ≡ no_interface → interface_of w m ≡ no_interface
      before m none = sym (at_other m (not_now m none)) ∙ none

      pub world_next : IsToldWorld now
      world_next = record {
        table = table;
        told = told_now;
        predefined = marks_more h.table table more w.standard.predefined h.predefined;
        test_io = marks_more h.table table more w.standard.test_io_declarations h.test_io;
        opens = λ q m k none. opens q m k (not_now m none) (before m none);
        unseen = λ m at none v k. unseen m at (not_now m none) (before m none) v k;
        bare = λ m v at is_body.
            at_other m (λ same. false≢true (sym no_body ∙ (ap (λ x. is_package_body x.item) (same_some (sym there ∙ (ap (slice_get l.units) same ∙ at))) ∙ is_body)))
            ∙ h.bare m v at is_body;
        sized = set_length w.interfaces n i ∙ h.sized;
      }

  -- a package or a generic
  module _ (x : Walked) (n : ℕ) (u : LibraryUnit) (z : PackageSpecification) (item : u.item ≡ library.Package z) (there : slice_get l.units n ≡ Some u)
      (fresh : interface_of x.world n ≡ no_interface) (h : IsToldWorld x.world) where
    abbrev outside : Env
    outside = env_of typing x.world n (key z.name) (seen_in x.world l u (unit n))

    abbrev inside : Region → Env
    inside formals = in_specification outside n z formals

    place : IsToldPlace h.table (inside []) (at_unit x.next)
    place = record {
      place = package_marked (Names h.table) x.world (marks_there x.world h) n (key z.name) (generic_at z.formals n) n (seen_in x.world l u (unit n)) []
          (seen_marked (Names h.table) x.world (marks_there x.world h) l (clause_names u.withs) ((key (item_name u.item), unit n) ∷ []) (tt, tt)) tt;
      local = tt;
      is_open = λ k less. h.opens (owner_of (inside [])) n k fresh;
    }

    module _ (formals : Given Region) (first : TellsBehind h.table (inside []) formals) (region : Given Region) (second : TellsBehind first.table (inside formals.value) region)
        (are_formals : AreFormalsHere (inside []) formals.value) (of_text : AreOfText (inside []) formals.value region.value) where
      tells_behind : TellsMore h.table second.table
      tells_behind i t e = second.more i t (first.more i t e)

      others_same : (j : Identity) → ((k : ℕ) → j ≡ declared_in (owner_of (inside [])) n k → ⊥) → second.table j ≡ h.table j
      others_same j other = second.others j other ∙ first.others j other

      formals_told : IsToldRegion second.table formals.value
      formals_told = region_more first.table second.table second.more formals.value first.region

      shown_told : (w : World) (o : Option (List Formal)) → Everywhere (λ e. IsFormalBy (if is_some (generic_at o n) then here else of_instance 0) n e.1) formals.value
          → Everywhere (IsOfTextBy (if is_some (generic_at o n) then here else of_instance 0) n formals.value) region.value
          → IsToldInterface w second.table n (interface_with o formals.value region.value)
      shown_told w None f t = second.region
      shown_told w (Some fs) f t = record {
        formals_told = formals_told;
        region_told = second.region;
        own_formals = every_so (λ e. IsFormalBy here n e.1) (λ e. IsOwnMark n e.1) formals.value (λ e k. mark_own n e.1 (inr k)) f;
        own = every_so (IsOfTextBy here n formals.value) (λ e. IsOwnMark n e.1) region.value (text_own n formals.value) t;
      }

      abbrev shown_as : Interface
      shown_as = interface_with z.formals formals.value region.value

      set_so : (o : Option (List Formal)) → is_missing (interface_with o formals.value region.value) ≡ false
      set_so None = refl
      set_so (Some fs) = refl

      package_next : IsToldWorld (with_package outside n z formals.value region).world
      package_next =
          world_next x.world h n u there (ap is_package_body item) fresh shown_as (set_is_there shown_as (set_so z.formals)) x.world.instances second.table tells_behind
          (shown_told (now x.world h n u there (ap is_package_body item) fresh shown_as (set_is_there shown_as (set_so z.formals)) x.world.instances second.table tells_behind)
          z.formals are_formals of_text)
          (λ q m k other none. others_same (declared_in q m k) (λ j same. other (sym (ap unit_in same))) ∙ h.opens q m k none)
          (λ m at other none v k. others_same (declared_in (of_instance (instance_number m l.units)) v k)
          (λ j same. instance_apart (instance_number m l.units) (number_positive m l.units) (is_some (generic_at z.formals n)) (ap owner_in same))
          ∙ h.unseen m at none v k)

    pub package_told : (y : Walked) → (package_judged outside x.next u.item_pos n z).answer ≡ Ok y → IsToldWorld y.world
    package_told y judged =
        let first = passed_part u.item_pos (formals_declared (inside []) (at_unit x.next) u.item_pos 0 (formals_in z.formals)).answer
        (λ formals. package_items (inside formals.value) formals.next u.item_pos z.items
        >>= (λ region. closed_by u.item_pos z.name z.end_name >>= (λ end. rule (Some (with_package outside n z formals.value region))))) y judged in
        let formals = first.value in
        let second = passed_part u.item_pos (package_items (inside formals.value) formals.next u.item_pos z.items).answer
        (λ region. closed_by u.item_pos z.name z.end_name >>= (λ end. rule (Some (with_package outside n z formals.value region)))) y first.rest in
        let region = second.value in
        let closing = passed_part u.item_pos (closed_by u.item_pos z.name z.end_name).answer (λ end. rule (Some (with_package outside n z formals.value region))) y second.rest in
        let f = of_ok (TellsBehind h.table (inside [])) (formals_declared (inside []) (at_unit x.next) u.item_pos 0 (formals_in z.formals)).answer formals first.is
        (formals_tell h.table (inside []) (at_unit x.next) u.item_pos 0 (formals_in z.formals) place) in
        let are_formals = of_ok (λ (g : Given Region). AreFormalsHere (inside []) g.value)
        (formals_declared (inside []) (at_unit x.next) u.item_pos 0 (formals_in z.formals)).answer formals first.is
        (formals_declare (inside []) (at_unit x.next) u.item_pos 0 (formals_in z.formals) tt) in
        let k = of_ok (TellsBehind f.table (inside formals.value)) (package_items (inside formals.value) formals.next u.item_pos z.items).answer region second.is
        (items_tell f.table (inside formals.value) formals.next u.item_pos z.items (next_place h.table (inside []) (at_unit x.next) formals place f)) in
        let of_text = of_ok (λ (g : Given Region). AreOfText (inside formals.value) formals.value g.value)
        (package_items (inside formals.value) formals.next u.item_pos z.items).answer region second.is
        (items_of_text (inside formals.value) formals.value refl formals.next u.item_pos z.items (formals_in_text (inside formals.value) formals.value are_formals)) in
        subst (λ (v : Walked). IsToldWorld v.world) (same_some (passed_rule u.item_pos (Some (with_package outside n z formals.value region)) y closing.rest))
        (package_next formals f region k are_formals of_text)

  -- a library subprogram
  pub subprogram_told : (x : Walked) (n : ℕ) (u : LibraryUnit) (b : SubprogramBody) → u.item ≡ library.Subprogram b → slice_get l.units n ≡ Some u
      → interface_of x.world n ≡ no_interface → IsToldWorld x.world
      → (y : Walked) → (library_subprogram (env_of typing x.world n (key b.specification.name) (seen_in x.world l u hidden)) x.next n b).answer ≡ Ok y → IsToldWorld y.world
  subprogram_told x n u b item there fresh h y judged =
      let env = env_of typing x.world n (key b.specification.name) (seen_in x.world l u hidden) in
      let part = passed_part b.specification.pos (specified env (at_unit x.next) b.specification).answer
      (λ q. rule (Some (with_subprogram x.world n (library_routine env b q.value) (declared_only x.next q.next)))) y judged in
      subst (λ (v : Walked). IsToldWorld v.world)
      (same_some (passed_rule b.specification.pos (Some (with_subprogram x.world n (library_routine env b part.value.value) (declared_only x.next part.value.next))) y part.rest))
      (world_next x.world h n u there (ap is_package_body item) fresh (library_routine env b part.value.value) (set_is_there (library_routine env b part.value.value) refl)
      x.world.instances h.table (λ i t e. e) tt (λ q m k other none. h.opens q m k none) (λ m at other none v k. h.unseen m at none v k))

  -- an instance
  module _ (x : Walked) (n : ℕ) (u : LibraryUnit) (z : Instance) (item : u.item ≡ library.Instance z) (there : slice_get l.units n ≡ Some u)
      (fresh : interface_of x.world n ≡ no_interface) (h : IsToldWorld x.world) where
    abbrev around : Env
    around = env_of typing x.world n (key z.name) (seen_in x.world l u hidden)

    abbrev number : ℕ
    number = instance_number n l.units

    at_place : IsInstanceAt l.units n
    at_place = record { unit = u; there = there; is = ap is_instance item }

    module _ (g : ℕ) (formals region : Region) (is : interface_of x.world g ≡ generic_interface formals region) (actuals : List Actual) (facts : List Facts) where
      generic_told : IsToldGeneric h.table g formals region
      generic_told = subst (IsToldInterface x.world h.table g) is (h.told g)

      abbrev shows : Interface
      shows = instance_interface (Some g) number actuals

      tells : TellsMore h.table (seen_table h.table number actuals)
      tells = seen_more_told h.table number actuals (h.unseen n at_place fresh)

      instance_next : IsToldWorld (record x.world { interfaces = set x.world.interfaces n (instance_interface (Some g) number actuals); instances = facts })
      instance_next =
          world_next x.world h n u there (ap is_package_body item) fresh shows (set_is_there shows refl) facts (seen_table h.table number actuals) tells
          (record {
            formals = formals;
            region = region;
            is = generic_stays x.world h n u there (ap is_package_body item) fresh shows (set_is_there shows refl) facts (seen_table h.table number actuals) tells g formals region is ∙ is;
            marks = parts_seen h.table number actuals g formals region generic_told.region_told generic_told.own;
          })
          (λ q m k other none. seen_none h.table number actuals m k (λ o. h.opens o m k none) q)
          (λ m at other none v k. seen_other h.table number actuals (instance_number m l.units) v k
          (λ same. numbers_apart l.units n m at_place at other (ap pred (sym same)))
          ∙ h.unseen m at none v k)

    pub instance_told : (y : Walked) → (instance_judged around x.next u.item_pos n number z).answer ≡ Ok y → IsToldWorld y.world
    instance_told y judged =
        let first = passed_part u.item_pos (generic_named around z.generic_name).answer
        (λ g. actuals_judged around (at_unit x.next) u.item_pos number [] (formals_of x.world g) z.actuals
        >>= (λ actuals. rule (Some (with_instance x.world u.item_pos n number z g actuals.value actuals.next)))) y judged in
        let second = passed_part u.item_pos (actuals_judged around (at_unit x.next) u.item_pos number [] (formals_of x.world first.value) z.actuals).answer
        (λ actuals. rule (Some (with_instance x.world u.item_pos n number z first.value actuals.value actuals.next))) y first.rest in
        let given_now = second.value in
        let named = generic_there around refl z.generic_name first.value first.is in
        subst (λ (v : Walked). IsToldWorld v.world)
        (same_some (passed_rule u.item_pos (Some (with_instance x.world u.item_pos n number z first.value given_now.value given_now.next)) y second.rest))
        (subst (λ o. IsToldWorld (with_instance x.world u.item_pos n number z o given_now.value given_now.next).world) (sym named.is)
        (instance_next named.number named.formals named.region named.there given_now.value
        (facts_set x.world.instances number (facts_made x.world (Some named.number) given_now.value) (reverse given_now.next.constants_declared))))

  module _ (final : World) (last : State) where
    by_item : (x : Walked) (n : ℕ) (u : LibraryUnit) (y : Walked) (i : LibraryItem) → u.item ≡ i → IsAtUnit l final last x n u y
        → (interface_judged typing l x.world x.next n u i).answer ≡ Ok y → IsToldWorld x.world → IsToldWorld y.world
    by_item x n u y (library.Subprogram b) item at judged h = subprogram_told x n u b item at.there at.fresh h y judged
    by_item x n u y (library.Package z) item at judged h = package_told x n u z item at.there at.fresh h y judged
    by_item x n u y (library.PackageBody z) item at judged h =
        subst (λ (v : Walked). IsToldWorld v.world) (same_some (passed_rule u.pos (Some (record { world = x.world; next = x.next })) y judged)) h
    by_item x n u y (library.Instance z) item at judged h = instance_told x n u z item at.there at.fresh h y judged

    pub told_step : (x : Walked) (n : ℕ) (u : LibraryUnit) (y : Walked) → IsAtUnit l final last x n u y → IsToldWorld x.world → IsToldWorld y.world
    told_step x n u y at h = by_item x n u y u.item refl at at.judged h
