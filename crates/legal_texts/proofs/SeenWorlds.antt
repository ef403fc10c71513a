-- What the units of a legal program show each other is known: along the walk over them, what units show is known wherever it is seen; a generic was walked, so
-- that it can be walked again in each of its instances; and the text of a generic is known in each instance that was made.
use Rattle.std.proofs.Common.{◌≡◌, ℕ, nat_eq, Bool, true, false, List, [], ◌∷◌, ◌++◌, length, Option, Some, None, IfSome, Ok, slice_get, refl, sym, ap, ◌∙◌, subst, inl, inr}
use Rattle.std.specs.Prelude.{◌⊎◌}
use Rattle.std.proofs.lemmas.Bool.{eqb-true, eq-eqb, false≢true}
use Rattle.cov_base.specs.Lists.{Everywhere}
use Rattle.ada_syntax.specs.declared.unit.Formal.{Formal}
use Rattle.ada_syntax.specs.declared.unit.LibraryItem.TheVariants as library
use Rattle.ada_syntax.specs.declared.unit.PackageSpecification.{PackageSpecification}
use Rattle.ada_syntax.specs.declared.unit.Unit.{Unit as LibraryUnit}
use Rattle.ada_meaning.specs.Bodies.{StandsIn}
use Rattle.ada_meaning.specs.Program.{LibraryObject, Program}
use Rattle.ada_meaning.specs.Types.{of_instance}
use Rattle.ada_rules.specs.Types.{declared_in, integer, AdaType, integer_type, identity_of, boolean_type}
use Rattle.ada_rules.specs.Entities.{key, unit, Region, whole_standard, Actual}
use Rattle.ada_rules.specs.Environment.{typing, Interface, no_interface, package_interface, generic_interface, instance_interface, subprogram_interface, World, interface_of, entity_of_unit, entity_of_interface, State, Given}
use Rattle.ada_rules.specs.Expressions.{part_of_generic, part_of_interface}
use Rattle.ada_rules.specs.Instances.{formals_declared}
use Rattle.ada_rules.specs.Library.{Library, is_instance, instance_number, all_bodies}
use Rattle.ada_rules.specs.Units.{Walked, env_of, at_unit, in_specification, package_items, seen_in}
use Rattle.legal_laws.specs.Known.{AreApart, IsOneOf, IsRegion}
use Rattle.legal_laws.specs.Valued.{AreFactsInBase}
use Rattle.legal_programs.specs.Growing.{Extends}
use Rattle.legal_programs.specs.Walked.{IsLegal}
use Rattle.legal_texts.proofs.AnywhereKnown.{shapes, Sees, IsAnywhere, anywhere_more, ShowsKnown}
use Rattle.legal_texts.proofs.GrownWorlds.{IsGrown}
use Rattle.legal_texts.proofs.InterfaceWalk.{StepsTo}
use Rattle.legal_texts.proofs.KnownObjects.{one_text, ObjectsAt}
use Rattle.legal_texts.proofs.OneOf.{in_first, in_second, in_either}
use Rattle.legal_texts.proofs.SeenTypes.{IsWorldType, IsOfText}
use Rattle.legal_laws.proofs.Wider.{region_wider}
use Rattle.legal_laws.proofs.Passing.{every_so, every_both, some_so}
use Rattle.legal_texts.proofs.UnitParts.{IsPackageItem}

-- an object that is not of the text of this generic, and one of the text of a unit or of no generic
abbrev pub IsNotOf : ℕ → LibraryObject → Type 0
IsNotOf g o = o.generic ≡ Some g → ⊥

abbrev pub IsOfTextOf : ℕ → LibraryObject → Type 0
IsOfTextOf n o = (o.generic ≡ None) ⊎ (o.generic ≡ Some n)

-- an interface that shows what another unit declares names a unit that was looked at
abbrev pub IsRooted : World → Interface → Type 0
IsRooted w (instance_interface (Some g) k actuals) = interface_of w g ≡ no_interface → ⊥
IsRooted w i = Unit {0}

grown_both : (w v u : World) → IsGrown w v → IsGrown v u → IsGrown w u
grown_both w v u h k n = of_either (h n) (k n)
  where
    of_either : (interface_of w n ≡ no_interface) ⊎ (interface_of v n ≡ interface_of w n) → (interface_of v n ≡ no_interface) ⊎ (interface_of u n ≡ interface_of v n)
        → (interface_of w n ≡ no_interface) ⊎ (interface_of u n ≡ interface_of w n)
    of_either (inl none) b = inl none
    of_either (inr same) (inl none) = inl (sym same ∙ none)
    of_either (inr same) (inr again) = inr (again ∙ same)

module _ (l : Library) (main : List ℕ) (p : Program) (legal : IsLegal l main p) where
  abbrev last : State
  last = legal.walked.next

  -- a package whose interface is there, and a unit that is the instance with this number
  pub record IsOfPackage (w : World) (m : ℕ) : Type 0 where
    pub home : LibraryUnit
    pub there : slice_get l.units m ≡ Some home
    pub package_item : IsPackageItem home.item
    pub is_set : interface_of w m ≡ no_interface → ⊥

  pub record IsMadeThere (w : World) (i : ℕ) : Type 0 where
    pub unit : ℕ
    pub home : LibraryUnit
    pub there : slice_get l.units unit ≡ Some home
    pub instance_item : is_instance home.item ≡ true
    pub number : instance_number unit l.units ≡ i
    pub is_set : interface_of w unit ≡ no_interface → ⊥

  -- where types of an instance, or of no generic, were declared
  abbrev pub IsHome : World → (instance unit : ℕ) → Type 0
  IsHome w i m = ((i ≡ 0) × IsOfPackage w m) ⊎ IsMadeThere w i

  -- the specification of a generic, as it was walked
  pub record IsGenericWalked (x : Walked) (g : ℕ) (formals region : Region) : Type 0 where
    pub home : LibraryUnit
    pub there : slice_get l.units g ≡ Some home
    pub spec : PackageSpecification
    pub item : home.item ≡ library.Package spec
    pub list : List Formal
    pub is_generic : spec.formals ≡ Some list
    pub before : Walked
    pub declared : Given Region
    pub is_declared : (formals_declared (in_specification (env_of typing before.world g (key spec.name) (seen_in before.world l home (unit g))) g spec []) (at_unit before.next)
        home.item_pos 0 list).answer ≡ Ok declared
    pub formals_are : declared.value ≡ formals
    pub items : Given Region
    pub is_items : (package_items (in_specification (env_of typing before.world g (key spec.name) (seen_in before.world l home (unit g))) g spec declared.value) declared.next
        home.item_pos spec.items).answer ≡ Ok items
    pub region_is : items.value ≡ region
    pub extends : Extends items.next last
    pub grown : IsGrown before.world x.world
    pub standard : before.world.standard ≡ whole_standard
    pub names : before.world.bodies ≡ all_bodies l.units
    pub base : Everywhere AreFactsInBase before.world.instances
    pub words : before.next.words ≡ []
    pub counted : before.next.objects ≡ length before.next.words
    pub none_before : Everywhere (IsNotOf g) before.next.objects_declared
    pub later : List LibraryObject
    pub objects : x.next.objects_declared ≡ later ++ items.next.objects_declared
    pub none_later : Everywhere (IsNotOf g) later

  -- the text of a generic in an instance that was made
  pub record IsInstanceKnown (types : List AdaType) (x : Walked) (n : ℕ) (k : ℕ) (generic : Option ℕ) : Type 0 where
    pub number : ℕ
    pub is : generic ≡ Some number
    pub formals : Region
    pub region : Region
    pub shows : interface_of x.world number ≡ generic_interface formals region
    pub counts : instance_number n l.units ≡ k
    pub stands : StandsIn p (Some number) k
    pub new : List AdaType
    pub own : Everywhere (IsOfText number) new
    pub apart : AreApart p (IsOneOf new)
    pub known : IsRegion p k (IsOneOf (types ++ new)) (shapes p k) (Sees p k) region
    pub objects : ObjectsAt p k x.next.objects_declared

  pub record IsSeenSo (x : Walked) : Type 0 where
    pub types : List AdaType
    pub integers : IsOneOf types (integer_type integer)
    pub booleans : IsOneOf types boolean_type
    pub apart : AreApart p (IsOneOf types)
    pub owned : Everywhere IsWorldType types
    pub homes : (t : AdaType) → IsOneOf types t → (i m j : ℕ) → identity_of t ≡ declared_in (of_instance i) m j → IsHome x.world i m
    pub shows : ShowsKnown p types x.world
    pub regions : (n : ℕ) (region : Region) → interface_of x.world n ≡ package_interface region → IsRegion p 0 (IsOneOf types) (shapes p 0) (Sees p 0) region
    pub rooted : (n : ℕ) → IsRooted x.world (interface_of x.world n)
    pub generics : (g : ℕ) (formals region : Region) → interface_of x.world g ≡ generic_interface formals region → IsGenericWalked x g formals region
    pub instances : (n : ℕ) (g : Option ℕ) (k : ℕ) (actuals : List Actual) → interface_of x.world n ≡ instance_interface g k actuals → IsInstanceKnown types x n k g
    pub objects : ObjectsAt p 0 x.next.objects_declared
    pub texts_set : Everywhere (λ o. IfSome o.generic (λ g. interface_of x.world g ≡ no_interface → ⊥)) x.next.objects_declared
    pub standard : x.world.standard ≡ whole_standard
    pub names : x.world.bodies ≡ all_bodies l.units
    pub base : Everywhere AreFactsInBase x.world.instances
    pub sized : length x.world.interfaces ≡ length l.units
    pub words : x.next.words ≡ []
    pub counted : x.next.objects ≡ length x.next.words

  -- what a unit sets, and declares
  pub record IsStep (x : Walked) (n : ℕ) (y : Walked) : Type 0 where
    pub fresh : interface_of x.world n ≡ no_interface
    pub steps : StepsTo x.world n y
    pub grown : IsGrown x.world y.world
    pub more : List LibraryObject
    pub objects : y.next.objects_declared ≡ more ++ x.next.objects_declared
    pub of_text : Everywhere (IsOfTextOf n) more
    pub set_texts : Everywhere (λ o. IfSome o.generic (λ g. interface_of y.world g ≡ no_interface → ⊥)) more
    pub base : Everywhere AreFactsInBase y.world.instances
    pub sized : length y.world.interfaces ≡ length l.units
    pub words : y.next.words ≡ []
    pub counted : y.next.objects ≡ length y.next.words

  -- and what is known of it
  pub record IsNewKnown (types : List AdaType) (y : Walked) (n : ℕ) : Type 0 where
    pub parts : (name : List ℕ) → IfSome (part_of_interface y.world name (interface_of y.world n)) (IsAnywhere p types)
    pub is_unit : IsAnywhere p types (entity_of_unit y.world n)
    pub region : (region : Region) → interface_of y.world n ≡ package_interface region → IsRegion p 0 (IsOneOf types) (shapes p 0) (Sees p 0) region
    pub rooted : IsRooted y.world (interface_of y.world n)
    pub generic : (formals region : Region) → interface_of y.world n ≡ generic_interface formals region → IsGenericWalked y n formals region
    pub instance : (g : Option ℕ) (k : ℕ) (actuals : List Actual) → interface_of y.world n ≡ instance_interface g k actuals → IsInstanceKnown types y n k g

  -- the next world
  module _ (x : Walked) (n : ℕ) (y : Walked) (h : IsSeenSo x) (s : IsStep x n y) (es : List AdaType) (more : (t : AdaType) → IsOneOf h.types t → IsOneOf es t)
      (k : IsNewKnown es y n) where
    -- a unit that was there stays
    pub stays : (m : ℕ) → (interface_of x.world m ≡ no_interface → ⊥) → interface_of y.world m ≡ interface_of x.world m
    stays m is_set = s.steps.others m (λ e. is_set (ap (interface_of x.world) (sym e) ∙ s.fresh))

    set_still : (m : ℕ) → (interface_of x.world m ≡ no_interface → ⊥) → interface_of y.world m ≡ no_interface → ⊥
    set_still m is_set none = is_set (sym (stays m is_set) ∙ none)

    pub home_still : (i m : ℕ) → IsHome x.world i m → IsHome y.world i m
    home_still i m (inl e) =
        inl (e.0, record { home = e.1.home; there = e.1.there; package_item = e.1.package_item; is_set = set_still m e.1.is_set })
    home_still i m (inr e) =
        inr (record { unit = e.unit; home = e.home; there = e.there; instance_item = e.instance_item; number = e.number; is_set = set_still e.unit e.is_set })

    -- by a unit's number: the one that was set now, or another one
    by_unit : (P : ℕ → Type 0) → P n → ((m : ℕ) → (n ≡ m → ⊥) → P m) → (m : ℕ) → P m
    by_unit P now others m = by_number (nat_eq n m) refl
      where
        by_number : (b : Bool) → nat_eq n m ≡ b → P m
        by_number true e = subst P (eqb-true n m e) now
        by_number false e = others m (λ same. false≢true (sym e ∙ eq-eqb n m same))

    part_still : (name : List ℕ) (i : Interface) → IsRooted x.world i → part_of_interface y.world name i ≡ part_of_interface x.world name i
    part_still name no_interface r = refl
    part_still name (package_interface region) r = refl
    part_still name (generic_interface formals region) r = refl
    part_still name (instance_interface None j actuals) r = refl
    part_still name (instance_interface (Some g) j actuals) r = ap (part_of_generic j actuals name) (stays g r)
    part_still name (subprogram_interface r) q = refl

    parts_next : (m : ℕ) (name : List ℕ) → IfSome (part_of_interface y.world name (interface_of y.world m)) (IsAnywhere p es)
    parts_next m name =
        by_unit (λ j. IfSome (part_of_interface y.world name (interface_of y.world j)) (IsAnywhere p es)) (k.parts name)
        (λ j other. subst (λ i. IfSome (part_of_interface y.world name i) (IsAnywhere p es)) (sym (s.steps.others j other))
        (subst (λ o. IfSome o (IsAnywhere p es)) (sym (part_still name (interface_of x.world j) (h.rooted j)))
        (some_so (IsAnywhere p h.types) (IsAnywhere p es) (part_of_interface x.world name (interface_of x.world j)) (anywhere_more p h.types es more) (h.shows.parts j name)))) m

    units_next : (m : ℕ) → IsAnywhere p es (entity_of_unit y.world m)
    units_next m =
        by_unit (λ j. IsAnywhere p es (entity_of_unit y.world j)) k.is_unit
        (λ j other. subst (λ i. IsAnywhere p es (entity_of_interface j i)) (sym (s.steps.others j other))
        (anywhere_more p h.types es more (entity_of_unit x.world j) (h.shows.units j))) m

    rooted_still : (i : Interface) → IsRooted x.world i → IsRooted y.world i
    rooted_still no_interface r = tt
    rooted_still (package_interface region) r = tt
    rooted_still (generic_interface formals region) r = tt
    rooted_still (instance_interface None j actuals) r = tt
    rooted_still (instance_interface (Some g) j actuals) r = set_still g r
    rooted_still (subprogram_interface q) r = tt

    -- objects that were declared now are not those of a generic that was there
    not_now : (g : ℕ) → (n ≡ g → ⊥) → (os : List LibraryObject) → Everywhere (IsOfTextOf n) os → Everywhere (IsNotOf g) os
    not_now g other os of_text = every_so (IsOfTextOf n) (IsNotOf g) os one of_text
      where
        one : (o : LibraryObject) → IsOfTextOf n o → IsNotOf g o
        one o (inl none) e = cc (sym none ∙ e)
        one o (inr same) e = other (same_number (sym same ∙ e))
          where
            number_or : Option ℕ → ℕ
            number_or None = n
            number_or (Some m) = m

            same_number : Some n ≡ Some g → n ≡ g
            same_number f = ap number_or f

    generic_still : (g : ℕ) (formals region : Region) → (n ≡ g → ⊥) → IsGenericWalked x g formals region → IsGenericWalked y g formals region
    generic_still g formals region other w = record {
      home = w.home;
      there = w.there;
      spec = w.spec;
      item = w.item;
      list = w.list;
      is_generic = w.is_generic;
      before = w.before;
      declared = w.declared;
      is_declared = w.is_declared;
      formals_are = w.formals_are;
      items = w.items;
      is_items = w.is_items;
      region_is = w.region_is;
      extends = w.extends;
      grown = grown_both w.before.world x.world y.world w.grown s.grown;
      standard = w.standard;
      names = w.names;
      base = w.base;
      words = w.words;
      counted = w.counted;
      none_before = w.none_before;
      later = s.more ++ w.later;
      objects = s.objects ∙ (ap (λ os. s.more ++ os) w.objects ∙ joined s.more w.later w.items.next.objects_declared);
      none_later = every_both (IsNotOf g) s.more w.later (not_now g other s.more s.of_text) w.none_later;
    }
      where
        joined : (xs ys zs : List LibraryObject) → xs ++ (ys ++ zs) ≡ (xs ++ ys) ++ zs
        joined [] ys zs = refl
        joined (x ∷ xs) ys zs = ap (λ rest. x ∷ rest) (joined xs ys zs)

    -- what stands in an instance that was made before is known as before
    objects_still : (g j : ℕ) → StandsIn p (Some g) j → (n ≡ g → ⊥) → ObjectsAt p j x.next.objects_declared → ObjectsAt p j y.next.objects_declared
    objects_still g j stands other all =
        subst (ObjectsAt p j) (sym s.objects)
        (every_both _ s.more x.next.objects_declared
        (every_so (IsNotOf g) _ s.more (λ o not_of stands_there. absurd (not_of (one_text p o.generic (Some g) j stands_there stands))) (not_now g other s.more s.of_text)) all)

    known_wider : (j : ℕ) (new : List AdaType) (region : Region) → IsRegion p j (IsOneOf (h.types ++ new)) (shapes p j) (Sees p j) region
        → IsRegion p j (IsOneOf (es ++ new)) (shapes p j) (Sees p j) region
    known_wider j new region known =
        region_wider p j (IsOneOf (h.types ++ new)) (IsOneOf (es ++ new)) joined_more (shapes p j) (Sees p j) (Sees p j) (λ o z. z) region known
      where
        joined_more : (t : AdaType) → IsOneOf (h.types ++ new) t → IsOneOf (es ++ new) t
        joined_more t there = of_either (in_either h.types new t there)
          where
            of_either : IsOneOf h.types t ⊎ IsOneOf new t → IsOneOf (es ++ new) t
            of_either (inl old) = in_first es new t (more t old)
            of_either (inr own) = in_second es new t own

    instance_still : (m : ℕ) (g : Option ℕ) (j : ℕ) → IsInstanceKnown h.types x m j g → IsInstanceKnown es y m j g
    instance_still m g j w =
        let is_set : interface_of x.world w.number ≡ no_interface → ⊥ = λ none. cc (sym none ∙ w.shows) in
        record {
          number = w.number;
          is = w.is;
          formals = w.formals;
          region = w.region;
          shows = stays w.number is_set ∙ w.shows;
          counts = w.counts;
          stands = w.stands;
          new = w.new;
          own = w.own;
          apart = w.apart;
          known = known_wider j w.new w.region w.known;
          objects = objects_still w.number j w.stands (λ e. is_set (ap (interface_of x.world) (sym e) ∙ s.fresh)) w.objects;
        }

    pub world_next : AreApart p (IsOneOf es) → Everywhere IsWorldType es → ((t : AdaType) → IsOneOf es t → (i m j : ℕ) → identity_of t ≡ declared_in (of_instance i) m j → IsHome y.world i m)
        → ObjectsAt p 0 y.next.objects_declared → IsSeenSo y
    world_next apart owned homes objects = record {
      types = es;
      integers = more (integer_type integer) h.integers;
      booleans = more boolean_type h.booleans;
      apart = apart;
      owned = owned;
      homes = homes;
      shows = record { parts = parts_next; units = units_next };
      regions = by_unit (λ m. (region : Region) → interface_of y.world m ≡ package_interface region → IsRegion p 0 (IsOneOf es) (shapes p 0) (Sees p 0) region) k.region
          (λ m other region e. region_wider p 0 (IsOneOf h.types) (IsOneOf es) more (shapes p 0) (Sees p 0) (Sees p 0) (λ o z. z) region
          (h.regions m region (sym (s.steps.others m other) ∙ e)));
      rooted = by_unit (λ m. IsRooted y.world (interface_of y.world m)) k.rooted
          (λ m other. subst (IsRooted y.world) (sym (s.steps.others m other)) (rooted_still (interface_of x.world m) (h.rooted m)));
      generics = by_unit (λ m. (formals region : Region) → interface_of y.world m ≡ generic_interface formals region → IsGenericWalked y m formals region) k.generic
          (λ m other formals region e. generic_still m formals region other (h.generics m formals region (sym (s.steps.others m other) ∙ e)));
      instances = by_unit (λ m. (g : Option ℕ) (j : ℕ) (actuals : List Actual) → interface_of y.world m ≡ instance_interface g j actuals → IsInstanceKnown es y m j g) k.instance
          (λ m other g j actuals e. instance_still m g j (h.instances m g j actuals (sym (s.steps.others m other) ∙ e)));
      objects = objects;
      texts_set = subst (Everywhere (λ o. IfSome o.generic (λ g. interface_of y.world g ≡ no_interface → ⊥))) (sym s.objects)
          (every_both _ s.more x.next.objects_declared s.set_texts
          (every_so _ _ x.next.objects_declared (λ o is_set. some_so _ _ o.generic (λ g z. set_still g z) is_set) h.texts_set));
      standard = s.steps.same.standard ∙ h.standard;
      names = s.steps.same.bodies ∙ h.names;
      base = s.base;
      sized = s.sized;
      words = s.words;
      counted = s.counted;
    }
