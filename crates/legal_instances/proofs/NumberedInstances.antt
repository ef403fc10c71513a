-- An instance of the program stands at the place that the number of its unit says.
use Rattle.std.proofs.Common.{◌≡◌, ◌<◌, ◌+◌, ℕ, zero, suc, Bool, true, false, if◌then◌else◌, List, [], ◌∷◌, reverse, Some, option_map, slice_get, refl, sym, ap, ◌∙◌, subst, arith, inl, inr}
use Rattle.std.specs.Prelude.{◌⊎◌}
use Rattle.std.proofs.lemmas.Bool.{false≢true}
use Rattle.cov_base.specs.Lists.{Somewhere}
use Rattle.cov_base.specs.TextOrder.{precedes}
use Rattle.cov_base.specs.declared.position.Pos.{Pos}
use Rattle.ada_syntax.specs.declared.unit.Instance.{Instance as SourceInstance}
use Rattle.ada_syntax.specs.declared.unit.LibraryItem.{LibraryItem}
use Rattle.ada_syntax.specs.declared.unit.LibraryItem.TheVariants as library
use Rattle.ada_syntax.specs.declared.unit.Unit.{Unit as LibraryUnit}
use Rattle.ada_meaning.specs.Bodies.{StandsIn}
use Rattle.ada_meaning.specs.Obligations.{inserted, in_order}
use Rattle.ada_meaning.specs.Program.{Instance, Program}
use Rattle.ada_rules.specs.Entities.{Standard}
use Rattle.ada_rules.specs.Legal.{with_values}
use Rattle.ada_rules.specs.Library.{is_instance, is_package_body, instance_number, units_but_bodies, library_of}
use Rattle.ada_rules.specs.Statics.{Asked, Facts}
use Rattle.legal_laws.proofs.ListedPrograms.{one_before}
use Rattle.legal_programs.specs.Walked.{IsLegal}
use Rattle.legal_programs.proofs.Counted.{states_of}
use Rattle.legal_programs.proofs.Serving.{somewhere_reversed}
use Rattle.legal_instances.specs.InOrder.{UnitsRise}
use Rattle.legal_instances.proofs.InstanceNumbers.{next_number}
use Rattle.legal_instances.proofs.KeptWalk.{is_instance_there, with_instance_unit, instances_among}
use Rattle.legal_instances.proofs.LegalInstances.{in_places, IsOfUnit, keyed_in_places, instances_are}
use Rattle.legal_instances.proofs.SortedKeys.{AreKeyed}
use Rattle.legal_instances.proofs.TextInstances.{places_rise, AreFrom, from_next, unit_here, instance_no_body}
use Rattle.legal_instances.proofs.WholeOrder.{none_some, or_else}

-- the place of an item with a key, and the key
module _ {X : Type 0} (R : X → ℕ → Type 0) where
  record HasKey (x : X) (ns : List ℕ) (at : ℕ) : Type 0 where
    key : ℕ
    there : slice_get ns at ≡ Some key
    related : R x key

  record IsPlaced (x : X) (xs : List X) (ns : List ℕ) : Type 0 where
    at : ℕ
    there : slice_get xs at ≡ Some x
    keyed : HasKey x ns at

  key_of : (xs : List X) (ns : List ℕ) (j : ℕ) (x : X) → AreKeyed R xs ns → slice_get xs j ≡ Some x → HasKey x ns j
  key_of [] ns zero x h there = absurd (none_some there)
  key_of [] ns (suc j) x h there = absurd (none_some there)
  key_of (y ∷ xs) [] j x h there = absurd h
  key_of (y ∷ xs) (n ∷ ns) zero x h there = record { key = n; there = refl; related = subst (λ z. R z n) (ap (or_else y) there) h.0 }
  key_of (y ∷ xs) (n ∷ ns) (suc j) x h there =
      let rest = key_of xs ns j x h.1 there in
      record { key = rest.key; there = rest.there; related = rest.related }

  placed : (x : X) (xs : List X) (ns : List ℕ) → AreKeyed R xs ns → Somewhere (λ y. y ≡ x) xs → IsPlaced x xs ns
  placed x [] ns h there = absurd there
  placed x (y ∷ xs) [] h there = absurd h
  placed x (y ∷ xs) (n ∷ ns) h (inl e) = record {
    at = 0;
    there = ap (λ z. Some z) e;
    keyed = record { key = n; there = refl; related = subst (λ z. R z n) e h.0 };
  }
  placed x (y ∷ xs) (n ∷ ns) h (inr later) =
      let rest = placed x xs ns h.1 later in
      record {
        at = suc rest.at;
        there = rest.there;
        keyed = record { key = rest.keyed.key; there = rest.keyed.there; related = rest.keyed.related };
      }

-- what is somewhere in a list is somewhere in it in order
inserted_if : (P : Instance → Type 0) (b : Bool) (x y : Instance) (ys more : List Instance) → (P x ⊎ Somewhere P ys → Somewhere P more)
    → P x ⊎ (P y ⊎ Somewhere P ys) → Somewhere P (if b then y ∷ more else x ∷ (y ∷ ys))
inserted_if P false x y ys more rest h = h
inserted_if P true x y ys more rest (inl h) = inr (rest (inl h))
inserted_if P true x y ys more rest (inr (inl h)) = inl h
inserted_if P true x y ys more rest (inr (inr h)) = inr (rest (inr h))

inserted_there : (P : Instance → Type 0) (before : Instance → Instance → Bool) (x : Instance) (ys : List Instance) → P x ⊎ Somewhere P ys
    → Somewhere P (inserted before x ys)
inserted_there P before x [] (inl h) = inl h
inserted_there P before x [] (inr h) = absurd h
inserted_there P before x (y ∷ ys) h = inserted_if P (before y x) x y ys (inserted before x ys) (inserted_there P before x ys) h

ordered_there : (P : Instance → Type 0) (before : Instance → Instance → Bool) (xs : List Instance) → Somewhere P xs → Somewhere P (in_order before xs)
ordered_there P before [] h = absurd h
ordered_there P before (x ∷ xs) (inl h) = inserted_there P before x (in_order before xs) (inl h)
ordered_there P before (x ∷ xs) (inr h) = inserted_there P before x (in_order before xs) (inr (ordered_there P before xs h))

-- the instances among units have numbers in turn
module _ (us : List LibraryUnit) (rise : UnitsRise us) (facts : List Facts) (demands : List Asked) where
  abbrev From : ℕ → List LibraryUnit → Type 0
  From k vs = AreFrom us rise facts demands k vs

  abbrev Later : ℕ → List ℕ → ℕ → Type 0
  Later k ns n = (d : ℕ) → instance_number k us ≡ d + 1 → (i : ℕ) → slice_get ns i ≡ Some n → instance_number n us ≡ d + i + 1

  number_at : (k c : ℕ) (vs : List LibraryUnit) → From k vs → instance_number k us ≡ c + 1 → (j n : ℕ)
      → slice_get (instances_among us (units_but_bodies k vs)) j ≡ Some n → instance_number n us ≡ c + j + 1
  number_at k c [] units number zero n h = absurd (none_some h)
  number_at k c [] units number (suc j) n h = absurd (none_some h)
  number_at k c (v ∷ vs) units number j n h =
      by_instance (is_instance v.item) refl (λ d e i g. number_at (k + 1) d vs (from_next us rise facts demands k v vs units) e i n g)
    where
      rest_keys : List ℕ
      rest_keys = instances_among us (units_but_bodies (k + 1) vs)

      keys_are : (b d : Bool) → is_instance v.item ≡ b → is_package_body v.item ≡ d → (b ≡ true → d ≡ false)
          → instances_among us (if d then units_but_bodies (k + 1) vs else k ∷ units_but_bodies (k + 1) vs) ≡ with_instance_unit k b rest_keys
      keys_are true true e f g = absurd (false≢true (sym (g refl)))
      keys_are false true e f g = refl
      keys_are b false e f g =
          ap (λ x. with_instance_unit k x rest_keys) (ap is_instance_there (unit_here us rise facts demands k v vs units) ∙ e)

      own_key : (b : Bool) → is_instance v.item ≡ b → slice_get (with_instance_unit k b rest_keys) j ≡ Some n
      own_key b e =
          subst (λ ns. slice_get ns j ≡ Some n)
          (keys_are b (is_package_body v.item) e refl (λ f. instance_no_body us rise facts demands v.item (e ∙ f))) h

      number_is : suc k ≡ k + 1 → instance_number (k + 1) us ≡ (if is_instance v.item then instance_number k us + 1 else instance_number k us)
      number_is e = ap (λ m. instance_number m us) (sym e) ∙ next_number us k v (unit_here us rise facts demands k v vs units)

      one_more : suc k ≡ k + 1
      one_more = omega (arith)

      at_first : instance_number (k + 1) us ≡ c + 1 + 1 → Later (k + 1) rest_keys n → (i : ℕ) → slice_get (k ∷ rest_keys) i ≡ Some n → instance_number n us ≡ c + i + 1
      at_first next later zero g =
          let same : instance_number k us ≡ instance_number n us = ap (λ m. instance_number m us) (ap (or_else k) g) in
          omega (arith, same, number)
      at_first next later (suc i) g = let rest = later (c + 1) next i g in omega (arith, rest)

      by_instance : (b : Bool) → is_instance v.item ≡ b → Later (k + 1) rest_keys n → instance_number n us ≡ c + j + 1
      by_instance true e later =
          at_first (number_is one_more ∙ (ap (λ b. if b then instance_number k us + 1 else instance_number k us) e ∙ ap (λ m. m + 1) number)) later j
          (own_key true e)
      by_instance false e later =
          later c (number_is one_more ∙ (ap (λ b. if b then instance_number k us + 1 else instance_number k us) e ∙ number)) j (own_key false e)

-- two units have places of their own
equal_of : (a b : ℕ) → (a < b → ⊥) → (b < a → ⊥) → a ≡ b
equal_of zero zero f g = refl
equal_of zero (suc b) f g = absurd (f (omega (arith)))
equal_of (suc a) zero f g = absurd (g (omega (arith)))
equal_of (suc a) (suc b) f g = ap suc (equal_of a b (λ l. f (omega (arith, l))) (λ l. g (omega (arith, l))))

not_before : (q r : Pos) → q ≡ r → precedes q r ≡ true → ⊥
not_before q r e h =
    let turned : precedes r q ≡ precedes q r = λ i. precedes (sym e i) (e i) in
    false≢true (sym (one_before q r h) ∙ (turned ∙ h))

same_unit : (us : List LibraryUnit) (n m : ℕ) (u v : LibraryUnit) → UnitsRise us → slice_get us n ≡ Some u → slice_get us m ≡ Some v → u.item_pos ≡ v.item_pos
    → n ≡ m
same_unit us n m u v rise h k e =
    equal_of n m (λ less. not_before u.item_pos v.item_pos e (places_rise us n m u v rise less h k))
    (λ less. not_before v.item_pos u.item_pos (sym e) (places_rise us m n v u rise less k h))

-- the values of constants change no place
record HasLike (is : List Instance) (j : ℕ) (i : Instance) : Type 0 where
  made : Instance
  there : slice_get is j ≡ Some made
  generic : made.generic ≡ i.generic
  actuals : made.actuals ≡ i.actuals

valued_at : (is : List Instance) (fs : List Facts) (j : ℕ) (i : Instance) → slice_get is j ≡ Some i → HasLike (with_values is fs) j i
valued_at [] fs zero i h = absurd (none_some h)
valued_at [] fs (suc j) i h = absurd (none_some h)
valued_at (x ∷ is) [] j i h = record { made = i; there = h; generic = refl; actuals = refl }
valued_at (x ∷ is) (f ∷ fs) zero i h =
    let same : x ≡ i = ap (or_else x) h in
    record { made = record x { constants = f.constants }; there = refl; generic = ap (λ y. y.generic) same; actuals = ap (λ y. y.actuals) same }
valued_at (x ∷ is) (f ∷ fs) (suc j) i h =
    let rest = valued_at is fs j i h in
    record { made = rest.made; there = rest.there; generic = rest.generic; actuals = rest.actuals }

record IsFilled (is : List Instance) (j : ℕ) : Type 0 where
  item : Instance
  there : slice_get is j ≡ Some item

filled : (is : List Instance) (j g : ℕ) → option_map (λ x. x.generic) (slice_get is j) ≡ Some g → IsFilled is j
filled [] zero g h = absurd (none_some h)
filled [] (suc j) g h = absurd (none_some h)
filled (x ∷ is) zero g h = record { item = x; there = refl }
filled (x ∷ is) (suc j) g h = let rest = filled is j g h in record { item = rest.item; there = rest.there }

valued_filled : (is : List Instance) (fs : List Facts) (j g : ℕ) → option_map (λ x. x.generic) (slice_get (with_values is fs) j) ≡ Some g → IsFilled is j
valued_filled [] fs zero g h = absurd (none_some h)
valued_filled [] fs (suc j) g h = absurd (none_some h)
valued_filled (x ∷ is) [] j g h = filled (x ∷ is) j g h
valued_filled (x ∷ is) (f ∷ fs) zero g h = record { item = x; there = refl }
valued_filled (x ∷ is) (f ∷ fs) (suc j) g h = let rest = valued_filled is fs j g h in record { item = rest.item; there = rest.there }

-- the instance of the program with this number is this one, but for the values of constants
pub record IsNumbered (p : Program) (k : ℕ) (i : Instance) : Type 0 where
  pub place : ℕ
  pub number : k ≡ suc place
  pub made : Instance
  pub there : slice_get p.instances place ≡ Some made
  pub generic : made.generic ≡ i.generic
  pub actuals : made.actuals ≡ i.actuals

-- the unit with this number among instances
pub record IsUnitNumbered (us : List LibraryUnit) (k : ℕ) : Type 0 where
  pub place : ℕ
  pub unit : LibraryUnit
  pub there : slice_get us place ≡ Some unit
  pub instance : SourceInstance
  pub is : unit.item ≡ library.Instance instance
  pub number : k ≡ instance_number place us

module _ (standard : Standard) (us : List LibraryUnit) (main : List ℕ) (p : Program) (is : IsLegal (library_of standard us) main p) (rise : UnitsRise us) where
  abbrev Of : Instance → ℕ → Type 0
  Of i n = IsOfUnit standard us main p is rise i n

  abbrev listed : List Instance
  listed = in_places standard us main p is rise

  from_start : (j : ℕ) → slice_get us (0 + j) ≡ slice_get us j
  from_start j = let none : 0 + j ≡ j = omega (arith) in ap (slice_get us) none

  first_number : (vs : List LibraryUnit) → instance_number 0 vs ≡ 0 + 1
  first_number [] = refl
  first_number (v ∷ vs) = refl

  number_of_key : (j n : ℕ) → slice_get (instances_among us (units_but_bodies 0 us)) j ≡ Some n → instance_number n us ≡ suc j
  number_of_key j n h =
      let number = number_at us rise is.walked.world.instances is.walked.next.demands 0 0 us from_start (first_number us) j n h in
      omega (arith, number)

  -- an instance that the walk over the unit with this number made
  pub made_numbered : (n : ℕ) (u : LibraryUnit) (i : Instance) → slice_get us n ≡ Some u → i.place ≡ u.item_pos
      → Somewhere (λ x. x ≡ i) is.walked.next.instances_declared → IsNumbered p (instance_number n us) i
  made_numbered n u i unit place made =
      let declared = subst (Somewhere (λ x. x ≡ i)) (states_of (library_of standard us) main p is).bodies.instances made in
      let here = placed Of i listed (instances_among us (units_but_bodies 0 us)) (keyed_in_places standard us main p is rise)
      (ordered_there (λ x. x ≡ i) (λ a b. precedes a.place b.place) (reverse is.walk.seen.next.instances_declared)
      (somewhere_reversed (λ x. x ≡ i) is.walk.seen.next.instances_declared declared)) in
      let of_unit = here.keyed.related in
      let same : here.keyed.key ≡ n =
      same_unit us here.keyed.key n of_unit.at.unit u rise of_unit.at.there unit (sym of_unit.place ∙ place) in
      let like = valued_at listed is.walked.world.instances here.at i here.there in
      record {
        place = here.at;
        number = ap (λ m. instance_number m us) (sym same) ∙ number_of_key here.at here.keyed.key here.keyed.there;
        made = like.made;
        there = ap (λ xs. slice_get xs here.at) (instances_are standard us main p is rise) ∙ like.there;
        generic = like.generic;
        actuals = like.actuals;
      }

  instance_of : (i : LibraryItem) (n : ℕ) (u : LibraryUnit) (k : ℕ) → slice_get us n ≡ Some u → u.item ≡ i → is_instance i ≡ true → k ≡ instance_number n us
      → IsUnitNumbered us k
  instance_of (library.Package x) n u k unit e h number = absurd (false≢true h)
  instance_of (library.PackageBody x) n u k unit e h number = absurd (false≢true h)
  instance_of (library.Instance x) n u k unit e h number =
      record { place = n; unit = u; there = unit; instance = x; is = e; number = number }
  instance_of (library.Subprogram x) n u k unit e h number = absurd (false≢true h)

  -- each instance of the program is that of a unit
  pub unit_numbered : (g k : ℕ) → StandsIn p (Some g) k → IsUnitNumbered us k
  unit_numbered g zero stands = absurd stands
  unit_numbered g (suc j) stands =
      let item = valued_filled listed is.walked.world.instances j g
      (subst (λ xs. option_map (λ x. x.generic) (slice_get xs j) ≡ Some g) (instances_are standard us main p is rise) stands) in
      let keyed = key_of Of listed (instances_among us (units_but_bodies 0 us)) j item.item (keyed_in_places standard us main p is rise) item.there in
      instance_of keyed.related.at.unit.item keyed.key keyed.related.at.unit (suc j) keyed.related.at.there refl keyed.related.at.is
      (sym (number_of_key j keyed.key keyed.there))
