-- A body stands at its number among all; the number of a body of a package leads to the body of that package.
use Rattle.std.proofs.Common.{◌≡◌, ◌+◌, ℕ, zero, suc, nat_eq, Bool, true, false, if◌then◌else◌, List, [], ◌∷◌, ◌++◌, length, Option, Some, None, IfSome, slice_get, refl, sym, ap, ◌∙◌, subst, arith, inl, inr}
use Rattle.std.specs.Prelude.{◌⊎◌, not}
use Rattle.std.proofs.lemmas.Bool.{eqb-true, eq-eqb, false≢true}
use Rattle.ada_syntax.specs.declared.unit.LibraryItem.{LibraryItem}
use Rattle.ada_syntax.specs.declared.unit.LibraryItem.TheVariants as library
use Rattle.ada_syntax.specs.declared.unit.PackageBody.{PackageBody}
use Rattle.ada_syntax.specs.declared.unit.PackageSpecification.{PackageSpecification}
use Rattle.ada_syntax.specs.declared.unit.Unit.{Unit as LibraryUnit}
use Rattle.ada_rules.specs.Entities.{key, same_name}
use Rattle.ada_rules.specs.Environment.{BodyName}
use Rattle.ada_rules.specs.Library.{Library, item_name, unit_named, body_names, bodies_of_item, all_bodies, is_test_io, is_first_name, is_declared_well}
use Rattle.ada_rules.specs.Subprograms.{is_body, place_among}
use Rattle.legal_laws.proofs.Passing.{both_true}
use Rattle.legal_programs.specs.Homes.{AreHeaded}
use Rattle.legal_programs.proofs.DecidedUnits.{every_at}
use Rattle.legal_programs.proofs.MainUnit.{name_is}
use Rattle.legal_texts.proofs.BodyNumbers.{of_unit, IsUnitAt, HasBodies, other_name}
use Rattle.legal_texts.proofs.InterfaceWalk.{same_some}
use Rattle.legal_texts.proofs.UnitPlaces.{bodies_before, named_at, headed_at}

none_is_some : {X : Type 0} {x : X} → None ≡ Some x → ⊥
none_is_some e = cc

pub nothing_at : {X : Type 0} (j : ℕ) (x : X) → slice_get [] j ≡ Some x → ⊥
nothing_at zero x e = none_is_some e
nothing_at (suc j) x e = none_is_some e

in_front : {X : Type 0} (xs ys : List X) (j : ℕ) (x : X) → slice_get xs j ≡ Some x → slice_get (xs ++ ys) j ≡ Some x
in_front [] ys j x h = absurd (nothing_at j x h)
in_front (y ∷ xs) ys zero x h = h
in_front (y ∷ xs) ys (suc j) x h = in_front xs ys j x h

in_back : {X : Type 0} (xs ys : List X) (j : ℕ) → slice_get (xs ++ ys) (length xs + j) ≡ slice_get ys j
in_back [] ys j = let none : 0 + j ≡ j = omega (arith) in ap (slice_get ys) none
in_back (x ∷ xs) ys j = let one : length (x ∷ xs) + j ≡ suc (length xs + j) = omega (arith) in ap (slice_get ((x ∷ xs) ++ ys)) one ∙ in_back xs ys j

-- a body of a unit among all
pub body_in : (us : List LibraryUnit) (m : ℕ) (u : LibraryUnit) (j : ℕ) (b : BodyName) → slice_get us m ≡ Some u → slice_get (bodies_of_item u.item) j ≡ Some b
    → slice_get (all_bodies us) (bodies_before m us + j) ≡ Some b
body_in [] m u j b there is = absurd (nothing_at m u there)
body_in (v ∷ us) zero u j b there is =
    let none : 0 + j ≡ j = omega (arith) in
    ap (slice_get (all_bodies (v ∷ us))) none
    ∙ in_front (bodies_of_item v.item) (all_bodies us) j b (subst (λ w. slice_get (bodies_of_item w.item) j ≡ Some b) (sym (same_some there)) is)
body_in (v ∷ us) (suc m) u j b there is =
    let count : bodies_before (suc m) (v ∷ us) + j ≡ length (bodies_of_item v.item) + (bodies_before m us + j) = omega (arith) in
    ap (slice_get (all_bodies (v ∷ us))) count
    ∙ (in_back (bodies_of_item v.item) (all_bodies us) (bodies_before m us + j) ∙ body_in us m u j b there is)

record IsLater {X : Type 0} (xs ys : List X) (k : ℕ) (x : X) : Type 0 where
  index : ℕ
  at : length xs + index ≡ k
  is : slice_get ys index ≡ Some x

split_at : {X : Type 0} (xs ys : List X) (k : ℕ) (x : X) → slice_get (xs ++ ys) k ≡ Some x → (slice_get xs k ≡ Some x) ⊎ IsLater xs ys k x
split_at [] ys k x h = inr (record { index = k; at = omega (arith); is = h })
split_at (y ∷ xs) ys zero x h = inl h
split_at (y ∷ xs) ys (suc k) x h = one_more (split_at xs ys k x h)
  where
    one_more : (slice_get xs k ≡ Some x) ⊎ IsLater xs ys k x → (slice_get (y ∷ xs) (suc k) ≡ Some x) ⊎ IsLater (y ∷ xs) ys (suc k) x
    one_more (inl e) = inl e
    one_more (inr l) = let count = l.at in inr (record { index = l.index; at = omega (arith, count); is = l.is })

record IsAmong (us : List LibraryUnit) (k : ℕ) (b : BodyName) : Type 0 where
  unit : ℕ
  home : LibraryUnit
  there : slice_get us unit ≡ Some home
  index : ℕ
  is : slice_get (bodies_of_item home.item) index ≡ Some b
  at : bodies_before unit us + index ≡ k

among : (us : List LibraryUnit) (k : ℕ) (b : BodyName) → slice_get (all_bodies us) k ≡ Some b → IsAmong us k b
among [] k b h = absurd (nothing_at k b h)
among (u ∷ us) k b h = of_either (split_at (bodies_of_item u.item) (all_bodies us) k b h) (λ j is. among us j b is)
  where
    of_either : (slice_get (bodies_of_item u.item) k ≡ Some b) ⊎ IsLater (bodies_of_item u.item) (all_bodies us) k b
        → ((j : ℕ) → slice_get (all_bodies us) j ≡ Some b → IsAmong us j b) → IsAmong (u ∷ us) k b
    of_either (inl e) later = record { unit = 0; home = u; there = refl; index = k; is = e; at = omega (arith) }
    of_either (inr l) later =
        let rest = later l.index l.is in
        let first = l.at in
        let second = rest.at in
        record { unit = suc rest.unit; home = rest.home; there = rest.there; index = rest.index; is = rest.is; at = omega (arith, first, second) }

record IsFound (unit name : List ℕ) (n k : ℕ) (bs : List BodyName) : Type 0 where
  index : ℕ
  at : n + index ≡ k
  body : BodyName
  there : slice_get bs index ≡ Some body
  is : is_body unit name body ≡ true

found_at : (unit name : List ℕ) (n k : ℕ) (bs : List BodyName) → place_among unit name n bs ≡ Some k → IsFound unit name n k bs
found_at unit name n k [] h = absurd (none_is_some h)
found_at unit name n k (b ∷ bs) h = by_test (is_body unit name b) refl h (λ e. found_at unit name (n + 1) k bs e)
  where
    by_test : (c : Bool) → is_body unit name b ≡ c → (if c then Some n else place_among unit name (n + 1) bs) ≡ Some k
        → (place_among unit name (n + 1) bs ≡ Some k → IsFound unit name (n + 1) k bs) → IsFound unit name n k (b ∷ bs)
    by_test true e g rest = let same = same_some g in record { index = 0; at = omega (arith, same); body = b; there = refl; is = e }
    by_test false e g rest =
        let f = rest g in
        let count = f.at in
        record { index = suc f.index; at = omega (arith, count); body = f.body; there = f.there; is = f.is }

-- the body of a package with this number
pub record IsPackageBodyAt (l : Library) (n : ℕ) (name : List ℕ) (k : ℕ) : Type 0 where
  pub unit : ℕ
  pub home : LibraryUnit
  pub there : slice_get l.units unit ≡ Some home
  pub body : PackageBody
  pub item : home.item ≡ library.PackageBody body
  pub named : unit_named l.names (key body.name) ≡ Some n
  pub index : ℕ
  pub one : BodyName
  pub is : slice_get (body_names (key body.name) body.items) index ≡ Some one
  pub name_is : one.name ≡ name
  pub at : bodies_before unit l.units + index ≡ k

first_is : (n : ℕ) (o : Option ℕ) → is_first_name n o ≡ true → o ≡ Some n
first_is n None h = absurd (false≢true h)
first_is n (Some m) h = ap Some (eqb-true m n h)

module _ (l : Library) (headed : AreHeaded l 0 l.units) where
  pub package_named : (n : ℕ) (u : LibraryUnit) (z : PackageSpecification) → slice_get l.units n ≡ Some u → u.item ≡ library.Package z → unit_named l.names (key z.name) ≡ Some n
  package_named n u z there item =
      let none : 0 + n ≡ n = omega (arith) in
      let well : is_declared_well l n (library.Package z) ≡ true =
      subst (λ i. is_declared_well l n i ≡ true) item (subst (λ m. is_declared_well l m u.item ≡ true) none (headed_at l 0 n l.units u headed there)) in
      first_is n (unit_named l.names (key z.name)) (both_true (not (is_test_io z.name)) (is_first_name n (unit_named l.names (key z.name))) well).1

  package_of : (i : LibraryItem) (j : ℕ) (b : BodyName) → slice_get (bodies_of_item i) j ≡ Some b → b.package_name ≡ key (item_name i)
  package_of i j b is = subst (λ o. IfSome o (λ c. c.package_name ≡ key (item_name i))) is (every_at (λ c. c.package_name ≡ key (item_name i)) (bodies_of_item i) j (of_unit i))

  abbrev is_package : LibraryItem → Bool
  is_package (library.Package z) = true
  is_package i = false

  module _ (n : ℕ) (u : LibraryUnit) (z : PackageSpecification) (there : slice_get l.units n ≡ Some u) (item : u.item ≡ library.Package z) (name : List ℕ) (k : ℕ) where
    by_item : (m : ℕ) (home : LibraryUnit) → slice_get l.units m ≡ Some home → (i : LibraryItem) → home.item ≡ i → (j : ℕ) (b : BodyName) → slice_get (bodies_of_item i) j ≡ Some b
        → bodies_before m l.units + j ≡ k → b.package_name ≡ key z.name → b.name ≡ name → IsPackageBodyAt l n name k
    by_item m home at (library.PackageBody c) e j b is count same_package same = record {
      unit = m;
      home = home;
      there = at;
      body = c;
      item = e;
      named = ap (unit_named l.names) (sym (package_of (library.PackageBody c) j b is) ∙ same_package) ∙ package_named n u z there item;
      index = j;
      one = b;
      is = is;
      name_is = same;
      at = count;
    }
    by_item m home at (library.Subprogram c) e j b is count same_package same =
        let names = sym (package_of (library.Subprogram c) j b is) ∙ same_package in
        let number : Some m ≡ Some n = sym (named_at l l.units m home c headed at e) ∙ (ap (unit_named l.names) names ∙ package_named n u z there item) in
        let unit_is : home ≡ u = same_some (sym at ∙ (ap (slice_get l.units) (same_some number) ∙ there)) in
        absurd (false≢true (ap is_package (sym e ∙ (ap (λ v. v.item) unit_is ∙ item))))
    by_item m home at (library.Package c) e j b is count same_package same = absurd (nothing_at j b is)
    by_item m home at (library.Instance c) e j b is count same_package same = absurd (nothing_at j b is)

    pub number_leads : place_among (key z.name) name 0 (all_bodies l.units) ≡ Some k → IsPackageBodyAt l n name k
    number_leads h =
        let f = found_at (key z.name) name 0 k (all_bodies l.units) h in
        let none : 0 + f.index ≡ f.index = omega (arith) in
        let a = among l.units f.index f.body f.there in
        let both = both_true (same_name f.body.package_name (key z.name)) (same_name f.body.name name) f.is in
        by_item a.unit a.home a.there a.home.item refl a.index f.body a.is (a.at ∙ (sym none ∙ f.at))
        (name_is f.body.package_name (key z.name) both.0) (name_is f.body.name name both.1)

  -- the number of a body of this unit
  pub record IsInUnit (u : LibraryUnit) (name : List ℕ) : Type 0 where
    pub index : ℕ
    pub one : BodyName
    pub is : slice_get (bodies_of_item u.item) index ≡ Some one
    pub name_is : one.name ≡ name

  has_bodies : (i : LibraryItem) (j : ℕ) (b : BodyName) → slice_get (bodies_of_item i) j ≡ Some b → HasBodies l i
  has_bodies (library.PackageBody c) j b is = tt
  has_bodies (library.Subprogram c) j b is = tt
  has_bodies (library.Package c) j b is = nothing_at j b is
  has_bodies (library.Instance c) j b is = nothing_at j b is

  unit_at : (n : ℕ) (u : LibraryUnit) → slice_get l.units n ≡ Some u → IsUnitAt l n u u.item
  unit_at n u there =
      let none : 0 + n ≡ n = omega (arith) in
      record { there = there; item = refl; well = subst (λ m. is_declared_well l m u.item ≡ true) none (headed_at l 0 n l.units u headed there) }

  pub number_in_unit : (n : ℕ) (u : LibraryUnit) → slice_get l.units n ≡ Some u → HasBodies l u.item → (name : List ℕ) (k : ℕ)
      → place_among (key (item_name u.item)) name 0 (all_bodies l.units) ≡ Some k → IsInUnit u name
  number_in_unit n u there bodies name k h =
      let f = found_at (key (item_name u.item)) name 0 k (all_bodies l.units) h in
      let a = among l.units f.index f.body f.there in
      let both = both_true (same_name f.body.package_name (key (item_name u.item))) (same_name f.body.name name) f.is in
      let home_named : f.body.package_name ≡ key (item_name a.home.item) = package_of a.home.item a.index f.body a.is in
      by_number a.unit a.home a.there a.index f.body a.is (sym home_named ∙ name_is f.body.package_name (key (item_name u.item)) both.0)
      (name_is f.body.name name both.1) (nat_eq a.unit n) refl
    where
      by_number : (m : ℕ) (home : LibraryUnit) → slice_get l.units m ≡ Some home → (j : ℕ) (b : BodyName) → slice_get (bodies_of_item home.item) j ≡ Some b
          → key (item_name home.item) ≡ key (item_name u.item) → b.name ≡ name → (c : Bool) → nat_eq m n ≡ c → IsInUnit u name
      by_number m home at j b is names same true e =
          let unit_is : home ≡ u = same_some (sym at ∙ (ap (slice_get l.units) (eqb-true m n e) ∙ there)) in
          record { index = j; one = b; is = subst (λ v. slice_get (bodies_of_item v.item) j ≡ Some b) unit_is is; name_is = same }
      by_number m home at j b is names same false e =
          absurd (other_name l m n home u home.item u.item (unit_at m home at) (unit_at n u there) (λ one. false≢true (sym e ∙ eq-eqb m n one))
          (has_bodies home.item j b is) bodies names)
