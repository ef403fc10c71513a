-- The objects of a program stand at the library level where they are addressed, and what stands there is an object of the program.
use Rattle.std.proofs.Common.{◌≡◌, ℕ, zero, suc, ◌+◌, ◌<◌, inl, inr, Bool, List, [], ◌∷◌, length, map, Option, Some, option_map, slice_get, refl, sym, ap, ◌∙◌, subst, arith}
use Rattle.std.specs.Prelude.{unwrap_or, if◌then◌else◌}
use Rattle.std.proofs.lemmas.Bool.{eq-eqb}
use Rattle.std.proofs.lemmas.List.{length-map}
use Rattle.std.proofs.lemmas.Option.{none-some, same_Some, slice_get_within}
use Rattle.cov_base.specs.Lists.{Everywhere, Somewhere}
use Rattle.ada_meaning.specs.Bodies.{StandsIn}
use Rattle.ada_meaning.specs.Declared.{library_shape, object_shape}
use Rattle.ada_meaning.specs.Execution.{library_place}
use Rattle.ada_meaning.specs.Objects.{AreDistinct}
use Rattle.ada_meaning.specs.Program as meaning
use Rattle.ada_meaning.specs.Resolved.{owner_in, shape_in}
use Rattle.ada_meaning.specs.Tree as tree
use Rattle.ada_meaning.specs.Types as type
use Rattle.ada_meaning.specs.WellFormed.{IsWellFormed, StartSees}
use Rattle.ada_tree.specs.declared.program.LibraryObject.{LibraryObject}
use Rattle.ada_tree.specs.declared.program.Program.{Program}
use Rattle.ada_tree.specs.declared.program.Subprogram.{Subprogram}
use Rattle.ada_tree.specs.Programs.{instance_of, library_object_of, program_of, types_of}
use Rattle.ada_resolved.specs.Forms.{named_type, shape_of}
use Rattle.ada_resolved.specs.Library.{program_size}
use Rattle.generic_expand.specs.declared.copies.BodyCopy.{BodyCopy}
use Rattle.statement_code.specs.Initial.{AreAddressed, IsObjectOf}
use Rattle.statement_code.specs.Objects.{Standing}
use Rattle.statement_code.specs.Programs.{IsHome}
use Rattle.storage_layout.specs.declared.layouts.LaidType.{LaidType}
use Rattle.storage_layout.specs.declared.library.LibraryPlace.{LibraryPlace}
use Rattle.storage_layout.specs.Library.{places_from, places_of_instances, library_places, all_words_in}
use Rattle.lower.specs.Context.{home_by, place_among, shape_by, shape_named}
use Rattle.lower.specs.Kernel.{surroundings_in}
use Rattle.lower.specs.Schemes.{address_in, library_standings, standing_of, standings}
use Rattle.lower.specs.Standing.{IsSized, size_of}
use Rattle.lower.proofs.LibraryPlaces.{Found, Placed, Row, address_found, another, declarations, each_found, each_implied, each_joined, placed_at, placed_there, row_of, some_behind, some_front, unequal}
use Rattle.lower.proofs.LibrarySizes.{IsSizedIn, SizedLibrary, library_sized, stands_if, stands_test, stands_within}
use Rattle.lower.proofs.Types.{meant, named_shape}

-- items of lists
pub each_among : {X : Type 0} (P : X → Type 0) (xs : List X) → ((x : X) → Somewhere (λ y. y ≡ x) xs → P x) → Everywhere P xs
each_among P [] f = tt
each_among P (x ∷ xs) f = (f x (inl refl), each_among P xs (λ y there. f y (inr there)))

pub each_mapped : {X Y : Type 0} (P : Y → Type 0) (f : X → Y) (xs : List X) → Everywhere (λ x. P (f x)) xs → Everywhere P (map f xs)
each_mapped P f [] all = tt
each_mapped P f (x ∷ xs) all = (all.0, each_mapped P f xs all.1)

pub some_mapped : {X Y : Type 0} (P : Y → Type 0) (f : X → Y) (xs : List X) → Somewhere (λ x. P (f x)) xs → Somewhere P (map f xs)
some_mapped P f [] there = absurd there
some_mapped P f (x ∷ xs) (inl here) = inl here
some_mapped P f (x ∷ xs) (inr there) = inr (some_mapped P f xs there)

pub some_implied : {X : Type 0} (P Q : X → Type 0) (xs : List X) → ((x : X) → P x → Q x) → Somewhere P xs → Somewhere Q xs
some_implied P Q [] f there = absurd there
some_implied P Q (x ∷ xs) f (inl here) = inl (f x here)
some_implied P Q (x ∷ xs) f (inr there) = inr (some_implied P Q xs f there)

pub one_of : {X : Type 0} (P : X → Type 0) (xs : List X) (x : X) → Everywhere P xs → Somewhere (λ y. y ≡ x) xs → P x
one_of P [] x all there = absurd there
one_of P (y ∷ xs) x all (inl is) = subst P is all.0
one_of P (y ∷ xs) x all (inr there) = one_of P xs x all.1 there

module _ (p : Program) where
  abbrev P : meaning.Program
  P = program_of p

  abbrev pub library_object : LibraryObject → meaning.LibraryObject
  library_object o = library_object_of (types_of p.types) o

  same_declarations : (os : List LibraryObject) → map (λ o. o.declaration) (map library_object os) ≡ declarations os
  same_declarations [] = refl
  same_declarations (o ∷ os) = ap (λ (ds : List ℕ). o.declaration ∷ ds) (same_declarations os)

  pub declared_once : IsWellFormed P → AreDistinct (declarations p.objects)
  declared_once well = subst AreDistinct (same_declarations p.objects) well.declared.library

  -- what stands in an instance stands at the library level
  pub among_standings : (Q : Standing → Type 0) (xss : List (List LibraryPlace)) (j k i : ℕ) (xs : List LibraryPlace) → i ≡ j + k → slice_get xss k ≡ Some xs
      → Somewhere (λ x. Q (standing_of p i x)) xs → Somewhere Q (standings p j xss)
  among_standings Q [] j k i xs is at there = absurd (none-some xs at)
  among_standings Q (ys ∷ xss) j zero i xs is at there =
      let same : i ≡ j = omega (arith, is) in
      some_front Q (map (standing_of p j) ys) (standings p (suc j) xss)
      (some_mapped Q (standing_of p j) ys (subst (λ (n : ℕ). Somewhere (λ x. Q (standing_of p n x)) ys) same
      (subst (λ (zs : List LibraryPlace). Somewhere (λ x. Q (standing_of p i x)) zs) (sym (same_Some ys xs at)) there)))
  among_standings Q (ys ∷ xss) j (suc k) i xs is at there =
      some_behind Q (map (standing_of p j) ys) (standings p (suc j) xss) (among_standings Q xss (suc j) k i xs (omega (arith, is)) at there)

  pub each_standing : (Q : Standing → Type 0) (xss : List (List LibraryPlace)) (j : ℕ)
      → ((k i : ℕ) (xs : List LibraryPlace) → i ≡ j + k → slice_get xss k ≡ Some xs → Everywhere (λ x. Q (standing_of p i x)) xs) → Everywhere Q (standings p j xss)
  each_standing Q [] j each = tt
  each_standing Q (xs ∷ xss) j each =
      each_joined Q (map (standing_of p j) xs) (standings p (suc j) xss) (each_mapped Q (standing_of p j) xs (each 0 j xs (omega arith) refl))
      (each_standing Q xss (suc j) (λ k i ys is at. each (suc k) i ys (omega (arith, is)) at))

  places_length : (count i before : ℕ) → length (places_of_instances p count i before) ≡ count
  places_length zero i before = refl
  places_length (suc count) i before = omega (arith, places_length count (i + 1) (before + length (all_words_in p i p.objects)))

  module _ (well : IsWellFormed P) (has : IsSized (program_size P)) where
    abbrev sizes : SizedLibrary p
    sizes = library_sized p has

    within_instances : (g : Option ℕ) (i : ℕ) → StandsIn P g i → i < length p.instances + 1
    within_instances g i is = omega (arith, stands_within P g i is, length-map p.instances instance_of)

    -- an object in an instance in which it stands
    pub record Known (o : LibraryObject) (i : ℕ) : Type 0 where
      pub row : Row p i
      pub placed : Placed p i row.before p.objects o
      pub sized : IsSized (size_of p i o.subtype)

    pub known : (o : LibraryObject) (i : ℕ) → Somewhere (λ x. x ≡ o) p.objects → StandsIn P o.generic i → Known o i
    known o i among is =
        let less = within_instances o.generic i is in
        let row = row_of p i less in
        let test = stands_test P o.generic i is in
        record {
          row = row;
          placed = placed_there p i row.before p.objects o (declared_once well) among test;
          sized = one_of (IsSizedIn p i) p.objects o (sizes.sized i less) among test;
        }

    -- each object is addressed
    one_addressed : (o : LibraryObject) → Somewhere (λ x. x ≡ o) p.objects → (i : ℕ) → StandsIn P o.generic i
        → Somewhere (λ s. (s.place ≡ library_place i o.declaration) × ((s.shape ≡ shape_in P i (meant p o.subtype)) × (s.address ≡ address_in p i o.declaration))) (library_standings p)
    one_addressed o among i is =
        let k = known o i among is in
        let place = placed_at p i (k.row.before + k.placed.skipped) o in
        let Q : Standing → Type 0 = λ s. (s.place ≡ library_place i o.declaration) × ((s.shape ≡ shape_in P i (meant p o.subtype)) × (s.address ≡ address_in p i o.declaration)) in
        among_standings Q (library_places p) 0 i i (places_from p i k.row.before p.objects) (omega arith) k.row.at
        (some_implied (λ x. x ≡ place) (λ x. Q (standing_of p i x)) (places_from p i k.row.before p.objects)
        (λ x same. subst (λ (y : LibraryPlace). Q (standing_of p i y)) (sym same)
        (refl, (named_shape p i o.subtype k.sized, sym (address_found p i o.declaration k.row place k.placed.found)))) k.placed.there)

    pub addressed_law : AreAddressed P (library_standings p) (address_in p) P.objects
    addressed_law =
        each_mapped (λ o. (i : ℕ) → StandsIn P o.generic i
        → Somewhere (λ s. (s.place ≡ library_place i o.declaration) × ((s.shape ≡ shape_in P i o.subtype) × (s.address ≡ address_in p i o.declaration))) (library_standings p))
        library_object p.objects (each_among _ p.objects one_addressed)

    -- and nothing else is there
    object_of : (i : ℕ) (row : Row p i) → i < length p.instances + 1 → (x : LibraryPlace) → Found p i row.before p.objects x → IsObjectOf P (address_in p) (standing_of p i x)
    object_of i row less x f =
        let sized = one_of (IsSizedIn p i) p.objects f.object (sizes.sized i less) f.among f.is_there in
        record {
          object = library_object f.object;
          inst = i;
          declared = some_mapped (λ o. o ≡ library_object f.object) library_object p.objects (some_implied (λ o. o ≡ f.object) (λ o. library_object o ≡ library_object f.object) p.objects (λ o same. ap library_object same) f.among);
          stands = stands_if P f.object.generic i f.is_there;
          shape = ap (λ (y : LibraryPlace). shape_of p (named_type p i y.subtype)) f.is ∙ named_shape p i f.object.subtype sized;
          address = sym (address_found p i f.object.declaration row x f.found);
        }

    pub objects_law : Everywhere (IsObjectOf P (address_in p)) (library_standings p)
    objects_law = each_standing (IsObjectOf P (address_in p)) (library_places p) 0 in_row
      where
        in_row : (k i : ℕ) (xs : List LibraryPlace) → i ≡ 0 + k → slice_get (library_places p) k ≡ Some xs → Everywhere (λ x. IsObjectOf P (address_in p) (standing_of p i x)) xs
        in_row k i xs is at =
            let same : k ≡ i = omega (arith, is) in
            let less : i < length p.instances + 1 = omega (arith, same, slice_get_within (library_places p) k xs at, places_length (length p.instances + 1) 0 0) in
            let row = row_of p i less in
            let these : xs ≡ places_from p i row.before p.objects =
            same_Some xs (places_from p i row.before p.objects) (sym at ∙ ap (λ n. slice_get (library_places p) n) same ∙ row.at) in
            subst (λ (ys : List LibraryPlace). Everywhere (λ x. IsObjectOf P (address_in p) (standing_of p i x)) ys) (sym these)
            (each_implied (Found p i row.before p.objects) (λ x. IsObjectOf P (address_in p) (standing_of p i x)) (places_from p i row.before p.objects)
            (object_of i row less) (each_found p i row.before p.objects (declared_once well)))

    -- an object that is seen in an instance
    record Seen (os : List LibraryObject) (i d : ℕ) : Type 0 where
      object : LibraryObject
      among : Somewhere (λ x. x ≡ object) os
      declared : object.declaration ≡ d
      is_there : StandsIn P object.generic i

    seen : (os : List LibraryObject) (i d : ℕ) → Somewhere (λ x. (x.declaration ≡ d) × StandsIn P x.generic i) (map library_object os) → Seen os i d
    seen [] i d there = absurd there
    seen (o ∷ os) i d (inl here) = record { object = o; among = inl refl; declared = here.0; is_there = here.1 }
    seen (o ∷ os) i d (inr there) =
        let s = seen os i d there in record { object = s.object; among = inr s.among; declared = s.declared; is_there = s.is_there }

    shape_declared : (os : List LibraryObject) (i : ℕ) (o : LibraryObject) → AreDistinct (declarations os) → Somewhere (λ x. x ≡ o) os
        → library_shape P i o.declaration (map library_object os) ≡ shape_in P i (meant p o.subtype)
    shape_declared [] i o apart there = absurd there
    shape_declared (x ∷ os) i o apart (inl same) =
        ap (λ (b : Bool). if b then shape_in P i (meant p x.subtype) else library_shape P i o.declaration (map library_object os))
        (eq-eqb x.declaration o.declaration (ap (λ (y : LibraryObject). y.declaration) same)) ∙ ap (λ (y : LibraryObject). shape_in P i (meant p y.subtype)) same
    shape_declared (x ∷ os) i o apart (inr there) =
        ap (λ (b : Bool). if b then shape_in P i (meant p x.subtype) else library_shape P i o.declaration (map library_object os))
        (unequal x.declaration o.declaration (another x.declaration os o apart.0 there)) ∙ shape_declared os i o apart.1 there

    -- what a body sees of the library level stands where its code looks for it
    pub outside_law : (copies : List BodyCopy) (layouts : List LaidType) (j : ℕ) (s : Subprogram) (declared : meaning.Subprogram) (o : type.Owner) (d : ℕ)
        → StartSees P j declared (tree.library_object o d)
        → (object_shape P j declared (tree.library_object o d) ≡ shape_by (surroundings_in p (library_places p) copies layouts j s) (tree.library_object o d))
        × IsHome (home_by (surroundings_in p (library_places p) copies layouts j s) (tree.library_object o d)) (address_in p (owner_in j o) d)
    outside_law copies layouts j s declared o d sees =
        let i = owner_in j o in
        let f = seen p.objects i d sees in
        let k = known f.object i f.among f.is_there in
        let place = placed_at p i (k.row.before + k.placed.skipped) f.object in
        let found : place_among d (unwrap_or (slice_get (library_places p) i) []) ≡ Some place =
        ap (λ (x : Option (List LibraryPlace)). place_among d (unwrap_or x [])) k.row.at
        ∙ ap (λ (e : ℕ). place_among e (places_from p i k.row.before p.objects)) (sym f.declared) ∙ k.placed.found in (
          ap (λ (e : ℕ). library_shape P i e (map library_object p.objects)) (sym f.declared) ∙ shape_declared p.objects i f.object (declared_once well) f.among
              ∙ sym (named_shape p i f.object.subtype k.sized)
              ∙ sym (ap (λ (x : Option LibraryPlace). shape_named p (option_map (λ (y : LibraryPlace). named_type p i y.subtype) x)) found),
          refl,
        )
