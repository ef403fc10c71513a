-- Each object of the library level has its place among those of each instance in which it stands, and its words among all.
use Rattle.std.proofs.Common.{◌≡◌, ◌≢◌, ℕ, zero, suc, ◌+◌, ◌<◌, ◌≤◌, ◌⊎◌, inl, inr, nat_eq, Bool, true, false, List, [], ◌∷◌, ◌++◌, length, map, Option, Some, option_map, slice_get, refl, sym, ap, ◌∙◌, subst, arith}
use Rattle.std.specs.Prelude.{unwrap_or, if◌then◌else◌}
use Rattle.std.proofs.lemmas.Bool.{eq-eqb, false≢true}
use Rattle.std.proofs.lemmas.Bool.Decides.{eqb_tells}
use Rattle.std.proofs.lemmas.List.{length-append}
use Rattle.std.proofs.lemmas.Option.{none-some}
use Rattle.cov_base.specs.Lists.{Everywhere, Somewhere}
use Rattle.ada_meaning.specs.Objects.{AreDistinct}
use Rattle.ada_tree.specs.declared.program.LibraryObject.{LibraryObject}
use Rattle.ada_tree.specs.declared.program.Program.{Program}
use Rattle.ada_tree.specs.Objects.{capped}
use Rattle.kernel_ir.specs.World.{data_word}
use Rattle.storage_layout.specs.declared.library.LibraryPlace.{LibraryPlace}
use Rattle.storage_layout.specs.Library.{place_in, words_in, places_from, all_words_in, places_of_instances, words_of_instances, library_places, library_words}
use Rattle.lower.specs.Context.{place_among}
use Rattle.lower.specs.Schemes.{address_in}
use Rattle.lower.proofs.LibrarySizes.{stands}

-- items of lists, one behind the other
get_front : {X : Type 0} (xs ys : List X) (k : ℕ) (x : X) → slice_get xs k ≡ Some x → slice_get (xs ++ ys) k ≡ Some x
get_front [] ys k x is = absurd (none-some x is)
get_front (y ∷ xs) ys zero x is = is
get_front (y ∷ xs) ys (suc k) x is = get_front xs ys k x is

get_behind : {X : Type 0} (xs ys : List X) (k n : ℕ) → n ≡ length xs + k → slice_get (xs ++ ys) n ≡ slice_get ys k
get_behind [] ys k n is = let e : n ≡ k = omega (arith, is) in ap (λ m. slice_get ys m) e
get_behind (x ∷ xs) ys k zero is = absurd (omega (arith, is))
get_behind (x ∷ xs) ys k (suc n) is = get_behind xs ys k n (omega (arith, is))

pub some_front : {X : Type 0} (P : X → Type 0) (xs ys : List X) → Somewhere P xs → Somewhere P (xs ++ ys)
some_front P [] ys there = absurd there
some_front P (x ∷ xs) ys (inl here) = inl here
some_front P (x ∷ xs) ys (inr there) = inr (some_front P xs ys there)

pub some_behind : {X : Type 0} (P : X → Type 0) (xs ys : List X) → Somewhere P ys → Somewhere P (xs ++ ys)
some_behind P [] ys there = there
some_behind P (x ∷ xs) ys there = inr (some_behind P xs ys there)

pub each_joined : {X : Type 0} (P : X → Type 0) (xs ys : List X) → Everywhere P xs → Everywhere P ys → Everywhere P (xs ++ ys)
each_joined P [] ys front behind = behind
each_joined P (x ∷ xs) ys front behind = (front.0, each_joined P xs ys front.1 behind)

pub each_implied : {X : Type 0} (P Q : X → Type 0) (xs : List X) → ((x : X) → P x → Q x) → Everywhere P xs → Everywhere Q xs
each_implied P Q [] f all = tt
each_implied P Q (x ∷ xs) f all = (f x all.0, each_implied P Q xs f all.1)

pub unequal : (d e : ℕ) → d ≢ e → nat_eq d e ≡ false
unequal d e other = of (eqb_tells d e)
  where
    of : ((nat_eq d e ≡ true) × (d ≡ e)) ⊎ ((nat_eq d e ≡ false) × (d ≢ e)) → nat_eq d e ≡ false
    of (inl is) = absurd (other is.1)
    of (inr not) = not.0

abbrev pub declarations : List LibraryObject → List ℕ
declarations os = map (λ o. o.declaration) os

pub another : (d : ℕ) (os : List LibraryObject) (o : LibraryObject) → Everywhere (λ e. d ≡ e → ⊥) (declarations os) → Somewhere (λ x. x ≡ o) os → d ≢ o.declaration
another d [] o others there = absurd there
another d (x ∷ os) o others (inl is) = λ same. others.0 (same ∙ sym (ap (λ (y : LibraryObject). y.declaration) is))
another d (x ∷ os) o others (inr there) = another d os o others.1 there

place_first : (t : Bool) (x : LibraryPlace) (rest : List LibraryPlace) → t ≡ true → place_among x.declaration ((if t then x ∷ [] else []) ++ rest) ≡ Some x
place_first true x rest is = ap (λ (b : Bool). if b then Some x else place_among x.declaration rest) (eq-eqb x.declaration x.declaration refl)
place_first false x rest is = absurd (false≢true is)

place_later : (t : Bool) (x : LibraryPlace) (d : ℕ) (rest : List LibraryPlace) → x.declaration ≢ d → place_among d ((if t then x ∷ [] else []) ++ rest) ≡ place_among d rest
place_later true x d rest other = ap (λ (b : Bool). if b then Some x else place_among d rest) (unequal x.declaration d other)
place_later false x d rest other = refl

module _ (p : Program) (i : ℕ) where
  -- the place of an object behind so many words
  abbrev pub placed_at : (before : ℕ) → LibraryObject → LibraryPlace
  placed_at before o = record { declaration = o.declaration; subtype = o.subtype; word = capped before }

  -- an object of a list has its place there, and its words, behind so many
  pub record Placed (before : ℕ) (os : List LibraryObject) (o : LibraryObject) : Type 0 where
    pub skipped : ℕ
    pub found : place_among o.declaration (places_from p i before os) ≡ Some (placed_at (before + skipped) o)
    pub there : Somewhere (λ x. x ≡ placed_at (before + skipped) o) (places_from p i before os)
    pub few : skipped + length (words_in p i o) ≤ length (all_words_in p i os)
    pub words : (k w : ℕ) → slice_get (words_in p i o) k ≡ Some w → slice_get (all_words_in p i os) (skipped + k) ≡ Some w

  first_placed : (before : ℕ) (o : LibraryObject) (os : List LibraryObject) → stands p i o ≡ true → Placed before (o ∷ os) o
  first_placed before o os is =
      let rest = places_from p i (before + length (words_in p i o)) os in
      let same : before ≡ before + 0 = omega arith in
      record {
        skipped = 0;
        found = place_first (stands p i o) (placed_at before o) rest is ∙ ap (λ (n : ℕ). Some (placed_at n o)) same;
        there = subst (λ (t : Bool). Somewhere (λ x. x ≡ placed_at (before + 0) o) ((if t then placed_at before o ∷ [] else []) ++ rest)) (sym is) (inl (ap (λ (n : ℕ). placed_at n o) same));
        few = omega (arith, length-append (words_in p i o) (all_words_in p i os));
        words = λ k w has. let e : k ≡ 0 + k = omega arith in
            subst (λ n. slice_get (words_in p i o ++ all_words_in p i os) n ≡ Some w) e (get_front (words_in p i o) (all_words_in p i os) k w has);
      }

  later_placed : (before : ℕ) (y o : LibraryObject) (os : List LibraryObject) → y.declaration ≢ o.declaration
      → Placed (before + length (words_in p i y)) os o → Placed before (y ∷ os) o
  later_placed before y o os other r =
      let rest = places_from p i (before + length (words_in p i y)) os in
      let same : before + length (words_in p i y) + r.skipped ≡ before + (length (words_in p i y) + r.skipped) = omega arith in
      record {
        skipped = length (words_in p i y) + r.skipped;
        found = place_later (stands p i y) (placed_at before y) o.declaration rest other ∙ r.found ∙ ap (λ (n : ℕ). Some (placed_at n o)) same;
        there = some_behind (λ x. x ≡ placed_at (before + (length (words_in p i y) + r.skipped)) o) (place_in p i before y) rest
            (subst (λ (n : ℕ). Somewhere (λ x. x ≡ placed_at n o) rest) same r.there);
        few = omega (arith, length-append (words_in p i y) (all_words_in p i os), r.few);
        words = λ k w has. get_behind (words_in p i y) (all_words_in p i os) (r.skipped + k) (length (words_in p i y) + r.skipped + k) (omega arith) ∙ r.words k w has;
      }

  pub placed_there : (before : ℕ) (os : List LibraryObject) (o : LibraryObject) → AreDistinct (declarations os) → Somewhere (λ x. x ≡ o) os → stands p i o ≡ true → Placed before os o
  placed_there before [] o apart there is = absurd there
  placed_there before (y ∷ os) o apart (inl same) is =
      subst (λ (x : LibraryObject). Placed before (y ∷ os) x) same
      (first_placed before y os (ap (λ (x : LibraryObject). stands p i x) same ∙ is))
  placed_there before (y ∷ os) o apart (inr there) is =
      later_placed before y o os (another y.declaration os o apart.0 there) (placed_there (before + length (words_in p i y)) os o apart.1 there is)

  -- each place is that of an object
  pub record Found (before : ℕ) (os : List LibraryObject) (x : LibraryPlace) : Type 0 where
    pub object : LibraryObject
    pub among : Somewhere (λ o. o ≡ object) os
    pub is_there : stands p i object ≡ true
    pub behind : ℕ
    pub is : x ≡ placed_at behind object
    pub found : place_among object.declaration (places_from p i before os) ≡ Some x

  later_found : (before : ℕ) (y : LibraryObject) (os : List LibraryObject) (x : LibraryPlace) → Everywhere (λ e. y.declaration ≡ e → ⊥) (declarations os)
      → Found (before + length (words_in p i y)) os x → Found before (y ∷ os) x
  later_found before y os x others r =
      let rest = places_from p i (before + length (words_in p i y)) os in
      record {
        object = r.object;
        among = inr r.among;
        is_there = r.is_there;
        behind = r.behind;
        is = r.is;
        found = place_later (stands p i y) (placed_at before y) r.object.declaration rest (another y.declaration os r.object others r.among) ∙ r.found;
      }

  pub each_found : (before : ℕ) (os : List LibraryObject) → AreDistinct (declarations os) → Everywhere (Found before os) (places_from p i before os)
  each_found before [] apart = tt
  each_found before (y ∷ os) apart =
      let rest = places_from p i (before + length (words_in p i y)) os in
      each_joined (Found before (y ∷ os)) (place_in p i before y) rest (first (stands p i y) refl)
      (each_implied (Found (before + length (words_in p i y)) os) (Found before (y ∷ os)) rest (λ x r. later_found before y os x apart.0 r)
      (each_found (before + length (words_in p i y)) os apart.1))
    where
      first : (t : Bool) → stands p i y ≡ t → Everywhere (Found before (y ∷ os)) (if t then placed_at before y ∷ [] else [])
      first true is = (
        record {
          object = y;
          among = inl refl;
          is_there = is;
          behind = before;
          is = refl;
          found = place_first (stands p i y) (placed_at before y) (places_from p i (before + length (words_in p i y)) os) is;
        },
        tt,
      )
      first false is = tt

module _ (p : Program) where
  -- the places and the words of an instance, behind so many
  record RowIn (count j before k i : ℕ) : Type 0 where
    skipped : ℕ
    at : slice_get (places_of_instances p count j before) k ≡ Some (places_from p i (before + skipped) p.objects)
    few : skipped + length (all_words_in p i p.objects) ≤ length (words_of_instances p count j)
    words : (n w : ℕ) → slice_get (all_words_in p i p.objects) n ≡ Some w → slice_get (words_of_instances p count j) (skipped + n) ≡ Some w

  row_in : (count j before k i : ℕ) → k < count → i ≡ j + k → RowIn count j before k i
  row_in zero j before k i less is = absurd (omega (arith, less))
  row_in (suc count) j before zero i less is =
      let e : j ≡ i = omega (arith, is) in
      let same : before ≡ before + 0 = omega arith in
      subst (λ m. RowIn (suc count) j before 0 m) e (record {
        skipped = 0;
        at = ap (λ (n : ℕ). Some (places_from p j n p.objects)) same;
        few = omega (arith, length-append (all_words_in p j p.objects) (words_of_instances p count (j + 1)));
        words = λ n w has. let f : n ≡ 0 + n = omega arith in
            subst (λ m. slice_get (all_words_in p j p.objects ++ words_of_instances p count (j + 1)) m ≡ Some w) f
            (get_front (all_words_in p j p.objects) (words_of_instances p count (j + 1)) n w has);
      })
  row_in (suc count) j before (suc k) i less is =
      let here = all_words_in p j p.objects in
      let r = row_in count (j + 1) (before + length here) k i (omega (arith, less)) (omega (arith, is)) in
      let same : before + length here + r.skipped ≡ before + (length here + r.skipped) = omega arith in
      record {
        skipped = length here + r.skipped;
        at = r.at ∙ ap (λ (n : ℕ). Some (places_from p i n p.objects)) same;
        few = omega (arith, length-append here (words_of_instances p count (j + 1)), r.few);
        words = λ n w has. get_behind here (words_of_instances p count (j + 1)) (r.skipped + n) (length here + r.skipped + n) (omega arith) ∙ r.words n w has;
      }

  pub record Row (i : ℕ) : Type 0 where
    pub before : ℕ
    pub at : slice_get (library_places p) i ≡ Some (places_from p i before p.objects)
    pub few : before + length (all_words_in p i p.objects) ≤ length (library_words p)
    pub words : (n w : ℕ) → slice_get (all_words_in p i p.objects) n ≡ Some w → slice_get (library_words p) (before + n) ≡ Some w

  pub row_of : (i : ℕ) → i < length p.instances + 1 → Row i
  row_of i less =
      let r = row_in (length p.instances + 1) 0 0 i i less (omega arith) in
      let same : 0 + r.skipped ≡ r.skipped = omega arith in
      record { before = r.skipped; at = r.at ∙ ap (λ (n : ℕ). Some (places_from p i n p.objects)) same; few = r.few; words = r.words }

  -- the address of what is found in an instance
  pub address_found : (i d : ℕ) (r : Row i) (x : LibraryPlace) → place_among d (places_from p i r.before p.objects) ≡ Some x
      → address_in p i d ≡ data_word + x.word
  address_found i d r x found =
      ap (λ (o : Option (List LibraryPlace)). data_word + unwrap_or (option_map (λ (y : LibraryPlace). y.word) (place_among d (unwrap_or o []))) 0) r.at
      ∙ ap (λ (o : Option LibraryPlace). data_word + unwrap_or (option_map (λ (y : LibraryPlace). y.word) o) 0) found
