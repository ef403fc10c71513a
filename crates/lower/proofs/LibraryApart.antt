-- The objects of the library level stand behind one another, below a word.
use Rattle.std.proofs.Common.{◌≡◌, ◌≢◌, ℕ, zero, suc, ◌+◌, ◌*◌, ◌^◌, ◌<◌, ◌≤◌, inl, inr, nat_eq, Bool, true, false, ◌&&◌, List, [], ◌∷◌, ◌++◌, length, map, refl, sym, ap, ◌∙◌, subst, arith}
use Rattle.std.specs.Prelude.{if◌then◌else◌}
use Rattle.std.proofs.lemmas.List.{length-append}
use Rattle.cov_base.specs.Lists.{Everywhere, Somewhere}
use Rattle.ada_meaning.specs.Bodies.{StandsIn, instances_of}
use Rattle.ada_meaning.specs.Objects.{AreDistinct}
use Rattle.ada_meaning.specs.Resolved.{shape_in}
use Rattle.ada_meaning.specs.State.{Place}
use Rattle.ada_meaning.specs.WellFormed.{IsInitial, IsLibraryObject, IsType, IsWellFormed}
use Rattle.ada_meaning.proofs.BodyLaws.{instances_listed}
use Rattle.ada_tree.specs.declared.program.LibraryObject.{LibraryObject}
use Rattle.ada_tree.specs.declared.program.Program.{Program}
use Rattle.ada_tree.specs.Programs.{initial_of, program_of}
use Rattle.ada_resolved.specs.Forms.{named_type, shape_of}
use Rattle.ada_resolved.specs.Library.{program_size}
use Rattle.ada_resolved.specs.Sizes.{words}
use Rattle.kernel_ir.specs.Limits.{most_words, widest}
use Rattle.kernel_ir.specs.World.{area_end, data_word}
use Rattle.statement_code.specs.Objects.{AllApart, Standing, StandApart, same_object}
use Rattle.statement_code.specs.Programs.{IsLibrary}
use Rattle.statement_code.proofs.Formed.{type_words}
use Rattle.storage_layout.specs.Initial.{first_of, initial_words}
use Rattle.storage_layout.specs.Library.{place_in, words_in, places_from, all_words_in, places_of_instances, words_of_instances, library_words}
use Rattle.lower.specs.Schemes.{library_standings, standing_of, standings}
use Rattle.lower.specs.Standing.{IsSized}
use Rattle.lower.proofs.LibraryObjects.{declared_once, each_among, library_object, one_of, some_implied, some_mapped}
use Rattle.lower.proofs.LibraryPlaces.{declarations, each_implied, each_joined, placed_at, unequal}
use Rattle.lower.proofs.LibrarySizes.{IsSizedIn, SizedLibrary, library_sized, stands, stands_if, words_length}
use Rattle.lower.proofs.Types.{meant, named_shape}

-- an object that stands between two words of the data, whose place is one of these
record Between (Here : Place → Type 0) (low high : ℕ) (s : Standing) : Type 0 where
  here : Here s.place
  outside : s.place.frame ≡ 0
  above : data_word + low ≤ s.address
  below : s.address + words s.shape ≤ data_word + high
  some : 1 ≤ words s.shape

-- objects of which each two are apart
record AreLaid (Here : Place → Type 0) (low high : ℕ) (os : List Standing) : Type 0 where
  apart : AllApart os
  inside : Everywhere (Between Here low high) os

widened : (Here There : Place → Type 0) (low low_there high high_there : ℕ) → ((q : Place) → Here q → There q) → low_there ≤ low → high ≤ high_there → (s : Standing)
    → Between Here low high s → Between There low_there high_there s
widened Here There low low_there high high_there f up down s b =
    record { here = f s.place b.here; outside = b.outside; above = omega (arith, b.above, up); below = omega (arith, b.below, down); some = b.some }

apart_from : (Here There : Place → Type 0) (low mid high : ℕ) → ((q r : Place) → Here q → There r → same_object q r ≡ false) → (xs ys : List Standing)
    → AllApart xs → Everywhere (Between Here low mid) xs → AllApart ys → Everywhere (Between There mid high) ys → AllApart (xs ++ ys)
apart_from Here There low mid high differ [] ys apart inside behind there = behind
apart_from Here There low mid high differ (x ∷ xs) ys apart inside behind there = (
  each_joined (StandApart x) xs ys apart.0
      (each_implied (Between There mid high) (StandApart x) ys (λ y b. (differ x.place y.place inside.0.here b.here, inl (omega (arith, inside.0.below, b.above)))) there),
  apart_from Here There low mid high differ xs ys apart.1 inside.1 behind there,
)

-- objects behind others
laid_behind : (Here There All : Place → Type 0) (low mid high : ℕ) → low ≤ mid → mid ≤ high → ((q r : Place) → Here q → There r → same_object q r ≡ false)
    → ((q : Place) → Here q → All q) → ((q : Place) → There q → All q) → (xs ys : List Standing) → AreLaid Here low mid xs → AreLaid There mid high ys → AreLaid All low high (xs ++ ys)
laid_behind Here There All low mid high up more differ f g xs ys front behind = record {
  apart = apart_from Here There low mid high differ xs ys front.apart front.inside behind.apart behind.inside;
  inside = each_joined (Between All low high) xs ys
      (each_implied (Between Here low mid) (Between All low high) xs (widened Here All low low mid high f (omega arith) more) front.inside)
      (each_implied (Between There mid high) (Between All low high) ys (widened There All mid low high high g up (omega arith)) behind.inside);
}

-- objects of other declarations, and of other instances, are others
false_behind : (b : Bool) → (b && false) ≡ false
false_behind true = refl
false_behind false = refl

false_between : (b c : Bool) → (b && false && c) ≡ false
false_between true c = refl
false_between false c = refl

other_declaration : (q r : Place) → q.declaration ≢ r.declaration → same_object q r ≡ false
other_declaration q r other =
    ap (λ (b : Bool). nat_eq q.frame r.frame && nat_eq q.instance r.instance && b) (unequal q.declaration r.declaration other)
    ∙ false_behind (nat_eq q.frame r.frame && nat_eq q.instance r.instance)

other_instance : (q r : Place) → q.instance ≢ r.instance → same_object q r ≡ false
other_instance q r other =
    ap (λ (b : Bool). nat_eq q.frame r.frame && b && nat_eq q.declaration r.declaration) (unequal q.instance r.instance other)
    ∙ false_between (nat_eq q.frame r.frame) (nat_eq q.declaration r.declaration)

map_joined : {X Y : Type 0} (f : X → Y) (xs ys : List X) → map f (xs ++ ys) ≡ map f xs ++ map f ys
map_joined f [] ys = refl
map_joined f (x ∷ xs) ys = ap (λ zs. f x ∷ zs) (map_joined f xs ys)

-- a number that is none of a list is not one of it
none_of : (d e : ℕ) (ds : List ℕ) → Everywhere (λ x. d ≡ x → ⊥) ds → Somewhere (λ x. x ≡ e) ds → d ≢ e
none_of d e [] others there = absurd there
none_of d e (x ∷ ds) others (inl is) = λ same. others.0 (same ∙ sym is)
none_of d e (x ∷ ds) others (inr there) = none_of d e ds others.1 there

module _ (p : Program) where
  -- an object has a word where it stands
  abbrev pub TakesWords : (inst : ℕ) → LibraryObject → Type 0
  TakesWords i o = stands p i o ≡ true → 1 ≤ words (shape_of p (named_type p i o.subtype))

  module _ (i : ℕ) where
    abbrev IsOf : (declaration : ℕ) → Place → Type 0
    IsOf d q = (q.instance ≡ i) × (q.declaration ≡ d)

    abbrev IsAmong : List LibraryObject → Place → Type 0
    IsAmong os q = (q.instance ≡ i) × Somewhere (λ d. d ≡ q.declaration) (declarations os)

    one_laid : (before : ℕ) (o : LibraryObject) → before < 2 ^ 32 → TakesWords i o
        → AreLaid (IsOf o.declaration) before (before + length (words_in p i o)) (map (standing_of p i) (place_in p i before o))
    one_laid before o low takes = by_test (stands p i o) refl
      where
        by_test : (b : Bool) → stands p i o ≡ b
            → AreLaid (IsOf o.declaration) before (before + length (if b then initial_words (shape_of p (named_type p i o.subtype)) (first_of p i o.initial) else []))
            (map (standing_of p i) (if b then placed_at p i before o ∷ [] else []))
        by_test true is = record {
          apart = (tt, tt);
          inside = (
            record {
              here = (refl, refl);
              outside = refl;
              above = omega (arith, low);
              below = omega (arith, words_length p i (shape_of p (named_type p i o.subtype)) o.initial);
              some = takes is;
            },
            tt,
          );
        }
        by_test false is = record { apart = tt; inside = tt }

    row_laid : (before : ℕ) (os : List LibraryObject) → before + length (all_words_in p i os) < 2 ^ 32 → AreDistinct (declarations os) → Everywhere (TakesWords i) os
        → AreLaid (IsAmong os) before (before + length (all_words_in p i os)) (map (standing_of p i) (places_from p i before os))
    row_laid before [] low apart takes = record { apart = tt; inside = tt }
    row_laid before (o ∷ os) low apart takes =
        let mid = before + length (words_in p i o) in
        let sum = length-append (words_in p i o) (all_words_in p i os) in
        let last : mid + length (all_words_in p i os) ≡ before + length (all_words_in p i (o ∷ os)) = omega (arith, sum) in
        subst (λ ss. AreLaid (IsAmong (o ∷ os)) before (before + length (all_words_in p i (o ∷ os))) ss)
        (sym (map_joined (standing_of p i) (place_in p i before o) (places_from p i mid os)))
        (laid_behind (IsOf o.declaration) (IsAmong os) (IsAmong (o ∷ os)) before mid (before + length (all_words_in p i (o ∷ os))) (omega arith) (omega (arith, last))
        (λ q r here there. other_declaration q r (λ same. none_of o.declaration r.declaration (declarations os) apart.0 there.1 (sym here.1 ∙ same)))
        (λ q here. (here.0, inl (sym here.1))) (λ q there. (there.0, inr there.1))
        (map (standing_of p i) (place_in p i before o)) (map (standing_of p i) (places_from p i mid os))
        (one_laid before o (omega (arith, low)) takes.0)
        (subst (λ (high : ℕ). AreLaid (IsAmong os) mid high (map (standing_of p i) (places_from p i mid os))) last
        (row_laid mid os (omega (arith, low, last)) apart.1 takes.1)))

  abbrev IsFrom : (inst : ℕ) → Place → Type 0
  IsFrom i q = i ≤ q.instance

  rows_laid : (count i before : ℕ) → before + length (words_of_instances p count i) < 2 ^ 32 → AreDistinct (declarations p.objects)
      → ((k : ℕ) → k < count → Everywhere (TakesWords (i + k)) p.objects)
      → AreLaid (IsFrom i) before (before + length (words_of_instances p count i)) (standings p i (places_of_instances p count i before))
  rows_laid zero i before low apart takes = record { apart = tt; inside = tt }
  rows_laid (suc count) i before low apart takes =
      let mid = before + length (all_words_in p i p.objects) in
      let sum = length-append (all_words_in p i p.objects) (words_of_instances p count (i + 1)) in
      let last : mid + length (words_of_instances p count (i + 1)) ≡ before + length (words_of_instances p (suc count) i) = omega (arith, sum) in
      let next : i + 1 ≡ suc i = omega arith in
      let same : i + 0 ≡ i = omega arith in
      laid_behind (IsAmong i p.objects) (IsFrom (i + 1)) (IsFrom i) before mid (before + length (words_of_instances p (suc count) i)) (omega arith) (omega (arith, last))
      (λ q r here there. other_instance q r (λ same. absurd (omega (arith, here.0, there, same))))
      (λ q here. omega (arith, here.0)) (λ q there. omega (arith, there))
      (map (standing_of p i) (places_from p i before p.objects)) (standings p (suc i) (places_of_instances p count (i + 1) mid))
      (row_laid i before p.objects (omega (arith, low, last)) apart (subst (λ j. Everywhere (TakesWords j) p.objects) same (takes 0 (omega arith))))
      (subst (λ (j : ℕ). AreLaid (IsFrom (i + 1)) mid (before + length (words_of_instances p (suc count) i)) (standings p j (places_of_instances p count (i + 1) mid))) next
      (subst (λ (high : ℕ). AreLaid (IsFrom (i + 1)) mid high (standings p (i + 1) (places_of_instances p count (i + 1) mid))) last
      (rows_laid count (i + 1) mid (omega (arith, low, last)) apart
      (λ k less. let e : i + suc k ≡ i + 1 + k = omega arith in subst (λ j. Everywhere (TakesWords j) p.objects) e (takes (suc k) (omega (arith, less)))))))

  module _ (well : IsWellFormed (program_of p)) (has : IsSized (program_size (program_of p))) where
    abbrev sizes : SizedLibrary p
    sizes = library_sized p has

    -- the type and the initial value of an object in an instance
    pub object_formed : (o : LibraryObject) (i : ℕ) → Somewhere (λ x. x ≡ o) p.objects → StandsIn (program_of p) o.generic i
        → IsType (shape_in (program_of p) i (meant p o.subtype)) × IsInitial (program_of p) i (initial_of o.initial)
    object_formed o i among is =
        let there : Somewhere (λ x. x ≡ library_object p o) (map (library_object p) p.objects) =
        some_mapped (λ x. x ≡ library_object p o) (library_object p) p.objects
        (some_implied (λ x. x ≡ o) (λ x. library_object p x ≡ library_object p o) p.objects (λ x same. ap (library_object p) same) among) in
        one_of (λ j. IsType (shape_in (program_of p) j (meant p o.subtype)) × IsInitial (program_of p) j (initial_of o.initial))
        (instances_of o.generic (program_of p).instances) i
        (one_of (IsLibraryObject (program_of p)) (map (library_object p) p.objects) (library_object p o) well.library there)
        (instances_listed (program_of p) o.generic i is)

    takes_words : (i : ℕ) → i < length p.instances + 1 → Everywhere (TakesWords i) p.objects
    takes_words i less = each_among (TakesWords i) p.objects (λ o among test.
        let sized = one_of (IsSizedIn p i) p.objects o (sizes.sized i less) among test in
        subst (λ s. 1 ≤ words s) (sym (named_shape p i o.subtype sized))
        (type_words (shape_in (program_of p) i (meant p o.subtype)) (object_formed o i among (stands_if (program_of p) o.generic i test)).0))

    library_laid : AreLaid (IsFrom 0) 0 (0 + length (library_words p)) (library_standings p)
    library_laid =
        rows_laid (length p.instances + 1) 0 0 (omega (arith, sizes.few)) (declared_once p well)
        (λ k less. let same : k ≡ 0 + k = omega arith in subst (λ j. Everywhere (TakesWords j) p.objects) same (takes_words k less))

    pub apart_law : IsLibrary (library_standings p) (data_word + length (library_words p))
    apart_law = record {
      apart = library_laid.apart;
      outside = each_implied (Between (IsFrom 0) 0 (0 + length (library_words p)))
          (λ s. (s.place.frame ≡ 0) × ((data_word ≤ s.address) × (s.address + words s.shape ≤ data_word + length (library_words p)))) (library_standings p)
          (λ s b. (b.outside, (omega (arith, b.above), omega (arith, b.below)))) library_laid.inside;
    }

    -- each object is named by a word of the library level, and is no larger than a type may be
    pub library_law : Everywhere (λ s. (words s.shape ≤ most_words) × (s.address < data_word + length (library_words p))) (library_standings p)
    library_law =
        each_implied (Between (IsFrom 0) 0 (0 + length (library_words p))) (λ s. (words s.shape ≤ most_words) × (s.address < data_word + length (library_words p))) (library_standings p)
        (λ s b. (omega (arith, b.above, b.below, sizes.few), omega (arith, b.below, b.some))) library_laid.inside

    pub few_law : length (library_words p) ≤ most_words
    few_law = sizes.few

    pub above_law : data_word ≤ data_word + length (library_words p)
    above_law = omega arith

    -- all frames stand above the library level
    pub room_law : data_word + length (library_words p) + widest * 512 ≤ area_end
    room_law = omega (arith, sizes.few)
