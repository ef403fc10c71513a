-- The instances of a legal program, in the order of the text, stand beside their facts.
use Rattle.std.proofs.Common.{◌≡◌, ◌≤◌, ◌<◌, ◌+◌, ℕ, zero, suc, pred, nat_eq, Bool, true, false, if◌then◌else◌, List, [], ◌∷◌, length, reverse, Some, slice_get, refl, sym, ap, ◌∙◌, subst, arith, inl, inr}
use Rattle.std.specs.List.{sum_by}
use Rattle.std.proofs.lemmas.List.Sums.{sum_by-cons}
use Rattle.std.proofs.lemmas.Bool.{eqb-true, eq-eqb, false≢true}
use Rattle.cov_base.specs.Lists.{Everywhere}
use Rattle.cov_base.specs.TextOrder.{precedes}
use Rattle.ada_syntax.specs.declared.unit.LibraryItem.{LibraryItem}
use Rattle.ada_syntax.specs.declared.unit.LibraryItem.TheVariants as library
use Rattle.ada_syntax.specs.declared.unit.Unit.{Unit as LibraryUnit}
use Rattle.ada_meaning.specs.Obligations.{in_order}
use Rattle.ada_meaning.specs.Program.{Instance}
use Rattle.ada_rules.specs.Library.{is_instance, is_package_body, count_instances, instance_number, units_but_bodies}
use Rattle.ada_rules.specs.Statics.{Asked, Facts}
use Rattle.legal_laws.specs.Demanded.{IsMade}
use Rattle.legal_laws.proofs.ListedPrograms.{one_before}
use Rattle.legal_instances.specs.InOrder.{UnitsRise}
use Rattle.legal_instances.specs.Ordered.{HaveSameItems}
use Rattle.legal_instances.proofs.Cycles.{In}
use Rattle.legal_instances.proofs.InstanceNumbers.{next_number}
use Rattle.legal_instances.proofs.KeptInstances.{Matches, IsKept, AreKept}
use Rattle.legal_instances.proofs.KeptInterfaces.{StandOnce}
use Rattle.legal_instances.proofs.KeptWalk.{is_instance_there, with_instance_unit, instances_among}
use Rattle.legal_instances.proofs.SortedKeys.{AreKeyed, Ascend, one_order, sorted_keys, keyed_reversed, same_reversed}
use Rattle.legal_instances.proofs.Sums.{one_at, there_counts, counts_there, same_both}
use Rattle.legal_instances.proofs.WholeOrder.{none_some, or_else}

-- units but bodies rise
abbrev FromOn : ℕ → List ℕ → Type 0
FromOn k ns = Everywhere (λ n. k ≤ n) ns

from_less : (k : ℕ) (ns : List ℕ) → FromOn (k + 1) ns → FromOn k ns
from_less k [] h = tt
from_less k (n ∷ ns) h = let first = h.0 in (omega (arith, first), from_less k ns h.1)

units_from : (k : ℕ) (us : List LibraryUnit) → FromOn k (units_but_bodies k us)
units_from k [] = tt
units_from k (u ∷ us) = by_test (is_package_body u.item) (units_from (k + 1) us)
  where
    by_test : (b : Bool) → FromOn (k + 1) (units_but_bodies (k + 1) us) → FromOn k (if b then units_but_bodies (k + 1) us else k ∷ units_but_bodies (k + 1) us)
    by_test true h = from_less k (units_but_bodies (k + 1) us) h
    by_test false h = (omega (arith), from_less k (units_but_bodies (k + 1) us) h)

not_below : (k n : ℕ) (ns : List ℕ) → FromOn (k + 1) ns → n ≤ k → In ns n → ⊥
not_below k n [] h low there = there
not_below k n (m ∷ ns) h low (inl e) = impossible m n k h.0 e low
  where
    impossible : (a b c : ℕ) → c + 1 ≤ a → a ≡ b → b ≤ c → ⊥
    impossible a b c f g l = omega (arith, f, g, l)
not_below k n (m ∷ ns) h low (inr there) = not_below k n ns h.1 low there

pub units_once : (k : ℕ) (us : List LibraryUnit) → StandOnce (units_but_bodies k us)
units_once k [] = tt
units_once k (u ∷ us) = by_test (is_package_body u.item) (units_once (k + 1) us)
  where
    by_test : (b : Bool) → StandOnce (units_but_bodies (k + 1) us) → StandOnce (if b then units_but_bodies (k + 1) us else k ∷ units_but_bodies (k + 1) us)
    by_test true h = h
    by_test false h = (not_below k k (units_but_bodies (k + 1) us) (units_from (k + 1) us) (omega (arith)), h)

-- what stands once in a list stands once in one with the same items
once_counts : (n : ℕ) (ns : List ℕ) → StandOnce ns → sum_by (one_at n) ns ≤ 1
once_counts n [] h = omega (arith)
once_counts n (m ∷ ns) h = by_test (nat_eq m n) refl (once_counts n ns h.1)
  where
    none_more : m ≡ n → sum_by (one_at n) ns ≡ 0
    none_more e = of_none (sum_by (one_at n) ns) (λ k. h.0 (subst (In ns) (sym e) (counts_there n ns k)))
      where
        of_none : (c : ℕ) → (1 ≤ c → ⊥) → c ≡ 0
        of_none zero g = refl
        of_none (suc c) g = absurd (g (omega (arith)))

    by_test : (b : Bool) → nat_eq m n ≡ b → sum_by (one_at n) ns ≤ 1 → sum_by (one_at n) (m ∷ ns) ≤ 1
    by_test true e rest =
        let first = sum_by-cons (one_at n) m ns in
        let one : one_at n m ≡ 1 = ap (λ b. if b then 1 else 0) e in
        let none = none_more (eqb-true m n e) in
        omega (arith, first, one, none)
    by_test false e rest =
        let first = sum_by-cons (one_at n) m ns in
        let none : one_at n m ≡ 0 = ap (λ b. if b then 1 else 0) e in
        omega (arith, first, none, rest)

counts_once : (ns : List ℕ) → ((n : ℕ) → sum_by (one_at n) ns ≤ 1) → StandOnce ns
counts_once [] h = tt
counts_once (m ∷ ns) h = (λ there. twice there, counts_once ns (λ n. fewer n))
  where
    twice : In ns m → ⊥
    twice there =
        let first = sum_by-cons (one_at m) m ns in
        let one : one_at m m ≡ 1 = ap (λ b. if b then 1 else 0) (eq-eqb m m refl) in
        let more = there_counts m ns there in
        let all = h m in
        impossible (sum_by (one_at m) (m ∷ ns)) (one_at m m) (sum_by (one_at m) ns) first one more all
      where
        impossible : (a b c : ℕ) → a ≡ b + c → b ≡ 1 → 1 ≤ c → a ≤ 1 → ⊥
        impossible a b c e f g l = omega (arith, e, f, g, l)

    fewer : (n : ℕ) → sum_by (one_at n) ns ≤ 1
    fewer n =
        let first = sum_by-cons (one_at n) m ns in
        let all = h n in
        omega (arith, first, all)

pub same_once : (ns ms : List ℕ) → HaveSameItems ns ms → StandOnce ns → StandOnce ms
same_once ns ms same h = counts_once ms (λ n. subst (λ c. c ≤ 1) (same (one_at n)) (once_counts n ns h))

-- instances among units with the same items
module _ (us : List LibraryUnit) where
  abbrev chosen : (ℕ → ℕ) → ℕ → ℕ
  chosen weight n = if is_instance_there (slice_get us n) then weight n else 0

  sum_chosen : (weight : ℕ → ℕ) (ns : List ℕ) → sum_by weight (instances_among us ns) ≡ sum_by (chosen weight) ns
  sum_chosen weight [] = refl
  sum_chosen weight (n ∷ ns) = by_test (is_instance_there (slice_get us n)) refl (sum_chosen weight ns)
    where
      by_test : (b : Bool) → is_instance_there (slice_get us n) ≡ b → sum_by weight (instances_among us ns) ≡ sum_by (chosen weight) ns
          → sum_by weight (with_instance_unit n b (instances_among us ns)) ≡ sum_by (chosen weight) (n ∷ ns)
      by_test true e rest =
          let first = sum_by-cons weight n (instances_among us ns) in
          let there = sum_by-cons (chosen weight) n ns in
          let own : chosen weight n ≡ weight n = ap (λ b. if b then weight n else 0) e in
          omega (arith, first, there, own, rest)
      by_test false e rest =
          let there = sum_by-cons (chosen weight) n ns in
          let own : chosen weight n ≡ 0 = ap (λ b. if b then weight n else 0) e in
          omega (arith, there, own, rest)

  pub same_chosen : (ns ms : List ℕ) → HaveSameItems ns ms → HaveSameItems (instances_among us ns) (instances_among us ms)
  same_chosen ns ms same weight = sum_chosen weight ns ∙ (same (chosen weight) ∙ sym (sum_chosen weight ms))

  among_from : (k : ℕ) (ns : List ℕ) → FromOn k ns → FromOn k (instances_among us ns)
  among_from k [] h = tt
  among_from k (n ∷ ns) h = by_test (is_instance_there (slice_get us n)) (among_from k ns h.1)
    where
      by_test : (b : Bool) → FromOn k (instances_among us ns) → FromOn k (with_instance_unit n b (instances_among us ns))
      by_test true g = (h.0, g)
      by_test false g = g

  low_of : (k : ℕ) (ns : List ℕ) → FromOn (k + 1) ns → Ascend ns → Ascend (k ∷ ns)
  low_of k [] h up = (tt, tt)
  low_of k (n ∷ ns) h up = let first = h.0 in (omega (arith, first), up)

  among_ascend : (k : ℕ) (vs : List LibraryUnit) → Ascend (instances_among us (units_but_bodies k vs))
  among_ascend k [] = tt
  among_ascend k (v ∷ vs) = by_body (is_package_body v.item) (among_ascend (k + 1) vs)
    where
      by_instance : (b : Bool) → Ascend (instances_among us (units_but_bodies (k + 1) vs))
          → Ascend (with_instance_unit k b (instances_among us (units_but_bodies (k + 1) vs)))
      by_instance true h =
          low_of k (instances_among us (units_but_bodies (k + 1) vs)) (among_from (k + 1) (units_but_bodies (k + 1) vs) (units_from (k + 1) vs)) h
      by_instance false h = h

      by_body : (b : Bool) → Ascend (instances_among us (units_but_bodies (k + 1) vs))
          → Ascend (instances_among us (if b then units_but_bodies (k + 1) vs else k ∷ units_but_bodies (k + 1) vs))
      by_body true h = h
      by_body false h = by_instance (is_instance_there (slice_get us k)) h

-- places of units rise with their numbers
everywhere_at : {X : Type 0} (P : X → Type 0) (xs : List X) (n : ℕ) (x : X) → Everywhere P xs → slice_get xs n ≡ Some x → P x
everywhere_at P [] zero x h there = absurd (none_some there)
everywhere_at P [] (suc n) x h there = absurd (none_some there)
everywhere_at P (y ∷ xs) zero x h there = subst P (ap (or_else y) there) h.0
everywhere_at P (y ∷ xs) (suc n) x h there = everywhere_at P xs n x h.1 there

pub places_rise : (us : List LibraryUnit) (n m : ℕ) (u v : LibraryUnit) → UnitsRise us → n < m → slice_get us n ≡ Some u → slice_get us m ≡ Some v
    → precedes u.item_pos v.item_pos ≡ true
places_rise us n zero u v rise less h k = absurd (none less)
  where
    none : n < 0 → ⊥
    none l = omega (arith, l)
places_rise [] zero (suc m) u v rise less h k = absurd (none_some h)
places_rise [] (suc n) (suc m) u v rise less h k = absurd (none_some h)
places_rise (w ∷ us) zero (suc m) u v rise less h k =
    subst (λ x. precedes x.item_pos v.item_pos ≡ true) (ap (or_else w) h) (everywhere_at (λ x. precedes w.item_pos x.item_pos ≡ true) us m v rise.0 k)
places_rise (w ∷ us) (suc n) (suc m) u v rise less h k = places_rise us n m u v rise.1 (omega (arith, less)) h k

-- instances beside their facts in order, the first of which has the number behind k
pub record IsBeside (demands : List Asked) (k : ℕ) (i : Instance) (f : Facts) : Type 0 where
  pub matches : Matches i f
  pub made : IsMade f.generic (k + 1) demands

abbrev pub AreBeside : List Asked → ℕ → List Instance → List Facts → Type 0
AreBeside demands k [] [] = Unit {0}
AreBeside demands k (i ∷ is) (f ∷ fs) = IsBeside demands k i f × AreBeside demands (k + 1) is fs
AreBeside demands k is fs = ⊥

module _ (us : List LibraryUnit) (rise : UnitsRise us) (facts : List Facts) (demands : List Asked) where
  abbrev Kept : Instance → ℕ → Type 0
  Kept i n = IsKept us facts demands i n

  abbrev stands_before : Instance → Instance → Bool
  stands_before a b = precedes a.place b.place

  or_more : (n m : ℕ) → (n < m → ⊥) → m ≤ n
  or_more n zero h = omega (arith)
  or_more zero (suc m) h = absurd (h (omega (arith)))
  or_more (suc n) (suc m) h = let rest = or_more n m (λ l. h (omega (arith, l))) in omega (arith, rest)

  comes_first : (x y : Instance) (n m : ℕ) → Kept x n → Kept y m → n < m → stands_before x y ≡ true
  comes_first x y n m h k less =
      subst (λ q. precedes x.place q ≡ true) (sym k.place)
      (subst (λ q. precedes q k.at.unit.item_pos ≡ true) (sym h.place) (places_rise us n m h.at.unit k.at.unit rise less h.at.there k.at.there))

  keys_less : (x y : Instance) (n m : ℕ) → Kept x n → Kept y m → stands_before y x ≡ true → m ≤ n
  keys_less x y n m h k before =
      or_more n m (λ less. false≢true (sym (one_before y.place x.place before) ∙ comes_first x y n m h k less))

  keys_not_less : (x y : Instance) (n m : ℕ) → Kept x n → Kept y m → stands_before y x ≡ false → n ≤ m
  keys_not_less x y n m h k behind = or_more m n (λ less. false≢true (sym behind ∙ comes_first y x m n k h less))

  keyed_of : (is : List Instance) (ns : List ℕ) → AreKept us facts demands is ns → AreKeyed Kept is ns
  keyed_of [] [] h = tt
  keyed_of [] (n ∷ ns) h = h
  keyed_of (i ∷ is) [] h = h
  keyed_of (i ∷ is) (n ∷ ns) h = (h.0, keyed_of is ns h.1)

  -- in the order of the text
  pub in_text : (is : List Instance) (ns : List ℕ) → AreKept us facts demands is ns → HaveSameItems ns (instances_among us (units_but_bodies 0 us))
      → AreKeyed Kept (in_order stands_before (reverse is)) (instances_among us (units_but_bodies 0 us))
  in_text is ns h same =
      let sorted = sorted_keys Kept stands_before keys_less keys_not_less (reverse is) (reverse ns) (keyed_reversed Kept is ns (keyed_of is ns h)) in
      subst (AreKeyed Kept (in_order stands_before (reverse is)))
      (one_order sorted.keys (instances_among us (units_but_bodies 0 us)) sorted.up (among_ascend us 0 us)
      (same_both sorted.keys (reverse ns) (instances_among us (units_but_bodies 0 us)) sorted.same
      (same_both (reverse ns) ns (instances_among us (units_but_bodies 0 us)) (same_reversed ns) same)))
      sorted.keyed

  abbrev pub AreFrom : ℕ → List LibraryUnit → Type 0
  AreFrom k vs = (j : ℕ) → slice_get us (k + j) ≡ slice_get vs j

  abbrev FactsFrom : ℕ → List Facts → Type 0
  FactsFrom c fs = (j : ℕ) → slice_get facts (c + j) ≡ slice_get fs j

  pub from_next : (k : ℕ) (v : LibraryUnit) (vs : List LibraryUnit) → AreFrom k (v ∷ vs) → AreFrom (k + 1) vs
  from_next k v vs h j = let count : (k + 1) + j ≡ k + suc j = omega (arith) in ap (slice_get us) count ∙ h (suc j)

  facts_next : (c : ℕ) (f : Facts) (fs : List Facts) → FactsFrom c (f ∷ fs) → FactsFrom (c + 1) fs
  facts_next c f fs h j = let count : (c + 1) + j ≡ c + suc j = omega (arith) in ap (slice_get facts) count ∙ h (suc j)

  pub unit_here : (k : ℕ) (v : LibraryUnit) (vs : List LibraryUnit) → AreFrom k (v ∷ vs) → slice_get us k ≡ Some v
  unit_here k v vs h = let none : k ≡ k + 0 = omega (arith) in ap (slice_get us) none ∙ h 0

  no_more : (fs : List Facts) → length fs ≡ 0 → fs ≡ []
  no_more [] e = refl
  no_more (f ∷ fs) e = absurd (some e)
    where
      some : length (f ∷ fs) ≡ 0 → ⊥
      some g = omega (arith, g)

  -- the first instance of those that are left, and its facts
  beside_first : (c n : ℕ) (i : Instance) (f : Facts) (fs : List Facts) → Kept i n → instance_number n us ≡ c + 1 → FactsFrom c (f ∷ fs) → IsBeside demands c i f
  beside_first c n i f fs h number from =
      let index : pred (instance_number n us) ≡ c + 0 = pred_of (instance_number n us) c number in
      let same : h.has ≡ f = ap (or_else f) (sym h.there ∙ (ap (slice_get facts) index ∙ from 0)) in
      record {
        matches = subst (Matches i) same h.matches;
        made = subst (λ g. IsMade g.generic (c + 1) demands) same (subst (λ m. IsMade h.has.generic m demands) number h.made);
      }
    where
      pred_of : (a b : ℕ) → a ≡ b + 1 → pred a ≡ b + 0
      pred_of zero b e = absurd (none e)
        where
          none : 0 ≡ b + 1 → ⊥
          none g = omega (arith, g)
      pred_of (suc a) b e = omega (arith, e)

  pub instance_no_body : (i : LibraryItem) → is_instance i ≡ true → is_package_body i ≡ false
  instance_no_body (library.Package x) h = refl
  instance_no_body (library.PackageBody x) h = absurd (false≢true h)
  instance_no_body (library.Instance x) h = refl
  instance_no_body (library.Subprogram x) h = refl

  pub beside : (k c : ℕ) (vs : List LibraryUnit) (is : List Instance) (fs : List Facts) → AreFrom k vs → instance_number k us ≡ c + 1 → length fs ≡ count_instances vs
      → FactsFrom c fs → AreKeyed Kept is (instances_among us (units_but_bodies k vs)) → AreBeside demands c is fs
  beside k c [] [] [] units number count from keyed = tt
  beside k c [] [] (f ∷ fs) units number count from keyed = absurd (some count)
    where
      some : length (f ∷ fs) ≡ 0 → ⊥
      some g = omega (arith, g)
  beside k c [] (i ∷ is) fs units number count from keyed = absurd keyed
  beside k c (v ∷ vs) is fs units number count from keyed =
      by_instance (is_instance v.item) refl (λ d js gs. beside (k + 1) d vs js gs (from_next k v vs units))
    where
      rest_keys : List ℕ
      rest_keys = instances_among us (units_but_bodies (k + 1) vs)

      keys_are : (b d : Bool) → is_instance v.item ≡ b → is_package_body v.item ≡ d → (b ≡ true → d ≡ false)
          → instances_among us (if d then units_but_bodies (k + 1) vs else k ∷ units_but_bodies (k + 1) vs) ≡ with_instance_unit k b rest_keys
      keys_are true true e f g = absurd (false≢true (sym (g refl)))
      keys_are false true e f g = refl
      keys_are b false e f g =
          ap (λ x. with_instance_unit k x rest_keys) (ap is_instance_there (unit_here k v vs units) ∙ e)

      own_keys : (b : Bool) → is_instance v.item ≡ b → AreKeyed Kept is (with_instance_unit k b rest_keys)
      own_keys b e =
          subst (AreKeyed Kept is)
          (keys_are b (is_package_body v.item) e refl (λ f. instance_no_body v.item (e ∙ f))) keyed

      number_is : (suc k ≡ k + 1) → instance_number (k + 1) us ≡ (if is_instance v.item then instance_number k us + 1 else instance_number k us)
      number_is e = ap (λ m. instance_number m us) (sym e) ∙ next_number us k v (unit_here k v vs units)

      one_more : suc k ≡ k + 1
      one_more = omega (arith)

      with_first : (js : List Instance) (gs : List Facts) → is_instance v.item ≡ true → AreKeyed Kept js (k ∷ rest_keys) → length gs ≡ count_instances vs + 1 → FactsFrom c gs
          → ((d : ℕ) (js : List Instance) (gs : List Facts) → instance_number (k + 1) us ≡ d + 1 → length gs ≡ count_instances vs → FactsFrom d gs → AreKeyed Kept js rest_keys
          → AreBeside demands d js gs) → AreBeside demands c js gs
      with_first [] gs e h count from later = absurd h
      with_first (j ∷ js) [] e h count from later = absurd (none count)
        where
          none : length {A = Facts} [] ≡ count_instances vs + 1 → ⊥
          none g = omega (arith, g)
      with_first (j ∷ js) (g ∷ gs) e h count from later = (
        beside_first c k j g gs h.0 number from,
        later (c + 1) js gs (number_is one_more ∙ (ap (λ b. if b then instance_number k us + 1 else instance_number k us) e ∙ ap (λ m. m + 1) number))
            (omega (arith, count)) (facts_next c g gs from) h.1,
      )

      by_instance : (b : Bool) → is_instance v.item ≡ b
          → ((d : ℕ) (js : List Instance) (gs : List Facts) → instance_number (k + 1) us ≡ d + 1 → length gs ≡ count_instances vs → FactsFrom d gs → AreKeyed Kept js rest_keys
          → AreBeside demands d js gs) → AreBeside demands c is fs
      by_instance true e later =
          with_first is fs e (own_keys true e) (count ∙ ap (λ b. if b then count_instances vs + 1 else count_instances vs) e) from later
      by_instance false e later =
          later c is fs (number_is one_more ∙ (ap (λ b. if b then instance_number k us + 1 else instance_number k us) e ∙ number))
          (count ∙ ap (λ b. if b then count_instances vs + 1 else count_instances vs) e) from (own_keys false e)
