-- The objects of the library level, in the instances in which they stand, have the words that are counted by units, a generic's at each of its instances.
use Rattle.std.proofs.Common.{◌≡◌, ◌≤◌, ◌<◌, ◌+◌, ℕ, zero, suc, nat_eq, Bool, true, false, if◌then◌else◌, List, [], ◌∷◌, ◌++◌, map, reverse, length, Option, Some, None, slice_get, refl, sym, ap, ◌∙◌, subst, arith, inl, inr}
use Rattle.std.specs.Prelude.{◌⊎◌, unwrap_or}
use Rattle.std.specs.Option.{option_and_then}
use Rattle.std.specs.List.{sum_by}
use mathlib.Core.List.{reverse-cons}
use Rattle.std.proofs.lemmas.Bool.{eqb-true, eq-eqb, false≢true}
use Rattle.std.proofs.lemmas.List.Sums.{sum_by-cons}
use Rattle.cov_base.specs.Lists.{Everywhere, Somewhere}
use Rattle.ada_syntax.specs.declared.unit.LibraryItem.{LibraryItem}
use Rattle.ada_syntax.specs.declared.unit.LibraryItem.TheVariants as library
use Rattle.ada_syntax.specs.declared.unit.Unit.{Unit as LibraryUnit}
use Rattle.ada_tree.specs.Weights.{in_instance, in_instances}
use Rattle.ada_tree.specs.declared.program.UnitEntry.{UnitEntry}
use Rattle.ada_meaning.specs.Bodies.{StandsIn}
use Rattle.ada_meaning.specs.Program.{Instance, LibraryObject, Program}
use Rattle.ada_meaning.specs.Types.{Subtype}
use Rattle.ada_resolved.specs.Library.{has_text, stands_in, program_size}
use Rattle.ada_rules.specs.Entities.{Actual, Standard, key}
use Rattle.ada_rules.specs.Environment.{typing, Interface, no_interface, package_interface, generic_interface, instance_interface, subprogram_interface, World, interface_of, UnitWords, State, beginning_state}
use Rattle.ada_rules.specs.Library.{Library, is_instance, is_package_body, count_instances, instance_number, unit_named, units_but_bodies, library_of}
use Rattle.ada_rules.specs.Limits.{words_in, sum_in, is_text_of, words_of_generic, own_words, words_of_unit, words_by, most_words_of_library}
use Rattle.ada_rules.specs.Statics.{Facts}
use Rattle.ada_rules.specs.Units.{is_generic_interface, all_interfaces, world_before}
use Rattle.legal_laws.specs.Bounded.{IsBounded}
use Rattle.legal_laws.specs.Valued.{HaveFacts}
use Rattle.legal_types.specs.legal_instances.specs.InOrder.{UnitsRise}
use Rattle.legal_types.specs.legal_instances.specs.Ordered.{IsWholeOrder}
use Rattle.legal_types.specs.legal_instances.proofs.InstanceNumbers.{next_number}
use Rattle.legal_types.specs.legal_instances.proofs.NumberedInstances.{made_numbered}
use Rattle.legal_programs.specs.Walked.{IsLegal}
use Rattle.legal_programs.proofs.Counted.{states_of}
use Rattle.legal_programs.proofs.Lists.{map_reversed}
use Rattle.legal_programs.proofs.Passed.{of_ok}
use Rattle.program_weights.specs.Entries.{text_role, role_by, role_of, entry_of, entries_from}
use Rattle.legal_types.specs.TextGenerics.{shown_in, text_generic}
use Rattle.legal_types.specs.TextGenerics.{generic_at as generic_of_package}
use Rattle.legal_counts.specs.LibraryWords.{words_at, words_of_instances, library_words, words_of_units, own_words_of_units, Standing, standing, all_standing, noted_words}
use Rattle.legal_counts.specs.Seen.{shown_of, package_of, IsOfText}
use Rattle.legal_counts.proofs.InstancesByGeneric.{instances_are}
use Rattle.legal_counts.proofs.ShownInterfaces.{all_right}
use Rattle.legal_counts.proofs.NotedUnits.{IsNoInstance, AreCounted, objects_counted}
use Rattle.legal_counts.proofs.ShownInstances.{below_length, IsOther, AreShown, shown_behind, instance_among}
use Rattle.legal_counts.proofs.WordsOfLibrary.{few_unit_words, library_sized}

sum_same : (a b c d : ℕ) → a ≡ b → c ≡ d → a + c ≡ b + d
sum_same a b c d e f = omega (arith, e, f)

module _ (facts : List Facts) (instances : List Instance) where
  -- the words of what stands in an instance, in any order
  abbrev word_at : ℕ → Standing → ℕ
  word_at inst x = if stands_in instances x.0 inst then words_in facts inst x.1 else 0

  abbrev standing_at : ℕ → List Standing → ℕ
  standing_at inst [] = 0
  standing_at inst (x ∷ xs) = word_at inst x + standing_at inst xs

  standing_joined : (inst : ℕ) (xs ys : List Standing) → standing_at inst (xs ++ ys) ≡ standing_at inst xs + standing_at inst ys
  standing_joined inst [] ys = omega (arith)
  standing_joined inst (x ∷ xs) ys = let rest = standing_joined inst xs ys in omega (arith, rest)

  standing_reversed : (inst : ℕ) (xs : List Standing) → standing_at inst (reverse xs) ≡ standing_at inst xs
  standing_reversed inst [] = refl
  standing_reversed inst (x ∷ xs) =
      ap (standing_at inst) (reverse-cons x xs)
      ∙ (standing_joined inst (reverse xs) (x ∷ []) ∙ turned (standing_at inst (reverse xs)) (standing_at inst xs) (word_at inst x) (standing_reversed inst xs))
    where
      turned : (m n k : ℕ) → m ≡ n → m + (k + 0) ≡ k + n
      turned m n k e = omega (arith, e)

  -- those of a unit
  abbrev unit_at : ℕ → UnitWords → ℕ
  unit_at inst u = if stands_in instances u.generic inst then sum_in facts inst u.words else 0

  abbrev units_at : ℕ → List UnitWords → ℕ
  units_at inst [] = 0
  units_at inst (u ∷ us) = unit_at inst u + units_at inst us

  all_standing_at : (inst : ℕ) (g : Option ℕ) (ts : List Subtype) → standing_at inst (all_standing g ts) ≡ (if stands_in instances g inst then sum_in facts inst ts else 0)
  all_standing_at inst g [] = by_test (stands_in instances g inst) 0
    where
      by_test : (b : Bool) (none : ℕ) → none ≡ (if b then none else none)
      by_test true none = refl
      by_test false none = refl
  all_standing_at inst g (t ∷ ts) =
      by_test (stands_in instances g inst) (standing_at inst (all_standing g ts)) (all_standing_at inst g ts)
    where
      by_test : (b : Bool) (rest : ℕ) → rest ≡ (if b then sum_in facts inst ts else 0)
          → (if b then words_in facts inst t else 0) + rest ≡ (if b then words_in facts inst t + sum_in facts inst ts else 0)
      by_test true rest e = omega (arith, e)
      by_test false rest e = omega (arith, e)

  noted_at : (inst : ℕ) (us : List UnitWords) → standing_at inst (noted_words us) ≡ units_at inst us
  noted_at inst [] = refl
  noted_at inst (u ∷ us) =
      standing_joined inst (all_standing u.generic u.words) (noted_words us)
      ∙ sum_same (standing_at inst (all_standing u.generic u.words)) (unit_at inst u) (standing_at inst (noted_words us)) (units_at inst us)
      (all_standing_at inst u.generic u.words) (noted_at inst us)

  -- in no instance those of texts in no generic
  abbrev all_own : List UnitWords → ℕ
  all_own [] = 0
  all_own (u ∷ us) = own_words facts u.generic u.words + all_own us

  own_at : (us : List UnitWords) → units_at 0 us ≡ all_own us
  own_at [] = refl
  own_at (u ∷ us) =
      sum_same (unit_at 0 u) (own_words facts u.generic u.words) (units_at 0 us) (all_own us) (of_text u.generic u.words) (own_at us)
    where
      of_text : (g : Option ℕ) (ts : List Subtype) → (if stands_in instances g 0 then sum_in facts 0 ts else 0) ≡ own_words facts g ts
      of_text None ts = refl
      of_text (Some g) ts = refl

  -- in an instance just those of its generic's text
  module _ (w : World) where
    abbrev seen_as : ℕ → Option ℕ
    seen_as n = is_generic_interface (interface_of w n) n

    abbrev IsOfPackage : UnitWords → Type 0
    IsOfPackage u = u.generic ≡ seen_as u.package_unit

    none_or_itself : (i : Interface) (n : ℕ) → (is_generic_interface i n ≡ None) ⊎ (is_generic_interface i n ≡ Some n)
    none_or_itself no_interface n = inl refl
    none_or_itself (package_interface region) n = inl refl
    none_or_itself (generic_interface formals region) n = inr refl
    none_or_itself (instance_interface g k actuals) n = inl refl
    none_or_itself (subprogram_interface r) n = inl refl

    module _ (j g : ℕ) (i : Instance) (there : slice_get instances j ≡ Some i) (same : i.generic ≡ g) (is_generic : seen_as g ≡ Some g) where
      in_text : (u : UnitWords) → IsOfPackage u → stands_in instances u.generic (suc j) ≡ is_text_of facts g u
      in_text u of = by_number (nat_eq g u.package_unit) refl
        where
          here : (h : ℕ) → stands_in instances (Some h) (suc j) ≡ nat_eq g h
          here h = ap (has_text h) there ∙ ap (λ n. nat_eq n h) same

          otherwise : nat_eq g u.package_unit ≡ false → (seen_as u.package_unit ≡ None) ⊎ (seen_as u.package_unit ≡ Some u.package_unit)
              → stands_in instances u.generic (suc j) ≡ false
          otherwise e (inl none) = ap (λ o. stands_in instances o (suc j)) (of ∙ none)
          otherwise e (inr own) = ap (λ o. stands_in instances o (suc j)) (of ∙ own) ∙ (here u.package_unit ∙ e)

          by_number : (b : Bool) → nat_eq g u.package_unit ≡ b → stands_in instances u.generic (suc j) ≡ b
          by_number true e =
              let at : g ≡ u.package_unit = eqb-true g u.package_unit e in
              ap (λ o. stands_in instances o (suc j)) (of ∙ (ap seen_as (sym at) ∙ is_generic)) ∙ (here g ∙ eq-eqb g g refl)
          by_number false e = otherwise e (none_or_itself (interface_of w u.package_unit) u.package_unit)

      of_generic : (us : List UnitWords) → Everywhere IsOfPackage us → units_at (suc j) us ≡ words_of_generic facts (suc j) g us
      of_generic [] all = refl
      of_generic (u ∷ us) all =
          by_test (stands_in instances u.generic (suc j)) (is_text_of facts g u) (in_text u all.0) (units_at (suc j) us) (words_of_generic facts (suc j) g us) (of_generic us all.1)
        where
          here : ℕ
          here = sum_in facts (suc j) u.words

          by_test : (b c : Bool) → b ≡ c → (m n : ℕ) → m ≡ n → (if b then here else 0) + m ≡ (if c then here + n else n)
          by_test true true e m n h = omega (arith, h)
          by_test false false e m n h = omega (arith, h)
          by_test true false e m n h = absurd (false≢true (sym e))
          by_test false true e m n h = absurd (false≢true e)

  -- by the numbers of units
  abbrev total : (ℕ → ℕ) → (count from : ℕ) → ℕ
  total f zero n = 0
  total f (suc k) n = f n + total f k (n + 1)

  abbrev only_at : (unit words : ℕ) → ℕ → ℕ
  only_at x a m = if nat_eq m x then a else 0

  total_none : (k n : ℕ) → total (λ m. 0) k n ≡ 0
  total_none zero n = refl
  total_none (suc k) n = none_more (total (λ m. 0) k (n + 1)) (total_none k (n + 1))
    where
      none_more : (a : ℕ) → a ≡ 0 → 0 + a ≡ 0
      none_more a e = omega (arith, e)

  total_both : (f g h : ℕ → ℕ) → ((m : ℕ) → f m ≡ g m + h m) → (k n : ℕ) → total f k n ≡ total g k n + total h k n
  total_both f g h e zero n = refl
  total_both f g h e (suc k) n =
      joined (f n) (g n) (h n) (total f k (n + 1)) (total g k (n + 1)) (total h k (n + 1)) (e n) (total_both f g h e k (n + 1))
    where
      joined : (a b c d x y : ℕ) → a ≡ b + c → d ≡ x + y → a + d ≡ (b + x) + (c + y)
      joined a b c d x y p q = omega (arith, p, q)

  none_there : (x a k n : ℕ) → x < n → total (only_at x a) k n ≡ 0
  none_there x a zero n less = refl
  none_there x a (suc k) n less = by_number (nat_eq n x) refl (none_there x a k (n + 1) (omega (arith, less)))
    where
      by_number : (b : Bool) → nat_eq n x ≡ b → total (only_at x a) k (n + 1) ≡ 0 → (if b then a else 0) + total (only_at x a) k (n + 1) ≡ 0
      by_number true e rest = let same = eqb-true n x e in absurd (other n x less same)
        where
          other : (i j : ℕ) → j < i → i ≡ j → ⊥
          other i j f g = omega (arith, f, g)
      by_number false e rest = none_more (total (only_at x a) k (n + 1)) rest
        where
          none_more : (r : ℕ) → r ≡ 0 → 0 + r ≡ 0
          none_more r f = omega (arith, f)

  once_there : (x a k n : ℕ) → n ≤ x → x < n + k → total (only_at x a) k n ≡ a
  once_there x a zero n low high = absurd (nothing n x low high)
    where
      nothing : (i j : ℕ) → i ≤ j → j < i + 0 → ⊥
      nothing i j f g = omega (arith, f, g)
  once_there x a (suc k) n low high = by_number (nat_eq n x) refl (λ above. once_there x a k (n + 1) above (below n x k high))
    where
      below : (i j c : ℕ) → j < i + suc c → j < (i + 1) + c
      below i j c f = omega (arith, f)

      by_number : (b : Bool) → nat_eq n x ≡ b → (n + 1 ≤ x → total (only_at x a) k (n + 1) ≡ a) → (if b then a else 0) + total (only_at x a) k (n + 1) ≡ a
      by_number true e rest = alone (total (only_at x a) k (n + 1)) (none_there x a k (n + 1) (next_to n x (eqb-true n x e)))
        where
          next_to : (i j : ℕ) → i ≡ j → j < i + 1
          next_to i j f = omega (arith, f)

          alone : (r : ℕ) → r ≡ 0 → a + r ≡ a
          alone r f = omega (arith, f)
      by_number false e rest = none_more (total (only_at x a) k (n + 1)) (rest (above n x low (λ same. false≢true (sym e ∙ eq-eqb n x same))))
        where
          above : (i j : ℕ) → i ≤ j → (i ≡ j → ⊥) → i + 1 ≤ j
          above i j f g = omega (arith, f, g)

          none_more : (r : ℕ) → r ≡ a → 0 + r ≡ a
          none_more r f = omega (arith, f)

  unit_split : (u : UnitWords) (us : List UnitWords) (m : ℕ)
      → words_of_unit facts m (u ∷ us) ≡ only_at u.unit (own_words facts u.generic u.words) m + words_of_unit facts m us
  unit_split u us m = by_number (nat_eq m u.unit)
    where
      by_number : (b : Bool)
          → (if b then own_words facts u.generic u.words + words_of_unit facts m us else words_of_unit facts m us)
          ≡ (if b then own_words facts u.generic u.words else 0) + words_of_unit facts m us
      by_number true = refl
      by_number false = none_more (words_of_unit facts m us)
        where
          none_more : (r : ℕ) → r ≡ 0 + r
          none_more r = omega (arith)

  -- each unit that noted words is one of them
  units_total : (w : World) (l : Library) (us : List UnitWords) → Everywhere (IsOfText w l) us
      → total (λ m. words_of_unit facts m us) (length l.units) 0 ≡ all_own us
  units_total w l [] all = total_none (length l.units) 0
  units_total w l (u ∷ us) all =
      let count = length l.units in
      let own = own_words facts u.generic u.words in
      let split = total_both (λ m. words_of_unit facts m (u ∷ us)) (only_at u.unit own) (λ m. words_of_unit facts m us) (unit_split u us) count 0 in
      let below = below_length l.units u.unit all.0.unit all.0.there in
      let first = once_there u.unit own count 0 (omega (arith)) (omega (arith, below)) in
      split ∙ sum_same (total (only_at u.unit own) count 0) own (total (λ m. words_of_unit facts m us) count 0) (all_own us) first (units_total w l us all.1)

  -- an instance has no words of its own
  no_package : (l : Library) (n m : ℕ) (i : LibraryItem) → is_instance i ≡ true → package_of l n i ≡ Some m → ⊥
  no_package l n m (library.Instance i) one e = some_apart e
    where
      some_apart : None ≡ Some m → ⊥
      some_apart f = cc
  no_package l n m (library.Package x) one e = false≢true one
  no_package l n m (library.PackageBody b) one e = false≢true one
  no_package l n m (library.Subprogram b) one e = false≢true one

  none_own : (w : World) (l : Library) (n : ℕ) (v : LibraryUnit) → slice_get l.units n ≡ Some v → is_instance v.item ≡ true → (us : List UnitWords) → Everywhere (IsOfText w l) us
      → words_of_unit facts n us ≡ 0
  none_own w l n v there one [] all = refl
  none_own w l n v there one (u ∷ us) all = by_number (nat_eq n u.unit) refl (none_own w l n v there one us all.1)
    where
      apart : n ≡ u.unit → ⊥
      apart e =
          let same : v ≡ all.0.unit = ap (λ o. unwrap_or o v) (sym there ∙ (ap (slice_get l.units) e ∙ all.0.there)) in
          no_package l u.unit u.package_unit all.0.unit.item (ap (λ (x : LibraryUnit). is_instance x.item) (sym same) ∙ one) all.0.home

      by_number : (b : Bool) → nat_eq n u.unit ≡ b → words_of_unit facts n us ≡ 0
          → (if b then own_words facts u.generic u.words + words_of_unit facts n us else words_of_unit facts n us) ≡ 0
      by_number true e rest = absurd (apart (eqb-true n u.unit e))
      by_number false e rest = rest

  other_words : (n : ℕ) (i : Interface) (us : List UnitWords) → IsOther i → words_by facts n i us ≡ words_of_unit facts n us
  other_words n no_interface us h = refl
  other_words n (package_interface region) us h = refl
  other_words n (generic_interface formals region) us h = refl
  other_words n (instance_interface g k actuals) us h = absurd h
  other_words n (subprogram_interface r) us h = refl

-- the words of objects
objects_at : (p : Program) (facts : List Facts) (inst : ℕ) (os : List LibraryObject) → words_at p facts inst os ≡ standing_at facts p.instances inst (map standing os)
objects_at p facts inst [] = refl
objects_at p facts inst (o ∷ os) =
    ap (λ n. (if stands_in p.instances o.generic inst then words_in facts inst o.subtype else 0) + n) (objects_at p facts inst os)

-- what counts as an instance
module _ (l : Library) where
  abbrev one : ℕ → ℕ
  one g = 1

  text_counts : (o : Option ℕ) → in_instance one (text_role o) ≡ 0
  text_counts None = refl
  text_counts (Some g) = refl

  other_counts : (n : ℕ) (i : Interface) → IsOther i → in_instance one (role_by n i) ≡ 0
  other_counts n no_interface h = refl
  other_counts n (package_interface region) h = refl
  other_counts n (generic_interface formals region) h = refl
  other_counts n (instance_interface g k actuals) h = absurd h
  other_counts n (subprogram_interface r) h = refl

  item_counts : (w : World) (n : ℕ) (i : LibraryItem) → is_instance i ≡ false → IsOther (interface_of w n) → in_instance one (role_of w l n i) ≡ 0
  item_counts w n (library.PackageBody b) e h = text_counts (option_and_then (λ m. is_generic_interface (interface_of w m) m) (unit_named l.names (key b.name)))
  item_counts w n (library.Package x) e h = other_counts n (interface_of w n) h
  item_counts w n (library.Subprogram b) e h = other_counts n (interface_of w n) h
  item_counts w n (library.Instance i) e h = absurd (false≢true (sym e))

  instance_counts : (w : World) (n : ℕ) (i : LibraryItem) (g k : ℕ) (actuals : List Actual) → is_instance i ≡ true → interface_of w n ≡ instance_interface (Some g) k actuals
      → in_instance one (role_of w l n i) ≡ 1
  instance_counts w n (library.Instance i) g k actuals e shows = ap (λ j. in_instance one (role_by n j)) shows
  instance_counts w n (library.Package x) g k actuals e shows = absurd (false≢true e)
  instance_counts w n (library.PackageBody b) g k actuals e shows = absurd (false≢true e)
  instance_counts w n (library.Subprogram b) g k actuals e shows = absurd (false≢true e)

length_sum : (is : List Instance) → sum_by (λ (i : Instance). 1) is ≡ length is
length_sum [] = refl
length_sum (i ∷ is) =
    let first = sum_by-cons (λ (i : Instance). 1) i is in
    let rest = length_sum is in
    omega (arith, first, rest)

-- those that stand in no generic
module _ (l : Library) (main : List ℕ) (p : Program) (is : IsLegal l main p) where
  abbrev bare_facts : List Facts
  bare_facts = is.walked.world.instances

  abbrev bare_words : List UnitWords
  bare_words = is.walked.next.unit_words

  pub at_units : (inst : ℕ) → words_at p bare_facts inst p.objects ≡ units_at bare_facts p.instances inst bare_words
  at_units inst =
      objects_at p bare_facts inst p.objects
      ∙ (ap (λ (q : Program). standing_at bare_facts p.instances inst (map standing q.objects)) is.made
      ∙ (ap (standing_at bare_facts p.instances inst) (map_reversed standing is.walked.next.objects_declared)
      ∙ (standing_reversed bare_facts p.instances inst (map standing is.walked.next.objects_declared)
      ∙ (ap (standing_at bare_facts p.instances inst) (objects_counted l main p is).objects ∙ noted_at bare_facts p.instances inst bare_words))))

  bare_total : words_at p bare_facts 0 p.objects ≡ total bare_facts p.instances (λ m. words_of_unit bare_facts m bare_words) (length l.units) 0
  bare_total =
      at_units 0
      ∙ (own_at bare_facts p.instances bare_words ∙ sym (units_total bare_facts p.instances is.walk.seen.world l bare_words (objects_counted l main p is).words))

  own_total : (n : ℕ) (us : List LibraryUnit) → total bare_facts p.instances (λ m. words_of_unit bare_facts m bare_words) (length us) n ≡ own_words_of_units bare_facts bare_words n us
  own_total n [] = refl
  own_total n (u ∷ us) = ap (λ k. words_of_unit bare_facts n bare_words + k) (own_total (n + 1) us)

  pub bare_words_counted : words_at p bare_facts 0 p.objects ≡ own_words_of_units bare_facts bare_words 0 l.units
  bare_words_counted = bare_total ∙ own_total 0 l.units

module _ (standard : Standard) (us : List LibraryUnit) (main : List ℕ) (p : Program) (is : IsLegal (library_of standard us) main p) (rise : UnitsRise us)
    (in_order : IsWholeOrder (library_of standard us)) where
  abbrev l : Library
  l = library_of standard us

  abbrev w : World
  w = is.walked.world

  abbrev facts : List Facts
  facts = w.instances

  abbrev last : State
  last = is.walked.next

  abbrev seen : World
  seen = is.walk.seen.world

  counted : AreCounted seen l last
  counted = objects_counted l main p is

  shown : AreShown us (units_but_bodies 0 us) is.walk.seen
  shown =
      of_ok (AreShown us (units_but_bodies 0 us)) (all_interfaces typing l (record { world = world_before l; next = beginning_state }) l.order).answer is.walk.seen
      is.walk.interfaces (shown_behind l in_order.units)

  -- what is seen as a generic are the packages with formals
  seen_right : (n : ℕ) (u : LibraryUnit) → slice_get us n ≡ Some u → is_package_body u.item ≡ false → is_generic_interface (interface_of seen n) n ≡ shown_in n u.item
  seen_right = all_right l main p is in_order

  generic_seen : (g : ℕ) (o : Option LibraryUnit) → slice_get us g ≡ o → shown_of g o ≡ Some g → is_generic_interface (interface_of seen g) g ≡ Some g
  generic_seen g None there e = absurd (some_is_none (sym e))
    where
      some_is_none : Some g ≡ None → ⊥
      some_is_none f = cc
  generic_seen g (Some u) there e = seen_right g u there (no_body u.item e) ∙ e
    where
      some_is_none : None ≡ Some g → ⊥
      some_is_none f = cc

      no_body : (i : LibraryItem) → shown_in g i ≡ Some g → is_package_body i ≡ false
      no_body (library.Package x) f = refl
      no_body (library.PackageBody b) f = absurd (some_is_none f)
      no_body (library.Instance i) f = refl
      no_body (library.Subprogram b) f = refl

  -- so each text stands in the generic that its package is seen as
  text_seen : (n m : ℕ) (u : LibraryUnit) (i : LibraryItem) → slice_get us n ≡ Some u → u.item ≡ i → package_of l n i ≡ Some m
      → text_generic seen l n i ≡ is_generic_interface (interface_of seen m) m
  text_seen n m u (library.Package x) there e home =
      let same : n ≡ m = ap (λ o. unwrap_or o n) home in
      ap (shown_in n) (sym e) ∙ (sym (seen_right n u there (ap is_package_body e)) ∙ ap (λ k. is_generic_interface (interface_of seen k) k) same)
  text_seen n m u (library.PackageBody b) there e home = ap (generic_of_package seen) home
  text_seen n m u (library.Instance i) there e home = absurd (none_some home)
    where
      none_some : None ≡ Some m → ⊥
      none_some f = cc
  text_seen n m u (library.Subprogram b) there e home = absurd (none_some home)
    where
      none_some : None ≡ Some m → ⊥
      none_some f = cc

  of_packages : (ws : List UnitWords) → Everywhere (IsOfText seen l) ws → Everywhere (IsOfPackage facts p.instances seen) ws
  of_packages [] all = tt
  of_packages (u ∷ ws) all =
      (all.0.generic ∙ text_seen u.unit u.package_unit all.0.unit all.0.unit.item all.0.there refl all.0.home, of_packages ws all.1)

  same_interface : (n : ℕ) → interface_of w n ≡ interface_of is.walk.seen.world n
  same_interface n = ap (λ (v : World). interface_of v n) is.walk.world

  -- the words in an instance
  abbrev at : ℕ → ℕ
  at inst = words_at p facts inst p.objects

  abbrev own : ℕ → ℕ
  own n = words_of_unit facts n last.unit_words

  abbrev by : ℕ → ℕ
  by n = words_by facts n (interface_of w n) last.unit_words

  -- a unit that is an instance
  instance_words : (n : ℕ) (u : LibraryUnit) → slice_get us n ≡ Some u → is_instance u.item ≡ true → at (instance_number n us) + own n ≡ by n
  instance_words n u there one =
      let here = shown.instances n u there one (instance_among us n u there one) in
      let made = subst (Somewhere (λ j. j ≡ here.made)) (sym (states_of l main p is).bodies.instances) here.there in
      let number = made_numbered standard us main p is rise n u here.made there here.place made in
      let just = of_generic facts p.instances seen number.place here.generic number.made number.there (number.generic ∙ here.of_generic)
      (generic_seen here.generic (slice_get us here.generic) refl here.formals) last.unit_words (of_packages last.unit_words counted.words) in
      let in_instance = subst (λ k. units_at facts p.instances k last.unit_words ≡ words_of_generic facts k here.generic last.unit_words) (sym number.number) just in
      let words = at_units l main p is (instance_number n us) in
      let none = none_own facts p.instances seen l n u there one last.unit_words counted.words in
      let shows : by n ≡ words_of_generic facts (instance_number n us) here.generic last.unit_words =
      ap (λ i. words_by facts n i last.unit_words) (same_interface n ∙ here.shows) in
      joined (at (instance_number n us)) (own n) (by n) (units_at facts p.instances (instance_number n us) last.unit_words)
      (words_of_generic facts (instance_number n us) here.generic last.unit_words) words none shows in_instance
    where
      joined : (a b c d e : ℕ) → a ≡ d → b ≡ 0 → c ≡ e → d ≡ e → a + b ≡ c
      joined a b c d e f g h k = omega (arith, f, g, h, k)

  -- and another
  own_unit : (n : ℕ) (u : LibraryUnit) → slice_get us n ≡ Some u → is_instance u.item ≡ false → own n ≡ by n
  own_unit n u there other =
      sym (other_words facts p.instances n (interface_of w n) last.unit_words
      (subst IsOther (sym (same_interface n)) (shown.others n (subst IsNoInstance (sym there) other))))

  -- all of them
  all_words : (n : ℕ) (vs : List LibraryUnit) → ((j : ℕ) → slice_get us (n + j) ≡ slice_get vs j)
      → words_of_instances p facts (count_instances vs) (instance_number n us) + total facts p.instances own (length vs) n ≡ words_of_units w last.unit_words n vs
  all_words n [] from = omega (arith)
  all_words n (v ∷ vs) from = by_item (is_instance v.item) refl (all_words (n + 1) vs next_from)
    where
      next_from : (j : ℕ) → slice_get us (n + 1 + j) ≡ slice_get vs j
      next_from j = let next : n + 1 + j ≡ n + suc j = omega (arith) in ap (slice_get us) next ∙ from (suc j)

      here : slice_get us n ≡ Some v
      here = let none : n ≡ n + 0 = omega (arith) in ap (slice_get us) none ∙ from 0

      number : ℕ
      number = instance_number n us

      owns : ℕ
      owns = total facts p.instances own (length vs) (n + 1)

      others : ℕ
      others = words_of_units w last.unit_words (n + 1) vs

      next : instance_number (n + 1) us ≡ (if is_instance v.item then number + 1 else number)
      next = let one : n + 1 ≡ suc n = omega (arith) in ap (λ m. instance_number m us) one ∙ next_number us n v here

      by_item : (b : Bool) → is_instance v.item ≡ b → words_of_instances p facts (count_instances vs) (instance_number (n + 1) us) + owns ≡ others
          → words_of_instances p facts (count_instances (v ∷ vs)) number + (own n + owns) ≡ by n + others
      by_item true e rest =
          let first = instance_words n v here e in
          let again : words_of_instances p facts (count_instances vs) (instance_number (n + 1) us) ≡ words_of_instances p facts (count_instances vs) (number + 1) =
          ap (words_of_instances p facts (count_instances vs)) (next ∙ ap (λ (b : Bool). if b then number + 1 else number) e) in
          let more : count_instances vs + 1 ≡ suc (count_instances vs) = omega (arith) in
          let all : words_of_instances p facts (count_instances (v ∷ vs)) number ≡ at number + words_of_instances p facts (count_instances vs) (number + 1) =
          ap (λ (b : Bool). words_of_instances p facts (if b then count_instances vs + 1 else count_instances vs) number) e
          ∙ ap (λ m. words_of_instances p facts m number) more in
          joined (words_of_instances p facts (count_instances (v ∷ vs)) number) (at number) (words_of_instances p facts (count_instances vs) (number + 1))
          (words_of_instances p facts (count_instances vs) (instance_number (n + 1) us)) (own n) owns (by n) others all again first rest
        where
          joined : (a b c d x y z t : ℕ) → a ≡ b + c → d ≡ c → b + x ≡ z → d + y ≡ t → a + (x + y) ≡ z + t
          joined a b c d x y z t f g h k = omega (arith, f, g, h, k)
      by_item false e rest =
          let same = own_unit n v here e in
          let again : words_of_instances p facts (count_instances vs) (instance_number (n + 1) us) ≡ words_of_instances p facts (count_instances vs) number =
          ap (words_of_instances p facts (count_instances vs)) (next ∙ ap (λ (b : Bool). if b then number + 1 else number) e) in
          let all : words_of_instances p facts (count_instances (v ∷ vs)) number ≡ words_of_instances p facts (count_instances vs) number =
          ap (λ (b : Bool). words_of_instances p facts (if b then count_instances vs + 1 else count_instances vs) number) e in
          joined (words_of_instances p facts (count_instances (v ∷ vs)) number) (words_of_instances p facts (count_instances vs) number)
          (words_of_instances p facts (count_instances vs) (instance_number (n + 1) us)) (own n) owns (by n) others all again same rest
        where
          joined : (a c d x y z t : ℕ) → a ≡ c → d ≡ c → x ≡ z → d + y ≡ t → a + (x + y) ≡ z + t
          joined a c d x y z t f g h k = omega (arith, f, g, h, k)

  -- the program has as many instances as there are units that are one
  unit_counts : (n : ℕ) (u : LibraryUnit) → slice_get us n ≡ Some u → in_instance (one l) (role_of seen l n u.item) ≡ (if is_instance u.item then 1 else 0)
  unit_counts n u there = by_item (is_instance u.item) refl
    where
      by_item : (b : Bool) → is_instance u.item ≡ b → in_instance (one l) (role_of seen l n u.item) ≡ (if b then 1 else 0)
      by_item true e =
          let here = shown.instances n u there e (instance_among us n u there e) in
          instance_counts l seen n u.item here.generic (instance_number n us) here.actuals e here.shows
      by_item false e = item_counts l seen n u.item e (shown.others n (subst IsNoInstance (sym there) e))

  entries_count : (n : ℕ) (vs : List LibraryUnit) → ((j : ℕ) → slice_get us (n + j) ≡ slice_get vs j) → in_instances (one l) (entries_from seen l n vs) ≡ count_instances vs
  entries_count n [] from = refl
  entries_count n (v ∷ vs) from =
      let none : n ≡ n + 0 = omega (arith) in
      let first = unit_counts n v (ap (slice_get us) none ∙ from 0) in
      let sum = sum_by-cons (λ (e : UnitEntry). in_instance (one l) e.role) (entry_of seen l n v) (entries_from seen l (n + 1) vs) in
      let rest = entries_count (n + 1) vs (λ j. let next : n + 1 + j ≡ n + suc j = omega (arith) in ap (slice_get us) next ∙ from (suc j)) in
      by_item (is_instance v.item) (in_instances (one l) (entries_from seen l n (v ∷ vs))) (in_instance (one l) (role_of seen l n v.item))
      (in_instances (one l) (entries_from seen l (n + 1) vs)) (count_instances vs) sum first rest
    where
      by_item : (b : Bool) (a c d m : ℕ) → a ≡ c + d → c ≡ (if b then 1 else 0) → d ≡ m → a ≡ (if b then m + 1 else m)
      by_item true a c d m e f g = omega (arith, e, f, g)
      by_item false a c d m e f g = omega (arith, e, f, g)

  as_many_instances : length p.instances ≡ count_instances us
  as_many_instances =
      sym (length_sum p.instances) ∙ (instances_are l main p is in_order (one l) seen refl ∙ entries_count 0 us (λ j. let none : 0 + j ≡ j = omega (arith) in ap (slice_get us) none))

  first_number : (vs : List LibraryUnit) → instance_number 0 vs ≡ 1
  first_number [] = refl
  first_number (v ∷ vs) = refl

  pub library_words_counted : library_words p facts ≡ words_of_units w last.unit_words 0 us
  library_words_counted =
      let one : length p.instances + 1 ≡ suc (length p.instances) = omega (arith) in
      let split : library_words p facts ≡ at 0 + words_of_instances p facts (length p.instances) 1 = ap (λ m. words_of_instances p facts m 0) one in
      let bare : at 0 ≡ total facts p.instances own (length us) 0 = bare_total l main p is in
      let many : words_of_instances p facts (length p.instances) 1 ≡ words_of_instances p facts (count_instances us) 1 =
      ap (λ m. words_of_instances p facts m 1) as_many_instances in
      let all = subst (λ k. words_of_instances p facts (count_instances us) k + total facts p.instances own (length us) 0 ≡ words_of_units w last.unit_words 0 us)
      (first_number us) (all_words 0 us from_start) in
      joined (library_words p facts) (at 0) (words_of_instances p facts (length p.instances) 1) (words_of_instances p facts (count_instances us) 1)
      (total facts p.instances own (length us) 0) (words_of_units w last.unit_words 0 us) split bare many all
    where
      from_start : (j : ℕ) → slice_get us (0 + j) ≡ slice_get us j
      from_start j = let none : 0 + j ≡ j = omega (arith) in ap (slice_get us) none

      joined : (a b c d e f : ℕ) → a ≡ b + c → b ≡ e → c ≡ d → d + e ≡ f → a ≡ f
      joined a b c d e f g h k m = omega (arith, g, h, k, m)

  pub few_library_words : library_words p facts ≤ most_words_of_library
  few_library_words =
      let counts = library_words_counted in
      let few = few_unit_words l main p is in
      both (library_words p facts) (words_of_units w last.unit_words 0 us) counts few
    where
      both : (a b : ℕ) → a ≡ b → b ≤ most_words_of_library → a ≤ most_words_of_library
      both a b h k = omega (arith, h, k)

  pub library_has_size : HaveFacts p.instances facts → Everywhere (λ o. (i : ℕ) → StandsIn p o.generic i → IsBounded p i o.subtype) p.objects
      → program_size p ≡ Some (library_words p facts)
  library_has_size has bounded = library_sized p facts has bounded few_library_words
