-- What units see of each other only grows: a name that leads to a mark early leads to the same one later.
use Rattle.std.proofs.Common.{◌≡◌, ℕ, zero, suc, Bool, true, false, if◌then◌else◌, List, [], ◌∷◌, Option, Some, None, option_map, slice_get, set, refl, sym, ap, ◌∙◌, subst, inl, inr}
use Rattle.std.specs.Prelude.{◌⊎◌}
use Rattle.std.specs.Option.{option_or}
use Rattle.ada_syntax.specs.declared.name.Identifier.{Identifier}
use Rattle.ada_rules.specs.Entities.{key, same_name, Entity, test_io, unit, Region, entity_of, shown, visible, Actual}
use Rattle.ada_rules.specs.Environment.{Interface, no_interface, package_interface, generic_interface, instance_interface, subprogram_interface, World, interface_of, entity_of_interface, entity_of_unit, Env, regions_of}
use Rattle.ada_rules.specs.Expressions.{part_of_generic, part_of_interface, part_of_unit}
use Rattle.ada_rules.specs.Library.{Library, unit_named, is_test_io, denoted_in_with, seen_too, with_seen, seen_more}
use Rattle.legal_texts.specs.Leading.{lead_of, Fit}
use Rattle.legal_texts.proofs.Leads.{AreAlikePlaces, fit_same}

-- each interface that is there stays
abbrev pub IsGrown : World → World → Type 0
IsGrown w v = (n : ℕ) → (interface_of w n ≡ no_interface) ⊎ (interface_of v n ≡ interface_of w n)

abbrev pub AreAlikeEntities : Entity → Entity → Type 0
AreAlikeEntities x y = Fit (lead_of (shown (Some x))) (lead_of (shown (Some y)))

abbrev AreAlikeOptions : Option Entity → Option Entity → Type 0
AreAlikeOptions None None = Unit {0}
AreAlikeOptions (Some x) (Some y) = AreAlikeEntities x y
AreAlikeOptions a b = ⊥

abbrev pub AreAlikeRegions : Region → Region → Type 0
AreAlikeRegions [] [] = Unit {0}
AreAlikeRegions (e ∷ es) (f ∷ fs) = ((e.0 ≡ f.0) × AreAlikeEntities e.1 f.1) × AreAlikeRegions es fs
AreAlikeRegions es fs = ⊥

pub alike_same : (x : Entity) → AreAlikeEntities x x
alike_same x = fit_same (lead_of (shown (Some x)))

-- what names denote in regions that are alike
entity_if : (b : Bool) (x y : Entity) (o r : Option Entity) → AreAlikeEntities x y → AreAlikeOptions o r → AreAlikeOptions (if b then Some x else o) (if b then Some y else r)
entity_if true x y o r h k = h
entity_if false x y o r h k = k

pub entities_alike : (name : List ℕ) (es fs : Region) → AreAlikeRegions es fs → AreAlikeOptions (entity_of name es) (entity_of name fs)
entities_alike name [] [] h = tt
entities_alike name [] (f ∷ fs) h = absurd h
entities_alike name (e ∷ es) [] h = absurd h
entities_alike name (e ∷ es) (f ∷ fs) h =
    subst (λ k. AreAlikeOptions (entity_of name (e ∷ es)) (if same_name name k then Some f.1 else entity_of name fs)) h.0.0
    (entity_if (same_name name e.0) e.1 f.1 (entity_of name es) (entity_of name fs) h.0.1 (entities_alike name es fs h.1))

-- behind a region that is the same, and behind two that are alike
behind_same : (o a b : Option Entity) → Fit (lead_of (shown a)) (lead_of (shown b)) → Fit (lead_of (shown (option_or o a))) (lead_of (shown (option_or o b)))
behind_same None a b h = h
behind_same (Some x) a b h = fit_same (lead_of (shown (Some x)))

behind_alike : (o r a : Option Entity) → AreAlikeOptions o r → Fit (lead_of (shown (option_or o a))) (lead_of (shown (option_or r a)))
behind_alike None None a h = fit_same (lead_of (shown a))
behind_alike (Some x) (Some y) a h = h
behind_alike None (Some y) a h = absurd h
behind_alike (Some x) None a h = absurd h

-- what units see of the library
seen_if : (b : Bool) (es fs more others : Region) → AreAlikeRegions es fs → AreAlikeRegions more others → AreAlikeRegions (if b then es else more) (if b then fs else others)
seen_if true es fs more others h k = h
seen_if false es fs more others h k = k

seen_too_alike : (name : List ℕ) (x y : Entity) (es fs : Region) → AreAlikeEntities x y → AreAlikeRegions es fs → AreAlikeRegions (seen_too name x es) (seen_too name y fs)
seen_too_alike name x y [] [] h all = ((refl, h), tt)
seen_too_alike name x y [] (f ∷ fs) h all = absurd all
seen_too_alike name x y (e ∷ es) [] h all = absurd all
seen_too_alike name x y (e ∷ es) (f ∷ fs) h all = (
  all.0,
  subst (λ k. AreAlikeRegions (if same_name name e.0 then es else seen_too name x es) (if same_name name k then fs else seen_too name y fs)) all.0.0
      (seen_if (same_name name e.0) es fs (seen_too name x es) (seen_too name y fs) all.1 (seen_too_alike name x y es fs h all.1)),
)

with_seen_alike : (name : List ℕ) (o r : Option Entity) (es fs : Region) → AreAlikeOptions o r → AreAlikeRegions es fs → AreAlikeRegions (with_seen name o es) (with_seen name r fs)
with_seen_alike name None None es fs h all = all
with_seen_alike name (Some x) (Some y) es fs h all = seen_too_alike name x y es fs h all
with_seen_alike name None (Some y) es fs h all = absurd h
with_seen_alike name (Some x) None es fs h all = absurd h

unit_alike : (n : ℕ) (i : Interface) → AreAlikeEntities (unit n) (entity_of_interface n i)
unit_alike n no_interface = refl
unit_alike n (package_interface region) = refl
unit_alike n (generic_interface formals region) = refl
unit_alike n (instance_interface g k actuals) = refl
unit_alike n (subprogram_interface r) = tt

module _ (w v : World) (grown : IsGrown w v) where
  pub units_alike : (n : ℕ) → AreAlikeEntities (entity_of_unit w n) (entity_of_unit v n)
  units_alike n = of_either (grown n)
    where
      of_either : (interface_of w n ≡ no_interface) ⊎ (interface_of v n ≡ interface_of w n) → AreAlikeEntities (entity_of_unit w n) (entity_of_unit v n)
      of_either (inl none) =
          subst (λ i. AreAlikeEntities (entity_of_interface n i) (entity_of_unit v n)) (sym none) (unit_alike n (interface_of v n))
      of_either (inr same) =
          subst (λ i. AreAlikeEntities (entity_of_unit w n) (entity_of_interface n i)) (sym same) (alike_same (entity_of_unit w n))

  with_alike : (l : Library) (i : Identifier) → AreAlikeOptions (denoted_in_with w l i) (denoted_in_with v l i)
  with_alike l i = of_test (is_test_io i) (unit_named l.names (key i))
    where
      of_test : (b : Bool) (o : Option ℕ) → AreAlikeOptions (if b then Some test_io else option_map (entity_of_unit w) o) (if b then Some test_io else option_map (entity_of_unit v) o)
      of_test true o = refl
      of_test false None = tt
      of_test false (Some n) = units_alike n

  pub seen_more_alike : (l : Library) (is : List Identifier) (es fs : Region) → AreAlikeRegions es fs → AreAlikeRegions (seen_more w l is es) (seen_more v l is fs)
  seen_more_alike l [] es fs h = h
  seen_more_alike l (i ∷ is) es fs h =
      seen_more_alike l is (with_seen (key i) (denoted_in_with w l i) es) (with_seen (key i) (denoted_in_with v l i) fs)
      (with_seen_alike (key i) (denoted_in_with w l i) (denoted_in_with v l i) es fs (with_alike l i) h)

  -- parts of units
  generic_part_fits : (k : ℕ) (actuals : List Actual) (name : List ℕ) (g : ℕ)
      → Fit (lead_of (part_of_generic k actuals name (interface_of w g))) (lead_of (part_of_generic k actuals name (interface_of v g)))
  generic_part_fits k actuals name g = of_either (grown g)
    where
      of_either : (interface_of w g ≡ no_interface) ⊎ (interface_of v g ≡ interface_of w g)
          → Fit (lead_of (part_of_generic k actuals name (interface_of w g))) (lead_of (part_of_generic k actuals name (interface_of v g)))
      of_either (inl none) =
          subst (λ i. Fit (lead_of (part_of_generic k actuals name i)) (lead_of (part_of_generic k actuals name (interface_of v g)))) (sym none) tt
      of_either (inr same) =
          subst (λ i. Fit (lead_of (part_of_generic k actuals name (interface_of w g))) (lead_of (part_of_generic k actuals name i))) (sym same)
          (fit_same (lead_of (part_of_generic k actuals name (interface_of w g))))

  interface_part_fits : (name : List ℕ) (i : Interface) → Fit (lead_of (part_of_interface w name i)) (lead_of (part_of_interface v name i))
  interface_part_fits name (package_interface region) = fit_same (lead_of (shown (entity_of name region)))
  interface_part_fits name (instance_interface None k actuals) = tt
  interface_part_fits name (instance_interface (Some g) k actuals) = generic_part_fits k actuals name g
  interface_part_fits name no_interface = tt
  interface_part_fits name (generic_interface formals region) = tt
  interface_part_fits name (subprogram_interface r) = tt

  pub parts_fit : (n : ℕ) (name : List ℕ) → Fit (lead_of (part_of_interface w name (interface_of w n))) (lead_of (part_of_interface v name (interface_of v n)))
  parts_fit n name = of_either (grown n)
    where
      of_either : (interface_of w n ≡ no_interface) ⊎ (interface_of v n ≡ interface_of w n)
          → Fit (lead_of (part_of_interface w name (interface_of w n))) (lead_of (part_of_interface v name (interface_of v n)))
      of_either (inl none) =
          subst (λ i. Fit (lead_of (part_of_interface w name i)) (lead_of (part_of_interface v name (interface_of v n)))) (sym none) tt
      of_either (inr same) =
          subst (λ i. Fit (lead_of (part_of_interface w name (interface_of w n))) (lead_of (part_of_interface v name i))) (sym same)
          (interface_part_fits name (interface_of w n))

-- an interface that is set
pub set_others : {X : Type 0} (xs : List X) (n m : ℕ) (x : X) → (n ≡ m → ⊥) → slice_get (set xs n x) m ≡ slice_get xs m
set_others [] zero m x other = refl
set_others [] (suc n) m x other = refl
set_others (y ∷ xs) zero zero x other = absurd (other refl)
set_others (y ∷ xs) zero (suc m) x other = refl
set_others (y ∷ xs) (suc n) zero x other = refl
set_others (y ∷ xs) (suc n) (suc m) x other = set_others xs n m x (λ e. other (ap suc e))

-- a place in which names look at the same innermost region, then at what is seen of the library, then at the predefined names
pub places_alike : (w v : World) (one other : Env) (region es fs : Region) → IsGrown w v → v.standard ≡ w.standard
    → one.world ≡ w → other.world ≡ v → one.own_package ≡ None → other.own_package ≡ None
    → regions_of one ≡ (region ∷ [] ∷ es ∷ w.standard.predefined ∷ []) → regions_of other ≡ (region ∷ [] ∷ fs ∷ v.standard.predefined ∷ [])
    → AreAlikeRegions es fs → AreAlikePlaces one other
places_alike w v one other region es fs grown standard of_one of_other own_one own_other first second all = record {
  names = λ name.
      subst (λ rs. Fit (lead_of (visible name rs)) (lead_of (visible name (regions_of other)))) (sym first)
      (subst (λ rs. Fit (lead_of (visible name (region ∷ [] ∷ es ∷ w.standard.predefined ∷ []))) (lead_of (visible name rs))) (sym second)
      (subst (λ t. Fit (lead_of (visible name (region ∷ [] ∷ es ∷ w.standard.predefined ∷ []))) (lead_of (visible name (region ∷ [] ∷ fs ∷ t.predefined ∷ []))))
      (sym standard)
      (behind_same (entity_of name region) _ _
      (behind_alike (entity_of name es) (entity_of name fs) (option_or (entity_of name w.standard.predefined) None) (entities_alike name es fs all)))));
  parts = λ n name.
      subst (λ o. Fit (lead_of (part_of_unit one n name)) (lead_of (part_of_unit (record other { own_package = o }) n name))) (sym own_other)
      (subst (λ o. Fit (lead_of (part_of_unit (record one { own_package = o }) n name)) (lead_of (part_of_unit (record other { own_package = None }) n name))) (sym own_one)
      (subst (λ x. Fit (lead_of (part_of_interface x name (interface_of x n))) (lead_of (part_of_interface other.world name (interface_of other.world n)))) (sym of_one)
      (subst (λ x. Fit (lead_of (part_of_interface w name (interface_of w n))) (lead_of (part_of_interface x name (interface_of x n)))) (sym of_other)
      (parts_fit w v grown n name))));
  standard = ap (λ x. x.standard) of_one ∙ (sym standard ∙ ap (λ x. x.standard) (sym of_other));
}
