-- What choices name, sorted and one after the other.
use Rattle.std.proofs.Common.{◌≡◌, ℕ, ℤ, ◌<◌, Bool, true, false, not, cond, ◌&&◌, List, [], ◌∷◌, map, length, get_or, drop, ◌+◌, ◌+ℤ◌, pos, Option, int_lt, int_le, int_cmp, refl, sym, ap, ◌∙◌, inl, inr, arith, is_lt, IsSortedByKey}
use Rattle.std.specs.declared.cmp.Ordering.TheVariants.{Less, Equal, Greater}
use Rattle.std.specs.List.Sorted.{IsStableByKey}
use Rattle.std.proofs.lemmas.Bool.{cases_Bool, cond-true, cond-false}
use Rattle.std.proofs.lemmas.Cmp.{int_cmp_total}
use Rattle.std.proofs.lemmas.Int.{ints}
use Rattle.std.proofs.lemmas.List.{at_drop_more}
use Rattle.ada_meaning.specs.Program.{Bounds}
use Rattle.ada_meaning.specs.Obligations.{inserted, in_order}
use Rattle.ada_tree.specs.declared.types.Range.{Range}
use Rattle.ada_tree.specs.declared.statement.Choice.{Choice}
use Rattle.ada_tree.specs.Programs.{bounds_of}
use Rattle.ada_tree.specs.View.{choice_of}
use Rattle.ada_rules.specs.Statics.{Facts, named_by, all_named, placed, sorted, named_once}
use Rattle.obligations.proofs.Sorting.{sorted_is}
use Rattle.ada_demands.specs.ChoiceViews.{with_named, is_next}

-- one more choice, which may name nothing
pub one_named : (instances : List Facts) (n : ℕ) (cs : List Choice) (i : ℕ) (d : Choice) (o : Option Bounds) → i < length cs
    → ((bs : List Bounds) → named_by instances n (choice_of (get_or cs i d)) bs ≡ with_named o bs)
    → all_named instances n (map choice_of (drop i cs)) ≡ with_named o (all_named instances n (map choice_of (drop (i + 1) cs)))
one_named instances n cs i d o less names =
    at_drop_more (λ us. all_named instances n (map choice_of us)) cs i d less
    ∙ names (all_named instances n (map choice_of (drop (i + 1) cs)))

-- by their first values
abbrev pub begins_before : Range → Range → Bool
begins_before x y = is_lt (int_cmp x.first y.first)

by_tests : (lt gt : Bool) → is_lt (cond lt Less (cond gt Greater Equal)) ≡ lt
by_tests true gt = refl
by_tests false true = refl
by_tests false false = refl

turned : (x y : ℤ) → int_le x y ≡ not (int_lt y x)
turned x y = grind (arith, ints)

before_is : (x y : Range) → int_le x.first y.first ≡ not (begins_before y x)
before_is x y = turned x.first y.first ∙ ap not (sym (by_tests (int_lt y.first x.first) (int_lt x.first y.first)))

placed_is : (instances : List Facts) (x : Range) (ys : List Range)
    → map bounds_of (inserted begins_before x ys) ≡ placed instances (bounds_of x) (map bounds_of ys)
placed_is instances x [] = refl
placed_is instances x (y ∷ ys) =
    let b = begins_before y x in
    let front = bounds_of x ∷ bounds_of y ∷ map bounds_of ys in
    let later = bounds_of y ∷ placed instances (bounds_of x) (map bounds_of ys) in
    elim (cases_Bool b) [
      | inl go ↦
          ap (map bounds_of) (cond-true b (y ∷ inserted begins_before x ys) (x ∷ y ∷ ys) go)
          ∙ (ap (λ l. bounds_of y ∷ l) (placed_is instances x ys)
          ∙ sym (cond-false (int_le x.first y.first) front later (before_is x y ∙ ap not go)))
      | inr stay ↦
          ap (map bounds_of) (cond-false b (y ∷ inserted begins_before x ys) (x ∷ y ∷ ys) stay)
          ∙ sym (cond-true (int_le x.first y.first) front later (before_is x y ∙ ap not stay))
    ]

pub bounds_sorted : (instances : List Facts) (xs : List Range) → map bounds_of (in_order begins_before xs) ≡ sorted instances (map bounds_of xs)
bounds_sorted instances [] = refl
bounds_sorted instances (x ∷ xs) =
    placed_is instances x (in_order begins_before xs) ∙ ap (placed instances (bounds_of x)) (bounds_sorted instances xs)

pub sorted_by_first : (xs ys : List Range) → IsSortedByKey (λ (r : Range). r.first) int_cmp ys → IsStableByKey (λ (r : Range). r.first) int_cmp xs ys
    → (instances : List Facts) → map bounds_of ys ≡ sorted instances (map bounds_of xs)
sorted_by_first xs ys order stable instances =
    ap (map bounds_of) (sorted_is (λ (r : Range). r.first) int_cmp int_cmp_total xs ys order stable) ∙ bounds_sorted instances xs

-- the next one, in the order of their first values
pub next_fails : (instances : List Facts) (others : Bool) (next last : ℤ) (xs : List Range) (i : ℕ) (d : Range) → i < length xs
    → is_next others next last (bounds_of (get_or xs i d)) ≡ false → named_once instances others next last (map bounds_of (drop i xs)) ≡ false
next_fails instances others next last xs i d less h =
    at_drop_more (λ us. named_once instances others next last (map bounds_of us)) xs i d less
    ∙ ap (λ b. b && named_once instances others ((get_or xs i d).last +ℤ pos 1) last (map bounds_of (drop (i + 1) xs))) h

pub next_passes : (instances : List Facts) (others : Bool) (next last : ℤ) (xs : List Range) (i : ℕ) (d : Range) → i < length xs
    → is_next others next last (bounds_of (get_or xs i d)) ≡ true
    → named_once instances others next last (map bounds_of (drop i xs)) ≡ named_once instances others ((get_or xs i d).last +ℤ pos 1) last (map bounds_of (drop (i + 1) xs))
next_passes instances others next last xs i d less h =
    at_drop_more (λ us. named_once instances others next last (map bounds_of us)) xs i d less
    ∙ ap (λ b. b && named_once instances others ((get_or xs i d).last +ℤ pos 1) last (map bounds_of (drop (i + 1) xs))) h
