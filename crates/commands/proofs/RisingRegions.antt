-- The regions of an object that passed its checks rise, so each look-up among them halves.
use Rattle.std.proofs.Common.{◌≡◌, ℕ, Bool, true, false, not, ◌&&◌, ◌||◌, nat_lt, nat_eq, nat_cmp, is_lt, Ordering, List, [], ◌∷◌, length, refl, sym, ap, ◌∙◌, arith}
use Rattle.std.specs.Ordering.{ordering_then}
use Rattle.std.specs.Cmp.Lexicographic.{slice_cmp}
use Rattle.std.specs.List.{list_all}
use Rattle.std.proofs.lemmas.Bool.Decides.{nat_tests}
use Rattle.cov_base.specs.declared.obligations.Region.{Region}
use Rattle.object_format.specs.declared.object.Object.{Object}
use Rattle.object_format.specs.Checked.{IsSound}
use Rattle.object_format.specs.Fields.{is_placed, are_files, are_instances, are_exceptions, are_statements, are_decisions, region_key, is_clear_of, is_region, are_regions, are_obliged, passes_field}
use Rattle.object_format.specs.Order.{is_below}
use Rattle.annotated_report.specs.Rising.{is_behind, rise}

left_holds : (a b : Bool) → (a && b) ≡ true → a ≡ true
left_holds true b both = refl
left_holds false b both = both

right_holds : (a b : Bool) → (a && b) ≡ true → b ≡ true
right_holds true b both = both
right_holds false b both = let bad : ⊥ = cc in absurd bad

both_hold : (a b : Bool) → a ≡ true → b ≡ true → (a && b) ≡ true
both_hold a b one other = ap (λ x. x && b) one ∙ other

-- numbers that are compared by the first of them, and then by the others
first_then : (a b : ℕ) (o : Ordering) → is_lt (ordering_then (nat_cmp a b) o) ≡ (nat_lt a b || nat_eq a b && is_lt o)
first_then a b o = grind (arith, nat_tests)

below_first : (a b : ℕ) (xs ys : List ℕ) → is_below (a ∷ xs) (b ∷ ys) ≡ (nat_lt a b || nat_eq a b && is_below xs ys)
below_first a b xs ys = first_then a b (slice_cmp nat_cmp xs ys)

-- three numbers stand before three others as places do, unless they are the same
three_below : (a b c d e f : ℕ) (xs ys : List ℕ) → is_below (a ∷ b ∷ c ∷ xs) (d ∷ e ∷ f ∷ ys)
    ≡ (nat_lt a d || nat_eq a d && (nat_lt b e || nat_eq b e && (nat_lt c f || nat_eq c f && is_below xs ys)))
three_below a b c d e f xs ys =
    below_first a d (b ∷ c ∷ xs) (e ∷ f ∷ ys)
    ∙ ap (λ r. nat_lt a d || nat_eq a d && r) (below_first b e (c ∷ xs) (f ∷ ys) ∙ ap (λ r. nat_lt b e || nat_eq b e && r) (below_first c f xs ys))

not_back : (a b c d e f : ℕ) (more : Bool) → (nat_lt a d || nat_eq a d && (nat_lt b e || nat_eq b e && (nat_lt c f || nat_eq c f && more))) ≡ true
    → (nat_lt d a || nat_eq d a && (nat_lt e b || nat_eq e b && nat_lt f c)) ≡ false
not_back a b c d e f more h = grind (arith, nat_tests)

-- what stands before another place is not behind it
not_behind : (a b c d e f : ℕ) (xs ys : List ℕ) → is_below (a ∷ b ∷ c ∷ xs) (d ∷ e ∷ f ∷ ys) ≡ true
    → (nat_lt d a || nat_eq d a && (nat_lt e b || nat_eq e b && nat_lt f c)) ≡ false
not_behind a b c d e f xs ys h = not_back a b c d e f (is_below xs ys) (sym (three_below a b c d e f xs ys) ∙ h)

one_behind : (one next : Region) → (is_below (region_key one) (region_key next) && is_clear_of one next) ≡ true → is_behind one next ≡ true
one_behind one next h =
    both_hold _ _
    (ap not (not_behind one.file one.from_line one.from_column next.file next.from_line next.from_column
    (one.to_line ∷ one.to_column ∷ []) (next.to_line ∷ next.to_column ∷ []) (left_holds _ _ h)))
    (ap not (not_behind one.file one.to_line one.to_column next.file next.from_line next.from_column [] []
    (right_holds (is_below (region_key one) (region_key next)) _ h)))

all_behind : (files : ℕ) (one : Region) (regions : List Region) → are_regions files (one ∷ regions) ≡ true → rise (one ∷ regions) ≡ true
all_behind files one [] h = refl
all_behind files one (next ∷ regions) h =
    let each = left_holds (list_all (is_region files) (one ∷ next ∷ regions)) _ h in
    let up = right_holds (list_all (is_region files) (one ∷ next ∷ regions)) _ h in
    both_hold (is_behind one next) _ (one_behind one next (left_holds _ _ up))
    (all_behind files next regions (both_hold (list_all (is_region files) (next ∷ regions)) _ (right_holds (is_region files one) _ each)
    (right_holds (is_below (region_key one) (region_key next) && is_clear_of one next) _ up)))

pub regions_rise : (files : ℕ) (regions : List Region) → are_regions files regions ≡ true → rise regions ≡ true
regions_rise files [] h = refl
regions_rise files (region ∷ regions) h = all_behind files region regions h

-- those of an object that passes its checks
pub object_rises : (o : Object) → passes_field o ≡ true → rise o.obligations.regions ≡ true
object_rises o h =
    let obliged : are_obliged (length o.files) o.obligations ≡ true = right_holds (is_placed o && are_files o.files) _ (left_holds _ _ (left_holds _ _ h)) in
    regions_rise (length o.files) o.obligations.regions
    (right_holds (are_instances (length o.files) o.obligations.instances && are_exceptions o.obligations.exceptions
    && are_statements (length o.files) o.obligations.statements
    && are_decisions (length o.files) (length o.obligations.statements) o.obligations.decisions) _ obliged)

pub regions_law : (o : Object) → IsSound o → rise o.obligations.regions ≡ true
regions_law o sound = object_rises o sound.field
