-- Of regions that rise at most one holds a place: the last that begins before it.
use Rattle.std.proofs.Common.{◌≡◌, ℕ, suc, ◌+◌, Bool, true, false, not, ◌&&◌, ◌||◌, List, [], ◌∷◌, ◌++◌, length, slice_get, Option, Some, None, is_some, option_map, if◌then◌else◌, cond, refl, sym, ap, ◌∙◌, arith}
use Rattle.std.proofs.lemmas.Bool.Decides.{nat_tests}
use Rattle.cov_base.specs.declared.obligations.Region.{Region}
use Rattle.cov_base.specs.declared.position.Pos.{Pos}
use Rattle.cov_base.specs.TextOrder.{precedes}
use Rattle.exemptions.specs.Regions.{start_of, end_of, is_inside, is_exempt}
use Rattle.annotated_report.specs.Held.{number_round}
use Rattle.annotated_report.specs.Lines.{region_round}
use Rattle.annotated_report.specs.Rising.{is_behind, rise_behind, rise, begins_before}

-- what doesn't begin before a place, and what doesn't begin before that, doesn't begin before the place either
still_later : (a b p : Pos) → precedes a p ≡ false → precedes b a ≡ false → precedes b p ≡ false
still_later a b p first next = grind (arith, nat_tests)

-- a place behind a start that doesn't come before an end is not before that end
past : (start end p : Pos) → precedes start end ≡ false → precedes start p ≡ true → precedes p end ≡ false
past start end p clear begun = grind (arith, nat_tests)

-- a region that doesn't begin before a place doesn't hold it
not_begun : (r : Region) (p : Pos) → precedes (start_of r) p ≡ false → is_inside p r ≡ false
not_begun r p later = grind (arith, nat_tests)

-- nor does one whose end doesn't come behind the place
ended : (r : Region) (p : Pos) → precedes p (end_of r) ≡ false → is_inside p r ≡ false
ended r p behind = grind (arith, nat_tests)

left_holds : (a b : Bool) → (a && b) ≡ true → a ≡ true
left_holds true b both = refl
left_holds false b both = both

right_holds : (a b : Bool) → (a && b) ≡ true → b ≡ true
right_holds true b both = both
right_holds false b both = let bad : ⊥ = cc in absurd bad

is_not : (a : Bool) → not a ≡ true → a ≡ false
is_not true holds = sym holds
is_not false holds = refl

begins_later : (one next : Region) → is_behind one next ≡ true → precedes (start_of next) (start_of one) ≡ false
begins_later one next behind = is_not _ (left_holds _ _ behind)

is_clear : (one next : Region) → is_behind one next ≡ true → precedes (start_of next) (end_of one) ≡ false
is_clear one next behind = is_not _ (right_holds (not (precedes (start_of next) (start_of one))) _ behind)

-- one that doesn't hold the place is passed over
passed : (p : Pos) (n : ℕ) (r : Region) (rs : List Region) → is_inside p r ≡ false → number_round p (n + 1) rs ≡ number_round p n (r ∷ rs)
passed p n r rs outside = ap (λ b. if b then Some n else number_round p (n + 1) rs) (sym outside)

-- where the first of regions that rise doesn't begin before a place, none holds it
none_begun : (p : Pos) (n : ℕ) (r : Region) (rs : List Region) → rise_behind r rs ≡ true → precedes (start_of r) p ≡ false → number_round p n (r ∷ rs) ≡ None
none_begun p n r [] up later = sym (passed p n r [] (not_begun r p later))
none_begun p n r (next ∷ rs) up later =
    sym (passed p n r (next ∷ rs) (not_begun r p later))
    ∙ none_begun p (n + 1) next rs (right_holds (is_behind r next) _ up)
    (still_later (start_of r) (start_of next) p later (begins_later r next (left_holds _ _ up)))

-- where none of the later ones holds a place, the earlier ones answer
earlier_answer : (p : Pos) (n : ℕ) (xs ys : List Region) → ((m : ℕ) → number_round p m ys ≡ None) → number_round p n xs ≡ number_round p n (xs ++ ys)
earlier_answer p n [] ys none = sym (none n)
earlier_answer p n (x ∷ xs) ys none = ap (λ o. if is_inside p x then Some n else o) (earlier_answer p (n + 1) xs ys none)

-- among regions that rise a later one doesn't begin before an earlier one does, nor before that one ends
starts_rise : (r : Region) (xs : List Region) (y : Region) (ys : List Region) → rise_behind r (xs ++ y ∷ ys) ≡ true → precedes (start_of y) (start_of r) ≡ false
starts_rise r [] y ys up = begins_later r y (left_holds _ _ up)
starts_rise r (x ∷ xs) y ys up =
    still_later (start_of x) (start_of y) (start_of r) (begins_later r x (left_holds _ _ up))
    (starts_rise x xs y ys (right_holds (is_behind r x) _ up))

ends_before : (r : Region) (xs : List Region) (y : Region) (ys : List Region) → rise_behind r (xs ++ y ∷ ys) ≡ true → precedes (start_of y) (end_of r) ≡ false
ends_before r [] y ys up = is_clear r y (left_holds _ _ up)
ends_before r (x ∷ xs) y ys up =
    still_later (start_of x) (start_of y) (end_of r) (is_clear r x (left_holds _ _ up))
    (starts_rise x xs y ys (right_holds (is_behind r x) _ up))

-- those behind the first rise too
rest_rises : (r : Region) (rs : List Region) → rise_behind r rs ≡ true → rise rs ≡ true
rest_rises r [] up = refl
rest_rises r (next ∷ rs) up = right_holds (is_behind r next) _ up

pub later_rise : (xs ys : List Region) → rise (xs ++ ys) ≡ true → rise ys ≡ true
later_rise [] ys up = up
later_rise (x ∷ xs) ys up = later_rise xs ys (rest_rises x (xs ++ ys) up)

first_rise : (r : Region) (xs ys : List Region) → rise_behind r (xs ++ ys) ≡ true → rise_behind r xs ≡ true
first_rise r [] ys up = refl
first_rise r (x ∷ xs) ys up =
    ap (λ b. b && rise_behind x xs) (left_holds (is_behind r x) _ up) ∙ first_rise x xs ys (right_holds (is_behind r x) _ up)

pub earlier_rise : (xs ys : List Region) → rise (xs ++ ys) ≡ true → rise xs ≡ true
earlier_rise [] ys up = refl
earlier_rise (x ∷ xs) ys up = first_rise x xs ys up

-- where the later ones begin before a place, they answer as all do
pub later_answer : (p : Pos) (n : ℕ) (xs ys : List Region) → begins_before p ys ≡ true → rise (xs ++ ys) ≡ true
    → number_round p (n + length xs) ys ≡ number_round p n (xs ++ ys)
later_answer p n xs [] begun up = let bad : ⊥ = cc in absurd bad
later_answer p n [] (y ∷ ys) begun up =
    let here : n + 0 ≡ n = omega arith in
    ap (λ k. number_round p k (y ∷ ys)) here
later_answer p n (x ∷ xs) (y ∷ ys) begun up =
    let next : n + suc (length xs) ≡ n + 1 + length xs = omega arith in
    ap (λ k. number_round p k (y ∷ ys)) next
    ∙ later_answer p (n + 1) xs (y ∷ ys) begun (rest_rises x (xs ++ y ∷ ys) up)
    ∙ passed p n x (xs ++ y ∷ ys) (ended x p (past (start_of y) (end_of x) p (ends_before x xs y ys up) begun))

-- and where they don't, the earlier ones do
pub earlier_answers : (p : Pos) (n : ℕ) (xs ys : List Region) → begins_before p ys ≡ false → rise (xs ++ ys) ≡ true
    → number_round p n xs ≡ number_round p n (xs ++ ys)
earlier_answers p n xs [] later up = earlier_answer p n xs [] (λ m. refl)
earlier_answers p n xs (y ∷ ys) later up =
    earlier_answer p n xs (y ∷ ys) (λ m. none_begun p m y ys (later_rise xs (y ∷ ys) up) later)

-- ---- numbers, and the regions that have them

-- numbers from another start
moved : (p : Pos) (b n : ℕ) (rs : List Region) → number_round p (b + n) rs ≡ option_map (λ k. b + k) (number_round p n rs)
moved p b n [] = refl
moved p b n (r ∷ rs) =
    let next : b + n + 1 ≡ b + (n + 1) = omega arith in
    by_test (is_inside p r) (ap (λ k. number_round p k rs) next ∙ moved p b (n + 1) rs)
  where
    by_test : (here : Bool) → number_round p (b + n + 1) rs ≡ option_map (λ k. b + k) (number_round p (n + 1) rs)
        → cond here (Some (b + n)) (number_round p (b + n + 1) rs) ≡ option_map (λ k. b + k) (cond here (Some n) (number_round p (n + 1) rs))
    by_test true later = refl
    by_test false later = later

from_0 : (p : Pos) (b : ℕ) (rs : List Region) → number_round p b rs ≡ option_map (λ k. b + k) (number_round p 0 rs)
from_0 p b rs =
    let same : b ≡ b + 0 = omega arith in
    ap (λ k. number_round p k rs) same ∙ moved p b 0 rs

pub found_behind : (p : Pos) (b at : ℕ) (rs : List Region) → number_round p 0 rs ≡ Some at → number_round p b rs ≡ Some (b + at)
found_behind p b at rs is = from_0 p b rs ∙ ap (option_map (λ k. b + k)) is

pub none_behind : (p : Pos) (b : ℕ) (rs : List Region) → number_round p 0 rs ≡ None → number_round p b rs ≡ None
none_behind p b rs is = from_0 p b rs ∙ ap (option_map (λ k. b + k)) is

-- the region with the number
has_number : (p : Pos) (n m : ℕ) (rs : List Region) → number_round p n rs ≡ Some m → (k : ℕ) × (m ≡ n + k) × (slice_get rs k ≡ region_round p rs)
has_number p n m [] is = absurd (cc is)
has_number p n m (r ∷ rs) is = by_test (is_inside p r) refl is (has_number p (n + 1) m rs)
  where
    by_test : (here : Bool) → is_inside p r ≡ here → cond here (Some n) (number_round p (n + 1) rs) ≡ Some m
        → (number_round p (n + 1) rs ≡ Some m → (k : ℕ) × (m ≡ n + 1 + k) × (slice_get rs k ≡ region_round p rs))
        → (k : ℕ) × (m ≡ n + k) × (slice_get (r ∷ rs) k ≡ region_round p (r ∷ rs))
    by_test true inside found later =
        let same : n ≡ m = cc found in
        (0, omega (arith, same), sym (ap (λ b. if b then Some r else region_round p rs) inside))
    by_test false outside found later =
        let has = later found in
        (suc has.0, omega (arith, has.1), has.2 ∙ sym (ap (λ b. if b then Some r else region_round p rs) outside))

pub region_at : (p : Pos) (n : ℕ) (rs : List Region) → number_round p 0 rs ≡ Some n → slice_get rs n ≡ region_round p rs
region_at p n rs is =
    let has = has_number p 0 n rs is in
    let same : n ≡ has.0 = omega (arith, has.1) in
    ap (slice_get rs) same ∙ has.2

pub no_region : (p : Pos) (n : ℕ) (rs : List Region) → number_round p n rs ≡ None → region_round p rs ≡ None
no_region p n [] is = refl
no_region p n (r ∷ rs) is = by_test (is_inside p r) is (no_region p (n + 1) rs)
  where
    by_test : (here : Bool) → cond here (Some n) (number_round p (n + 1) rs) ≡ None → (number_round p (n + 1) rs ≡ None → region_round p rs ≡ None)
        → cond here (Some r) (region_round p rs) ≡ None
    by_test true none later = absurd (cc none)
    by_test false none later = later none

-- ---- whether one holds a place

found_or_held : (b : Bool) (r : Region) (o : Option Region) (e : Bool) → is_some o ≡ e → is_some (if b then Some r else o) ≡ (b || e)
found_or_held true r o e same = refl
found_or_held false r o e same = same

-- whether one holds a place is whether the first is found that does
held : (p : Pos) (rs : List Region) → is_some (region_round p rs) ≡ is_exempt rs p
held p [] = refl
held p (r ∷ rs) = found_or_held (is_inside p r) r (region_round p rs) (is_exempt rs p) (held p rs)

-- the same, as code finds it
pub held_by : {A : Type 0} (f : A → Region) (found : Option A) (p : Pos) (rs : List Region) → option_map f found ≡ region_round p rs → is_some found ≡ is_exempt rs p
held_by f None p rs is = ap is_some is ∙ held p rs
held_by f (Some region) p rs is = ap is_some is ∙ held p rs
