-- How many findings each region holds, counted finding by finding.
use Rattle.std.proofs.Common.{◌≡◌, ◌≤◌, ℕ, zero, suc, ◌+◌, Bool, true, false, not, cond, List, [], ◌∷◌, ◌++◌, length, drop, filter, slice_index_or, slice_set, Option, Some, None, option_map, refl, sym, ap, ◌∙◌, inl, inr, if◌then◌else◌, arith}
use Rattle.std.proofs.lemmas.Bool.{cases_Bool}
use Rattle.std.proofs.lemmas.List.{append_assoc, length_push}
use Rattle.cov_base.specs.declared.obligations.Region.{Region}
use Rattle.cov_base.specs.declared.position.Pos.{Pos}
use Rattle.exemptions.specs.Regions.{is_inside}
use Rattle.annotated_report.specs.declared.finding.Finding.{Finding}
use Rattle.annotated_report.specs.Held.{number_round, counted, held_counts}

append_nil : {X : Type 0} (xs : List X) → xs ++ [] ≡ xs
append_nil [] = refl
append_nil (x ∷ xs) = ap (λ l. x ∷ l) (append_nil xs)

-- ---- one more item that passes, or not

chosen : {X : Type 0} (b : Bool) (y : X) (more less last : List X) → more ≡ less ++ last → cond b (y ∷ more) more ≡ cond b (y ∷ less) less ++ last
chosen true y more less last is = ap (λ l. y ∷ l) is
chosen false y more less last is = is

filter_last : {X : Type 0} (p : X → Bool) (xs : List X) (x : X) → filter p (xs ++ x ∷ []) ≡ filter p xs ++ cond (p x) (x ∷ []) []
filter_last p [] x = refl
filter_last p (y ∷ ys) x = chosen (p y) y (filter p (ys ++ x ∷ [])) (filter p ys) (cond (p x) (x ∷ []) []) (filter_last p ys x)

taken : {X : Type 0} (p : X → Bool) (xs : List X) (x : X) → p x ≡ true → filter p (xs ++ x ∷ []) ≡ filter p xs ++ x ∷ []
taken p xs x is = filter_last p xs x ∙ ap (λ b. filter p xs ++ cond b (x ∷ []) []) is

left_out : {X : Type 0} (p : X → Bool) (xs : List X) (x : X) → p x ≡ false → filter p (xs ++ x ∷ []) ≡ filter p xs
left_out p xs x is = filter_last p xs x ∙ ap (λ b. filter p xs ++ cond b (x ∷ []) []) is ∙ append_nil (filter p xs)

-- ---- one more finding

next_number : (p : Pos) (n : ℕ) (rs : List Region) → number_round p (n + 1) rs ≡ option_map suc (number_round p n rs)
next_number p n [] = refl
next_number p n (r ∷ rs) = by_test (is_inside p r) (next_number p (n + 1) rs)
  where
    by_test : (here : Bool) → number_round p (n + 1 + 1) rs ≡ option_map suc (number_round p (n + 1) rs)
        → cond here (Some (n + 1)) (number_round p (n + 1 + 1) rs) ≡ option_map suc (cond here (Some n) (number_round p (n + 1) rs))
    by_test true later = let same : n + 1 ≡ suc n = omega arith in ap (λ k. Some k) same
    by_test false later = later

counted_behind : (o : Option ℕ) (count : ℕ) (counts : List ℕ) → counted (option_map suc o) (count ∷ counts) ≡ count ∷ counted o counts
counted_behind None count counts = refl
counted_behind (Some n) count counts = refl

-- a finding that the first region holds is counted for it
held_first : (found : List Finding) (f : Finding) (r : Region) (rs : List Region) → is_inside f.key.pos r ≡ true
    → held_counts (found ++ f ∷ []) (r ∷ rs) ≡ counted (number_round f.key.pos 0 (r ∷ rs)) (held_counts found (r ∷ rs))
held_first found f r rs is =
    let inside : Finding → Bool = λ g. is_inside g.key.pos r in
    let outside : Finding → Bool = λ g. not (is_inside g.key.pos r) in
    let count = length (filter inside found) in
    let old = held_counts (filter outside found) rs in
    ap (λ n. n ∷ held_counts (filter outside (found ++ f ∷ [])) rs) (ap length (taken inside found f is) ∙ length_push (filter inside found) f)
    ∙ ap (λ gs. (count + 1) ∷ held_counts gs rs) (left_out outside found f (ap not is))
    ∙ sym (ap (λ b. counted (if b then Some 0 else number_round f.key.pos 1 rs) (count ∷ old)) is)

-- and one that it doesn't hold is counted among the later ones
held_later : (found : List Finding) (f : Finding) (r : Region) (rs : List Region) → is_inside f.key.pos r ≡ false
    → held_counts (filter (λ (g : Finding). not (is_inside g.key.pos r)) found ++ f ∷ []) rs
    ≡ counted (number_round f.key.pos 0 rs) (held_counts (filter (λ (g : Finding). not (is_inside g.key.pos r)) found) rs)
    → held_counts (found ++ f ∷ []) (r ∷ rs) ≡ counted (number_round f.key.pos 0 (r ∷ rs)) (held_counts found (r ∷ rs))
held_later found f r rs is later =
    let inside : Finding → Bool = λ g. is_inside g.key.pos r in
    let outside : Finding → Bool = λ g. not (is_inside g.key.pos r) in
    let count = length (filter inside found) in
    let old = held_counts (filter outside found) rs in
    ap (λ n. n ∷ held_counts (filter outside (found ++ f ∷ [])) rs) (ap length (left_out inside found f is))
    ∙ ap (λ gs. count ∷ held_counts gs rs) (taken outside found f (ap not is))
    ∙ ap (λ counts. count ∷ counts) later
    ∙ sym (counted_behind (number_round f.key.pos 0 rs) count old)
    ∙ sym (ap (λ o. counted o (count ∷ old)) (next_number f.key.pos 0 rs))
    ∙ sym (ap (λ b. counted (if b then Some 0 else number_round f.key.pos 1 rs) (count ∷ old)) is)

one_more : (found : List Finding) (f : Finding) (regions : List Region)
    → held_counts (found ++ f ∷ []) regions ≡ counted (number_round f.key.pos 0 regions) (held_counts found regions)
one_more found f [] = refl
one_more found f (r ∷ rs) =
    elim (cases_Bool (is_inside f.key.pos r)) [
      | inl is ↦ held_first found f r rs is
      | inr is ↦ held_later found f r rs is (one_more (filter (λ (g : Finding). not (is_inside g.key.pos r)) found) f rs)
    ]

-- the counts once each of these findings is counted
abbrev pub all_counted : List Region → (counts : List ℕ) → List Finding → List ℕ
all_counted regions counts [] = counts
all_counted regions counts (f ∷ fs) = all_counted regions (counted (number_round f.key.pos 0 regions) counts) fs

counted_all : (regions : List Region) (done left : List Finding) → all_counted regions (held_counts done regions) left ≡ held_counts (done ++ left) regions
counted_all regions done [] = ap (λ fs. held_counts fs regions) (sym (append_nil done))
counted_all regions done (f ∷ left) =
    ap (λ counts. all_counted regions counts left) (sym (one_more done f regions))
    ∙ counted_all regions (done ++ f ∷ []) left
    ∙ ap (λ fs. held_counts fs regions) (append_assoc done (f ∷ []) left)

-- before the first finding nothing is counted
none_held : (regions : List Region) (counts : List ℕ) → length counts ≡ length regions → ((n : ℕ) → slice_index_or counts n 0 ≡ 0) → counts ≡ held_counts [] regions
none_held [] [] long none = refl
none_held [] (count ∷ counts) long none = cc
none_held (r ∷ rs) [] long none = cc
none_held (r ∷ rs) (count ∷ counts) long none =
    ap (λ n. n ∷ counts) (none 0) ∙ ap (λ l. 0 ∷ l) (none_held rs counts (cc) (λ n. none (suc n)))

pub all_from_none : (regions : List Region) (counts : List ℕ) (found : List Finding) → length counts ≡ length regions
    → ((n : ℕ) → slice_index_or counts n 0 ≡ 0) → all_counted regions counts found ≡ held_counts found regions
all_from_none regions counts found long none =
    ap (λ l. all_counted regions l found) (none_held regions counts long none) ∙ counted_all regions [] found

-- one more finding is counted, and those behind it
pub all_more : (regions : List Region) (found : List Finding) (i : ℕ) (f : Finding) (old new all : List ℕ) → drop i found ≡ f ∷ drop (i + 1) found
    → new ≡ counted (number_round f.key.pos 0 regions) old → all_counted regions old (drop i found) ≡ all → all_counted regions new (drop (i + 1) found) ≡ all
all_more regions found i f old new all next is whole =
    ap (λ l. all_counted regions l (drop (i + 1) found)) is ∙ ap (all_counted regions old) (sym next) ∙ whole

-- ---- counts stay as many, and grow by one at most

set_length : (counts : List ℕ) (n c : ℕ) → length (slice_set counts n c) ≡ length counts
set_length [] n c = refl
set_length (count ∷ counts) zero c = refl
set_length (count ∷ counts) (suc n) c = ap suc (set_length counts n c)

pub as_many : (o : Option ℕ) (counts : List ℕ) → length (counted o counts) ≡ length counts
as_many None counts = refl
as_many (Some n) counts = set_length counts n (slice_index_or counts n 0 + 1)

set_few : (counts : List ℕ) (n k : ℕ) → slice_index_or (slice_set counts n (slice_index_or counts n 0 + 1)) k 0 ≤ slice_index_or counts k 0 + 1
set_few [] n k = omega arith
set_few (count ∷ counts) zero zero = omega arith
set_few (count ∷ counts) zero (suc k) = omega arith
set_few (count ∷ counts) (suc n) zero = omega arith
set_few (count ∷ counts) (suc n) (suc k) = set_few counts n k

pub one_at_most : (o : Option ℕ) (counts : List ℕ) (k : ℕ) → slice_index_or (counted o counts) k 0 ≤ slice_index_or counts k 0 + 1
one_at_most None counts k = omega arith
one_at_most (Some n) counts k = set_few counts n k
