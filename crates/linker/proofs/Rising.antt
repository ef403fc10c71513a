-- Lists whose items are at addresses that rise, and what is found in them.
use Rattle.std.proofs.Common.{◌≡◌, ℕ, ◌+◌, ◌%◌, ◌≤◌, ◌<◌, ◌==◌, Bool, true, false, cond, List, [], ◌∷◌, ◌++◌, Option, Some, None, find, refl, ap, ⊎_elim, arith}
use Rattle.std.proofs.lemmas.Bool.{cases_eq}
use Rattle.std.proofs.lemmas.Bool.Decides.{nat_tests}

-- the addresses of items are multiples of 4 that rise from one address on up to another
abbrev pub RiseFrom : {X : Type 0} → (X → ℕ) → (low high : ℕ) → List X → Type 0
RiseFrom key low high [] = low ≤ high
RiseFrom key low high (x ∷ xs) = (low ≤ key x) × (key x % 4 ≡ 0) × RiseFrom key (key x + 1) high xs

pub lower : {X : Type 0} (key : X → ℕ) (low low' high : ℕ) (xs : List X) → low ≤ low' → RiseFrom key low' high xs → RiseFrom key low high xs
lower key low low' high [] less rise = omega arith
lower key low low' high (x ∷ xs) less (above, multiple, rise) = (omega arith, multiple, rise)

pub rise_on : {X : Type 0} (key : X → ℕ) (low middle high : ℕ) (xs ys : List X) → RiseFrom key low middle xs → RiseFrom key middle high ys → RiseFrom key low high (xs ++ ys)
rise_on key low middle high [] ys front back = lower key low middle high ys front back
rise_on key low middle high (x ∷ xs) ys (above, multiple, front) back = (above, multiple, rise_on key (key x + 1) middle high xs ys front back)

pub below_high : {X : Type 0} (key : X → ℕ) (low high : ℕ) (xs : List X) → RiseFrom key low high xs → low ≤ high
below_high key low high [] rise = rise
below_high key low high (x ∷ xs) (above, multiple, rise) =
    let below = below_high key (key x + 1) high xs rise in omega arith

-- nothing is found below and above

pub find_below : {X : Type 0} (key : X → ℕ) (low high address : ℕ) (xs : List X) → RiseFrom key low high xs → address < low → find (λ x. key x == address) xs ≡ None
find_below key low high address [] rise less = refl
find_below key low high address (x ∷ xs) (above, multiple, rise) less =
    let test : (key x == address) ≡ false = grind (arith, nat_tests) in
    rw test (find_below key (key x + 1) high address xs rise (omega arith))

pub find_above : {X : Type 0} (key : X → ℕ) (low high address : ℕ) (xs : List X) → RiseFrom key low high xs → high ≤ address → find (λ x. key x == address) xs ≡ None
find_above key low high address [] rise less = refl
find_above key low high address (x ∷ xs) (above, multiple, rise) less =
    let below = below_high key (key x + 1) high xs rise in
    let test : (key x == address) ≡ false = grind (arith, nat_tests) in
    rw test (find_above key (key x + 1) high address xs rise less)

-- two lists, of which one has nothing

skip : {X : Type 0} (b : Bool) (x : X) (o p q : Option X) → (o ≡ None → p ≡ q) → cond b (Some x) o ≡ None → cond b (Some x) p ≡ q
skip true x o p q same is_none = absurd (let no : ⊥ = cc in no)
skip false x o p q same is_none = same is_none

pub find_skips : {X : Type 0} (test : X → Bool) (xs ys : List X) → find test xs ≡ None → find test (xs ++ ys) ≡ find test ys
find_skips test [] ys none = refl
find_skips test (x ∷ xs) ys none =
    skip (test x) x (find test xs) (find test (xs ++ ys)) (find test ys) (find_skips test xs ys) none

pub find_stops : {X : Type 0} (test : X → Bool) (xs ys : List X) → find test ys ≡ None → find test (xs ++ ys) ≡ find test xs
find_stops test [] ys none = none
find_stops test (x ∷ xs) ys none = ap (cond (test x) (Some x)) (find_stops test xs ys none)

-- the item at an address is found exactly where its place is
pub chosen : {X : Type 0} (address a i j : ℕ) (at : ℕ → X) (o p : Option X) → o ≡ p → (i ≡ j → address ≡ a) → ((i ≡ j → ⊥) → address ≡ a → ⊥) → cond (address == a) (Some (at address)) o ≡ cond (i == j) (Some (at a)) p
chosen address a i j at o p same is_there is_elsewhere =
    ⊎_elim
    (λ (e : i ≡ j).
    let there = is_there e in
    let found : (address == a) ≡ true = grind (arith, nat_tests) in
    let named : (i == j) ≡ true = grind (arith, nat_tests) in
    rw (found, named) (ap (λ n. Some (at n)) there))
    (λ (n : i ≡ j → ⊥).
    let elsewhere = is_elsewhere n in
    let found : (address == a) ≡ false = grind (arith, nat_tests) in
    let named : (i == j) ≡ false = grind (arith, nat_tests) in
    rw (found, named) same)
    (cases_eq i j)
