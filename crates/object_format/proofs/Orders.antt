-- Lists in which each item comes before the next.
use Rattle.std.proofs.Common.{◌≡◌, ℕ, zero, suc, ◌+◌, ◌<◌, Bool, true, false, ◌&&◌, List, [], ◌∷◌, length, slice_index_or, refl, subst, arith}
use Rattle.std.specs.List.{IsAllAdjacentAnswer, AllAdjacentBelow}
use Rattle.spelling.specs.Checks.{rising, rising_after}

both : (a b : Bool) → true ≡ a → true ≡ b → true ≡ (a && b)
both true b h k = k
both false b h k = h

first_fails : (a b : Bool) → false ≡ a → false ≡ (a && b)
first_fails false b h = refl
first_fails true b h = let bad : ⊥ = cc in absurd bad

second_fails : (a b : Bool) → false ≡ b → false ≡ (a && b)
second_fails false b h = refl
second_fails true b h = h

-- places in the list behind the first item
next_of : {X : Type 0} (e : X → X → Bool) (x : X) (xs : List X) (k : ℕ) (d : X) (b : Bool) → b ≡ e (slice_index_or (x ∷ xs) (suc k) d) (slice_index_or (x ∷ xs) (suc k + 1) d) → b ≡ e (slice_index_or xs k d) (slice_index_or xs (k + 1) d)
next_of e x xs k d b h =
    let one : suc k + 1 ≡ suc (k + 1) = omega arith in
    subst (λ n. b ≡ e (slice_index_or xs k d) (slice_index_or (x ∷ xs) n d)) one h

rises_all : {X : Type 0} (e : X → X → Bool) (x : X) (xs : List X) → AllAdjacentBelow (λ x y. true ≡ e x y) (x ∷ xs) (suc (length xs)) → true ≡ rising_after e x xs
rises_all e x [] h = refl
rises_all e x (y ∷ xs) h =
    both (e x y) (rising_after e y xs) (h 0 x (omega arith))
    (rises_all e y xs (λ k d lt. next_of e x (y ∷ xs) k d true (h (suc k) d (omega arith))))

rises_not : {X : Type 0} (e : X → X → Bool) (x : X) (xs : List X) (k : ℕ) → k < length xs → ((d : X) → false ≡ e (slice_index_or (x ∷ xs) k d) (slice_index_or (x ∷ xs) (k + 1) d)) → false ≡ rising_after e x xs
rises_not e x [] k lt h = let bad : ⊥ = omega arith in absurd bad
rises_not e x (y ∷ xs) zero lt h = first_fails (e x y) (rising_after e y xs) (h x)
rises_not e x (y ∷ xs) (suc k) lt h =
    second_fails (e x y) (rising_after e y xs)
    (rises_not e y xs k (omega arith) (λ d. next_of e x (y ∷ xs) k d false (h d)))

-- what `is_sorted_by` answers
pub rises_answer : {X : Type 0} (e : X → X → Bool) (xs : List X) (r : Bool) → IsAllAdjacentAnswer (λ x y b. b ≡ e x y) xs r → r ≡ rising e xs
rises_answer e [] true h = refl
rises_answer e [] false h = let lt = h.1 in let bad : ⊥ = omega arith in absurd bad
rises_answer e (x ∷ xs) true h = rises_all e x xs h
rises_answer e (x ∷ xs) false h = let lt = h.1 in rises_not e x xs h.0 (omega arith) h.2
