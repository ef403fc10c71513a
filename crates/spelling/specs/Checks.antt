-- Checks that go through a list from its front.
use Rattle.std.specs.Prelude.{ℕ, zero, suc, ◌+◌, Bool, true, ◌&&◌, List, [], ◌∷◌, Option, Some, None, if◌then◌else◌}

-- the place of the first entry that doesn't pass, each looked at with the one before it; places count from at
abbrev pub first_failing : {X : Type 0} → (Option X → X → Bool) → Option X → ℕ → List X → Option ℕ
first_failing passes before at [] = None
first_failing passes before at (x ∷ xs) = if passes before x then first_failing passes (Some x) (at + 1) xs else Some at

-- each value stands in the order after the one before it, the first after this one
abbrev pub rising_after : {X : Type 0} → (X → X → Bool) → X → List X → Bool
rising_after less before [] = true
rising_after less before (x ∷ xs) = less before x && rising_after less x xs

-- each value stands in the order after the one before it
abbrev pub rising : {X : Type 0} → (X → X → Bool) → List X → Bool
rising less [] = true
rising less (x ∷ xs) = rising_after less x xs

-- the entry before a place, where this one stands before the first
abbrev pub behind : {X : Type 0} → Option X → List X → ℕ → Option X
behind before xs zero = before
behind before [] (suc i) = None
behind before (x ∷ xs) (suc i) = behind (Some x) xs i
