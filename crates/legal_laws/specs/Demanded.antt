-- Where a demand on static values is asked: in the instances of the generic in whose text it stands, or, where it
-- stands in none, once.
use Rattle.std.specs.Prelude.{◌≡◌, ◌⊎◌, ℕ, true, List, [], ◌∷◌, Option, Some, None}
use Rattle.ada_rules.specs.Statics.{Demand, Asked, asked, instantiated, Facts, holds}

-- a demand is one of these
abbrev pub IsDemanded : Demand → List Asked → Type 0
IsDemanded d [] = ⊥
IsDemanded d (asked e ∷ rest) = (e ≡ d) ⊎ IsDemanded d rest
IsDemanded d (instantiated g i ∷ rest) = IsDemanded d rest

-- an instance of a generic was made among these
abbrev pub IsMade : (generic instance : ℕ) → List Asked → Type 0
IsMade g i [] = ⊥
IsMade g i (asked d ∷ rest) = IsMade g i rest
IsMade g i (instantiated h j ∷ rest) = ((h ≡ g) × (j ≡ i)) ⊎ IsMade g i rest

-- what stands in the text of this generic, or of none, is looked at in the instance with this number
abbrev pub IsLookedIn : Option ℕ → ℕ → List Asked → Type 0
IsLookedIn None i xs = i ≡ 0
IsLookedIn (Some g) i xs = IsMade g i xs

-- each demand is met wherever it is asked
abbrev pub AreMet : List Facts → List Asked → Type 0
AreMet facts xs = (d : Demand) (i : ℕ) → IsDemanded d xs → IsLookedIn d.generic i xs → holds facts i d.test ≡ true
