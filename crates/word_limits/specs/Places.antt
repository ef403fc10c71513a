-- The instances of a generic, one by one.
use Rattle.std.specs.Prelude.{ℕ, nat_eq, List, [], ◌∷◌, if◌then◌else◌}
use Rattle.ada_demands.specs.declared.facts.Facts.{Facts}

-- an instance with this number, where it is one of the generic
abbrev pub place_in : (generic number : ℕ) → Facts → List ℕ
place_in g n f = if nat_eq f.generic g then n ∷ [] else []
