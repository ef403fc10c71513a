-- Values that take the same number of bytes each, and can be read at any place without those before.
use Rattle.std.specs.Prelude.{◌≡◌, ℕ, zero, suc, List, [], ◌∷◌, length, take, drop, Some, None, nat_lt, if◌then◌else◌}
use Rattle.spelling.specs.Format.{Format}

-- the values of so many pieces of a size
abbrev pub values : {X : Type 0} → (List ℕ → X) → ℕ → ℕ → List ℕ → List X
values value size zero bytes = []
values value size (suc n) bytes = value (take size bytes) ∷ values value size n (drop size bytes)

-- where there are size bytes, the format reads from them the value that they spell, and else nothing
pub record IsFixed {X : Type 0} (f : Format X) (size : ℕ) (value : List ℕ → X) : Type 0 where
  pub reads : (bytes : List ℕ) → f.read bytes ≡ (if nat_lt (length bytes) size then None else Some (value (take size bytes), drop size bytes))
