-- What the code keeps of events, by number.
use Rattle.std.specs.Prelude.{ℕ, Bool, false, List, [], slice_index_or}
use Rattle.cov_base.specs.declared.event.Vector.{Vector}

-- the mark with this number; past the last one there is none
abbrev pub marked : List Bool → ℕ → Bool
marked marks n = slice_index_or marks n false

-- the vectors with this number; past the last ones there are none
abbrev pub collected : List (List Vector) → ℕ → List Vector
collected lists d = slice_index_or lists d []
