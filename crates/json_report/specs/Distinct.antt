-- The distinct vectors of a decision, in their order.
use Rattle.std.specs.Prelude.{◌≡◌, ℕ, List, [], ◌∷◌, true, if◌then◌else◌}
use Rattle.cov_base.specs.declared.event.Vector.{Vector}
use Rattle.cov_base.specs.Lists.{Everywhere}
use Rattle.cov_base.specs.Marks.{marks, precedes}

-- a vector in front of those that don't come before it, unless the first of them has its marks
abbrev pub in_front : (conditions : ℕ) → Vector → List Vector → List Vector
in_front conditions v [] = v ∷ []
in_front conditions v (w ∷ ws) = if precedes conditions (marks v) (marks w) then v ∷ w ∷ ws else w ∷ ws

-- vectors in their order, and one more of so many conditions
abbrev pub added : (conditions : ℕ) → Vector → List Vector → List Vector
added conditions v [] = v ∷ []
added conditions v (w ∷ ws) =
    if precedes conditions (marks w) (marks v) then w ∷ added conditions v ws else in_front conditions v (w ∷ ws)

-- those that are kept in their order, and all of these
abbrev pub all_added : (conditions : ℕ) → (kept : List Vector) → List Vector → List Vector
all_added conditions kept [] = kept
all_added conditions kept (v ∷ vs) = all_added conditions (added conditions v kept) vs

-- the vectors in their order, F before T before a dash, condition by condition, each once
abbrev pub distinct : (conditions : ℕ) → List Vector → List Vector
distinct conditions vectors = all_added conditions [] vectors

-- vectors of which each comes before those that follow
abbrev pub Rises : (conditions : ℕ) → List Vector → Type 0
Rises conditions [] = Unit {0}
Rises conditions (v ∷ vs) = Everywhere (λ w. precedes conditions (marks v) (marks w) ≡ true) vs × Rises conditions vs
