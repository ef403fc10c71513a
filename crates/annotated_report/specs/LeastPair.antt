-- The pair of vectors that a report shows for a condition.
use Rattle.std.specs.Prelude.{ℕ, List, [], ◌∷◌, map, Bool, Option, Some, None, if◌then◌else◌}
use Rattle.std.specs.List.{filter, flat_map}
use Rattle.cov_base.specs.declared.event.Vector.{Vector}
use Rattle.cov_base.specs.declared.level.Level.{Level}
use Rattle.cov_base.specs.declared.level.Level.TheVariants.{UcMcdc}
use Rattle.cov_base.specs.Expr.{Expr, size}
use Rattle.cov_base.specs.Marks.{Marks, marks}
use Rattle.decision_meaning.specs.Pair.{Pair, pair_precedes, is_unique_cause, is_masking}

-- the pair with this first vector, and that second one
abbrev pub pair : Vector → Vector → Pair
pair v w = record { first = v; second = w }

-- each vector with each
abbrev pub pairs_of : List Vector → List Vector → List Pair
pairs_of vs ws = flat_map (λ v. map (pair v) ws) vs

-- a pair, where it comes before the best of others, or that one
abbrev pub lesser : ℕ → Pair → Option Pair → Option Pair
lesser conditions p None = Some p
lesser conditions p (Some best) =
    if pair_precedes conditions (marks p.first) (marks p.second) (marks best.first) (marks best.second) then Some p else Some best

-- the least of these pairs: by its first vector, then by its second
abbrev pub least : ℕ → List Pair → Option Pair
least conditions [] = None
least conditions (p ∷ ps) = lesser conditions p (least conditions ps)

-- the least pair of these vectors that passes a test
abbrev pub least_pair : ℕ → (test : Marks → Marks → Bool) → List Vector → Option Pair
least_pair conditions test vectors =
    least conditions (filter (λ p. test (marks p.first) (marks p.second)) (pairs_of vectors vectors))

-- the kind of pair that a level asks for
abbrev pub kind_of : Level → Expr → ℕ → Marks → Marks → Bool
kind_of UcMcdc e c = is_unique_cause e c
kind_of _ e c = is_masking e c

-- the pair that shows condition c of a decision to matter
abbrev pub shown_pair : Level → Expr → List Vector → ℕ → Option Pair
shown_pair level e vectors c = least_pair (size e) (kind_of level e c) vectors
