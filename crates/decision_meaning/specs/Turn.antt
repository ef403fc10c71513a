-- Which conditions can still turn a decision's outcome, read off its graph.
use Rattle.std.specs.Prelude.{ℕ, suc, nat_eq, Bool, false, not, ◌&&◌, ◌||◌, List, [], ◌∷◌, if◌then◌else◌}
use Rattle.cov_base.specs.Graph.{Next, node, leaf, Edges, target}
use Rattle.cov_base.specs.Marks.{Marks, same}

-- whether the outcome that was not given can be reached from a place, where these nodes are those from which it can
abbrev pub reaches : (ℕ → Bool) → Bool → Next → Bool
reaches from given (node k) = from k
reaches from given (leaf ends) = not (same ends given)

-- the nodes that were not evaluated and from which that outcome can be reached over nodes that were not evaluated, of nodes that are
-- numbered from n on
abbrev pub open_from : ℕ → List Edges → Marks → Bool → ℕ → Bool
open_from n [] v given k = false
open_from n (edges ∷ rest) v given k =
    if nat_eq k n then not (v.seen n)
    && (reaches (open_from (suc n) rest v given) given edges.on_true || reaches (open_from (suc n) rest v given) given edges.on_false)
    else open_from (suc n) rest v given k

-- whether condition c was evaluated and its other edge leads to where that outcome can be reached, in nodes that are numbered from n on
abbrev pub can_turn_from : ℕ → List Edges → Marks → Bool → ℕ → Bool
can_turn_from n [] v given c = false
can_turn_from n (edges ∷ rest) v given c =
    if nat_eq c n then v.seen n && reaches (open_from (suc n) rest v given) given (target edges (not (v.value n)))
    else can_turn_from (suc n) rest v given c

-- whether condition c can still turn the outcome of a vector
abbrev pub can_turn : List Edges → Marks → Bool → ℕ → Bool
can_turn graph v given c = can_turn_from 0 graph v given c
