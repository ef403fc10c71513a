-- The least vectors and pairs, as the searches find them.
use Rattle.std.specs.Prelude.{ℕ, ◌<◌, ◌^◌, Bool, true, false, ◌&&◌, List, [], ◌∷◌, Option, Some, None, if◌then◌else◌}
use Rattle.cov_base.specs.declared.event.Vector.{Vector}
use Rattle.cov_base.specs.Expr.{Expr}
use Rattle.cov_base.specs.Marks.{Marks, marks, same, precedes}
use Rattle.decision_meaning.specs.Unmasked.{unmasked}
use Rattle.decision_meaning.specs.Pair.{Pair, pair_precedes}

-- how many conditions a decision has at most, and a word has room for
unfoldable pub widest : ℕ
widest = 32

-- the word of the evaluated conditions has 32 bits
abbrev pub IsWord : Vector → Type 0
IsWord v = v.seen < 2 ^ 32

-- whether condition c is unmasked in a vector, and has this value
abbrev pub shows : Expr → ℕ → Bool → Marks → Bool
shows e c value v = same (v.value c) value && unmasked e v c

-- whether a vector comes before the least one so far
abbrev pub precedes_least : Vector → (least : Option Vector) → Bool
precedes_least v None = true
precedes_least v (Some least) = precedes widest (marks v) (marks least)

-- the least vector that passes once v is met
abbrev pub lower : (test : Marks → Bool) → Vector → (least : Option Vector) → Option Vector
lower test v least = if precedes_least v least && test (marks v) then Some v else least

-- the least vector that passes once each of these is met
abbrev pub lowest : (test : Marks → Bool) → List Vector → (least : Option Vector) → Option Vector
lowest test [] least = least
lowest test (v ∷ vs) least = lowest test vs (lower test v least)

-- the pair of two vectors, the lesser one first
abbrev pub in_turn : (v w : Vector) → Pair
in_turn v w =
    if precedes widest (marks w) (marks v) then record { first = w; second = v } else record { first = v; second = w }

-- the same, where both are there
abbrev pub pair_of : (v w : Option Vector) → Option Pair
pair_of None w = None
pair_of (Some v) None = None
pair_of (Some v) (Some w) = Some (in_turn v w)

-- whether the pair of v and w comes before the best one so far
abbrev pub improves : (v w : Vector) → (best : Option Pair) → Bool
improves v w None = true
improves v w (Some p) = pair_precedes widest (marks v) (marks w) (marks p.first) (marks p.second)

-- whether the best pair so far has a lesser first vector than v, so that no pair with v first comes before it
abbrev pub is_behind : Vector → (best : Option Pair) → Bool
is_behind v None = false
is_behind v (Some p) = precedes widest (marks p.first) (marks v)

-- the best pair once the pair of v and w is met
abbrev pub lesser : (test : Marks → Marks → Bool) → (v w : Vector) → (best : Option Pair) → Option Pair
lesser test v w best =
    if test (marks v) (marks w) && improves v w best then Some (record { first = v; second = w }) else best

-- the best pair once the pairs of v with each of these are met
abbrev pub best_with : (test : Marks → Marks → Bool) → Vector → List Vector → (best : Option Pair) → Option Pair
best_with test v [] best = best
best_with test v (w ∷ ws) best = best_with test v ws (lesser test v w best)

-- the best pair once the pairs of each of vs with each of ws are met
abbrev pub best_of : (test : Marks → Marks → Bool) → (vs ws : List Vector) → (best : Option Pair) → Option Pair
best_of test [] ws best = best
best_of test (v ∷ vs) ws best = best_of test vs ws (best_with test v ws best)
