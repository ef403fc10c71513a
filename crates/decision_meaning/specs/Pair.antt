-- Pairs of vectors that show that a condition matters.
use Rattle.std.specs.Prelude.{◌≡◌, ℕ, zero, suc, nat_eq, Bool, true, false, not, ◌&&◌, ◌||◌, List, Option, Some, None}
use Rattle.cov_base.specs.declared.event.Vector.{Vector}
use Rattle.cov_base.specs.Lists.{Everywhere, Somewhere}
use Rattle.cov_base.specs.Expr.{Expr, size}
use Rattle.cov_base.specs.Marks.{Marks, marks, same, outcome, precedes}
use Rattle.decision_meaning.specs.Unmasked.{unmasked}

-- whether condition c was evaluated in both, to different values
abbrev pub turns : ℕ → Marks → Marks → Bool
turns c v w = v.seen c && w.seen c && not (same (v.value c) (w.value c))

-- whether condition d has the same value in both, or was not evaluated in one of them
abbrev pub agrees : ℕ → Marks → Marks → Bool
agrees d v w = not (v.seen d && w.seen d) || same (v.value d) (w.value d)

-- whether each condition below a bound agrees, or is c
abbrev pub others_agree : ℕ → ℕ → Marks → Marks → Bool
others_agree c zero v w = true
others_agree c (suc d) v w = (nat_eq d c || agrees d v w) && others_agree c d v w

-- unique-cause pair for condition c: different outcomes, c evaluated in both and different, every other condition equal in both or not
-- evaluated in at least one
abbrev pub is_unique_cause : Expr → ℕ → Marks → Marks → Bool
is_unique_cause e c v w = not (same (outcome e v) (outcome e w)) && turns c v w && others_agree c (size e) v w

-- masking pair for condition c: c unmasked in both, and different
abbrev pub is_masking : Expr → ℕ → Marks → Marks → Bool
is_masking e c v w = unmasked e v c && unmasked e w c && not (same (v.value c) (w.value c))

-- two vectors, the lesser first
pub record Pair : Type 0 where
  pub first : Vector
  pub second : Vector

-- whether the pair of v and w comes before that of first and second: by their first vectors, then by their second ones
abbrev pub pair_precedes : ℕ → (v w : Marks) → (first second : Marks) → Bool
pair_precedes conditions v w first second =
    precedes conditions v first || not (precedes conditions first v) && precedes conditions w second

-- a pair of two vectors of the list that passes the test
pub record IsPairOf (test : Marks → Marks → Bool) (vectors : List Vector) (p : Pair) : Type 0 where
  pub has_first : Somewhere (λ v. v ≡ p.first) vectors
  pub has_second : Somewhere (λ v. v ≡ p.second) vectors
  pub passes : test (marks p.first) (marks p.second) ≡ true

-- no two vectors of the list, either way round, pass the test
abbrev pub NoPairOf : (test : Marks → Marks → Bool) → List Vector → Type 0
NoPairOf test vectors = Everywhere (λ v. Everywhere (λ w. test (marks v) (marks w) ≡ false) vectors) vectors

-- the least pair of the list that passes the test: it passes, and no pair that passes comes before it; none where no pair passes
abbrev pub IsLeastPair : ℕ → (test : Marks → Marks → Bool) → List Vector → Option Pair → Type 0
IsLeastPair conditions test vectors None = NoPairOf test vectors
IsLeastPair conditions test vectors (Some p) =
    IsPairOf test vectors p × NoPairOf (λ v w. test v w && pair_precedes conditions v w (marks p.first) (marks p.second)) vectors
