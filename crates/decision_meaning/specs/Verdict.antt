-- What lists of statements and of vectors cover.
use Rattle.std.specs.Prelude.{◌≡◌, ◌<◌, ℕ, Bool, true, false, List}
use Rattle.cov_base.specs.declared.event.Vector.{Vector}
use Rattle.cov_base.specs.declared.position.StmtId.{StmtId}
use Rattle.cov_base.specs.Expr.{Expr, size}
use Rattle.cov_base.specs.Graph.{graph}
use Rattle.cov_base.specs.Marks.{Marks, marks, bit, outcome}
use Rattle.cov_base.specs.Path.{IsPathVector}
use Rattle.cov_base.specs.Lists.{Somewhere}
use Rattle.decision_meaning.specs.Pair.{Pair, IsPairOf}

-- a statement is covered where it was started
abbrev pub IsStarted : List StmtId → StmtId → Type 0
IsStarted started statement = Somewhere (λ s. s ≡ statement) started

-- some vector of the list gives this outcome
abbrev pub Gives : Expr → List Vector → Bool → Type 0
Gives e vectors given = Somewhere (λ v. outcome e (marks v) ≡ given) vectors

-- a decision is covered where both outcomes were given
abbrev pub GivesBoth : Expr → List Vector → Type 0
GivesBoth e vectors = Gives e vectors false × Gives e vectors true

-- a condition is covered, by the test of a kind of pair for it, where the list has a pair that passes
abbrev pub HasPair : (test : Marks → Marks → Bool) → List Vector → Type 0
HasPair test vectors = (p : Pair) × IsPairOf test vectors p

-- a vector of the list takes the edge of node k for this value
abbrev pub TakesEdge : List Vector → ℕ → Bool → Type 0
TakesEdge vectors k value = Somewhere (λ v. (bit v.seen k ≡ true) × (bit v.value k ≡ value)) vectors

-- the vectors of the list take every edge of a decision's graph
abbrev pub TakesAllEdges : Expr → List Vector → Type 0
TakesAllEdges e vectors = (k : ℕ) (value : Bool) → k < size e → TakesEdge vectors k value

-- a vector of the list is that of a path of a decision's graph, and takes the edge of node k for this value
abbrev pub PathTakesEdge : Expr → List Vector → ℕ → Bool → Type 0
PathTakesEdge e vectors k value =
    Somewhere (λ v. IsPathVector (graph e) v × (bit v.seen k ≡ true) × (bit v.value k ≡ value)) vectors

-- each edge of a decision's graph lies on the path of some vector of the list: vectors that are of no path count for nothing
abbrev pub PathsTakeAllEdges : Expr → List Vector → Type 0
PathsTakeAllEdges e vectors = (k : ℕ) (value : Bool) → k < size e → PathTakesEdge e vectors k value

-- the list has a pair that passes the test, of two vectors of paths of a decision's graph
abbrev pub HasPairOfPaths : Expr → (test : Marks → Marks → Bool) → List Vector → Type 0
HasPairOfPaths e test vectors =
    (p : Pair) × IsPairOf test vectors p × IsPathVector (graph e) p.first × IsPathVector (graph e) p.second
