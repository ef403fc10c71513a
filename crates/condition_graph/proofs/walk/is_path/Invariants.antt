use Rattle.std.proofs.Common.{◌≡◌, Bool, List, map}
use Rattle.cov_base.specs.Expr.{Expr}
use Rattle.cov_base.specs.Graph.{leaf, graph}
use Rattle.cov_base.specs.Path.{Step, LeadsTo, vector_of}
use Rattle.condition_graph.specs.Target.{edges_of, place_of}
use Rattle.condition_graph.proofs.Ways.{IsWalk, OnWay}
use Rattle.condition_graph.proofs.walk.is_path.Given as goal

-- a path leads to where the walk is, and its vector is what was taken. If `v` is the vector of a path, the walk is on it
abbrev pub invariant-loop-number : goal.invariant-loop-number
invariant-loop-number l =
    IsWalk (map edges_of l.nodes) (place_of l.at) l.taken
    × ((e : Expr) → map edges_of l.nodes ≡ graph e → (path : List Step) (ends : Bool) → LeadsTo (graph e) path (leaf ends)
    → l.v ≡ vector_of path → OnWay e path ends l.number (place_of l.at) l.taken)
