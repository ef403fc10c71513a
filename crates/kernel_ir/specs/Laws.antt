-- What holds of kernels.
use Rattle.std.specs.Prelude.{◌≡◌, ℕ, suc, ◌≤◌, true, false, List, length}
use Rattle.cov_base.specs.Graph.{Edges, next_in}
use Rattle.kernel_ir.specs.declared.kernel.Kernel.{Kernel}
use Rattle.kernel_ir.specs.Tree.{Nodes, no_node, and_node}
use Rattle.kernel_ir.specs.Limits.{next_of}
use Rattle.ada_meaning.specs.Refines.{Extends}
use Rattle.kernel_ir.specs.World.{Ended, Ends, Exits, Returns, Raises, Cut, world_in}

-- nodes that are numbered from n on have their edges in a graph
abbrev pub AreNodesOf : List Edges → (n : ℕ) → Nodes → Type 0
AreNodesOf graph n no_node = Unit {0}
AreNodesOf graph n (and_node a k t f ns) =
    (next_in graph n true ≡ next_of n t) × (next_in graph n false ≡ next_of n f) × AreNodesOf graph (suc n) ns

-- where an exception is raised, it is one of those with the numbers from 1 to the greatest one
abbrev pub RaisesOneOf : (exceptions : ℕ) → Ended → Type 0
RaisesOneOf exceptions (Ends w) = Unit {0}
RaisesOneOf exceptions (Exits w) = Unit {0}
RaisesOneOf exceptions (Returns w) = Unit {0}
RaisesOneOf exceptions (Raises e w) = (1 ≤ e) × (e ≤ exceptions)
RaisesOneOf exceptions (Cut w) = Unit {0}

-- with more fuel an execution that ended is the same, and one that was cut off goes on from what was observed
abbrev pub Refines : Ended → Ended → Type 0
Refines (Ends w) more = more ≡ Ends w
Refines (Exits w) more = more ≡ Exits w
Refines (Returns w) more = more ≡ Returns w
Refines (Raises e w) more = more ≡ Raises e w
Refines (Cut w) more = Extends w.seen (world_in more).seen

-- a kernel has no more bodies, layouts, library words and exceptions than another
pub record IsPartOf (p q : Kernel) : Type 0 where
  pub bodies : length p.bodies ≤ length q.bodies
  pub layouts : length p.layouts ≤ length q.layouts
  pub library : length p.library ≤ length q.library
  pub exceptions : p.exceptions ≤ q.exceptions
