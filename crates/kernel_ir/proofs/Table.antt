-- The nodes of a decision are nodes of its graph.
use Rattle.std.proofs.Common.{◌≡◌, ℕ, zero, suc, ◌+◌, Bool, true, false, List, [], ◌∷◌, ◌++◌, length, append_assoc, arith, refl, ap, subst, ◌∙◌, if◌then◌else◌, eq-eqb}
use Rattle.std.proofs.lemmas.Bool.{ne_eqb}
use Rattle.std.proofs.lemmas.List.{length-append}
use Rattle.cov_base.specs.Graph.{Edges, target, next_from}
use Rattle.kernel_ir.specs.Tree.{Nodes, no_node, and_node}
use Rattle.kernel_ir.specs.Limits.{next_of, edges_of}
use Rattle.kernel_ir.specs.Laws.{AreNodesOf}

-- the edges behind others are those of the node with the number of the others
next_behind : (m : ℕ) (before : List Edges) (e : Edges) (rest : List Edges) (k : ℕ) (b : Bool) → k ≡ m + length before → next_from m (before ++ e ∷ rest) k b ≡ target e b
next_behind m [] e rest k b h =
    ap (λ c. if c then target e b else next_from (suc m) rest k b) (eq-eqb k m (omega (arith, h)))
next_behind m (x ∷ before) e rest k b h =
    ap (λ c. if c then target x b else next_from (suc m) (before ++ e ∷ rest) k b) (ne_eqb k m (λ g. absurd (omega (arith, g, h))))
    ∙ next_behind (suc m) before e rest k b (omega (arith, h))

nodes_behind : (before : List Edges) (n : ℕ) (ns : Nodes) → n ≡ length before → AreNodesOf (before ++ edges_of n ns) n ns
nodes_behind before n no_node h = tt
nodes_behind before n (and_node a k t f ns) h =
    let e : Edges = record { on_true = next_of n t; on_false = next_of n f } in (
      next_behind zero before e (edges_of (suc n) ns) n true (omega (arith, h)),
      next_behind zero before e (edges_of (suc n) ns) n false (omega (arith, h)),
      subst (λ g. AreNodesOf g (suc n) ns) (append_assoc before (e ∷ []) (edges_of (suc n) ns))
          (nodes_behind (before ++ e ∷ []) (suc n) ns (omega (arith, h, length-append before (e ∷ [])))),
    )

pub nodes_of_graph : (graph : List Edges) (ns : Nodes) → edges_of zero ns ≡ graph → AreNodesOf graph zero ns
nodes_of_graph graph ns h = subst (λ g. AreNodesOf g zero ns) h (nodes_behind [] zero ns refl)
