-- Places of nodes.
use Rattle.std.proofs.Common.{◌≡◌, ◌+◌, ◌<◌, ◌≤◌, arith, ℕ, zero, suc, List, [], ◌∷◌, length, take, ◌∙◌}
use Rattle.kernel_ir.specs.TreeView.{nodes_of}
use Rattle.kernel_ir.specs.declared.code.Node.{Node}
use Rattle.kernel_code.specs.Code.{code_length, nodes_length, node_place}

-- the node behind so many others stands behind their lines
pub place_behind : (n : ℕ) (ns : List Node) (p : ℕ) → n ≤ length ns → p + nodes_length (nodes_of (take n ns)) ≡ node_place n
    (nodes_of ns) p
place_behind zero ns p h = omega arith
place_behind (suc n) [] p h = absurd (omega arith)
place_behind (suc n) (x ∷ ns) p h =
    let e : p + nodes_length (nodes_of (take (suc n) (x ∷ ns))) ≡ (p + code_length x.operand + 8) + nodes_length
    (nodes_of (take n ns)) = omega arith in
    e ∙ place_behind n ns (p + code_length x.operand + 8) (omega arith)

-- where there are not so many, it is the place behind all
pub place_at_end : (n : ℕ) (ns : List Node) (p : ℕ) → length ns < n → p + nodes_length (nodes_of ns) ≡ node_place n (nodes_of ns) p
place_at_end zero ns p h = absurd (omega arith)
place_at_end (suc n) [] p h = omega arith
place_at_end (suc n) (x ∷ ns) p h =
    let e : p + nodes_length (nodes_of (x ∷ ns)) ≡ (p + code_length x.operand + 8) + nodes_length (nodes_of ns) = omega arith in
    e ∙ place_at_end n ns (p + code_length x.operand + 8) (omega arith)
