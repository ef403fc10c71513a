-- The nodes of a decision are its graph.
use Rattle.std.proofs.Common.{◌≡◌, ℕ, suc, ◌+◌, ◌≤◌, Bool, true, false, ◌++◌, append_assoc, refl, sym, ap, ◌∙◌, arith}
use Rattle.cov_base.specs.Graph as logic
use Rattle.cov_base.specs.Graph.{Next}
use Rattle.ada_meaning.specs.Program.{Program}
use Rattle.ada_meaning.specs.Shape.{Shape}
use Rattle.ada_meaning.specs.Tree as tree
use Rattle.ada_meaning.specs.Tree.{shape_of}
use Rattle.kernel_ir.specs.declared.code.Edge.{Edge}
use Rattle.kernel_ir.specs.declared.code.Edge.TheVariants as edge
use Rattle.kernel_ir.specs.Limits.{EdgeFits, count, edges_of, next_of}
use Rattle.kernel_ir.specs.Tree.{Nodes}
use Rattle.statement_code.specs.Names.{names_in}
use Rattle.statement_code.specs.Values.{Home, Site, past, nodes_code}

-- where an edge leads from the last of nodes, where those behind are numbered from next on
abbrev leads : (next : ℕ) → Edge → Next
leads next (edge.Leaf outcome) = logic.leaf outcome
leads next (edge.NodeAfter skipped) = logic.node (next + skipped)

leads_from : (at next : ℕ) (e : Edge) → next ≡ suc at → next_of at e ≡ leads next e
leads_from at next (edge.Leaf outcome) behind = refl
leads_from at next (edge.NodeAfter skipped) behind = let same : suc at + skipped ≡ next + skipped = omega (arith, behind) in ap logic.node same

leads_past : (count middle next : ℕ) (e : Edge) → next ≡ middle + count → leads middle (past count e) ≡ leads next e
leads_past count middle next (edge.Leaf outcome) behind = refl
leads_past count middle next (edge.NodeAfter skipped) behind = let same : middle + (count + skipped) ≡ next + skipped = omega (arith, behind) in ap logic.node same

leads_next : (middle : ℕ) → leads middle (edge.NodeAfter 0) ≡ logic.node middle
leads_next middle = let same : middle + 0 ≡ middle = omega arith in ap logic.node same

-- a decision has a condition
pub has_condition : (t : tree.Test) → 1 ≤ tree.conditions_of t
has_condition (tree.condition at_place e) = omega arith
has_condition (tree.negation t) = has_condition t
has_condition (tree.operator neutral t u) = omega (arith, has_condition t)

module _ (p : Program) (inst : ℕ) (object_shape : tree.Object → Shape) (home_of : tree.Object → Home) (site : Site) (Bodies : Bool → ℕ → ℕ → Type 0) where
  abbrev nodes : (k : ℕ) → tree.Test → (on_true on_false : Edge) → Nodes → Nodes
  nodes = nodes_code (names_in p inst) object_shape home_of site

  pub edges_are : (t : tree.Test) (k at next : ℕ) (on_true on_false : Edge) (rest : Nodes) → next ≡ at + tree.conditions_of t
      → edges_of at (nodes k t on_true on_false rest) ≡ logic.nodes (shape_of t) at (leads next on_true) (leads next on_false) ++ edges_of next rest
  edges_are (tree.condition at_place e) k at next on_true on_false rest last =
      let following : next ≡ suc at = omega (arith, last) in
      rw (← following, leads_from at next on_true following, leads_from at next on_false following) refl
  edges_are (tree.negation t) k at next on_true on_false rest last = edges_are t k at next on_false on_true rest last
  edges_are (tree.operator true t u) k at next on_true on_false rest last =
      let middle = at + tree.conditions_of t in
      let left = logic.nodes (shape_of t) at (logic.node middle) (leads next on_false) in
      edges_are t k at middle (edge.NodeAfter 0) (past (tree.conditions_of u) on_false) (nodes k u on_true on_false rest) refl
      ∙ (λ i. logic.nodes (shape_of t) at (leads_next middle i) (leads_past (tree.conditions_of u) middle next on_false (omega (arith, last)) i)
      ++ edges_are u k middle next on_true on_false rest (omega (arith, last)) i)
      ∙ sym (append_assoc left (logic.nodes (shape_of u) middle (leads next on_true) (leads next on_false)) (edges_of next rest))
  edges_are (tree.operator false t u) k at next on_true on_false rest last =
      let middle = at + tree.conditions_of t in
      let left = logic.nodes (shape_of t) at (leads next on_true) (logic.node middle) in
      edges_are t k at middle (past (tree.conditions_of u) on_true) (edge.NodeAfter 0) (nodes k u on_true on_false rest) refl
      ∙ (λ i. logic.nodes (shape_of t) at (leads_past (tree.conditions_of u) middle next on_true (omega (arith, last)) i) (leads_next middle i)
      ++ edges_are u k middle next on_true on_false rest (omega (arith, last)) i)
      ∙ sym (append_assoc left (logic.nodes (shape_of u) middle (leads next on_true) (leads next on_false)) (edges_of next rest))

  -- a node for each condition
  pub count_is : (t : tree.Test) (k : ℕ) (on_true on_false : Edge) (rest : Nodes) → count (nodes k t on_true on_false rest) ≡ tree.conditions_of t + count rest
  count_is (tree.condition at_place e) k on_true on_false rest = omega arith
  count_is (tree.negation t) k on_true on_false rest = count_is t k on_false on_true rest
  count_is (tree.operator true t u) k on_true on_false rest =
      omega (arith, count_is t k (edge.NodeAfter 0) (past (tree.conditions_of u) on_false) (nodes k u on_true on_false rest), count_is u k on_true on_false rest)
  count_is (tree.operator false t u) k on_true on_false rest =
      omega (arith, count_is t k (past (tree.conditions_of u) on_true) (edge.NodeAfter 0) (nodes k u on_true on_false rest), count_is u k on_true on_false rest)

  -- an edge past the nodes of a test fits where it fits behind them, and so does one to their first
  pub past_fits : (u : tree.Test) (k : ℕ) (on_true on_false e : Edge) (rest : Nodes) → EdgeFits e rest
      → EdgeFits (past (tree.conditions_of u) e) (nodes k u on_true on_false rest)
  past_fits u k on_true on_false (edge.Leaf outcome) rest fits = tt
  past_fits u k on_true on_false (edge.NodeAfter skipped) rest fits = omega (arith, fits, count_is u k on_true on_false rest)

  pub next_fits : (u : tree.Test) (k : ℕ) (on_true on_false : Edge) (rest : Nodes) → EdgeFits (edge.NodeAfter 0) (nodes k u on_true on_false rest)
  next_fits u k on_true on_false rest = omega (arith, count_is u k on_true on_false rest, has_condition u)
