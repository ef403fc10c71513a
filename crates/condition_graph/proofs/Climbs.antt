-- The steps by first entries are a path.
use Rattle.std.proofs.Common.{◌≡◌, ℕ, ◌<◌, ◌≤◌, zero, suc, Bool, ◌∷◌, Option, Some, None, refl, sym, ap, ◌∙◌, arith}
use Rattle.cov_base.specs.Expr.{Expr, size}
use Rattle.cov_base.specs.Graph.{node, leaf, graph, next_in}
use Rattle.cov_base.specs.Path.{Step, LeadsTo, vector_of, IsVectorOfLeaf}
use Rattle.cov_base.proofs.Edges.{edges_rise}
use Rattle.cov_base.proofs.Reached.{node_entered}
use Rattle.condition_graph.specs.Entry.{entry_from, climbed_by, climbed}
use Rattle.condition_graph.proofs.Trees.{entry_leads, entry_found}

-- one step up
climb_step : (e : Expr) (more k : ℕ) (o : Option Step) → entry_from 0 (graph e) k ≡ o → k ≤ suc more → k < size e
    → ((j : ℕ) → j ≤ more → j < size e → LeadsTo (graph e) (climbed more (graph e) j) (node j))
    → LeadsTo (graph e) (climbed_by o (climbed more (graph e))) (node k)
climb_step e more zero None is few below older = refl
climb_step e more (suc k) None is few below older =
    let enters = node_entered e (suc k) (omega arith) below in
    let found = entry_found 0 (graph e) enters.at_node enters.value (suc k) enters.leads in
    let both : None ≡ Some found.0 = sym is ∙ found.1 in
    absurd (cc both)
climb_step e more k (Some step) is few below older =
    let leads = (entry_leads 0 (graph e) k step is).leads in
    let rise = edges_rise e step.at_node step.value k leads in
    (leads, older step.at_node (omega (arith, rise.0)) (omega (arith, rise.0)))

pub climb : (e : Expr) (most k : ℕ) → k ≤ most → k < size e → LeadsTo (graph e) (climbed most (graph e) k) (node k)
climb e zero k few below = let at_root : k ≡ 0 = omega arith in ap node at_root
climb e (suc more) k few below = climb_step e more k (entry_from 0 (graph e) k) refl few below (climb e more)

-- so are those that end with an edge that leads to an outcome
pub leaf_climb : (e : Expr) (k : ℕ) (value ends : Bool) → k < size e → next_in (graph e) k value ≡ leaf ends
    → IsVectorOfLeaf (graph e) k value (vector_of (record { at_node = k; value = value } ∷ climbed k (graph e) k))
leaf_climb e k value ends below leads = record {
  older = climbed k (graph e) k;
  ends = ends;
  leads = (leads, climb e k k (omega arith) below);
  shown = refl;
}
