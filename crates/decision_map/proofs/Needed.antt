-- What the test for a needed history says.
use Rattle.std.proofs.Common.{◌≡◌, ◌↔◌, ℕ, ◌<◌, Bool, true, false, not, List, length, map, get_or, arith, Option, Some, None, refl, sym, ap, ◌∙◌, slice_get, option_map, unwrap_or}
use Rattle.std.specs.Option.{option_map_or}
use Rattle.std.proofs.lemmas.List.{length-map}
use Rattle.std.proofs.lemmas.Option.{slice_get_read, slice_get-map}
use Rattle.cov_base.specs.declared.obligations.DecEntry.{DecEntry}
use Rattle.cov_base.specs.Expr.{Expr, condition, IsPostfixOf}
use Rattle.cov_base.specs.Graph.{Edges, graph, IsTree}
use Rattle.object_format.specs.declared.object.Object.{Object}
use Rattle.decision_map.specs.declared.condition.Condition.{Condition}
use Rattle.decision_map.specs.declared.graphs.DecisionGraph.{DecisionGraph}
use Rattle.cov_base.specs.Expression.{expression_of}
use Rattle.decision_map.specs.Decisions.{is_tree, is_tree_at, graph_at, graph_of_entry}
use Rattle.decision_map.specs.Roles.{condition_at, needs_history, NeedsHistory}
use Rattle.cov_base.proofs.Postfix.{read_postfix}
use Rattle.decision_map.proofs.Trees.{tree_law}

not_true : (b : Bool) → not b ≡ true → b ≡ true → ⊥
not_true true is other = cc
not_true false is other = cc

no_tree : (g : List Edges) → (b : Bool) → is_tree g ≡ b → ¬ (IsTree g) → not b ≡ true
no_tree g true is never = absurd (never ((tree_law g).0 is))
no_tree g false is never = refl

needed_by : (o : Object) (pc : ℕ) (found : Option Condition) → condition_at o pc ≡ found
    → option_map_or (λ (c : Condition). not (is_tree_at o c.decision.0)) found false ≡ true → NeedsHistory o pc
needed_by o pc None is needs = cc
needed_by o pc (Some c) is needs = record {
  condition = c;
  decides = is;
  no_tree = λ tree. not_true (is_tree_at o c.decision.0) needs ((tree_law (graph_at o c.decision.0)).1 tree);
}

pub needed_law : (o : Object) (pc : ℕ) → needs_history o pc ≡ true ↔ NeedsHistory o pc
needed_law o pc = (
  needed_by o pc (condition_at o pc) refl,
  λ needed. ap (λ (found : Option Condition). option_map_or (λ (c : Condition). not (is_tree_at o c.decision.0)) found false) needed.decides
      ∙ no_tree (graph_at o needed.condition.decision.0) (is_tree_at o needed.condition.decision.0) refl needed.no_tree,
)

-- a decision's graph is that of the expression that its bytes spell
pub graph_of_spelled : (o : Object) (decision : ℕ) (entry : DecEntry) (e : Expr) → slice_get o.obligations.decisions decision ≡ Some entry
    → IsPostfixOf entry.expression.postfix e → graph_at o decision ≡ graph e
graph_of_spelled o decision entry e is spelled =
    ap (λ (found : Option DecEntry). graph (unwrap_or (option_map (λ (d : DecEntry). expression_of d.expression.postfix) found) condition)) is
    ∙ ap graph (read_postfix entry.expression.postfix e spelled)

-- what a map keeps of a decision is its graph, and whether that is a tree
pub record IsDecisionAt (o : Object) (decision : ℕ) (read : DecisionGraph) : Type 0 where
  pub graph : read.graph ≡ graph_at o decision
  pub is_tree : read.is_tree ≡ is_tree_at o decision

-- the expression of an entry, where there is one
abbrev expression_in : Option DecEntry → Expr
expression_in found = unwrap_or (option_map (λ (d : DecEntry). expression_of d.expression.postfix) found) condition

kept_by : (o : Object) (decision : ℕ) (read : DecisionGraph) (found : Option DecEntry) → slice_get o.obligations.decisions decision ≡ found
    → option_map graph_of_entry found ≡ Some read → IsDecisionAt o decision read
kept_by o decision read None is made = cc
kept_by o decision read (Some entry) is made =
    let this : graph_of_entry entry ≡ read = cc in
    record {
      graph = ap (λ (r : DecisionGraph). r.graph) (sym this) ∙ ap (λ (found : Option DecEntry). graph (expression_in found)) (sym is);
      is_tree = ap (λ (r : DecisionGraph). r.is_tree) (sym this) ∙ ap (λ (found : Option DecEntry). is_tree (graph (expression_in found))) (sym is);
    }

pub kept_at : (o : Object) (graphs : List DecisionGraph) → graphs ≡ map graph_of_entry o.obligations.decisions
    → (decision : ℕ) (read : DecisionGraph) → decision < length o.obligations.decisions → read ≡ get_or graphs decision read → IsDecisionAt o decision read
kept_at o graphs are decision read within is =
    let long : length graphs ≡ length o.obligations.decisions =
    ap (λ (gs : List DecisionGraph). length gs) are ∙ length-map o.obligations.decisions graph_of_entry in
    let there : slice_get graphs decision ≡ Some read = slice_get_read graphs (length graphs) decision read refl (omega arith) is in
    kept_by o decision read (slice_get o.obligations.decisions decision) refl
    (sym (slice_get-map graph_of_entry o.obligations.decisions decision) ∙ ap (λ (gs : List DecisionGraph). slice_get gs decision) (sym are) ∙ there)
