-- What a fragment of code is like: which statements and conditions it marks, what it names, where it leaves loops, and how long it is.
use Rattle.std.specs.Prelude.{◌≡◌, ◌≢◌, ℕ, ◌+◌, ◌≤◌, Bool, true, false, List, [], ◌∷◌, ◌++◌, map, sum_by}
use Rattle.cov_base.specs.declared.position.DecId.{DecId}
use Rattle.cov_base.specs.Graph as logic
use Rattle.cov_base.specs.Graph.{Edges}
use Rattle.cov_base.specs.Lists.{Everywhere}
use Rattle.ada_meaning.specs.Collected.{Decision}
use Rattle.ada_meaning.specs.Obligations.{numbers}
use Rattle.ada_meaning.specs.Tree as tree
use Rattle.kernel_ir.specs.declared.kernel.Kernel.{Kernel}
use Rattle.kernel_ir.specs.Limits.{CodeFits, CodeLacks, code_instructions}
use Rattle.kernel_ir.specs.Obligations.{Row, Condition, code_rows, code_conditions}
use Rattle.kernel_ir.specs.Tree.{Op, simple, choose, forever, for_loop, exit, returns, catch, decide, call, Code, no_op, and_op, Nodes, no_node, and_node}

-- the row of a statement obligation in an instance
abbrev pub row_in : (inst : ℕ) → tree.Label → Row
row_in inst l = record { statement = record { 0 = l.number }; instance = record { 0 = inst } }

-- a condition of a decision, by its place
abbrev pub condition_in : (inst decision : ℕ) → ℕ → Condition
condition_in inst decision n = record { decision = record { 0 = decision }; at_node = n; instance = record { 0 = inst } }

-- the conditions of decisions in an instance
abbrev pub conditions_in : (inst : ℕ) → List Decision → List Condition
conditions_in inst [] = []
conditions_in inst (h ∷ hs) = map (condition_in inst h.label.number) (numbers 0 (tree.conditions_of h.test)) ++ conditions_in inst hs

-- none of these decisions has this number
abbrev pub HaveOthers : (number : ℕ) → List Decision → Type 0
HaveOthers number hs = Everywhere (λ h. number ≢ h.label.number) hs

-- decisions have the graphs of their expressions, with 32 conditions at most, and each has another number than those behind it
abbrev pub AreOwn : (graph : DecId → List Edges) → List Decision → Type 0
AreOwn graph [] = Unit {0}
AreOwn graph (h ∷ hs) =
    (graph (record { 0 = h.label.number }) ≡ logic.graph (tree.shape_of h.test))
    × ((tree.conditions_of h.test ≤ 32) × (HaveOthers h.label.number hs × AreOwn graph hs))

abbrev mutual
  -- an operation leaves no loop but one that it stands in; the code of a condition leaves none
  pub OpLeaves : (looping : Bool) → Op → Type 0
  OpLeaves looping (simple s) = Unit {0}
  OpLeaves looping (choose k a b) = CodeLeaves looping a × CodeLeaves looping b
  OpLeaves looping (forever a) = CodeLeaves true a
  OpLeaves looping (for_loop a) = CodeLeaves true a
  OpLeaves looping exit = looping ≡ true
  OpLeaves looping returns = Unit {0}
  OpLeaves looping (catch a k b) = CodeLeaves looping a × CodeLeaves looping b
  OpLeaves looping (decide d i k ns) = NodesLeave ns
  OpLeaves looping (call f) = Unit {0}

  pub CodeLeaves : (looping : Bool) → Code → Type 0
  CodeLeaves looping no_op = Unit {0}
  CodeLeaves looping (and_op o a) = OpLeaves looping o × CodeLeaves looping a

  pub NodesLeave : Nodes → Type 0
  NodesLeave no_node = Unit {0}
  NodesLeave (and_node a k t f ns) = CodeLeaves false a × NodesLeave ns

-- Code with so many slots, for the statement obligations and decisions of an instance. It marks the statements in order, and each condition as
-- often as it is one of the decisions'. Where those have their graphs, its numbers name what a kernel has. It evaluates no decision but these.
-- With so many instructions more it has no more than a number of them.
pub record Fragment (K : Kernel) (slots : ℕ) (graph : DecId → List Edges) (inst : ℕ) (looping : Bool) (ls : List tree.Label) (hs : List Decision) (more most : ℕ) (a : Code) : Type 0 where
  pub rows : code_rows a ≡ map (row_in inst) ls
  pub conditions : (weight : Condition → ℕ) → sum_by weight (code_conditions a) ≡ sum_by weight (conditions_in inst hs)
  pub fits : AreOwn graph hs → CodeFits K slots graph a
  pub lacks : (d : DecId) → HaveOthers d.0 hs → CodeLacks d a
  pub leaves : CodeLeaves looping a
  pub size : code_instructions a + more ≤ most
