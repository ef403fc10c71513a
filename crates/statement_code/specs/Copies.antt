-- The bodies of a kernel, each with what it is a copy of.
use Rattle.std.specs.Prelude.{ℕ, suc, ◌+◌, ◌*◌, ◌≤◌, false, List, [], ◌∷◌, ◌++◌, map, length, sum_by}
use Rattle.cov_base.specs.declared.position.DecId.{DecId}
use Rattle.cov_base.specs.Graph.{Edges}
use Rattle.ada_meaning.specs.Collected.{Decision}
use Rattle.ada_meaning.specs.Tree as tree
use Rattle.kernel_ir.specs.declared.kernel.Body.{Body}
use Rattle.kernel_ir.specs.declared.kernel.Kernel.{Kernel}
use Rattle.kernel_ir.specs.declared.kernel.Layout.{Layout}
use Rattle.kernel_ir.specs.declared.kernel.Layout.TheVariants as layout
use Rattle.kernel_ir.specs.Limits.{layout_instructions, most_arguments}
use Rattle.kernel_ir.specs.Obligations.{Row, Condition}
use Rattle.statement_code.specs.Fragments.{Fragment, row_in, conditions_in}
use Rattle.statement_code.specs.Sizes.{node_instructions}

-- a body in an instance: its statement obligations, decisions and nodes
pub record Copy : Type 0 where
  pub inst : ℕ
  pub labels : List tree.Label
  pub decisions : List Decision
  pub nodes : ℕ
  pub body : Body

-- its code is a fragment for these, with 8 instructions more for its entry and its end
abbrev pub IsCopy : (K : Kernel) (graph : DecId → List Edges) → Copy → Type 0
IsCopy K graph c =
    Fragment K (c.body.width + most_arguments) graph c.inst false c.labels c.decisions 8 (node_instructions * c.nodes) c.body.code

-- the rows and conditions of copies
abbrev pub rows_in : List Copy → List Row
rows_in [] = []
rows_in (c ∷ cs) = map (row_in c.inst) c.labels ++ rows_in cs

abbrev pub all_conditions_in : List Copy → List Condition
all_conditions_in [] = []
all_conditions_in (c ∷ cs) = conditions_in c.inst c.decisions ++ all_conditions_in cs

-- how many nodes copies have
abbrev pub nodes_in : List Copy → ℕ
nodes_in [] = 0
nodes_in (c ∷ cs) = c.nodes + nodes_in cs

-- and layouts: one each, and one for each component of a record
abbrev pub layout_nodes : Layout → ℕ
layout_nodes (layout.Word x) = 1
layout_nodes (layout.Array times component) = 1
layout_nodes (layout.Record components) = suc (length components)

abbrev pub layouts_nodes : List Layout → ℕ
layouts_nodes [] = 0
layouts_nodes (l ∷ ls) = layout_nodes l + layouts_nodes ls

-- layouts that are no more than so many nodes, and no longer than these allow
pub record AreCovered (layouts : List Layout) (nodes : ℕ) : Type 0 where
  pub few : length layouts ≤ nodes
  pub short : sum_by layout_instructions layouts ≤ node_instructions * nodes
