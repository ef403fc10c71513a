-- What an object says of its addresses and of its decisions.
use Rattle.std.specs.Prelude.{◌≡◌, ℕ, ◌%◌, Bool, true, List, Option, Some}
use Rattle.cov_base.specs.declared.position.StmtId.{StmtId}
use Rattle.cov_base.specs.declared.position.DecId.{DecId}
use Rattle.cov_base.specs.declared.position.InstId.{InstId}
use Rattle.cov_base.specs.Expr.{Expr}
use Rattle.cov_base.specs.Graph.{Edges, graph, IsTree}

-- the row of an address: its instruction is executed once for each start of this statement, in this instance
pub record Row : Type 0 where
  pub statement : StmtId
  pub instance : InstId

-- the condition that a conditional branch decides: a node of its decision's graph, the condition's value where the branch is taken,
-- and the instance
pub record Condition : Type 0 where
  pub decision : DecId
  pub at_node : ℕ
  pub when_taken : Bool
  pub instance : InstId

-- what an object says
pub record Facts : Type 0 where
  -- whether the word at an address is a control transfer: a conditional branch, JAL, JALR or ECALL
  pub transfers : ℕ → Bool
  -- whether it is a conditional branch
  pub branches : ℕ → Bool
  -- the row of an address
  pub row : ℕ → Option Row
  -- the condition of the branch at an address
  pub condition : ℕ → Option Condition
  -- the graph of a decision
  pub graph : DecId → List Edges
  -- whether that is a tree
  pub tree : DecId → Bool

-- what holds of the facts of every checked object
pub record AreFair (o : Facts) : Type 0 where
  pub graphs : (d : DecId) → (e : Expr) × (o.graph d ≡ graph e)
  pub trees : (d : DecId) → o.tree d ≡ true → IsTree (o.graph d)
  pub rows : (pc : ℕ) (r : Row) → o.row pc ≡ Some r → pc % 4 ≡ 0
  pub conditions : (pc : ℕ) (c : Condition) → o.condition pc ≡ Some c → o.branches pc ≡ true
  pub branches : (pc : ℕ) → o.branches pc ≡ true → o.transfers pc ≡ true
