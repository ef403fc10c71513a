-- What machine code marks: the statements that start and the conditions that are evaluated, in the order of the code.
use Rattle.std.specs.Prelude.{ℕ, zero, suc, List, [], ◌∷◌, ◌++◌}
use Rattle.cov_base.specs.declared.position.StmtId.{StmtId}
use Rattle.cov_base.specs.declared.position.DecId.{DecId}
use Rattle.cov_base.specs.declared.position.InstId.{InstId}
use Rattle.kernel_ir.specs.declared.kernel.Body.{Body}
use Rattle.kernel_ir.specs.declared.kernel.Kernel.{Kernel}
use Rattle.kernel_ir.specs.declared.simple.Simple.{Simple}
use Rattle.kernel_ir.specs.declared.simple.Simple.TheVariants as simple_op
use Rattle.kernel_ir.specs.Tree.{Op, simple, choose, forever, for_loop, exit, returns, catch, decide, call, Code, no_op, and_op, Nodes, no_node, and_node}

-- a statement that starts, in an instance
pub record Row : Type 0 where
  pub statement : StmtId
  pub instance : InstId

-- a condition that is evaluated, by its decision and its place in it, in an instance
pub record Condition : Type 0 where
  pub decision : DecId
  pub at_node : ℕ
  pub instance : InstId

abbrev pub simple_rows : Simple → List Row
simple_rows (simple_op.Start s i) = record { statement = s; instance = i } ∷ []
simple_rows other = []

abbrev mutual
  -- the statements that start in an operation
  pub op_rows : Op → List Row
  op_rows (simple s) = simple_rows s
  op_rows (choose k a b) = code_rows a ++ code_rows b
  op_rows (forever a) = code_rows a
  op_rows (for_loop a) = code_rows a
  op_rows exit = []
  op_rows returns = []
  op_rows (catch a k b) = code_rows a ++ code_rows b
  op_rows (decide d i k ns) = node_rows ns
  op_rows (call f) = []

  pub code_rows : Code → List Row
  code_rows no_op = []
  code_rows (and_op o a) = op_rows o ++ code_rows a

  pub node_rows : Nodes → List Row
  node_rows no_node = []
  node_rows (and_node a k t f ns) = code_rows a ++ node_rows ns

abbrev mutual
  -- the conditions that are evaluated in an operation: what the code of a condition evaluates comes before it
  pub op_conditions : Op → List Condition
  op_conditions (simple s) = []
  op_conditions (choose k a b) = code_conditions a ++ code_conditions b
  op_conditions (forever a) = code_conditions a
  op_conditions (for_loop a) = code_conditions a
  op_conditions exit = []
  op_conditions returns = []
  op_conditions (catch a k b) = code_conditions a ++ code_conditions b
  op_conditions (decide d i k ns) = node_conditions d i zero ns
  op_conditions (call f) = []

  pub code_conditions : Code → List Condition
  code_conditions no_op = []
  code_conditions (and_op o a) = op_conditions o ++ code_conditions a

  -- of nodes that are numbered from n on
  pub node_conditions : DecId → InstId → (n : ℕ) → Nodes → List Condition
  node_conditions d i n no_node = []
  node_conditions d i n (and_node a k t f ns) =
      code_conditions a ++ (record { decision = d; at_node = n; instance = i } ∷ node_conditions d i (suc n) ns)

abbrev pub body_rows : List Body → List Row
body_rows [] = []
body_rows (b ∷ bs) = code_rows b.code ++ body_rows bs

abbrev pub body_conditions : List Body → List Condition
body_conditions [] = []
body_conditions (b ∷ bs) = code_conditions b.code ++ body_conditions bs

-- the statements that start in a kernel, and the conditions that are evaluated in it
abbrev pub rows : Kernel → List Row
rows p = body_rows p.bodies

abbrev pub conditions : Kernel → List Condition
conditions p = body_conditions p.bodies
