-- The code of a kernel, as a tree.
use Rattle.std.specs.Prelude.{ℕ, ◌+◌}
use Rattle.cov_base.specs.declared.position.DecId.{DecId}
use Rattle.cov_base.specs.declared.position.InstId.{InstId}
use Rattle.kernel_ir.specs.declared.simple.Simple.{Simple}
use Rattle.kernel_ir.specs.declared.code.Edge.{Edge}

mutual
  -- an operation; `slot` is the number of a word of the activation's frame, and a slot holds True where it is 1
  pub data Op : Type 0 where
    -- one that holds no others
    simple : Simple → Op
    -- the first code where the slot holds True, and else the second one
    choose : (slot : ℕ) → (if_true if_false : Code) → Op
    -- repeats its code until it is left; a for_loop is left within 2 ^ 32 turns
    forever : Code → Op
    for_loop : Code → Op
    -- leaves the innermost loop
    exit : Op
    -- returns from the body
    returns : Op
    -- the first code; for its exceptions the second one, with the exception's number in the slot
    catch : (body : Code) → (slot : ℕ) → (handler : Code) → Op
    -- evaluates a decision in an instance, from its first node, and sets the slot to its outcome
    decide : DecId → InstId → (slot : ℕ) → Nodes → Op
    -- calls the body with this number
    call : (body : ℕ) → Op

  -- operations in order
  pub data Code : Type 0 where
    no_op : Code
    and_op : Op → Code → Code

  -- The nodes of a decision, in order: the code of the condition, the slot that holds its value then, and where the edges of True and
  -- False lead. An edge leads to an outcome, or past so many of the nodes that follow.
  pub data Nodes : Type 0 where
    no_node : Nodes
    and_node : (operand : Code) → (slot : ℕ) → (on_true on_false : Edge) → Nodes → Nodes

-- a measure of trees: a tree has more than each of its parts
abbrev mutual
  pub op_size : Op → ℕ
  op_size (simple s) = 1
  op_size (choose k a b) = code_size a + code_size b + 1
  op_size (forever a) = code_size a + 1
  op_size (for_loop a) = code_size a + 1
  op_size exit = 1
  op_size returns = 1
  op_size (catch a k b) = code_size a + code_size b + 1
  op_size (decide d i k ns) = nodes_size ns + 1
  op_size (call f) = 1

  pub code_size : Code → ℕ
  code_size no_op = 1
  code_size (and_op o a) = op_size o + code_size a

  pub nodes_size : Nodes → ℕ
  nodes_size no_node = 0
  nodes_size (and_node a k t f ns) = code_size a + nodes_size ns
