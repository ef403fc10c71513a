-- The code of a kernel: a piece for the start, and one for each body. Labels are places of lines in
-- their piece.
use Rattle.std.specs.Prelude.{ℕ, zero, suc, ◌+◌, ◌-◌, ◌*◌, ◌^◌, true, false, List, [], ◌∷◌, ◌++◌, map, length}
use Rattle.cov_base.specs.declared.position.DecId.{DecId}
use Rattle.cov_base.specs.declared.position.InstId.{InstId}
use Rattle.rv_isa.specs.declared.ops.UpperOp.TheVariants.{Lui}
use Rattle.rv_isa.specs.declared.ops.BranchOp.TheVariants.{Beq, Bne}
use Rattle.rv_isa.specs.declared.ops.ImmediateOp.TheVariants.{Addi, Sltiu}
use Rattle.rv_isa.specs.declared.ops.RegisterOp.TheVariants.{Add}
use Rattle.rv_isa.specs.declared.ops.LoadOp.TheVariants.{Lw}
use Rattle.rv_isa.specs.declared.ops.StoreOp.TheVariants.{Sw}
use Rattle.rv_isa.specs.declared.instr.Instr.{Instr}
use Rattle.rv_isa.specs.declared.instr.Instr.TheVariants.{Upper, Jalr, Load, Store, Immediate, Register, Ecall}
use Rattle.kernel_ir.specs.declared.simple.Simple.{Simple}
use Rattle.kernel_ir.specs.declared.code.Edge.{Edge}
use Rattle.kernel_ir.specs.declared.code.Edge.TheVariants.{Leaf, NodeAfter}
use Rattle.kernel_ir.specs.Tree.{Op, simple, choose, forever, for_loop, exit, returns, catch, decide, call, Code, no_op, and_op, Nodes, no_node, and_node}
use Rattle.kernel_code.specs.Line.{Line, plain, jump, decides, checks, steers}
use Rattle.kernel_code.specs.Words.{load_slot, store_slot, load_constant}
use Rattle.kernel_code.specs.SimpleCode.{branch, call_piece, Targets, Setting, simple_lines}

-- how many lines an operation has, whatever its place
abbrev pub simple_length : Simple → ℕ
simple_length s = length (simple_lines (record { width = 0; exceptions = 0; layouts = []; first_layout = 0 }) 0 0 s)

abbrev mutual
  pub op_length : Op → ℕ
  op_length (simple s) = simple_length s
  op_length (choose k a b) = code_length a + code_length b + 7
  op_length (forever a) = code_length a + 1
  op_length (for_loop a) = code_length a + 1
  op_length exit = 1
  op_length returns = 1
  op_length (catch a k b) = code_length a + code_length b + 4
  op_length (decide d i k ns) = nodes_length ns + 9
  op_length (call f) = 13

  pub code_length : Code → ℕ
  code_length no_op = 0
  code_length (and_op o a) = op_length o + code_length a

  pub nodes_length : Nodes → ℕ
  nodes_length no_node = 0
  nodes_length (and_node a k t f ns) = code_length a + 8 + nodes_length ns

-- the place of the node that is so many nodes further, of nodes from a place on
abbrev pub node_place : (further : ℕ) → Nodes → (place : ℕ) → ℕ
node_place zero ns p = p
node_place (suc n) no_node p = p
node_place (suc n) (and_node a k t f ns) p = node_place n ns (p + code_length a + 8)

-- the place to which an edge leads: of an outcome, or of one of the nodes that follow
abbrev pub edge_place : (true_at false_at : ℕ) → (following : Nodes) → (place : ℕ) → Edge → ℕ
edge_place true_at false_at ns p (Leaf true) = true_at
edge_place true_at false_at ns p (Leaf false) = false_at
edge_place true_at false_at ns p (NodeAfter n) = node_place n ns p

-- x10 is 1 where a slot holds True, and else 0
abbrev pub load_truth : (slot : ℕ) → List Instr
load_truth k = load_slot 10 k (Immediate Addi 10 10 0xfff ∷ Immediate Sltiu 10 10 1 ∷ [])

-- a call: the depth test, the frame of the callee and back, and on to where exceptions lead if one
-- comes back. x2 is the end of the area where no further call may nest.
abbrev pub enter_frame : (width : ℕ) → List Instr
enter_frame width = load_constant 13 (2 ^ 32 - 4 * width) (Register Add 8 8 13 ∷ [])

abbrev pub leave_frame : (width : ℕ) → List Instr
leave_frame width = load_constant 13 (4 * width) (Register Add 8 8 13 ∷ [])

abbrev pub call_lines : Setting → (raise_to place body : ℕ) → List Line
call_lines e r p f =
    map plain (Upper Lui 13 0x1fc0 ∷ Immediate Addi 12 0 3 ∷ [])
    ++ (branch checks Bne 2 13 (p + 4) ∷ (jump r
    ∷ (map plain (enter_frame e.width)
    ++ (call_piece (f + 1)
    ∷ (map plain (leave_frame e.width) ++ (branch steers Beq 12 0 (p + 13) ∷ (jump r ∷ [])))))))

-- a loop is left for the place behind its jump back
abbrev pub inside : Targets → (place : ℕ) → Code → Targets
inside t p a = record t { exit_to = p + code_length a + 1 }

-- exceptions of a guarded part lead to the handler behind its last jump
abbrev pub guarded : Targets → (place : ℕ) → Code → Targets
guarded t p a = record t { raise_to = p + code_length a + 1 }

-- the lines of an operation, of code and of nodes, of which the first one is at a place
abbrev mutual
  pub op_lines : Setting → Targets → (place : ℕ) → Op → List Line
  op_lines e t p (simple s) = simple_lines e t.raise_to p s
  op_lines e t p (choose k a b) =
      map plain (load_slot 11 k (Immediate Addi 13 0 1 ∷ []))
      ++ (branch steers Beq 11 13 (p + 6) ∷ (jump (p + 7 + code_length a)
      ∷ (code_lines e t (p + 6) a
      ++ (jump (p + 7 + code_length a + code_length b) ∷ code_lines e t (p + 7 + code_length a) b))))
  op_lines e t p (forever a) = code_lines e (inside t p a) p a ++ (jump p ∷ [])
  op_lines e t p (for_loop a) = code_lines e (inside t p a) p a ++ (jump p ∷ [])
  op_lines e t p exit = jump t.exit_to ∷ []
  op_lines e t p returns = jump t.return_to ∷ []
  op_lines e t p (catch a k b) =
      code_lines e (guarded t p a) p a
      ++ (jump (p + code_length a + 4 + code_length b)
      ∷ (map plain (store_slot 12 k []) ++ code_lines e t (p + code_length a + 4) b))
  op_lines e t p (decide d i k ns) =
      let true_at = p + nodes_length ns in
      nodes_lines e t true_at (true_at + 5) d i 0 p ns
      ++ (map plain (Immediate Addi 10 0 1 ∷ store_slot 10 k [])
      ++ (jump (true_at + 9) ∷ map plain (Immediate Addi 10 0 0 ∷ store_slot 10 k [])))
  op_lines e t p (call f) = call_lines e t.raise_to p f

  pub code_lines : Setting → Targets → (place : ℕ) → Code → List Line
  code_lines e t p no_op = []
  code_lines e t p (and_op o a) = op_lines e t p o ++ code_lines e t (p + op_length o) a

  -- node n and those that follow; a condition's branch is taken where it is True
  pub nodes_lines : Setting → Targets → (true_at false_at : ℕ) → DecId → InstId → (n place : ℕ) → Nodes → List Line
  nodes_lines e t true_at false_at d i n p no_node = []
  nodes_lines e t true_at false_at d i n p (and_node a k on_true on_false ns) =
      let next = p + code_length a + 8 in
      code_lines e t p a
      ++ (map plain (load_truth k)
      ++ (branch (decides d n i) Bne 10 0 (p + code_length a + 7)
      ∷ (jump (edge_place true_at false_at ns next on_false)
      ∷ (jump (edge_place true_at false_at ns next on_true)
      ∷ nodes_lines e t true_at false_at d i (suc n) next ns))))

-- the targets of a body's code
abbrev pub body_targets : Code → Targets
body_targets a = record { raise_to = 3 + code_length a; exit_to = 2 + code_length a; return_to = 2 + code_length a }

-- a body: x1 is kept above the stack's end while it runs
abbrev pub body_lines : Setting → Code → List Line
body_lines e a =
    map plain (Immediate Addi 2 2 0xffc ∷ Store Sw 2 1 0 ∷ [])
    ++ (code_lines e (body_targets a) 2 a
    ++ (map plain (Immediate Addi 12 0 0 ∷ Load Lw 1 2 0 ∷ Immediate Addi 2 2 4 ∷ []) ++ (plain (Jalr 0 1 0) ∷ [])))

-- the start: x8 is the end of the area, x2 that of the return addresses; the run ends with x12, which
-- is 0 where no exception came back
abbrev pub start_lines : (main : ℕ) → List Line
start_lines main =
    map plain (Upper Lui 8 0x1fc0 ∷ load_constant 2 0x1fc0800 [])
    ++ (call_piece (main + 1)
    ∷ (map plain (Immediate Addi 10 12 0 ∷ Immediate Addi 17 0 3 ∷ []) ++ (plain Ecall ∷ [])))
