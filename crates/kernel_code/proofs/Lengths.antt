-- Code has as many lines as its length says, wherever it stands.
use Rattle.std.proofs.Common.{◌≡◌, ℕ, suc, ◌+◌, List, [], ◌∷◌, ◌++◌, map, length, refl, arith, length-append}
use Rattle.cov_base.specs.declared.position.DecId.{DecId}
use Rattle.cov_base.specs.declared.position.InstId.{InstId}
use Rattle.rv_isa.specs.declared.ops.ImmediateOp.TheVariants.{Addi}
use Rattle.rv_isa.specs.declared.instr.Instr.TheVariants.{Immediate}
use Rattle.kernel_ir.specs.declared.simple.Operator.TheVariants as operator
use Rattle.kernel_ir.specs.declared.simple.Relation.TheVariants as relation
use Rattle.kernel_ir.specs.declared.simple.Simple.{Simple}
use Rattle.kernel_ir.specs.declared.simple.Simple.TheVariants as simple_op
use Rattle.kernel_ir.specs.Tree.{Op, simple, choose, forever, for_loop, exit, returns, catch, decide, call, Code, no_op, and_op, Nodes, no_node, and_node}
use Rattle.kernel_code.specs.Line.{Line, plain, jump}
use Rattle.kernel_code.specs.Words.{store_slot}
use Rattle.kernel_code.specs.SimpleCode.{Setting, Targets, simple_lines}
use Rattle.kernel_code.specs.Code.{simple_length, op_length, code_length, nodes_length, edge_place, inside, guarded, op_lines, code_lines, nodes_lines}

pub simple_long : (e : Setting) (r p : ℕ) (s : Simple) → length (simple_lines e r p s) ≡ simple_length s
simple_long e r p (simple_op.Number to value) = refl
simple_long e r p (simple_op.Move to from) = refl
simple_long e r p (simple_op.Compare relation.Equal to i j) = refl
simple_long e r p (simple_op.Compare relation.Unequal to i j) = refl
simple_long e r p (simple_op.Compare relation.Less to i j) = refl
simple_long e r p (simple_op.Compare relation.AtMost to i j) = refl
simple_long e r p (simple_op.Compare relation.Greater to i j) = refl
simple_long e r p (simple_op.Compare relation.AtLeast to i j) = refl
simple_long e r p (simple_op.Complement to from) = refl
simple_long e r p (simple_op.Negate to from) = refl
simple_long e r p (simple_op.Absolute to from) = refl
simple_long e r p (simple_op.Arithmetic operator.Add to i j) = refl
simple_long e r p (simple_op.Arithmetic operator.Subtract to i j) = refl
simple_long e r p (simple_op.Arithmetic operator.Multiply to i j) = refl
simple_long e r p (simple_op.Arithmetic operator.Divide to i j) = refl
simple_long e r p (simple_op.Arithmetic operator.Modulo to i j) = refl
simple_long e r p (simple_op.Arithmetic operator.Remainder to i j) = refl
simple_long e r p (simple_op.Within slot low high) = refl
simple_long e r p (simple_op.Index to from low high size) = refl
simple_long e r p (simple_op.Offset to i j) = refl
simple_long e r p (simple_op.Advance to from by) = refl
simple_long e r p (simple_op.FrameAddress to slot) = refl
simple_long e r p (simple_op.LibraryAddress to word) = refl
simple_long e r p (simple_op.Load to address) = refl
simple_long e r p (simple_op.Store address from) = refl
simple_long e r p (simple_op.ReadLibrary to word) = refl
simple_long e r p (simple_op.WriteLibrary word from) = refl
simple_long e r p (simple_op.Copy to from words) = refl
simple_long e r p (simple_op.Fill at layout) = refl
simple_long e r p (simple_op.Start statement instance) = refl
simple_long e r p (simple_op.Get to) = refl
simple_long e r p (simple_op.Put from) = refl
simple_long e r p (simple_op.Raise exception) = refl
simple_long e r p (simple_op.RaiseSlot slot) = refl

-- the lines behind the code of a condition
abbrev pub node_tail : (e : Setting) (t : Targets) (true_at false_at : ℕ) (d : DecId) (i : InstId) (n p : ℕ) (a : Code) (k : ℕ) (on_true on_false : Rattle.kernel_ir.specs.declared.code.Edge.Edge) (ns : Nodes) → List Line
node_tail e t true_at false_at d i n p a k on_true on_false ns =
    map plain (Rattle.kernel_code.specs.Code.load_truth k)
    ++ (Rattle.kernel_code.specs.SimpleCode.branch (Rattle.kernel_code.specs.Line.decides d n i) Rattle.rv_isa.specs.declared.ops.BranchOp.TheVariants.Bne 10 0 (p + code_length a + 7)
    ∷ (jump (edge_place true_at false_at ns (p + code_length a + 8) on_false)
    ∷ (jump (edge_place true_at false_at ns (p + code_length a + 8) on_true)
    ∷ nodes_lines e t true_at false_at d i (suc n) (p + code_length a + 8) ns)))

mutual
  pub op_long : (e : Setting) (t : Targets) (p : ℕ) (o : Op) → length (op_lines e t p o) ≡ op_length o
  op_long e t p (simple s) = simple_long e t.raise_to p s
  op_long e t p (choose k a b) =
      omega (
        arith,
        code_long e t (p + 6) a,
        code_long e t (p + 7 + code_length a) b,
        length-append (code_lines e t (p + 6) a) (jump (p + 7 + code_length a + code_length b) ∷ code_lines e t (p + 7 + code_length a) b),
      )
  op_long e t p (forever a) = omega (arith, code_long e (inside t p a) p a, length-append (code_lines e (inside t p a) p a) (jump p ∷ []))
  op_long e t p (for_loop a) = omega (arith, code_long e (inside t p a) p a, length-append (code_lines e (inside t p a) p a) (jump p ∷ []))
  op_long e t p exit = refl
  op_long e t p returns = refl
  op_long e t p (catch a k b) =
      omega (
        arith,
        code_long e (guarded t p a) p a,
        code_long e t (p + code_length a + 4) b,
        length-append (code_lines e (guarded t p a) p a) (jump (p + code_length a + 4 + code_length b) ∷ (map plain (store_slot 12 k []) ++ code_lines e t (p + code_length a + 4) b)),
      )
  op_long e t p (decide d i k ns) =
      omega (
        arith,
        nodes_long e t (p + nodes_length ns) (p + nodes_length ns + 5) d i 0 p ns,
        length-append (nodes_lines e t (p + nodes_length ns) (p + nodes_length ns + 5) d i 0 p ns)
            (map plain (Immediate Addi 10 0 1 ∷ store_slot 10 k []) ++ (jump (p + nodes_length ns + 9) ∷ map plain (Immediate Addi 10 0 0 ∷ store_slot 10 k []))),
      )
  op_long e t p (call f) = refl

  pub code_long : (e : Setting) (t : Targets) (p : ℕ) (a : Code) → length (code_lines e t p a) ≡ code_length a
  code_long e t p no_op = refl
  code_long e t p (and_op o a) =
      omega (arith, op_long e t p o, code_long e t (p + op_length o) a, length-append (op_lines e t p o) (code_lines e t (p + op_length o) a))

  pub nodes_long : (e : Setting) (t : Targets) (true_at false_at : ℕ) (d : DecId) (i : InstId) (n p : ℕ) (ns : Nodes) → length (nodes_lines e t true_at false_at d i n p ns) ≡ nodes_length ns
  nodes_long e t true_at false_at d i n p no_node = refl
  nodes_long e t true_at false_at d i n p (and_node a k on_true on_false ns) =
      omega (
        arith,
        code_long e t p a,
        nodes_long e t true_at false_at d i (suc n) (p + code_length a + 8) ns,
        length-append (code_lines e t p a) (node_tail e t true_at false_at d i n p a k on_true on_false ns),
      )
