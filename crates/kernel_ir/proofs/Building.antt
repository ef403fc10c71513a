-- Code that is built by one operation after another.
use Rattle.std.proofs.Common.{◌≡◌, List, [], ◌∷◌, ◌++◌, refl, ap}
use Rattle.kernel_ir.specs.declared.code.Op.{Op as DeclaredOp}
use Rattle.kernel_ir.specs.Tree.{no_op, and_op}
use Rattle.kernel_ir.specs.TreeView.{op_of, ops_of}
use Rattle.kernel_ir.specs.Sequence.{joined}

pub ops_push : (os : List DeclaredOp) (o : DeclaredOp) → ops_of (os ++ o ∷ []) ≡ joined (ops_of os) (and_op (op_of o) no_op)
ops_push [] o = refl
ops_push (x ∷ xs) o = ap (and_op (op_of x)) (ops_push xs o)
