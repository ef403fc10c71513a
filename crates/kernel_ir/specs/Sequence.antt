-- Code behind code.
use Rattle.kernel_ir.specs.Tree.{Code, no_op, and_op}

-- the operations of one code, and then those of another
abbrev pub joined : Code → Code → Code
joined no_op b = b
joined (and_op o a) b = and_op o (joined a b)
