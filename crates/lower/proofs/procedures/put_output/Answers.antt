use Rattle.ada_meaning.specs.Arithmetic.{base_range}
use Rattle.kernel_ir.specs.declared.simple.Simple.TheVariants as op
use Rattle.statement_code.specs.Values.{one, within}
use Rattle.lower.specs.Pieces.{expr_for}
use Rattle.lower.proofs.Pieces.{three_then}
use Rattle.lower.proofs.procedures.put_output.Goals as goal

pub returns : goal.returns
returns c =
    let k = c.args.slot in
    three_then c.push_simple-2.result c.args.code.now c.put_value.new.code c.push_simple.new.self c.push_simple-2.new.self
    (expr_for c.args.context.now k c.args.expr.now) (one (within k base_range)) (one (op.Put k))
    c.in_ok-put_value.ensures (rw c.within.ensures at c.in_ok-push_simple.ensures.ok) c.push_simple-2.ensures.ok
