use Rattle.std.proofs.Common.{◌+◌, pos}
use Rattle.ada_tree.specs.View.{exception_of}
use Rattle.kernel_ir.specs.declared.simple.Relation.TheVariants as relation
use Rattle.kernel_ir.specs.declared.simple.Simple.TheVariants as op
use Rattle.statement_code.specs.Values.{one}
use Rattle.lower.specs.Context.{names_for}
use Rattle.lower.proofs.Building.{then_put}
use Rattle.lower.proofs.choosing.put_exception_choice.Goals as goal

pub returns-in_ok-put_exception-in-Exception : goal.returns-in_ok-put_exception-in-Exception
returns-in_ok-put_exception-in-Exception c =
    let k = c.args.slot in
    rw c.in-Exception.is
    (then_put c.put_compared.result c.args.code.now c.put_exception.new.code c.put_compared.new.code
    (one (op.Number (k + 2) (pos ((names_for c.args.context.now).exception (exception_of c.in-Exception.name))))) (one (op.Compare relation.Equal (k + 1) k (k + 2)))
    (rw c.in_ok-named.ensures.number at c.in_ok-put_exception-in-Exception.ensures) (rw (c.in_ok-to.ensures.number, c.in_ok-named.ensures.number) at c.put_compared.ensures))
