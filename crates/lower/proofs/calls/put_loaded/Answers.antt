use Rattle.std.proofs.Common.{◌+◌, sym}
use Rattle.ada_tree.specs.Programs.{bounds_of}
use Rattle.kernel_ir.specs.declared.simple.Simple.TheVariants as op
use Rattle.kernel_ir.proofs.Joining.{joined_nothing}
use Rattle.statement_code.specs.Values.{one, within}
use Rattle.lower.proofs.Building.{then_put}
use Rattle.lower.proofs.Pieces.{in_words, with_value}
use Rattle.lower.proofs.calls.put_loaded.Goals as goal

pub returns-in-Out : goal.returns-in-Out
returns-in-Out c = rw c.in-Out.is (sym (joined_nothing c.args.code.now))

pub returns : goal.returns
returns c =
    let k = c.args.address in
    let b = bounds_of c.args.taken.bounds in
    in_words c.push_simple-2.result c.args.code.now c.push_simple-2.new.self _ _ (sym (with_value c.args.taken.mode _ c.in_default.not-Out))
    (then_put c.push_simple-2.result c.args.code.now c.push_simple.new.self c.push_simple-2.new.self (one (op.Load (k + 1) k)) (one (within (k + 1) b))
    (rw c.in_ok-to.ensures.number at c.in_ok-push_simple.ensures.ok) (rw (c.within.ensures, c.in_ok-to.ensures.number) at c.push_simple-2.ensures.ok))
