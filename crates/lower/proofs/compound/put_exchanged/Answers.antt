use Rattle.std.proofs.Common.{sym}
use Rattle.kernel_ir.specs.declared.simple.Simple.TheVariants as op
use Rattle.kernel_ir.proofs.Joining.{joined_nothing}
use Rattle.statement_code.specs.Values.{one}
use Rattle.lower.proofs.Pieces.{in_words, three_then}
use Rattle.lower.proofs.Stated.{exchanged}
use Rattle.lower.proofs.compound.put_exchanged.Goals as goal

pub returns-in-Rising : goal.returns-in-Rising
returns-in-Rising c = rw c.in-Rising.is (sym (joined_nothing c.args.code.now))

pub returns : goal.returns
returns c =
    let f = c.args.first in
    let l = c.args.last in
    let k = c.args.free in
    in_words c.push_simple-3.result c.args.code.now c.push_simple-3.new.self _ _ (exchanged f l k c.args.direction c.in_default.not-Rising)
    (three_then c.push_simple-3.result c.args.code.now c.push_simple.new.self c.push_simple-2.new.self c.push_simple-3.new.self (one (op.Move k f)) (one (op.Move f l)) (one (op.Move l k))
    c.in_ok-push_simple.ensures.ok c.in_ok-push_simple-2.ensures.ok c.push_simple-3.ensures.ok)
