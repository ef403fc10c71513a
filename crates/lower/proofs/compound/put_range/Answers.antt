use Rattle.std.proofs.Common.{◌≡◌, ◌+◌, ap, ◌∙◌}
use Rattle.ada_tree.specs.View.{is_reversed}
use Rattle.kernel_ir.specs.declared.simple.Relation.TheVariants as relation
use Rattle.kernel_ir.specs.declared.simple.Simple.TheVariants as op
use Rattle.kernel_ir.specs.Sequence.{joined}
use Rattle.kernel_ir.specs.Tree.{choose, for_loop, no_op}
use Rattle.statement_code.specs.Values.{one, single}
use Rattle.lower.specs.Stated.{exchange_by}
use Rattle.lower.proofs.Building.{then_put, two_put}
use Rattle.lower.proofs.Pieces.{in_words}
use Rattle.lower.proofs.compound.put_range.Goals as goal

pub returns : goal.returns
returns c =
    let h = c.args.bounds in
    let k = c.args.free in
    let rev = is_reversed c.args.direction in
    let turns : c.push.new.self ≡ joined (exchange_by h (h + 1) k rev) (single (for_loop c.args.turn)) =
    two_put c.new-turns.result c.put_exchanged.new.code c.push.new.self (exchange_by h (h + 1) k rev) (single (for_loop c.args.turn))
    (rw c.in_ok-last.ensures.number at c.in_ok-put_exchanged.ensures) c.in_ok-push.ensures.ok
    ∙ ap (λ x. joined x (joined (exchange_by h (h + 1) k rev) (single (for_loop c.args.turn)))) c.new-turns.ensures in
    then_put c.push-2.result c.args.code.now c.put_compared.new.code c.push-2.new.self (one (op.Compare relation.AtMost k h (h + 1)))
    (single (choose k (joined (exchange_by h (h + 1) k rev) (single (for_loop c.args.turn))) no_op))
    (rw c.in_ok-last.ensures.number at c.in_ok-put_compared.ensures)
    (in_words c.push-2.result c.put_compared.new.code c.push-2.new.self _ _ (λ s. single (choose k (turns s) (c.new.ensures s))) c.push-2.ensures.ok)
