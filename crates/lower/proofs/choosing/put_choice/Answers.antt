use Rattle.std.proofs.Common.{◌≡◌, ◌+◌, ap, ◌∙◌}
use Rattle.ada_tree.specs.View.{static_of}
use Rattle.kernel_ir.specs.Sequence.{joined}
use Rattle.kernel_ir.specs.Tree.{choose, no_op}
use Rattle.kernel_ir.specs.declared.simple.Relation.TheVariants as relation
use Rattle.kernel_ir.specs.declared.simple.Simple.TheVariants as op
use Rattle.statement_code.specs.Values.{one, single}
use Rattle.lower.specs.Context.{names_for}
use Rattle.lower.proofs.Building.{then_put, two_put}
use Rattle.lower.proofs.Pieces.{in_words, three_then}
use Rattle.lower.proofs.choosing.put_choice.Goals as goal

pub returns-in_ok-put_static-in-Value : goal.returns-in_ok-put_static-in-Value
returns-in_ok-put_static-in-Value c =
    let k = c.args.slot in
    rw c.in-Value.is
    (then_put c.put_compared.result c.args.code.now c.put_static.new.code c.put_compared.new.code (one (op.Number (k + 2) ((names_for c.args.context.now).number (static_of c.in-Value.value))))
    (one (op.Compare relation.Equal (k + 1) k (k + 2)))
    (rw c.in_ok-bound.ensures.number at c.in_ok-put_static-in-Value.ensures) (rw (c.in_ok-to.ensures.number, c.in_ok-bound.ensures.number) at c.put_compared.ensures))

pub returns-in_ok-put_compared-in-Range-2 : goal.returns-in_ok-put_compared-in-Range-2
returns-in_ok-put_compared-in-Range-2 c =
    let k = c.args.slot in
    let n = (names_for c.args.context.now).number in
    let low = one (op.Number (k + 2) (n (static_of c.in-Range.first))) in
    let from = one (op.Compare relation.AtMost (k + 1) (k + 2) k) in
    let high = one (op.Number (k + 2) (n (static_of c.in-Range.last))) in
    let below = one (op.Compare relation.AtMost (k + 1) k (k + 2)) in
    let inner : c.put_compared-in-Range-2.new.code ≡ joined high below =
    two_put c.new-below.result c.put_static-in-Range-2.new.code c.put_compared-in-Range-2.new.code high below
    (rw c.in_ok-bound.ensures.number at c.in_ok-put_static-in-Range-2.ensures) (rw (c.in_ok-to.ensures.number, c.in_ok-bound.ensures.number) at c.in_ok-put_compared-in-Range-2.ensures)
    ∙ ap (λ x. joined x (joined high below)) c.new-below.ensures in
    rw c.in-Range.is
    (three_then c.push.result c.args.code.now c.put_static-in-Range.new.code c.put_compared-in-Range.new.code c.push.new.self low from (single (choose (k + 1) (joined high below) no_op))
    (rw c.in_ok-bound.ensures.number at c.in_ok-put_static-in-Range.ensures) (rw (c.in_ok-to.ensures.number, c.in_ok-bound.ensures.number) at c.in_ok-put_compared-in-Range.ensures)
    (in_words c.push.result c.put_compared-in-Range.new.code c.push.new.self _ _ (λ s. single (choose (c.in_ok-to.ensures.number s) (inner s) (c.new.ensures s))) c.push.ensures.ok))
