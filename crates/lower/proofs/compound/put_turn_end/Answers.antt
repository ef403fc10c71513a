use Rattle.std.proofs.Common.{◌≡◌, ◌+◌, ap, ◌∙◌}
use Rattle.kernel_ir.specs.declared.simple.Relation.TheVariants as relation
use Rattle.kernel_ir.specs.declared.simple.Simple.TheVariants as op
use Rattle.kernel_ir.specs.Sequence.{joined}
use Rattle.kernel_ir.specs.Tree.{choose, exit}
use Rattle.statement_code.specs.Values.{one, single}
use Rattle.lower.specs.Stated.{step_of}
use Rattle.lower.proofs.Building.{then_put}
use Rattle.lower.proofs.Pieces.{in_words}
use Rattle.lower.proofs.compound.put_turn_end.Goals as goal

pub returns : goal.returns
returns c =
    let h = c.args.bounds in
    let k = c.args.free in
    let step = step_of c.args.direction in
    let next : c.push_simple.new.self ≡ one (op.Advance h h step) =
    c.in_ok-push_simple.ensures.ok ∙ ap (joined c.new-next.result) (ap one c.next_value.ensures) ∙ ap (λ x. joined x (one (op.Advance h h step))) c.new-next.ensures in
    then_put c.push.result c.args.code.now c.put_compared.new.code c.push.new.self (one (op.Compare relation.Equal k h (h + 1))) (single (choose k (single exit) (one (op.Advance h h step))))
    (rw c.in_ok-last.ensures.number at c.in_ok-put_compared.ensures)
    (in_words c.push.result c.put_compared.new.code c.push.new.self _ _ (λ s. single (choose k (c.in_ok-leaves.ensures s) (next s))) c.push.ensures.ok)
