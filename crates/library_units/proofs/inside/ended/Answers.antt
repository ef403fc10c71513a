use Rattle.std.proofs.lemmas.Result.{err_from_is_err_and}
use Rattle.library_units.proofs.EndLaws.{name_refused, may_not_end, ends_named, ends_typed}
use Rattle.library_units.proofs.inside.ended.Goals as goal

pub returns-in_err-closed_by : goal.returns-in_err-closed_by
returns-in_err-closed_by c k r made gives =
    let e = err_from_is_err_and c.from_residual.result c.from_residual.ensures.1 in
    rw (e.1, e.2) (name_refused (c.args.context.now.step) c.args.body.now r made c.in_err-closed_by.field-0.0
    (c.in_err-closed_by.ensures c.args.body.now.specification.pos))

pub returns-in-Naming : goal.returns-in-Naming
returns-in-Naming c k r made gives =
    rw c.in-Naming.is (ends_named c.args.body.now r made (c.in_ok-closed_by.ensures c.args.body.now.specification.pos))

pub returns-then-may_end : goal.returns-then-may_end
returns-then-may_end c k r made gives =
    rw c.in-Typing.is (ends_typed c.args.body.now r made (c.in_ok-closed_by.ensures c.args.body.now.specification.pos)
    (c.may_end.ensures k r gives) c.if-may_end.true)

pub returns-else-may_end : goal.returns-else-may_end
returns-else-may_end c k r made gives =
    rw (c.in-Typing.is, c.refused.ensures) (may_not_end c.args.body.now r made (c.in_ok-closed_by.ensures c.args.body.now.specification.pos)
    (c.may_end.ensures k r gives) c.if-may_end.false)
