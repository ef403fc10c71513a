use Rattle.std.proofs.lemmas.Result.{err_from_is_err_and}
use Rattle.checker.proofs.JudgedLaws.{refused_at_headings, refused_at_interfaces, refused_at_bodies, ends_as}
use Rattle.checker.proofs.steps.walk_over.Goals as goal

pub returns-in_err-headings : goal.returns-in_err-headings
returns-in_err-headings c l whole fresh are =
    let e = err_from_is_err_and c.from_residual.result c.from_residual.ensures.1 in
    rw (e.1, e.2) (refused_at_headings c.args.step c.args.library.now c.args.units.now c.args.main.now l whole c.args.walk.now fresh
    c.args.instances.now are c.in_err-headings.field-0.0 (c.in_err-headings.ensures l whole.is))

pub returns-in_err-all_shown : goal.returns-in_err-all_shown
returns-in_err-all_shown c l whole fresh are =
    let e = err_from_is_err_and c.from_residual-in_err-all_shown.result c.from_residual-in_err-all_shown.ensures.1 in
    rw (e.1, e.2) (refused_at_interfaces c.args.step c.args.library.now c.args.units.now c.args.main.now l whole c.args.walk.now fresh
    c.args.instances.now are tt (c.in_ok-headings.ensures l whole.is) c.all_shown.new.walk c.all_shown.new.instances c.in_err-all_shown.field-0.0
    c.in_err-all_shown.ensures.passes c.in_err-all_shown.ensures.comes)

pub returns-in_err-all_bodies : goal.returns-in_err-all_bodies
returns-in_err-all_bodies c l whole fresh are =
    let e = err_from_is_err_and c.from_residual-in_err-all_bodies.result c.from_residual-in_err-all_bodies.ensures.1 in
    rw (e.1, e.2) (refused_at_bodies c.args.step c.args.library.now c.args.units.now c.args.main.now l whole c.args.walk.now fresh
    c.args.instances.now are tt (c.in_ok-headings.ensures l whole.is) c.all_shown.new.walk c.all_shown.new.instances
    c.in_ok-all_shown.ensures.passes c.in_ok-all_shown.ensures.comes c.all_bodies.new.walk c.in_err-all_bodies.field-0.0
    c.in_err-all_bodies.ensures.passes c.in_err-all_bodies.ensures.comes)

pub returns : goal.returns
returns c l whole fresh are =
    ends_as c.args.step c.args.library.now c.args.units.now c.args.main.now l whole c.args.walk.now fresh
    c.args.instances.now are tt (c.in_ok-headings.ensures l whole.is) c.all_shown.new.walk c.all_shown.new.instances
    c.in_ok-all_shown.ensures.passes c.in_ok-all_shown.ensures.comes c.all_bodies.new.walk
    c.in_ok-all_bodies.ensures.passes c.in_ok-all_bodies.ensures.comes c.main_is_there.result c.main_is_there.ensures
