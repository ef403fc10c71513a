use Rattle.std.proofs.Common.{subst}
use Rattle.std.proofs.lemmas.Result.{err_from_is_err_and}
use Rattle.walked_program.specs.Checking.{IsUnmet, IsExcess, memory_is_out}
use Rattle.walked_program.proofs.CheckedLaws.{unmet_refused, excess_refused, all_accepted}
use Rattle.walked_program.proofs.behind.accepted.Goals as goal

pub returns-in_err-pos : goal.returns-in_err-pos
returns-in_err-pos c x l main whole k b there j =
    let e = err_from_is_err_and c.from_residual.result c.from_residual.ensures.1 in
    rw (e.1, e.2) memory_is_out

pub returns-in-Some : goal.returns-in-Some
returns-in-Some c x l main whole k b there j =
    let w = c.args.whole.now in
    unmet_refused w c.args.units.now x l main whole k b there j c.in-Some.pos (subst (IsUnmet w) c.in-Some.is c.in_ok-pos.ensures)

pub returns-in_err-pos-2 : goal.returns-in_err-pos-2
returns-in_err-pos-2 c x l main whole k b there j =
    let e = err_from_is_err_and c.from_residual-in_err-pos-2.result c.from_residual-in_err-pos-2.ensures.1 in
    rw (e.1, e.2) memory_is_out

pub returns-in-Some-2 : goal.returns-in-Some-2
returns-in-Some-2 c x l main whole k b there j =
    let w = c.args.whole.now in
    let units = c.args.units.now in
    excess_refused w units x l main whole k b there j c.in-Some-2.pos (subst (IsUnmet w) c.in_default.is c.in_ok-pos.ensures)
    (subst (IsExcess w units) c.in-Some-2.is c.in_ok-pos-2.ensures)

pub returns : goal.returns
returns c x l main whole k b there j =
    let w = c.args.whole.now in
    let units = c.args.units.now in
    all_accepted w units x l main whole k b there j (subst (IsUnmet w) c.in_default.is c.in_ok-pos.ensures)
    (subst (IsExcess w units) c.in_default-2.is c.in_ok-pos-2.ensures)
