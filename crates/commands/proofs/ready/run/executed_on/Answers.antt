use Rattle.std.proofs.Common.{List, ℤ, sym, subst}
use Rattle.std.proofs.lemmas.Result.{err_from_is_err_and, IfOk-weaker}
use Rattle.commands.specs.Content.{IsInputOf}
use Rattle.commands.proofs.StopLaws.{refuses_input, stops_on}
use Rattle.commands.proofs.ready.run.executed_on.Goals as goal

pub returns-in_err-numbers-clause-stopped : goal.returns-in_err-numbers-clause-stopped
returns-in_err-numbers-clause-stopped c =
    let p = err_from_is_err_and c.from_residual.result c.from_residual.ensures.1 in
    rw (p.1, p.2) (refuses_input c.args.object.now c.args.budget c.args.input.now c.in_err-numbers.field-0.0 c.in_err-numbers.ensures.refused)

pub returns-clause-ran : goal.returns-clause-ran
returns-clause-ran c =
    let read = subst (λ (numbers : List ℤ). IsInputOf numbers c.args.input.now) (sym c.as_slice.ensures.value) c.in_ok-numbers.ensures.read in
    IfOk-weaker c.executed.result _ _ (λ made ran. (c.as_slice.result.now, read, ran)) c.executed.ensures.ran

pub returns-clause-stopped : goal.returns-clause-stopped
returns-clause-stopped c =
    let read = subst (λ (numbers : List ℤ). IsInputOf numbers c.args.input.now) (sym c.as_slice.ensures.value) c.in_ok-numbers.ensures.read in
    stops_on c.executed.result c.args.object.now c.args.budget c.args.input.now c.as_slice.result.now read c.executed.ensures.stopped
