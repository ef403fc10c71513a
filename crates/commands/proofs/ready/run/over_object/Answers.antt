use Rattle.std.proofs.Common.{List, ℕ, refl, subst}
use Rattle.std.proofs.lemmas.Result.{err_from_is_err_and}
use Rattle.commands.specs.Prepared.{RunsOnInput, StopsOnInput}
use Rattle.commands.specs.Reading.{UnlessMemory}
use Rattle.commands.proofs.StopLaws.{run_unread, run_ends, run_made}
use Rattle.commands.proofs.ready.run.over_object.Goals as goal

pub returns-in_err-numbers-clause-prepares : goal.returns-in_err-numbers-clause-prepares
returns-in_err-numbers-clause-prepares g c =
    let p = err_from_is_err_and c.from_residual.result c.from_residual.ensures.1 in
    λ name bytes holds is. rw (p.1, p.2) (run_unread _ _ _ _ _ c.args.input.now c.args.budget c.args.trace.now name bytes c.args.object.now c.in_err-numbers.field-0.0
    refl refl holds is c.in_err-numbers.ensures.unread)

pub returns-in_err-bytes-clause-prepares : goal.returns-in_err-bytes-clause-prepares
returns-in_err-bytes-clause-prepares g c =
    let p = err_from_is_err_and c.from_residual-in_err-bytes.result c.from_residual-in_err-bytes.ensures.1 in
    let stops = subst (λ (text : List ℕ). UnlessMemory (StopsOnInput c.args.object.now c.args.budget text) c.in_err-bytes.field-0.0) c.as_slice.ensures.value c.in_err-bytes.ensures.stopped in
    λ name bytes holds is. rw (p.1, p.2) (run_ends _ _ _ c.args.input.now c.args.budget c.args.trace.now name bytes c.in_ok-numbers.numbers.items c.args.object.now c.in_err-bytes.field-0.0
    c.in_ok-numbers.ensures.reads holds is c.in_ok-numbers.ensures.read stops)

pub returns-clause-prepares : goal.returns-clause-prepares
returns-clause-prepares g c =
    let ran = subst (λ (text : List ℕ). RunsOnInput c.args.object.now c.args.budget text (record { file = c.in_ok-bytes.bytes.items; text = c.in_ok-bytes.text.items })) c.as_slice.ensures.value c.in_ok-bytes.ensures.ran in
    λ name bytes holds is. run_made _ _ _ c.args.input.now c.args.budget c.args.trace.now name bytes c.in_ok-numbers.numbers.items ran.0
    c.in_ok-bytes.bytes.items c.in_ok-bytes.text.items c.args.object.now
    c.in_ok-numbers.ensures.reads holds is c.in_ok-numbers.ensures.read ran.1 ran.2
