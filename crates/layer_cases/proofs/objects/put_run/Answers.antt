use Rattle.std.proofs.Common.{◌∙◌, arith}
use Rattle.rv32_emulator.proofs.Traced.{holds_ended, holds_short}
use Rattle.layer_cases.proofs.objects.put_run.Goals as goal

pub put_ended-requires-clause-recorded : goal.put_ended-requires-clause-recorded
put_ended-requires-clause-recorded c =
    let answers = c.in-Ok.ensures.answers in
    holds_ended c.args.object.now c.args.budget c.args.input.now c.in-Ok.ending.number c.run.new.recorder _ _ c.requires (c.run.ensures.object ∙ c.in_ok-recorder.ensures.object) answers.0 answers.2

pub put_ended-requires-clause-short_history : goal.put_ended-requires-clause-short_history
put_ended-requires-clause-short_history c =
    omega (arith, c.ranges.budget.fits, holds_short c.args.object.now c.args.budget c.args.input.now c.run.new.recorder c.new-put.result.items c.run.new.out.items c.in-Ok.ensures.answers.2)
