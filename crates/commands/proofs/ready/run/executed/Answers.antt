use Rattle.std.proofs.Common.{◌∙◌, ℤ, List, ap, refl, arith}
use Rattle.commands.specs.RunLines.{run_lines}
use Rattle.rv_machine.specs.Objects.{object_run}
use Rattle.rv32_emulator.proofs.Traced.{holds_short}
use Rattle.commands.proofs.RunLaws.{ended, ran}
use Rattle.commands.proofs.ready.run.executed.Goals as goal

pub told-requires-clause-recorded : goal.told-requires-clause-recorded
told-requires-clause-recorded c =
    let a = c.in-Ok.ensures.answers in
    let same = c.in-Ok.ensures.object ∙ c.in_ok-recorder.ensures.object in (
      (object_run c.args.object.now c.args.budget c.args.input.now).entries,
      a.2.recorded,
      ended c.args.object.now c.args.budget c.args.input.now c.in-Ok.ending.number c.run.new.recorder c.requires a.0 same,
    )

pub told-requires-clause-short_history : goal.told-requires-clause-short_history
told-requires-clause-short_history c =
    let short = holds_short c.args.object.now c.args.budget c.args.input.now c.run.new.recorder c.new-put.result.items c.run.new.out.items c.in-Ok.ensures.answers.2 in
    omega (arith, short, c.ranges.budget.fits)

pub returns-in-Ok-clause-ran : goal.returns-in-Ok-clause-ran
returns-in-Ok-clause-ran c =
    let a = c.in-Ok.ensures.answers in
    let same = c.in-Ok.ensures.object ∙ c.in_ok-recorder.ensures.object in
    let entries = (object_run c.args.object.now c.args.budget c.args.input.now).entries in
    let over = ended c.args.object.now c.args.budget c.args.input.now c.in-Ok.ending.number c.run.new.recorder c.requires a.0 same in
    let made = c.in_ok-trace-in-Ok in
    let file = made.ensures.file entries a.2.recorded over in
    let told = made.ensures.text
    ∙ ap (λ (words : List ℤ). run_lines c.args.object.now.obligations.exceptions words c.in-Ok.ending.number c.in-Ok.ending.count made.trace.items) c.as_slice.ensures.value in
    ran c.args.object.now c.args.budget c.args.input.now c.in-Ok.ending.number c.in-Ok.ending.count c.run.new.recorder _ c.run.new.out.items
    made.trace.items made.text.items c.args.object.now.obligations.exceptions
    a.0 a.1 a.2 c.new-put.ensures.items same file.0 file.1 refl told
