use Rattle.std.proofs.Common.{◌∙◌, arith, rules, w32, SFits}
use Rattle.std.proofs.lemmas.Int.{to_z-of_z}
use Rattle.rv32_emulator.proofs.Traced.{holds_ended, holds_short}
use Rattle.workload_runs.specs.Runs.{numbers_of, run_budget, run_on}
use Rattle.workload_runs.proofs.Traces.{run_over, traced_on}
use Rattle.workload_runs.proofs.running.trace_on.Goals as goal

pub trace-requires-clause-recorded : goal.trace-requires-clause-recorded
trace-requires-clause-recorded c =
    let first : SFits w32 c.args.input.a = search rules in
    let second : SFits w32 c.args.input.b = search rules in
    let third : SFits w32 c.args.input.c = search rules in
    let a = rw (to_z-of_z w32 c.args.input.a first, to_z-of_z w32 c.args.input.b second, to_z-of_z w32 c.args.input.c third) at c.in-Ok.ensures.answers in
    let same = c.in-Ok.ensures.object ∙ c.in_ok-recorder.ensures.object in
    holds_ended c.args.object.now run_budget (numbers_of c.args.input) c.in-Ok.ending.number c.run.new.recorder c.new-put.result.items c.run.new.out.items
    c.requires same a.0 a.2

pub trace-requires-clause-short_history : goal.trace-requires-clause-short_history
trace-requires-clause-short_history c =
    let short = holds_short c.args.object.now run_budget _ c.run.new.recorder c.new-put.result.items c.run.new.out.items c.in-Ok.ensures.answers.2 in
    omega (arith, short)

pub returns-in-Ok-clause-traced : goal.returns-in-Ok-clause-traced
returns-in-Ok-clause-traced c =
    let first : SFits w32 c.args.input.a = search rules in
    let second : SFits w32 c.args.input.b = search rules in
    let third : SFits w32 c.args.input.c = search rules in
    let a = rw (to_z-of_z w32 c.args.input.a first, to_z-of_z w32 c.args.input.b second, to_z-of_z w32 c.args.input.c third) at c.in-Ok.ensures.answers in
    let same = c.in-Ok.ensures.object ∙ c.in_ok-recorder.ensures.object in
    let ended = run_over c.args.object.now c.args.input c.in-Ok.ending.number c.run.new.recorder c.requires same a.0 in
    traced_on c.args.object.now c.args.input c.in-Ok.ending.number c.run.new.recorder _ a.0 same
    (c.in_ok-trace-in-Ok.ensures.reads_back (run_on c.args.object.now c.args.input).entries a.2.recorded ended)
