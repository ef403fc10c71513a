use Rattle.std.proofs.Common.{◌∙◌, sym}
use Rattle.workload_runs.proofs.Traces.{fits, run_added, unbroken}
use Rattle.workload_runs.proofs.adding.add_trace.Goals as goal

pub add_trace-requires-clause-fits : goal.add_trace-requires-clause-fits
add_trace-requires-clause-fits c =
    fits c.args.map.now c.requires.traced.0 c.args.bytes.now c.in-Ok.view c.requires.sound c.requires.traced.2 (sym c.view.ensures.exact ∙ c.in-Ok.is)

pub returns-in-Ok-add_trace-clause-added : goal.returns-in-Ok-add_trace-clause-added
returns-in-Ok-add_trace-clause-added c = λ input fair is.
    run_added c.args.map.now input c.args.bytes.now c.in-Ok.view c.args.coverage.now c.add_trace.new.self c.requires.sound fair is
    (sym c.view.ensures.exact ∙ c.in-Ok.is) c.in-Ok-add_trace.ensures.events

pub unreachable-requires-in-Err-Fault : goal.unreachable-requires-in-Err-Fault
unreachable-requires-in-Err-Fault c =
    unbroken c.args.map.now c.requires.traced.0 c.args.bytes.now c.in-Ok.view _ c.requires.traced.1 c.requires.traced.2
    (sym c.view.ensures.exact ∙ c.in-Ok.is) (rw c.in-Err-Fault.field-0-is at c.in-Err-Fault.ensures.broken)
