use Rattle.std.proofs.Common.{List, ℕ, OnOk, sym, subst}
use Rattle.object_format.specs.declared.object.Object.{Object}
use Rattle.workload_runs.specs.Runs.{AddsRun, IsFair, IsTraceOn}
use Rattle.workload_runs.proofs.adding.add_run.Goals as goal

pub returns-clause-added : goal.returns-clause-added
returns-clause-added c =
    let of = sym c.requires.of_object in
    let fair = subst (λ (o : Object). IsFair o c.args.input) of c.requires.fair in
    let own = subst (λ (o : Object). IsTraceOn o c.args.input c.in_ok-bytes.bytes.items) of c.in_ok-bytes.ensures.traced in
    let traced = subst (λ (bs : List ℕ). IsTraceOn c.args.map.now c.args.input bs) (sym c.as_slice.ensures.value) own in
    subst (λ (o : Object). OnOk c.add_trace.result (AddsRun o c.args.input c.args.coverage.now c.add_trace.new.coverage)) c.requires.of_object
    (c.add_trace.ensures.added c.args.input fair traced)
