use Rattle.std.proofs.Common.{◌∙◌, Err}
use Rattle.trace_format.specs.Reader.{file_name}
use Rattle.commands.proofs.PieceLaws.{run_was_added, told_as, failed_as, unopened_stops, unadded_stops}
use Rattle.commands.proofs.ready.traces.add_trace.Goals as goal

pub returns-in-Err-clause-stopped : goal.returns-in-Err-clause-stopped
returns-in-Err-clause-stopped g c =
    rw c.unopened.ensures (unopened_stops c.args.number c.args.decisions.now c.args.name.now _ _ _ c.in-Err.failure
    (λ is. c.in-Err.ensures.failed (λ i. Err (is i))) (λ other. c.in-Err.ensures.stays (λ e. other (cc e))) c.in-Err.ensures.cause)

pub returns-in-Ok-add_read-clause-added : goal.returns-in-Ok-add_read-clause-added
returns-in-Ok-add_read-clause-added g c = λ bytes told.
    run_was_added c.args.decisions.now c.args.coverage.now c.add_read.new.self bytes c.in-Ok-add_read.ensures.object
    (c.in-Ok-add_read.ensures.added bytes (told_as _ _ c.args.name.now (file_name c.in-Ok.reader) bytes c.in-Ok.ensures.same c.in-Ok.ensures.name told))

pub returns-clause-stopped : goal.returns-clause-stopped
returns-clause-stopped g c =
    let count = c.in-Ok.ensures.stays (λ e. cc e) in
    rw c.refused_trace.ensures (unadded_stops c.args.number c.args.decisions.now c.args.name.now (g.F.Files.held c.args.files.now) (g.F.Files.reads_failed c.args.files.now) _ c.in-Err-add_read.failure
    (λ is. failed_as (g.F.Files.held c.args.files.now) _ c.args.name.now (file_name c.in-Ok.reader) _ _ _ c.in-Ok.ensures.same c.in-Ok.ensures.name count
    (c.in-Err-add_read.ensures.failed (λ i. Err (is i))))
    (λ other. c.in-Err-add_read.ensures.stays (λ e. other (cc e)) ∙ count)
    (λ bytes told. c.in-Err-add_read.ensures.cause bytes (told_as _ _ c.args.name.now (file_name c.in-Ok.reader) bytes c.in-Ok.ensures.same c.in-Ok.ensures.name told)))
