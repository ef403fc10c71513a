use Rattle.std.proofs.Common.{sym, ap, subst, ◌∙◌}
use Rattle.trace_format.specs.ConsolidatedChecks.{IsOrdered}
use Rattle.coverage_set.specs.Written.{starts_among, vectors_among}
use Rattle.coverage_set.proofs.Order.{ordered}
use Rattle.coverage_set.proofs.Written.{is_ordered, parts_are, file_written, written_back}
use Rattle.coverage_set.proofs.coverage.write_consolidated.Goals as goal

pub write_consolidated-requires : goal.write_consolidated-requires
write_consolidated-requires c =
    let inside = c.coverage.inside in
    subst IsOrdered
    (sym (parts_are inside.object.now inside.runs c.as_slice-runs.result.now inside.events c.as_slice.result.now c.as_slice-2.result.now c.as_slice-runs.ensures.items
    (c.as_slice.ensures.value ∙ c.in_ok-starts.ensures ∙ ap starts_among c.as_slice-events.ensures.items)
    (c.as_slice-2.ensures.value ∙ c.in_ok-vectors.ensures ∙ ap vectors_among c.as_slice-events.ensures.items)))
    (is_ordered inside.object.now inside.runs inside.events c.as_slice-runs.ensures.sorted (ordered inside.events c.as_slice-events.ensures.sorted) c.coverage.invariant)

pub returns-clause-file : goal.returns-clause-file
returns-clause-file c =
    let inside = c.coverage.inside in
    rw (← c.coverage.view_is)
    (file_written inside.object.now inside.runs inside.events _
    (parts_are inside.object.now inside.runs c.as_slice-runs.result.now inside.events c.as_slice.result.now c.as_slice-2.result.now c.as_slice-runs.ensures.items
    (c.as_slice.ensures.value ∙ c.in_ok-starts.ensures ∙ ap starts_among c.as_slice-events.ensures.items)
    (c.as_slice-2.ensures.value ∙ c.in_ok-vectors.ensures ∙ ap vectors_among c.as_slice-events.ensures.items))
    c.write_consolidated.result c.write_consolidated.ensures.spelled c.write_consolidated.ensures.closed)

pub returns-clause-reads_back : goal.returns-clause-reads_back
returns-clause-reads_back c =
    let inside = c.coverage.inside in
    rw (← c.coverage.view_is)
    (written_back inside.object.now inside.runs inside.events _
    (parts_are inside.object.now inside.runs c.as_slice-runs.result.now inside.events c.as_slice.result.now c.as_slice-2.result.now c.as_slice-runs.ensures.items
    (c.as_slice.ensures.value ∙ c.in_ok-starts.ensures ∙ ap starts_among c.as_slice-events.ensures.items)
    (c.as_slice-2.ensures.value ∙ c.in_ok-vectors.ensures ∙ ap vectors_among c.as_slice-events.ensures.items))
    c.write_consolidated.result c.write_consolidated.ensures.reads_back c.coverage.invariant)
