use Rattle.std.proofs.Common.{map, length, sym}
use Rattle.std.proofs.lemmas.List.{length-map}
use Rattle.object_format.specs.RowCheck.{start_of}
use Rattle.object_format.proofs.Sets.{counts_agree, pairs_total, pairs_exact}
use Rattle.object_format.proofs.checks.row.are_started_once.Goals as goal

pub returns : goal.returns
returns c =
    let rows = c.args.rows.now in
    counts_agree pairs_total pairs_exact (map start_of rows) c.in_ok-starts.field-0 c.len.result (length rows)
    c.in_ok-starts.ensures c.len.ensures.len (sym (length-map rows start_of))
