use Rattle.std.proofs.Common.{◌≡◌, ◌++◌, drop}
use Rattle.std.specs.List.{filter_map}
use Rattle.linker.specs.Linked.{row_of}
use Rattle.linker.proofs.linking.put_rows.Given as goal

-- the rows so far and those to come are all
abbrev pub invariant-loop-mark : goal.invariant-loop-mark
invariant-loop-mark l =
    l.rows.items ++ filter_map (row_of l.labels) (drop l.mark-index l.marks)
    ≡ l.fn.rows.items ++ filter_map (row_of l.labels) l.marks
