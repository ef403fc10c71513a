use Rattle.std.proofs.Common.{◌≡◌, ◌++◌, drop}
use Rattle.linker.specs.Linked.{rows_from}
use Rattle.linker.proofs.linking.rows.Given as goal

-- the rows so far and those to come are all
abbrev pub invariant-loop-own : goal.invariant-loop-own
invariant-loop-own l = l.rows.items ++ rows_from l.labels l.own (drop l.own l.pieces) ≡ rows_from l.labels 0 l.pieces
