-- The order of entries: by their places.
use Rattle.std.specs.Prelude.{Bool}
use Rattle.cov_base.specs.TextOrder.{precedes}
use Rattle.cov_base.specs.declared.position.Pos.{Pos}
use Rattle.cov_base.specs.declared.obligations.StmtEntry.{StmtEntry}
use Rattle.cov_base.specs.declared.obligations.DecEntry.{DecEntry}

abbrev pub statement_place : StmtEntry → Pos
statement_place e = record { file = e.file; line = e.line; col = e.column }

abbrev pub decision_place : DecEntry → Pos
decision_place e = record { file = e.file; line = e.line; col = e.column }

abbrev pub statement_before : StmtEntry → StmtEntry → Bool
statement_before a b = precedes (statement_place a) (statement_place b)

abbrev pub decision_before : DecEntry → DecEntry → Bool
decision_before a b = precedes (decision_place a) (decision_place b)
