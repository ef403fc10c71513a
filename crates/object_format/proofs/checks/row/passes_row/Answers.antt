use Rattle.std.proofs.Common.{rules, ◌≢◌, ◌↔◌, IsTrue, IfOk, AllPairs, map, subst}
use Rattle.object_format.specs.RowCheck.{start_of}
use Rattle.object_format.proofs.RowLaws.{rows_pass}
use Rattle.object_format.proofs.checks.row.passes_row.Goals as goal

pub returns : goal.returns
returns c =
    rows_pass c.args.value.now c.are_started_once.result (search rules) (search rules)
    (subst (λ rows. IfOk c.are_started_once.result (λ once. IsTrue once ↔ AllPairs (λ one next. one ≢ next) (map start_of rows)))
    c.as_slice-rows.ensures c.are_started_once.ensures)
