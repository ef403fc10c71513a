use Rattle.std.proofs.Common.{◌≡◌, ◌<◌, [], length, arith}
use Rattle.std.proofs.lemmas.Grind.{common_steps}
use Rattle.std.proofs.lemmas.List.{get_or_read}
use Rattle.xcov_report.specs.Table.{row_at}
use Rattle.xcov_report.proofs.printing.put_files.Goals as goal

pub loop-number-preserved : goal.loop-number-preserved
loop-number-preserved c =
    let within : c.loop-number.number < length c.args.rows.now = omega (arith, c.loop-number-test.true, c.requires) in
    let row : c.index-rows-number.result ≡ row_at c.args.rows.now c.loop-number.number =
    get_or_read c.args.rows.now c.loop-number.number _ within c.index-rows-number.is [] in
    grind (arith, common_steps, row)
