use Rattle.std.proofs.Common.{arith}
use Rattle.std.proofs.lemmas.Grind.{common_steps}
use Rattle.annotated_report.proofs.lines.put_exemption.Goals as goal

pub returns-in_ok-put_region-in-Some : goal.returns-in_ok-put_region-in-Some
returns-in_ok-put_region-in-Some c = grind (arith, common_steps)
