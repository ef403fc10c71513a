use Rattle.std.proofs.Common.{zero-le, arith}
use Rattle.annotated_report.proofs.Appending.{begun}
use Rattle.std.proofs.lemmas.Grind.{common_steps}
use Rattle.annotated_report.proofs.lines.put_violations.Goals as goal

pub loop-finding-init : goal.loop-finding-init
loop-finding-init c = record { within = zero-le; lines = begun c.args.text.now.items _ _ _ c.in_ok-put_title.ensures }

pub loop-finding-preserved : goal.loop-finding-preserved
loop-finding-preserved c = grind (arith, common_steps)

pub returns : goal.returns
returns c = grind (arith, common_steps)
