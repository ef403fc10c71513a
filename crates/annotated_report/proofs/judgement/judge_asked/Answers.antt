use Rattle.std.proofs.Common.{rules}
use Rattle.annotated_report.proofs.judgement.judge_asked.Goals as goal

pub returns-then-asks_outcomes : goal.returns-then-asks_outcomes
returns-then-asks_outcomes c = search rules
