-- The words of a report.
use Rattle.std.specs.Prelude.{ℕ, true, false, List, codes}
use Rattle.cov_base.specs.declared.level.Level.{Level}
use Rattle.cov_base.specs.declared.level.Level.TheVariants.{Stmt, Decision, Mcdc, UcMcdc}
use Rattle.annotated_report.specs.declared.finding.Missing.{Missing}
use Rattle.annotated_report.specs.declared.finding.Missing.TheVariants.{Execution, Evaluation, Outcome, Pair}

-- the word of a level
abbrev pub level_word : Level → List ℕ
level_word Stmt = codes "stmt"
level_word Decision = codes "stmt+decision"
level_word Mcdc = codes "stmt+mcdc"
level_word UcMcdc = codes "stmt+uc_mcdc"

-- what a report says of an obligation of which this is missing
abbrev pub missing_text : Missing → List ℕ
missing_text Execution = codes "statement not executed"
missing_text Evaluation = codes "decision never evaluated"
missing_text (Outcome true) = codes "decision outcome TRUE not covered"
missing_text (Outcome false) = codes "decision outcome FALSE not covered"
missing_text Pair = codes "condition not covered"
