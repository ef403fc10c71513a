-- What coverage leaves to show, at each level.
use Rattle.std.specs.Prelude.{ℕ, List, [], ◌∷◌, ◌++◌, Bool, true, false, Option, Some, None, if◌then◌else◌}
use Rattle.cov_base.specs.declared.event.Event.{Event}
use Rattle.cov_base.specs.declared.event.Vector.{Vector}
use Rattle.cov_base.specs.declared.level.Level.{Level}
use Rattle.cov_base.specs.declared.level.Level.TheVariants as level
use Rattle.cov_base.specs.declared.obligations.DecEntry.{DecEntry}
use Rattle.cov_base.specs.declared.obligations.Obligations.{Obligations}
use Rattle.cov_base.specs.declared.obligations.Place.{Place}
use Rattle.cov_base.specs.declared.obligations.StmtEntry.{StmtEntry}
use Rattle.cov_base.specs.Expr.{Expr}
use Rattle.cov_base.specs.Expression.{expression_of}
use Rattle.decision_meaning.specs.Pair.{Pair}
use Rattle.annotated_report.specs.declared.finding.Finding.{Finding}
use Rattle.annotated_report.specs.declared.finding.Key.{Key}
use Rattle.annotated_report.specs.declared.finding.Missing.{Missing}
use Rattle.annotated_report.specs.declared.finding.Missing.TheVariants as missing
use Rattle.annotated_report.specs.declared.finding.Subject.{Subject}
use Rattle.annotated_report.specs.declared.finding.Subject.TheVariants as subject
use Rattle.annotated_report.specs.LeastPair.{shown_pair}
use Rattle.annotated_report.specs.Numbered.{each_numbered, sum_numbered}
use Rattle.annotated_report.specs.Order.{in_order}
use Rattle.annotated_report.specs.Verdicts.{is_started, vectors_of, is_covered, lacks}

-- whether a level asks for the outcomes of decisions
abbrev pub asks_outcomes : Level → Bool
asks_outcomes level.Stmt = false
asks_outcomes _ = true

-- whether a level asks for the pairs of conditions
abbrev pub asks_pairs : Level → Bool
asks_pairs level.Mcdc = true
asks_pairs level.UcMcdc = true
asks_pairs _ = false

abbrev pub key_at : (file line column : ℕ) → Subject → Key
key_at file line column subject = record { pos = record { file = file; line = line; col = column }; subject = subject }

abbrev pub finding : Key → Missing → Finding
finding key missing = record { key = key; missing = missing }

-- the expression of a decision
abbrev pub expr_of : DecEntry → Expr
expr_of entry = expression_of entry.expression.postfix

-- a statement that was not started
abbrev pub statement_finding : (started : Bool) → ℕ → StmtEntry → List Finding
statement_finding true n entry = []
statement_finding false n entry = finding (key_at entry.file entry.line entry.column (subject.Statement n)) missing.Execution ∷ []

-- the statements that were not started
abbrev pub unstarted : (started : ℕ → Bool) → List StmtEntry → List Finding
unstarted started statements = each_numbered (λ n entry. statement_finding (started n) n entry) 0 statements

-- 1 for what is covered
abbrev pub one_if : Bool → ℕ
one_if covered = if covered then 1 else 0

-- how many statements were started
abbrev pub started_count : (started : ℕ → Bool) → List StmtEntry → ℕ
started_count started statements = sum_numbered (λ n entry. one_if (started n)) 0 statements

-- what a decision lacks, if anything
abbrev pub outcome_finding : ℕ → DecEntry → Option Missing → List Finding
outcome_finding d entry None = []
outcome_finding d entry (Some missing) = finding (key_at entry.file entry.line entry.column (subject.Decision d)) missing ∷ []

-- what a decision with these vectors lacks, which is told only where its statement was executed
abbrev pub decision_findings : (executed : Bool) → List Vector → ℕ → DecEntry → List Finding
decision_findings executed vectors d entry = if executed then outcome_finding d entry (lacks (expr_of entry) vectors) else []

-- where a condition of a decision stands, and which it is
abbrev pub condition_key : ℕ → DecEntry → ℕ → Place → Key
condition_key d entry c place = key_at entry.file place.line place.column (subject.Condition d c)

-- a condition that no pair shows to matter, which is told only where its decision is covered
abbrev pub pair_finding : (covered : Bool) → Key → Option Pair → List Finding
pair_finding covered key (Some pair) = []
pair_finding true key None = finding key missing.Pair ∷ []
pair_finding false key None = []

-- what a condition of a decision lacks
abbrev pub finding_of_condition : Level → List Vector → ℕ → DecEntry → ℕ → Place → List Finding
finding_of_condition level vectors d entry c place =
    pair_finding (is_covered (expr_of entry) vectors) (condition_key d entry c place) (shown_pair level (expr_of entry) vectors c)

-- what the conditions of a decision lack
abbrev pub unpaired : Level → List Vector → ℕ → DecEntry → List Finding
unpaired level vectors d entry = each_numbered (finding_of_condition level vectors d entry) 0 entry.conditions

-- what a decision and its conditions lack
abbrev pub findings_of : Level → (executed : Bool) → List Vector → ℕ → DecEntry → List Finding
findings_of level executed vectors d entry =
    decision_findings executed vectors d entry
    ++ (if asks_pairs level then unpaired level vectors d entry else [])

-- what decisions and their conditions lack
abbrev pub unsatisfied : Level → (started : ℕ → Bool) → (vectors : ℕ → List Vector) → List DecEntry → List Finding
unsatisfied level started vectors decisions =
    each_numbered (λ d entry. findings_of level (started entry.statement.0) (vectors d) d entry) 0 decisions

-- how many decisions are covered
abbrev pub covered_count : (vectors : ℕ → List Vector) → List DecEntry → ℕ
covered_count vectors decisions = sum_numbered (λ d entry. one_if (is_covered (expr_of entry) (vectors d))) 0 decisions

-- all that a level leaves to show, in the order in which it is told
abbrev pub findings : Level → Obligations → List Event → List Finding
findings level obligations events =
    in_order (λ f. f.key) (unstarted (is_started events) obligations.statements
    ++ (if asks_outcomes level then unsatisfied level (is_started events) (vectors_of events) obligations.decisions else []))
