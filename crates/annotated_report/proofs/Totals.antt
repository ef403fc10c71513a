-- The totals that were judged are those that the events give.
use Rattle.std.proofs.Common.{◌≡◌, ℕ, Bool, true, false, List, [], ◌++◌, codes, length, refl, ap, ◌∙◌, if◌then◌else◌}
use Rattle.cov_base.specs.declared.event.Event.{Event}
use Rattle.cov_base.specs.declared.level.Level.{Level}
use Rattle.cov_base.specs.declared.level.Level.TheVariants.{Stmt, Decision, Mcdc, UcMcdc}
use Rattle.cov_base.specs.declared.obligations.Obligations.{Obligations}
use Rattle.annotated_report.specs.declared.finding.PairLine.{PairLine}
use Rattle.annotated_report.specs.Findings.{asks_outcomes, asks_pairs, started_count, covered_count}
use Rattle.annotated_report.specs.Order.{in_order}
use Rattle.annotated_report.specs.Report.{total_text, pairs_text, judged_totals, totals_text}
use Rattle.annotated_report.specs.Shown.{all_paired, condition_count}
use Rattle.annotated_report.specs.Totals.{counted_totals, totals_alone}
use Rattle.annotated_report.specs.Verdicts.{is_started, vectors_of}

count_asked : (b : Bool) (f : ℕ → List ℕ) (d n : ℕ) → d ≡ (if b then n else 0) → (if b then f d else []) ≡ (if b then f n else [])
count_asked true f d n h = ap f h
count_asked false f d n h = refl

pairs_asked : (level : Level) (g : List PairLine → List ℕ) (pairs all : List PairLine) → pairs ≡ in_order (λ line. line.key) (if asks_outcomes level then all else []) →
    (if asks_pairs level then g pairs else []) ≡ (if asks_pairs level then g (in_order (λ line. line.key) all) else [])
pairs_asked Stmt g pairs all h = refl
pairs_asked Decision g pairs all h = refl
pairs_asked Mcdc g pairs all h = ap g h
pairs_asked UcMcdc g pairs all h = ap g h

pub totals_are : (level : Level) (obligations : Obligations) (events : List Event) (names : List (List ℕ)) (s d : ℕ) (pairs : List PairLine) →
    s ≡ started_count (is_started events) obligations.statements →
    d ≡ (if asks_outcomes level then covered_count (vectors_of events) obligations.decisions else 0) →
    pairs ≡ in_order (λ line. line.key) (if asks_outcomes level then all_paired level (vectors_of events) obligations.decisions else []) →
    judged_totals level obligations names s d pairs ≡ totals_text level obligations events names
totals_are level obligations events names s d pairs statements decisions shown =
    let decided : ℕ → List ℕ = λ n. total_text (codes "decisions: ") n (length obligations.decisions) in
    let told : List PairLine → List ℕ = λ l. pairs_text names (condition_count obligations.decisions) l in
    ap (λ n. judged_totals level obligations names n d pairs) statements
    ∙ ap (λ l. total_text (codes "statements: ") (started_count (is_started events) obligations.statements) (length obligations.statements)
    ++ (l ++ (if asks_pairs level then told pairs else [])))
    (count_asked (asks_outcomes level) decided d (covered_count (vectors_of events) obligations.decisions) decisions)
    ∙ ap (λ l. total_text (codes "statements: ") (started_count (is_started events) obligations.statements) (length obligations.statements)
    ++ ((if asks_outcomes level then decided (covered_count (vectors_of events) obligations.decisions) else []) ++ l))
    (pairs_asked level told pairs (all_paired level (vectors_of events) obligations.decisions) shown)

-- the same of the totals alone
pub counts_are : (level : Level) (obligations : Obligations) (events : List Event) (s d : ℕ) (pairs : List PairLine) →
    s ≡ started_count (is_started events) obligations.statements →
    d ≡ (if asks_outcomes level then covered_count (vectors_of events) obligations.decisions else 0) →
    pairs ≡ in_order (λ line. line.key) (if asks_outcomes level then all_paired level (vectors_of events) obligations.decisions else []) →
    counted_totals level obligations s d (length pairs) ≡ totals_alone level obligations events
counts_are level obligations events s d pairs statements decisions shown =
    let decided : ℕ → List ℕ = λ n. total_text (codes "decisions: ") n (length obligations.decisions) in
    let told : List PairLine → List ℕ = λ l. total_text (codes "conditions: ") (length l) (condition_count obligations.decisions) in
    ap (λ n. counted_totals level obligations n d (length pairs)) statements
    ∙ ap (λ l. total_text (codes "statements: ") (started_count (is_started events) obligations.statements) (length obligations.statements)
    ++ (l ++ (if asks_pairs level then told pairs else [])))
    (count_asked (asks_outcomes level) decided d (covered_count (vectors_of events) obligations.decisions) decisions)
    ∙ ap (λ l. total_text (codes "statements: ") (started_count (is_started events) obligations.statements) (length obligations.statements)
    ++ ((if asks_outcomes level then decided (covered_count (vectors_of events) obligations.decisions) else []) ++ l))
    (pairs_asked level told pairs (all_paired level (vectors_of events) obligations.decisions) shown)
