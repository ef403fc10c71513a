-- What was judged step by step is what the definitions say.
use Rattle.std.proofs.Common.{◌≡◌, ℕ, Bool, List, [], ◌++◌, length, ap, ◌∙◌, if◌then◌else◌, true, false, refl}
use Rattle.cov_base.specs.declared.event.Event.{Event}
use Rattle.cov_base.specs.declared.level.Level.{Level}
use Rattle.cov_base.specs.declared.obligations.DecEntry.{DecEntry}
use Rattle.cov_base.specs.declared.obligations.StmtEntry.{StmtEntry}
use Rattle.annotated_report.specs.declared.finding.Finding.{Finding}
use Rattle.annotated_report.specs.Caller.{AreOfStatements}
use Rattle.annotated_report.specs.Findings.{asks_outcomes, unstarted, started_count, unsatisfied}
use Rattle.annotated_report.specs.Marked.{marked}
use Rattle.annotated_report.specs.Order.{in_order}
use Rattle.annotated_report.specs.Verdicts.{is_started, vectors_of}
use Rattle.annotated_report.proofs.Same.{AgreeBelow, same_unstarted, same_started, same_executed}

same_choice : {X : Type 0} (b : Bool) (xs ys : List X) → xs ≡ ys → (if b then xs else []) ≡ (if b then ys else [])
same_choice true xs ys h = h
same_choice false xs ys h = refl

found_by : (level : Level) (events : List Event) (marks : List Bool) (statements : List StmtEntry) (decisions : List DecEntry) →
    AreOfStatements decisions (length statements) → AgreeBelow (length statements) (marked marks) (is_started events) →
    unstarted (marked marks) statements ++ (if asks_outcomes level then unsatisfied level (marked marks) (vectors_of events) decisions else [])
    ≡ unstarted (is_started events) statements ++ (if asks_outcomes level then unsatisfied level (is_started events) (vectors_of events) decisions else [])
found_by level events marks statements decisions named agree =
    ap (λ l. l ++ (if asks_outcomes level then unsatisfied level (marked marks) (vectors_of events) decisions else []))
    (same_unstarted (marked marks) (is_started events) statements agree)
    ∙ ap (λ l. unstarted (is_started events) statements ++ l)
    (same_choice (asks_outcomes level) _ _ (same_executed level (marked marks) (is_started events) (vectors_of events) decisions (length statements) named agree))

pub findings_are : (level : Level) (events : List Event) (marks : List Bool) (entries statements : List StmtEntry) (given decisions : List DecEntry) (one two sorted : List Finding) →
    entries ≡ statements → given ≡ decisions → AreOfStatements decisions (length statements) → AgreeBelow (length statements) (marked marks) (is_started events) →
    one ≡ unstarted (marked marks) entries → two ≡ one ++ (if asks_outcomes level then unsatisfied level (marked marks) (vectors_of events) given else []) →
    sorted ≡ in_order (λ f. f.key) two →
    sorted ≡ in_order (λ f. f.key) (unstarted (is_started events) statements
    ++ (if asks_outcomes level then unsatisfied level (is_started events) (vectors_of events) decisions else []))
findings_are level events marks entries statements given decisions one two sorted e d named agree first second last =
    last
    ∙ ap (λ l. in_order (λ f. f.key) l)
    (second ∙ ap (λ l. l ++ (if asks_outcomes level then unsatisfied level (marked marks) (vectors_of events) given else [])) (first ∙ ap (unstarted (marked marks)) e)
    ∙ ap (λ l. unstarted (marked marks) statements ++ (if asks_outcomes level then unsatisfied level (marked marks) (vectors_of events) l else [])) d
    ∙ found_by level events marks statements decisions named agree)

pub count_is : (events : List Event) (marks : List Bool) (entries statements : List StmtEntry) (count : ℕ) → entries ≡ statements →
    AgreeBelow (length statements) (marked marks) (is_started events) → count ≡ started_count (marked marks) entries → count ≡ started_count (is_started events) statements
count_is events marks entries statements count e agree is =
    is ∙ ap (started_count (marked marks)) e ∙ same_started (marked marks) (is_started events) statements agree
