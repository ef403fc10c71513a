-- What is found by what the code keeps is what is found by the events.
use Rattle.std.proofs.Common.{◌≡◌, ℕ, ◌+◌, ◌<◌, Bool, List, length, slice_get, Some, ap, arith}
use Rattle.std.proofs.lemmas.Option.{slice_get_within}
use Rattle.cov_base.specs.declared.event.Vector.{Vector}
use Rattle.cov_base.specs.declared.level.Level.{Level}
use Rattle.cov_base.specs.declared.obligations.DecEntry.{DecEntry}
use Rattle.cov_base.specs.declared.obligations.StmtEntry.{StmtEntry}
use Rattle.annotated_report.specs.Caller.{AreOfStatements}
use Rattle.annotated_report.specs.Findings.{expr_of, statement_finding, unstarted, started_count, one_if, findings_of, unsatisfied, covered_count}
use Rattle.annotated_report.specs.Shown.{asked_pairs, all_paired}
use Rattle.annotated_report.specs.Verdicts.{is_covered}
use Rattle.annotated_report.proofs.Numbering.{same_found, same_sum}

within : {X : Type 0} (xs : List X) (i m : ℕ) (x : X) → m ≡ 0 + i → slice_get xs i ≡ Some x → m < length xs
within xs i m x e at = let h = slice_get_within xs i x at in omega arith

-- two functions agree below a bound
abbrev pub AgreeBelow : {Y : Type 0} → ℕ → (ℕ → Y) → (ℕ → Y) → Type 0
AgreeBelow bound f g = (n : ℕ) → n < bound → f n ≡ g n

pub same_unstarted : (f g : ℕ → Bool) (statements : List StmtEntry) → AgreeBelow (length statements) f g → unstarted f statements ≡ unstarted g statements
same_unstarted f g statements h =
    same_found (λ n entry. statement_finding (f n) n entry) (λ n entry. statement_finding (g n) n entry) 0 statements
    (λ i m x e at. ap (λ s. statement_finding s m x) (h m (within statements i m x e at)))

pub same_started : (f g : ℕ → Bool) (statements : List StmtEntry) → AgreeBelow (length statements) f g → started_count f statements ≡ started_count g statements
same_started f g statements h =
    same_sum (λ n entry. one_if (f n)) (λ n entry. one_if (g n)) 0 statements (λ i m x e at. ap one_if (h m (within statements i m x e at)))

pub same_unsatisfied : (level : Level) (started : ℕ → Bool) (f g : ℕ → List Vector) (decisions : List DecEntry) → AgreeBelow (length decisions) f g →
    unsatisfied level started f decisions ≡ unsatisfied level started g decisions
same_unsatisfied level started f g decisions h =
    same_found (λ d entry. findings_of level (started entry.statement.0) (f d) d entry) (λ d entry. findings_of level (started entry.statement.0) (g d) d entry) 0 decisions
    (λ i m x e at. ap (λ v. findings_of level (started x.statement.0) v m x) (h m (within decisions i m x e at)))

pub same_paired : (level : Level) (f g : ℕ → List Vector) (decisions : List DecEntry) → AgreeBelow (length decisions) f g →
    all_paired level f decisions ≡ all_paired level g decisions
same_paired level f g decisions h =
    same_found (λ d entry. asked_pairs level (f d) d entry) (λ d entry. asked_pairs level (g d) d entry) 0 decisions
    (λ i m x e at. ap (λ v. asked_pairs level v m x) (h m (within decisions i m x e at)))

pub same_covered : (f g : ℕ → List Vector) (decisions : List DecEntry) → AgreeBelow (length decisions) f g →
    covered_count f decisions ≡ covered_count g decisions
same_covered f g decisions h =
    same_sum (λ d entry. one_if (is_covered (expr_of entry) (f d))) (λ d entry. one_if (is_covered (expr_of entry) (g d))) 0 decisions
    (λ i m x e at. ap (λ v. one_if (is_covered (expr_of x) v)) (h m (within decisions i m x e at)))

-- the marks are asked for statements of decisions alone
pub same_executed : (level : Level) (f g : ℕ → Bool) (vectors : ℕ → List Vector) (decisions : List DecEntry) (bound : ℕ) → AreOfStatements decisions bound → AgreeBelow bound f g →
    unsatisfied level f vectors decisions ≡ unsatisfied level g vectors decisions
same_executed level f g vectors decisions bound named h =
    same_found (λ d entry. findings_of level (f entry.statement.0) (vectors d) d entry) (λ d entry. findings_of level (g entry.statement.0) (vectors d) d entry) 0 decisions
    (λ i m x e at. ap (λ s. findings_of level s (vectors m) m x) (h x.statement.0 (named i x at)))
