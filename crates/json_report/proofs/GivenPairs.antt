-- The pair of a condition is of the vectors that the events give.
use Rattle.std.proofs.Common.{◌≡◌, ℕ, List, Option, Some, subst}
use Rattle.cov_base.specs.declared.event.Event.{Event}
use Rattle.cov_base.specs.declared.level.Level.{Level}
use Rattle.cov_base.specs.declared.obligations.DecEntry.{DecEntry}
use Rattle.cov_base.specs.Expr.{size}
use Rattle.cov_base.specs.Lists.{Somewhere}
use Rattle.decision_meaning.specs.Pair.{Pair, IsLeastPair}
use Rattle.annotated_report.specs.Findings.{expr_of}
use Rattle.annotated_report.specs.LeastPair.{kind_of, shown_pair}
use Rattle.annotated_report.specs.Paired.{IsLeastGiven}
use Rattle.annotated_report.specs.Verdicts.{vectors_of}
use Rattle.annotated_report.proofs.LeastPairs.{least_pair_is}
use Rattle.annotated_report.proofs.PairedEvents.{vectors_given}

pub least_of_events : (level : Level) (events : List Event) (d : ℕ) (entry : DecEntry) (c : ℕ) (pair : Pair)
    → shown_pair level (expr_of entry) (vectors_of events d) c ≡ Some pair
    → IsLeastGiven level (λ e. Somewhere (λ x. x ≡ e) events) d entry c pair
least_of_events level events d entry c pair is =
    let e = expr_of entry in
    let least : IsLeastPair (size e) (kind_of level e c) (vectors_of events d) (Some pair) =
    subst (λ (answer : Option Pair). IsLeastPair (size e) (kind_of level e c) (vectors_of events d) answer) is
    (least_pair_is (size e) (kind_of level e c) (vectors_of events d)) in
    record { vectors = vectors_of events d; all_given = vectors_given events d; least = least }
