-- What a report says of a condition is one, whichever least pair was found.
use Rattle.std.proofs.Common.{◌≡◌, ℕ, Bool, List, ◌++◌, Option, ap, ◌∙◌}
use Rattle.cov_base.specs.declared.event.Vector.{Vector}
use Rattle.cov_base.specs.declared.level.Level.{Level}
use Rattle.cov_base.specs.Expr.{Expr, size}
use Rattle.decision_meaning.specs.Pair.{Pair, IsLeastPair}
use Rattle.annotated_report.specs.declared.finding.Finding.{Finding}
use Rattle.annotated_report.specs.declared.finding.Key.{Key}
use Rattle.annotated_report.specs.declared.finding.PairLine.{PairLine}
use Rattle.annotated_report.specs.Findings.{pair_finding}
use Rattle.annotated_report.specs.LeastPair.{kind_of, shown_pair}
use Rattle.annotated_report.specs.Shown.{pair_line}
use Rattle.annotated_report.proofs.LeastPairs.{least_pair_is, same_shown, same_line, same_finding, option_text}

shown_alike : (level : Level) (e : Expr) (vectors : List Vector) (c : ℕ) (answer : Option Pair) →
    IsLeastPair (size e) (kind_of level e c) vectors answer → option_text (size e) answer ≡ option_text (size e) (shown_pair level e vectors c)
shown_alike level e vectors c answer h =
    same_shown (size e) (kind_of level e c) vectors answer (shown_pair level e vectors c) h (least_pair_is (size e) (kind_of level e c) vectors)

pub finding_is : (level : Level) (e : Expr) (vectors : List Vector) (c : ℕ) (answer : Option Pair) (covered : Bool) (key : Key) (old new : List Finding) →
    IsLeastPair (size e) (kind_of level e c) vectors answer → new ≡ old ++ pair_finding covered key answer →
    new ≡ old ++ pair_finding covered key (shown_pair level e vectors c)
finding_is level e vectors c answer covered key old new h is =
    is ∙ ap (λ (l : List Finding). old ++ l) (same_finding (size e) covered key answer (shown_pair level e vectors c) (shown_alike level e vectors c answer h))

pub line_is : (level : Level) (e : Expr) (vectors : List Vector) (c : ℕ) (answer : Option Pair) (conditions : ℕ) (key : Key) (old new : List PairLine) →
    IsLeastPair (size e) (kind_of level e c) vectors answer → conditions ≡ size e → new ≡ old ++ pair_line conditions key answer →
    new ≡ old ++ pair_line (size e) key (shown_pair level e vectors c)
line_is level e vectors c answer conditions key old new h count is =
    is ∙ ap (λ (n : ℕ). old ++ pair_line n key answer) count
    ∙ ap (λ (l : List PairLine). old ++ l) (same_line (size e) key answer (shown_pair level e vectors c) (shown_alike level e vectors c answer h))
