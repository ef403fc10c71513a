-- What the lines of pairs tell, and what a report ends in.
use Rattle.std.specs.Prelude.{◌≡◌, ◌≢◌, ◌↔◌, ℕ, List, ◌++◌, AllPairs, true, Some, slice_get}
use Rattle.cov_base.specs.declared.event.Event.{Event}
use Rattle.cov_base.specs.declared.event.Event.TheVariants.{Done}
use Rattle.cov_base.specs.declared.event.Vector.{Vector}
use Rattle.cov_base.specs.declared.level.Level.{Level}
use Rattle.cov_base.specs.declared.obligations.DecEntry.{DecEntry}
use Rattle.cov_base.specs.declared.obligations.Place.{Place}
use Rattle.cov_base.specs.declared.position.InstId.{InstId}
use Rattle.cov_base.specs.Expr.{size}
use Rattle.cov_base.specs.Marks.{marks}
use Rattle.cov_base.specs.Lists.{Everywhere, Somewhere}
use Rattle.decision_meaning.specs.Pair.{Pair, IsLeastPair}
use Rattle.annotated_report.specs.declared.finding.PairLine.{PairLine}
use Rattle.annotated_report.specs.Findings.{expr_of, condition_key}
use Rattle.annotated_report.specs.LeastPair.{kind_of}
use Rattle.annotated_report.specs.Report.{pairs_text}
use Rattle.annotated_report.specs.Shown.{pair_text, condition_count}

-- a completed evaluation of decision d that is there gave this vector, in some instance
pub record IsGiven (IsThere : Event → Type 0) (d : ℕ) (v : Vector) : Type 0 where
  pub instance : InstId
  pub there : IsThere (Done (record { 0 = d }) instance v)

-- of all vectors that are given of decision d, this is the least pair that shows its condition c to matter, by the
-- kind of pair that the level asks for
pub record IsLeastGiven (level : Level) (IsThere : Event → Type 0) (d : ℕ) (entry : DecEntry) (c : ℕ) (pair : Pair)
    : Type 0 where
  pub vectors : List Vector
  pub all_given : (v : Vector) → Somewhere (λ x. x ≡ v) vectors ↔ IsGiven IsThere d v
  pub least : IsLeastPair (size (expr_of entry)) (kind_of level (expr_of entry) c) vectors (Some pair)

-- The line tells two vectors that show a condition of one of these decisions to matter, by the kind of pair that the
-- level asks for: both are those of completed evaluations of the decision that are there, and no such pair is less.
pub record TellsAPair (level : Level) (decisions : List DecEntry) (IsThere : Event → Type 0) (line : PairLine) : Type 0 where
  pub decision : ℕ
  pub entry : DecEntry
  pub condition : ℕ
  pub place : Place
  pub pair : Pair
  pub of_decision : slice_get decisions decision ≡ Some entry
  pub of_condition : slice_get entry.conditions condition ≡ Some place
  pub stands : line.key ≡ condition_key decision entry condition place
  pub tells : line.text ≡ pair_text (size (expr_of entry)) pair
  pub first : IsGiven IsThere decision pair.first
  pub second : IsGiven IsThere decision pair.second
  pub shows : kind_of level (expr_of entry) condition (marks pair.first) (marks pair.second) ≡ true
  pub least : IsLeastGiven level IsThere decision entry condition pair

-- each condition of these decisions that two of the vectors show to matter has a line
abbrev pub HaveLines : Level → List DecEntry → (Event → Type 0) → List PairLine → Type 0
HaveLines level decisions IsThere lines =
    (d : ℕ) (entry : DecEntry) (c : ℕ) (place : Place) (v w : Vector)
    → slice_get decisions d ≡ Some entry → slice_get entry.conditions c ≡ Some place
    → IsGiven IsThere d v → IsGiven IsThere d w → kind_of level (expr_of entry) c (marks v) (marks w) ≡ true
    → Somewhere (λ (line : PairLine). line.key ≡ condition_key d entry c place) lines

-- The text ends in the part on conditions and pairs: each of its lines tells the least pair of a condition, each
-- condition that has a pair has a line, and no two lines are of one condition.
pub record EndsInPairs (level : Level) (decisions : List DecEntry) (IsThere : Event → Type 0)
    (names : List (List ℕ)) (text : List ℕ) : Type 0 where
  pub before : List ℕ
  pub lines : List PairLine
  pub ends : text ≡ before ++ pairs_text names (condition_count decisions) lines
  pub each : Everywhere (TellsAPair level decisions IsThere) lines
  pub all : HaveLines level decisions IsThere lines
  pub once : AllPairs (λ (a b : PairLine). a.key ≢ b.key) lines
