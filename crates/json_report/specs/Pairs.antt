-- What it means that the report as JSON tells the least pairs of vectors.
use Rattle.std.specs.Prelude.{◌≡◌, ℕ, List, Bool, false, length, Option, Some, None, slice_get}
use Rattle.serde_json.specs.Data.{Data}
use Rattle.cov_base.specs.declared.event.Event.{Event}
use Rattle.cov_base.specs.declared.event.Vector.{Vector}
use Rattle.cov_base.specs.declared.level.Level.{Level}
use Rattle.cov_base.specs.declared.obligations.DecEntry.{DecEntry}
use Rattle.cov_base.specs.declared.obligations.Place.{Place}
use Rattle.cov_base.specs.Expr.{size}
use Rattle.cov_base.specs.Marks.{marks}
use Rattle.decision_meaning.specs.Pair.{Pair}
use Rattle.annotated_report.specs.Findings.{expr_of}
use Rattle.annotated_report.specs.LeastPair.{kind_of}
use Rattle.annotated_report.specs.Paired.{IsGiven, IsLeastGiven}
use Rattle.json_report.specs.Objects.{condition_object, told_decision}
use Rattle.json_report.specs.Text.{told_report, text_of}

-- no two vectors that are given of decision d are a pair of the level's kind for its condition c
abbrev pub NoPairIsGiven : Level → (IsThere : Event → Type 0) → (d : ℕ) → DecEntry → (c : ℕ) → Type 0
NoPairIsGiven level IsThere d entry c =
    (v w : Vector) → IsGiven IsThere d v → IsGiven IsThere d w
    → kind_of level (expr_of entry) c (marks v) (marks w) ≡ false

-- the least pair of the vectors that are given, and none only where no two of them are a pair
abbrev pub IsLeastIfAny : Level → (IsThere : Event → Type 0) → (d : ℕ) → DecEntry → (c : ℕ) → Option Pair → Type 0
IsLeastIfAny level IsThere d entry c (Some pair) = IsLeastGiven level IsThere d entry c pair
IsLeastIfAny level IsThere d entry c None = NoPairIsGiven level IsThere d entry c

-- the object tells of condition c of decision d, at this place, its least pair, or null where it has none
pub record TellsLeastPair (level : Level) (IsThere : Event → Type 0) (d : ℕ) (entry : DecEntry) (c : ℕ) (place : Place)
    (told : Data) : Type 0 where
  pub pair : Option Pair
  pub tells : told ≡ condition_object (size (expr_of entry)) place pair
  pub least : IsLeastIfAny level IsThere d entry c pair

-- the object tells of decision d, and in it an object of each of its conditions tells the least pair
pub record TellsConditions (level : Level) (IsThere : Event → Type 0) (d : ℕ) (entry : DecEntry) (told : Data)
    : Type 0 where
  pub given_false : Bool
  pub given_true : Bool
  pub conditions : List Data
  pub vectors : List Data
  pub tells : told ≡ told_decision entry given_false given_true conditions vectors
  pub count : length conditions ≡ length entry.conditions
  pub each : (c : ℕ) (place : Place) (object : Data)
      → slice_get entry.conditions c ≡ Some place → slice_get conditions c ≡ Some object
      → TellsLeastPair level IsThere d entry c place object

-- there is one object for each decision, in their order, and each of them tells the least pairs of its conditions
pub record TellsLeastPairs (level : Level) (decisions : List DecEntry) (IsThere : Event → Type 0) (told : List Data)
    : Type 0 where
  pub count : length told ≡ length decisions
  pub each : (d : ℕ) (entry : DecEntry) (object : Data)
      → slice_get decisions d ≡ Some entry → slice_get told d ≡ Some object
      → TellsConditions level IsThere d entry object

-- The text is a report as JSON, over files of these names, whose list of decisions tells of each condition of each of
-- these decisions the least pair of the vectors that completed evaluations gave, or null where no two are a pair.
pub record CarriesLeastPairs (level : Level) (decisions : List DecEntry) (IsThere : Event → Type 0)
    (names : List (List ℕ)) (text : List ℕ) : Type 0 where
  pub traces : ℕ
  pub told : List Data
  pub regions : List Data
  pub statements : List Data
  pub is : text ≡ text_of (told_report level traces names told regions statements)
  pub pairs : TellsLeastPairs level decisions IsThere told
