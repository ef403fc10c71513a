-- What a caller of the report owes.
use Rattle.std.specs.Prelude.{◌≡◌, ◌<◌, ℕ, List, length, Some, slice_get}
use Rattle.cov_base.specs.declared.event.Event.{Event}
use Rattle.cov_base.specs.declared.event.Vector.{Vector}
use Rattle.cov_base.specs.declared.obligations.DecEntry.{DecEntry}
use Rattle.cov_base.specs.Expr.{Expr, size, IsPostfixOf}
use Rattle.cov_base.specs.Graph.{graph}
use Rattle.cov_base.specs.Lists.{Everywhere}
use Rattle.cov_base.specs.Path.{IsPathVector}
use Rattle.annotated_report.specs.Verdicts.{vectors_of}

-- the bytes of a decision spell an expression of at most 32 conditions, each condition has a place, and the vectors are of paths of its graph
pub record IsEvaluated (entry : DecEntry) (vectors : List Vector) : Type 0 where
  pub expression : Expr
  pub spelled : IsPostfixOf entry.expression.postfix expression
  pub placed : length entry.conditions ≡ size expression
  pub paths : Everywhere (IsPathVector (graph expression)) vectors

-- all decisions are such, with the vectors that the events give them
abbrev pub AreEvaluated : List DecEntry → List Event → Type 0
AreEvaluated decisions events =
    (d : ℕ) (entry : DecEntry) → slice_get decisions d ≡ Some entry → IsEvaluated entry (vectors_of events d)

-- each decision is of one of the statements
abbrev pub AreOfStatements : List DecEntry → (statements : ℕ) → Type 0
AreOfStatements decisions statements =
    (d : ℕ) (entry : DecEntry) → slice_get decisions d ≡ Some entry → entry.statement.0 < statements
