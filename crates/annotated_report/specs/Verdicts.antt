-- What events cover. Instances are forgotten: copies of a generic count together.
use Rattle.std.specs.Prelude.{ℕ, List, [], ◌∷◌, Bool, true, false, ◌&&◌, ◌==◌, Option, Some, None, if◌then◌else◌}
use Rattle.std.specs.List.{list_any, filter_map}
use Rattle.cov_base.specs.declared.event.Event.{Event}
use Rattle.cov_base.specs.declared.event.Event.TheVariants.{Start, Done}
use Rattle.cov_base.specs.declared.event.Vector.{Vector}
use Rattle.cov_base.specs.declared.position.StmtId.{StmtId}
use Rattle.cov_base.specs.Expr.{Expr}
use Rattle.cov_base.specs.Marks.{marks, same, outcome}
use Rattle.annotated_report.specs.declared.finding.Missing.{Missing}
use Rattle.annotated_report.specs.declared.finding.Missing.TheVariants.{Evaluation, Outcome}

-- whether an event is a start of statement n
abbrev pub starts : ℕ → Event → Bool
starts n (Start statement instance) = statement.0 == n
starts n (Done decision instance vector) = false

-- a statement is covered where it was started in some instance
abbrev pub is_started : List Event → ℕ → Bool
is_started events n = list_any (starts n) events

-- the statement that an event starts
abbrev pub start_in : Event → Option StmtId
start_in (Start statement instance) = Some statement
start_in (Done decision instance vector) = None

-- the statements that events start, in all instances
abbrev pub starts_of : List Event → List StmtId
starts_of events = filter_map start_in events

-- the vector that an event gives decision d
abbrev pub vector_in : ℕ → Event → Option Vector
vector_in d (Start statement instance) = None
vector_in d (Done decision instance vector) = if decision.0 == d then Some vector else None

-- the vectors of a decision, in all instances
abbrev pub vectors_of : List Event → ℕ → List Vector
vectors_of events d = filter_map (vector_in d) events

-- whether some vector gives this outcome
abbrev pub gives : Expr → Bool → List Vector → Bool
gives e value vectors = list_any (λ v. same (outcome e (marks v)) value) vectors

-- a decision is covered where both outcomes were given
abbrev pub is_covered : Expr → List Vector → Bool
is_covered e vectors = gives e true vectors && gives e false vectors

-- which outcome is missing, where these were given
abbrev pub lacks_outcome : (given_true given_false : Bool) → Option Missing
lacks_outcome true true = None
lacks_outcome true false = Some (Outcome false)
lacks_outcome false given_false = Some (Outcome true)

-- what a decision lacks: an evaluation, or an outcome
abbrev pub lacks : Expr → List Vector → Option Missing
lacks e [] = Some Evaluation
lacks e (v ∷ vs) = lacks_outcome (gives e true (v ∷ vs)) (gives e false (v ∷ vs))
