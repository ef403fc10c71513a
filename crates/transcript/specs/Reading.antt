-- The events of a transcript, and when a transcript is disciplined.
use Rattle.std.specs.Prelude.{◌≡◌, ℕ, Bool, ◌⊎◌, List, [], ◌∷◌, ◌++◌, Option, Some, None}
use Rattle.cov_base.specs.declared.position.DecId.{DecId}
use Rattle.cov_base.specs.declared.position.InstId.{InstId}
use Rattle.cov_base.specs.declared.event.Event.{Event}
use Rattle.cov_base.specs.declared.event.Event.TheVariants.{Start, Done}
use Rattle.cov_base.specs.declared.event.Vector.{Vector}
use Rattle.rv_semantics.specs.declared.stepped.Seen.{Seen}
use Rattle.cov_base.specs.Graph.{node, leaf, Edges, next_in}
use Rattle.cov_base.specs.Path.{Step, LeadsTo, vector_of}
use Rattle.cov_base.specs.Lists.{Somewhere}
use Rattle.transcript.specs.Facts.{Facts, Row}
use Rattle.transcript.specs.Visit.{Visit, visit_of, visits, visited, steps}

-- A visit completes an evaluation with this vector: the latest steps of its key, its own first, are a path of the decision's graph from
-- the root to an outcome. So no other step of its key lies between the first of them and the visit. The past has the latest visit first.
pub record Completes (o : Facts) (past : List Visit) (v : Visit) (vector : Vector) : Type 0 where
  pub path : List Step
  pub older : List Step
  pub outcome : Bool
  pub ends : steps v.key (v ∷ past) ≡ path ++ older
  pub leads : LeadsTo (o.graph v.key.decision) path (leaf outcome)
  pub shown : vector ≡ vector_of path

-- steps, the latest first, end with this path from the root to a node
pub record EndsWith (graph : List Edges) (all : List Step) (n : ℕ) (path : List Step) : Type 0 where
  pub older : List Step
  pub ends : all ≡ path ++ older
  pub leads : LeadsTo graph path (node n)

-- the events of a row
abbrev pub started : Option Row → List Event
started None = []
started (Some r) = Start r.statement r.instance ∷ []

-- these are the events of the visit made at one place: Done where it completes an evaluation, and else none
abbrev pub AreDoneAt : Facts → List Visit → Option Visit → List Event → Type 0
AreDoneAt o past None es = es ≡ []
AreDoneAt o past (Some v) es =
    ((vector : Vector) × Completes o past v vector × (es ≡ Done v.key.decision v.key.instance vector ∷ []))
    ⊎ (((vector : Vector) → Completes o past v vector → ⊥) × (es ≡ []))

-- these are the events of a transcript that goes on after the visits of the past, in order of place; at one place Start comes before Done
abbrev pub AreEventsFrom : Facts → List Visit → List Seen → List Event → Type 0
AreEventsFrom o past [] es = es ≡ []
AreEventsFrom o past (s ∷ ss) es =
    (done rest : List Event) × (es ≡ started (o.row s.pc) ++ (done ++ rest)) × AreDoneAt o past (visit_of o s) done
    × AreEventsFrom o (visited (visit_of o s) past) ss rest

-- these are the events of a transcript
abbrev pub AreEventsOf : Facts → List Seen → List Event → Type 0
AreEventsOf o ss es = AreEventsFrom o [] ss es

-- one of these visits, after those of the past, completes an evaluation of the decision in the instance with this vector
abbrev pub IsCompletedFrom : Facts → List Visit → List Visit → DecId → InstId → Vector → Type 0
IsCompletedFrom o past [] d i vector = ⊥
IsCompletedFrom o past (v ∷ vs) d i vector =
    ((v.key.decision ≡ d) × (v.key.instance ≡ i) × Completes o past v vector) ⊎ IsCompletedFrom o (v ∷ past) vs d i vector

-- the events of a transcript, as a set
abbrev pub Tells : Facts → List Seen → Event → Type 0
Tells o ss (Start s i) = Somewhere (λ x. o.row x.pc ≡ Some (record { statement = s; instance = i })) ss
Tells o ss (Done d i vector) = IsCompletedFrom o [] (visits o ss) d i vector

-- the latest of these steps has an edge to a node
abbrev pub Led : List Edges → List Step → ℕ → Type 0
Led graph [] n = ⊥
Led graph (step ∷ older) n = next_in graph step.at_node step.value ≡ node n

-- a visit is of its graph's root, or the latest earlier step of its key has an edge to its node
abbrev pub Follows : Facts → List Visit → Visit → Type 0
Follows o past v = (v.step.at_node ≡ 0) ⊎ Led (o.graph v.key.decision) (steps v.key past) v.step.at_node

-- each of these visits follows those before it
abbrev pub AllFollow : Facts → List Visit → List Visit → Type 0
AllFollow o past [] = Unit {0}
AllFollow o past (v ∷ vs) = Follows o past v × AllFollow o (v ∷ past) vs

-- a transcript is disciplined: each condition branch that is not its graph's root has, as the latest earlier branch of the same decision,
-- instance and frame pointer, a node whose edge leads to it
abbrev pub IsDisciplined : Facts → List Seen → Type 0
IsDisciplined o ss = AllFollow o [] (visits o ss)
