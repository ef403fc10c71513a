-- The events of a transcript, computed.
use Rattle.std.specs.Prelude.{ℕ, zero, suc, nat_eq, Bool, false, List, [], ◌∷◌, ◌++◌, option_map, Option, Some, None, if◌then◌else◌}
use Rattle.cov_base.specs.declared.event.Event.{Event}
use Rattle.cov_base.specs.declared.event.Event.TheVariants.{Done}
use Rattle.cov_base.specs.declared.event.Vector.{Vector}
use Rattle.rv_semantics.specs.declared.stepped.Seen.{Seen}
use Rattle.cov_base.specs.Graph.{Next, node, leaf, Edges, next_in}
use Rattle.cov_base.specs.Path.{Step, vector_of}
use Rattle.transcript.specs.Facts.{Facts}
use Rattle.transcript.specs.Visit.{Key, Visit, visit_of, visited, steps}
use Rattle.transcript.specs.Reading.{started}

-- whether a place is node n
abbrev pub is_node : Next → ℕ → Bool
is_node (node j) n = nat_eq j n
is_node (leaf outcome) n = false

-- the path from the root to a node that these steps, the latest first, end with, if they end with one
abbrev pub path_to : List Edges → List Step → ℕ → Option (List Step)
path_to graph steps zero = Some []
path_to graph [] (suc n) = None
path_to graph (step ∷ older) (suc n) =
    if is_node (next_in graph step.at_node step.value) (suc n)
    then option_map (λ path. step ∷ path) (path_to graph older step.at_node) else None

-- the vector of an evaluation that came over this path and takes a step that leads to a place
abbrev pub vector_by : Next → Step → Option (List Step) → Option Vector
vector_by (node j) step path = None
vector_by (leaf outcome) step path = option_map (λ older. vector_of (step ∷ older)) path

-- the vector of the evaluation that a visit completes, if it completes one
abbrev pub completed : Facts → List Visit → Visit → Option Vector
completed o past v =
    let graph = o.graph v.key.decision in
    vector_by (next_in graph v.step.at_node v.step.value) v.step (path_to graph (steps v.key past) v.step.at_node)

-- the events of a key whose visit completes an evaluation with this vector, if it completes one
abbrev pub done_by : Key → Option Vector → List Event
done_by k None = []
done_by k (Some vector) = Done k.decision k.instance vector ∷ []

-- the events of the visit made at one place
abbrev pub done_at : Facts → List Visit → Option Visit → List Event
done_at o past None = []
done_at o past (Some v) = done_by v.key (completed o past v)

-- the Done events of visits that come after those of the past
abbrev pub done_of : Facts → List Visit → List Visit → List Event
done_of o past [] = []
done_of o past (v ∷ vs) = done_by v.key (completed o past v) ++ done_of o (v ∷ past) vs

-- the events of a transcript that goes on after the visits of the past
abbrev pub reading_from : Facts → List Visit → List Seen → List Event
reading_from o past [] = []
reading_from o past (s ∷ ss) =
    started (o.row s.pc) ++ (done_at o past (visit_of o s) ++ reading_from o (visited (visit_of o s) past) ss)

-- the events of a transcript
abbrev pub reading : Facts → List Seen → List Event
reading o ss = reading_from o [] ss
