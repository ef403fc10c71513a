-- Rebuilding vectors: what is kept of each evaluation that is under way, visit by visit.
use Rattle.std.specs.Prelude.{◌≡◌, ℕ, ◌+◌, nat_eq, bit_or, ◌^◌, List, [], ◌∷◌, ◌++◌, length, Option, Some, None, if◌then◌else◌}
use Rattle.cov_base.specs.declared.event.Event.{Event}
use Rattle.cov_base.specs.declared.event.Vector.{Vector}
use Rattle.cov_base.specs.Graph.{Next, node, leaf, Edges, next_in}
use Rattle.cov_base.specs.Path.{Step, vector_of}
use Rattle.transcript.specs.Facts.{Facts}
use Rattle.transcript.specs.Visit.{Key, Visit, same_key, steps, onto}
use Rattle.transcript.specs.Reading.{Follows, AllFollow}
use Rattle.transcript.specs.Computed.{path_to, done_by}

-- an evaluation that is under way: the vector of its steps so far, and the node that comes next
pub record Half : Type 0 where
  pub vector : Vector
  pub next : ℕ

-- the vector of no steps
abbrev pub no_steps : Vector
no_steps = record { seen = 0; value = 0 }

-- a vector with one more condition, evaluated to a value
abbrev pub with_step : Vector → Step → Vector
with_step v step = record {
  seen = bit_or v.seen (2 ^ step.at_node);
  value = if step.value then bit_or v.value (2 ^ step.at_node) else v.value;
}

-- the vector with which an evaluation that is under way comes to a node, if it comes there
abbrev pub continued : Option Half → ℕ → Option Vector
continued None n = None
continued (Some half) n = if nat_eq half.next n then Some half.vector else None

-- the vector with which some evaluation comes to a node: a new one to the root, the one under way to its next node, and none to others
abbrev pub begun : Option Half → ℕ → Option Vector
begun half n = if nat_eq n 0 then Some no_steps else continued half n

-- what is kept of an evaluation after a step that leads to a place
abbrev pub half_by : Next → Vector → Option Half
half_by (node n) v = Some (record { vector = v; next = n })
half_by (leaf outcome) v = None

-- the vector of an evaluation that is over after a step that leads to a place
abbrev pub over_by : Next → Vector → Option Vector
over_by (node n) v = None
over_by (leaf outcome) v = Some v

-- what is kept after a step that leads to a place, of an evaluation that came over this path
abbrev pub half_after : Next → Step → Option (List Step) → Option Half
half_after next step None = None
half_after next step (Some path) = half_by next (vector_of (step ∷ path))

-- what is kept of the steps of a key, the latest first
abbrev pub half_of : List Edges → List Step → Option Half
half_of graph [] = None
half_of graph (step ∷ older) =
    half_after (next_in graph step.at_node step.value) step (path_to graph older step.at_node)

-- of each key that is kept which its steps in the past leave
abbrev pub Keeps : Facts → (Key → Option Half) → List Visit → Type 0
Keeps o kept past = (k : Key) → kept k ≡ half_of (o.graph k.decision) (steps k past)

-- what is kept of each key, with one key's changed
abbrev pub put_half : (Key → Option Half) → Key → Option Half → Key → Option Half
put_half kept k half l = if same_key l k then half else kept l

-- what a replay of visits gives: the events up to its end, and how many visits came before the first that follows nothing, if there is one
pub record Replayed : Type 0 where
  pub events : List Event
  pub broken : Option ℕ

-- what is replayed, with these events first
abbrev pub with_events : List Event → Replayed → Replayed
with_events es r = record { events = es ++ r.events; broken = r.broken }

-- the replay of a visit that comes with this vector to its node, and of what comes after it
abbrev pub replay_step : Visit → Next → Option Vector → ℕ → (Option Half → Replayed) → Replayed
replay_step v next None count later = record { events = []; broken = Some count }
replay_step v next (Some vector) count later =
    with_events (done_by v.key (over_by next (with_step vector v.step))) (later (half_by next (with_step vector v.step)))

-- the replay of visits, where so many came before and this is kept of each key
abbrev pub replay_from : Facts → (Key → Option Half) → ℕ → List Visit → Replayed
replay_from o kept count [] = record { events = []; broken = None }
replay_from o kept count (v ∷ vs) =
    replay_step v (next_in (o.graph v.key.decision) v.step.at_node v.step.value) (begun (kept v.key) v.step.at_node) count
    (λ half. replay_from o (put_half kept v.key half) (count + 1) vs)

-- nothing is kept of any key
abbrev pub nothing_kept : Key → Option Half
nothing_kept k = None

-- the replay of visits
abbrev pub replay : Facts → List Visit → Replayed
replay o vs = replay_from o nothing_kept 0 vs

-- the visit after the first `at` ones is the first that does not follow those before it
pub record BreaksAt (o : Facts) (vs : List Visit) (at : ℕ) : Type 0 where
  pub earlier : List Visit
  pub visit : Visit
  pub later : List Visit
  pub whole : vs ≡ earlier ++ (visit ∷ later)
  pub follow : AllFollow o [] earlier
  pub off : Follows o (onto earlier []) visit → ⊥
  pub place : at ≡ length earlier
