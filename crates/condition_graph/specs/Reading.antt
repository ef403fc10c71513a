-- How a graph is read from postfix bytes, from the last byte to the first.
use Rattle.std.specs.Prelude.{ℕ, nat_eq, Bool, true, false, List, [], ◌∷◌, map, reverse, Option, Some, None, if◌then◌else◌}
use Rattle.cov_base.specs.Graph.{node, leaf, Edges}
use Rattle.condition_graph.specs.declared.reading.Pending.{Pending}
use Rattle.condition_graph.specs.declared.reading.Reading.{Reading}
use Rattle.condition_graph.specs.Target.{edges_of}

-- where the outcomes of an expression lead that is still to be read: if evaluation goes on at a value, then to the first node that
-- has been read
abbrev pub exits_by : Option Bool → ℕ → Edges → Edges
exits_by None first exits = exits
exits_by (Some true) first exits = record { on_true = node first; on_false = exits.on_false }
exits_by (Some false) first exits = record { on_true = exits.on_true; on_false = node first }

-- an expression that is still to be read
pub record Open : Type 0 where
  pub exits : Edges
  pub goes_on : Option Bool

abbrev pub open_of : Pending → Open
open_of p = record { exits = edges_of p.exits; goes_on = p.goes_on }

-- what has been read: the first node, the expressions that are still to be read, the next one first, and the nodes in order
pub record State : Type 0 where
  pub first : ℕ
  pub pending : List Open
  pub nodes : List Edges

abbrev pub state_of : Reading → State
state_of r = record { first = r.first.0; pending = map open_of (reverse r.pending.items); nodes = map edges_of (reverse r.nodes.items) }

-- the expression that a byte ends, whose outcomes lead to these exits
abbrev pub begun : ℕ → Edges → (first : ℕ) → List Open → List Edges → State
begun byte exits first pending nodes =
    if nat_eq byte 32 then record {
      first = first;
      pending = (record { exits = record { on_true = exits.on_false; on_false = exits.on_true }; goes_on = None }) ∷ pending;
      nodes = nodes;
    }
    else if nat_eq byte 33 then record {
      first = first;
      pending = (record { exits = exits; goes_on = None }) ∷ (record { exits = exits; goes_on = Some true }) ∷ pending;
      nodes = nodes;
    }
    else if nat_eq byte 34 then record {
      first = first;
      pending = (record { exits = exits; goes_on = None }) ∷ (record { exits = exits; goes_on = Some false }) ∷ pending;
      nodes = nodes;
    }
    else record { first = byte; pending = pending; nodes = exits ∷ nodes }

-- what has been read once a byte more is read
abbrev pub turned_by : ℕ → ℕ → List Open → List Edges → State
turned_by byte first [] nodes = record { first = first; pending = []; nodes = nodes }
turned_by byte first (next ∷ pending) nodes = begun byte (exits_by next.goes_on first next.exits) first pending nodes

abbrev pub turned : ℕ → State → State
turned byte s = turned_by byte s.first s.pending s.nodes

-- what has been read once these bytes are read, the last one first
abbrev pub read_down : List ℕ → State → State
read_down [] s = s
read_down (byte ∷ rest) s = turned byte (read_down rest s)

-- nothing has been read of a decision's expression
abbrev pub started : State
started = record {
  first = 0;
  pending = (record { exits = record { on_true = leaf true; on_false = leaf false }; goes_on = None }) ∷ [];
  nodes = [];
}
