-- What is kept of a transcript, and what that says.
use Rattle.std.specs.Prelude.{◌≡◌, ℕ, ◌≤◌, nat_eq, Bool, true, false, not, ◌&&◌, ◌||◌, ◌⊎◌, List, [], ◌∷◌, map, filter, filter_map, option_to_list, is_some, Option, Some, None, if◌then◌else◌}
use Rattle.cov_base.specs.declared.position.DecId.{DecId}
use Rattle.cov_base.specs.declared.position.InstId.{InstId}
use Rattle.cov_base.specs.declared.event.Event.{Event}
use Rattle.cov_base.specs.declared.event.Event.TheVariants.{Start, Done}
use Rattle.cov_base.specs.declared.event.Vector.{Vector}
use Rattle.rv_semantics.specs.declared.stepped.Seen.{Seen}
use Rattle.cov_base.specs.Marks.{same}
use Rattle.cov_base.specs.Lists.{Somewhere, Everywhere}
use Rattle.cov_base.specs.Path.{IsVectorOfLeaf}
use Rattle.transcript.specs.Facts.{Facts, Condition}
use Rattle.transcript.specs.Visit.{Visit, visit_at}
use Rattle.transcript.specs.Reading.{IsCompletedFrom}
use Rattle.transcript.specs.Pieces.{Piece, closed, left_open, Covers, set_of}

-- a piece, and which edges of the branch at its end were taken anywhere in the run
pub record Block : Type 0 where
  pub start : ℕ
  pub last : ℕ
  pub taken : Bool
  pub not_taken : Bool

-- an executed branch: its address, the frame pointer, and whether it was taken
pub record Branched : Type 0 where
  pub address : ℕ
  pub x8 : ℕ
  pub taken : Bool

-- the blocks of a run, in rising order; the piece that it left open, where it was cut off in one; and its history: the branches of
-- conditions of decisions whose graph is no tree, in order
pub record Trace : Type 0 where
  pub blocks : List Block
  pub tail : Option Piece
  pub history : List Branched

-- whether an edge is this one
abbrev pub is_edge : Option Bool → Bool → Bool
is_edge None taken = false
is_edge (Some edge) taken = same edge taken

-- whether the branch at an address took this edge anywhere
abbrev pub took : List Seen → ℕ → Bool → Bool
took [] pc taken = false
took (s ∷ ss) pc taken = nat_eq s.pc pc && is_edge s.edge taken || took ss pc taken

-- the block of a piece
abbrev pub block_of : List Seen → Piece → Block
block_of ss p =
    record { start = p.start; last = p.last; taken = took ss p.last true; not_taken = took ss p.last false }

-- the piece of a block
abbrev pub piece_of : Block → Piece
piece_of b = record { start = b.start; last = b.last }

-- the branch at an address under a frame pointer, if its instruction took an edge
abbrev pub branched_by : ℕ → ℕ → Option Bool → Option Branched
branched_by pc x8 None = None
branched_by pc x8 (Some taken) = Some (record { address = pc; x8 = x8; taken = taken })

-- what goes into the history at an address that has this condition
abbrev pub kept_at : Facts → Option Condition → Seen → Option Branched
kept_at o None s = None
kept_at o (Some c) s = if o.tree c.decision then None else branched_by s.pc s.x8 s.edge

-- what goes into the history of an executed instruction
abbrev pub kept_of : Facts → Seen → Option Branched
kept_of o s = kept_at o (o.condition s.pc) s

-- the trace of a transcript
abbrev pub trace_of : Facts → List Seen → Trace
trace_of o ss = record {
  blocks = map (block_of ss) (set_of (closed o ss));
  tail = left_open o None ss;
  history = filter_map (kept_of o) ss;
}

-- an entry is a branch of a condition of a decision whose graph is no tree
abbrev pub IsOfNoTree : Facts → Branched → Type 0
IsOfNoTree o b = (c : Condition) × (o.condition b.address ≡ Some c) × (o.tree c.decision ≡ false)

-- just the conditional branches among the executed instructions have an edge
abbrev pub HasEdges : Facts → List Seen → Type 0
HasEdges o ss = Everywhere (λ s. is_some s.edge ≡ o.branches s.pc) ss

-- the visit that a branch of the history was
abbrev pub visit_in : Facts → Branched → Option Visit
visit_in o b = visit_at (o.condition b.address) b.x8 (Some b.taken)

-- the visits of a history, in order
abbrev pub visits_in : Facts → List Branched → List Visit
visits_in o history = filter_map (visit_in o) history

-- the visits of decisions whose graph is no tree
abbrev pub without_trees : Facts → List Visit → List Visit
without_trees o vs = filter (λ v. not (o.tree v.key.decision)) vs

-- a block's flag for an edge
abbrev pub flag : Bool → Block → Bool
flag true b = b.taken
flag false b = b.not_taken

-- a flag of a block is of an edge that ends an evaluation of a tree decision in an instance, and this is the vector of the path that ends
-- with that edge
pub record IsFlagged (o : Facts) (t : Trace) (d : DecId) (i : InstId) (vector : Vector) : Type 0 where
  pub address : ℕ
  pub condition : Condition
  pub taken : Bool
  pub role : o.condition address ≡ Some condition
  pub of_decision : condition.decision ≡ d
  pub of_instance : condition.instance ≡ i
  pub of_tree : o.tree d ≡ true
  pub flagged : Somewhere (λ b. (b.last ≡ address) × (flag taken b ≡ true)) t.blocks
  pub ends : IsVectorOfLeaf (o.graph d) condition.at_node (if taken then condition.when_taken else not condition.when_taken) vector

-- What a trace says: that a statement started where its row lies in a block or in the open piece; that an evaluation of a tree decision
-- was completed where a block's flag shows its last edge; that one of another decision was completed where the history tells so.
abbrev pub Says : Facts → Trace → Event → Type 0
Says o t (Start s i) =
    (pc : ℕ) × (o.row pc ≡ Some (record { statement = s; instance = i }))
    × (Somewhere (λ b. (b.start ≤ pc) × (pc ≤ b.last)) t.blocks ⊎ Somewhere (Covers pc) (option_to_list t.tail))
Says o t (Done d i vector) =
    IsFlagged o t d i vector ⊎ ((o.tree d ≡ false) × IsCompletedFrom o [] (visits_in o t.history) d i vector)
