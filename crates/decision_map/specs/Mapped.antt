-- What a map keeps of its object.
use Rattle.std.specs.Prelude.{◌≡◌, ℕ, ◌<◌, List, map, length, slice_index_or, slice_set}
use Rattle.std.specs.Option.{option_map_or}
use Rattle.object_format.specs.declared.object.Object.{Object}
use Rattle.decision_map.specs.declared.kind.WordKind.{WordKind}
use Rattle.decision_map.specs.declared.kind.WordKind.TheVariants.{GoesOn, Transfer, Branch, HistoryBranch, Stop}
use Rattle.decision_map.specs.declared.graphs.DecisionGraph.{DecisionGraph}
use Rattle.decision_map.specs.Kinds.{kinds_of_text, address_of, place_of, keeps_history}
use Rattle.decision_map.specs.Decisions.{graph_of_entry}
use Rattle.decision_map.specs.Roles.{IsMappable, needs_history}

-- the kind of a word by itself
abbrev pub plain : WordKind → WordKind
plain GoesOn = GoesOn
plain Transfer = Transfer
plain Branch = Branch
plain HistoryBranch = Branch
plain Stop = Stop

-- the kinds once the branch at an address is marked as one that needs a history
abbrev pub marked : List WordKind → ℕ → List WordKind
marked kinds pc = option_map_or (λ (place : ℕ). slice_set kinds place HistoryBranch) (place_of pc) kinds

-- these are the kinds of an object's words
pub record AreKinds (o : Object) (kinds : List WordKind) : Type 0 where
  pub flow : map plain kinds ≡ kinds_of_text o.text
  pub history : (place : ℕ) → place < length o.text → keeps_history (slice_index_or kinds place Stop) ≡ needs_history o (address_of place)

-- these are the object's kinds and graphs
pub record IsMapOf (o : Object) (kinds : List WordKind) (graphs : List DecisionGraph) : Type 0 where
  pub mappable : IsMappable o
  pub words : AreKinds o kinds
  pub decisions : graphs ≡ map graph_of_entry o.obligations.decisions
