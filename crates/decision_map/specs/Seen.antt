-- What a state holds of the entries of a trace that it has seen, for the checks that hold a trace to its object.
use Rattle.std.specs.Prelude.{◌≡◌, ℕ, ◌≤◌, Bool, false, List, [], length, slice_index_or, slice_set, ◌==◌, ◌||◌, Option, None, Some, IfSome, true, if◌then◌else◌}
use Rattle.std.specs.List.{list_any}
use Rattle.std.specs.Option.{option_or, option_map_or}
use Rattle.cov_base.specs.Lists.{Everywhere, Somewhere}
use Rattle.object_format.specs.declared.object.Object.{Object}
use Rattle.trace_format.specs.declared.trace.Block.{Block}
use Rattle.trace_format.specs.declared.trace.HistoryEntry.{HistoryEntry}
use Rattle.trace_format.specs.Trace.{TraceFile}
use Rattle.decision_map.specs.declared.fit_state.Shown.{Shown}
use Rattle.decision_map.specs.declared.fit_state.FitState.{FitState}
use Rattle.decision_map.specs.Kinds.{place_of, kinds_of_text}
use Rattle.decision_map.specs.Roles.{needs_history, IsMappable}
use Rattle.decision_map.specs.Blocks.{is_block, shows_edge, shows_entry, AreOrdered}
use Rattle.decision_map.specs.Fits.{foreign, beyond_exceptions, not_a_block, wrong_edge, wrong_address, not_flat}

-- a trace of these parts; its closing digest doesn't matter here
abbrev pub trace_with : List ℕ → ℕ → TraceFile
trace_with object ending = record { object = object; ending = ending; blocks = []; history = []; closing = [] }

-- no edge is shown
abbrev pub unshown : Shown
unshown = record { taken = false; not_taken = false }

-- whether what is kept shows an edge
abbrev pub has_edge : Shown → ℕ → Bool
has_edge s edge = if edge == 0 then s.not_taken else s.taken

-- whether what is kept of the words of text shows the edge of an entry
abbrev pub shows_in : List Shown → HistoryEntry → Bool
shows_in shown h = option_map_or (λ (place : ℕ). has_edge (slice_index_or shown place unshown) h.edge) (place_of h.address) false

-- and those that flags have
abbrev pub edges_with : Shown → ℕ → Shown
edges_with s flags = record { taken = s.taken || shows_edge flags 1; not_taken = s.not_taken || shows_edge flags 0 }

-- what is kept of the words of text, once a block has shown its edges
abbrev pub shown_with : List Shown → Block → List Shown
shown_with shown b = option_map_or (λ (place : ℕ). slice_set shown place (edges_with (slice_index_or shown place unshown) b.flags)) (place_of b.last) shown

-- it is the state of this object's checks
pub record IsOf (o : Object) (s : FitState) : Type 0 where
  pub mappable : IsMappable o
  pub object : s.map.now ≡ o
  pub long : length s.shown.items ≡ length o.text

-- nothing was seen
pub record IsFresh (o : Object) (s : FitState) : Type 0 where
  pub of : IsOf o s
  pub head : s.head ≡ None
  pub before : s.before ≡ None
  pub block : s.block ≡ None
  pub edge : s.edge ≡ None
  pub shown : (place : ℕ) → slice_index_or s.shown.items place unshown ≡ unshown
  pub entries : s.entries ≡ 0
  pub address : s.address ≡ None
  pub flat : s.flat ≡ None

-- the flags are the same if the ends are
abbrev pub Agree : Block → Block → Type 0
Agree e b = e.last ≡ b.last → e.flags ≡ b.flags

-- an earlier block ends at this one's end or before it, and has its flags if it ends there
abbrev pub IsClosed : Block → Block → Type 0
IsClosed k e = (e.last ≤ k.last) × Agree e k

-- of these blocks this is the one that ends last, where there is one
abbrev pub Closes : Option Block → List Block → Type 0
Closes None earlier = earlier ≡ []
Closes (Some k) earlier = Everywhere (IsClosed k) earlier × Somewhere (λ e. e ≡ k) earlier

-- a head, these blocks and then this history were seen, up to the first block that is none of the text's
pub record HasSeen (o : Object) (s : FitState) (object : List ℕ) (ending : ℕ) (blocks : List Block) (history : List HistoryEntry) : Type 0 where
  pub of : IsOf o s
  pub head : s.head ≡ option_or (foreign o (trace_with object ending)) (beyond_exceptions o (trace_with object ending))
  pub block : s.block ≡ not_a_block (kinds_of_text o.text) blocks
  pub known : s.block ≡ None → IfSome s.before (λ (k : Block). is_block (kinds_of_text o.text) k ≡ true)
  pub edge : s.block ≡ None → AreOrdered blocks → s.edge ≡ wrong_edge (kinds_of_text o.text) blocks
  pub closes : s.block ≡ None → s.edge ≡ None → AreOrdered blocks → Closes s.before blocks
  pub shown : s.block ≡ None → (h : HistoryEntry) → needs_history o h.address ≡ true → shows_in s.shown.items h ≡ list_any (shows_entry h) blocks
  pub entries : s.entries ≡ length history
  pub address : s.address ≡ wrong_address (needs_history o) history
  pub flat : s.block ≡ None → s.address ≡ None → s.flat ≡ not_flat blocks history
