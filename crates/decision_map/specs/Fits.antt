-- Whether a trace can be one of an object: the checks of the trace format that need the object, in their order.
use Rattle.std.specs.Prelude.{ℕ, Bool, not, List, [], find, length, bytes_eq, nat_le, Option, Some, None, option_map, if◌then◌else◌}
use Rattle.std.specs.List.{list_any, position_from}
use Rattle.std.specs.Option.{option_or}
use Rattle.object_format.specs.declared.object.Object.{Object}
use Rattle.trace_format.specs.declared.trace.Block.{Block}
use Rattle.trace_format.specs.declared.trace.HistoryEntry.{HistoryEntry}
use Rattle.trace_format.specs.Trace.{TraceFile}
use Rattle.decision_map.specs.declared.kind.WordKind.{WordKind}
use Rattle.decision_map.specs.declared.fault.FitFault.{FitFault}
use Rattle.decision_map.specs.declared.fault.FitFault.TheVariants.{Foreign, Ending, NotABlock, Edge, HistoryAddress, HistoryNotFlat}
use Rattle.decision_map.specs.Kinds.{kinds_of_text}
use Rattle.decision_map.specs.Roles.{needs_history}
use Rattle.decision_map.specs.Blocks.{is_block, first_unlike, shows_entry}

-- foreign: the trace was made of another object
abbrev pub foreign : Object → TraceFile → Option FitFault
foreign o t = if bytes_eq t.object o.closing then None else Some (Foreign t.object o.closing)

-- the run ended with an exception that the object doesn't hold
abbrev pub beyond_exceptions : Object → TraceFile → Option FitFault
beyond_exceptions o t = if nat_le t.ending (length o.obligations.exceptions) then None else Some Ending

-- the first block that is none of the text's
abbrev pub not_a_block : List WordKind → List Block → Option FitFault
not_a_block kinds blocks = option_map (λ (b : Block). NotABlock b.start) (find (λ b. not (is_block kinds b)) blocks)

-- the first block whose flags are not those of its end
abbrev pub wrong_edge : List WordKind → List Block → Option FitFault
wrong_edge kinds blocks = option_map (λ (b : Block). Edge b.start) (first_unlike kinds [] blocks)

-- the place of the first entry of the history whose executions are not kept
abbrev pub wrong_address : (ℕ → Bool) → List HistoryEntry → Option FitFault
wrong_address is_kept history = option_map HistoryAddress (position_from (λ (h : HistoryEntry). not (is_kept h.address)) 0 history)

-- the place of the first entry of the history whose edge no block shows
abbrev pub not_flat : List Block → List HistoryEntry → Option FitFault
not_flat blocks history = option_map HistoryNotFlat (position_from (λ (h : HistoryEntry). not (list_any (shows_entry h) blocks)) 0 history)

-- the first check that fails, all entries of one check before the next
abbrev pub fault_of : Object → TraceFile → Option FitFault
fault_of o t =
    let kinds = kinds_of_text o.text in
    option_or (foreign o t)
    (option_or (beyond_exceptions o t)
    (option_or (not_a_block kinds t.blocks)
    (option_or (wrong_edge kinds t.blocks)
    (option_or (wrong_address (needs_history o) t.history)
    (not_flat t.blocks t.history)))))
