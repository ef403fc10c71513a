-- The words for why a trace is refused.
use Rattle.std.specs.Prelude.{ℕ, List, ◌++◌, codes}
use Rattle.std.specs.Fmt.{decimal}
use Rattle.std.specs.Int.{w32, to_be_bytes}
use Rattle.hex.specs.Hex.{encode_lower}
use Rattle.decision_map.specs.declared.fault.FitFault.{FitFault}
use Rattle.decision_map.specs.declared.fault.FitFault.TheVariants.{Foreign, Ending, NotABlock, Edge, HistoryAddress, HistoryNotFlat}
use Rattle.commands.specs.declared.status.TraceWhy.{TraceWhy}
use Rattle.commands.specs.declared.status.TraceWhy.TheVariants.{File, Fit, Broken, Consolidated}
use Rattle.trace_format.specs.declared.consolidated.fault.ConsFault.{ConsFault}
use Rattle.trace_format.specs.declared.consolidated.fault.ConsFault.TheVariants as faults
use Rattle.trace_format.specs.declared.fault.TraceFault.{TraceFault}
use Rattle.trace_format.specs.declared.fault.TraceFault.TheVariants.{Short, Magic, Version, Long, Damaged, Order, Flag}

-- eight hexadecimal digits
abbrev pub address_text : ℕ → List ℕ
address_text pc = encode_lower (to_be_bytes w32 pc)

-- a check, and the entry that fails it
abbrev pub place_text : List ℕ → ℕ → List ℕ
place_text name at_entry = name ++ (codes " at " ++ decimal at_entry)

-- the words for a check of the file alone
abbrev pub file_text : TraceFault → List ℕ
file_text Short = codes "short"
file_text Magic = codes "magic"
file_text Version = codes "version"
file_text Long = codes "long"
file_text Damaged = codes "damaged"
file_text (Order entry) = place_text (codes "order") entry
file_text (Flag entry) = place_text (codes "flag") entry

-- the words for a file of another object: the digest that it keeps, and that of the object
abbrev pub foreign_text : (kept object : List ℕ) → List ℕ
foreign_text kept object = codes "foreign: kept " ++ (encode_lower kept ++ (codes ", object " ++ encode_lower object))

-- the words for a check of the file beside the object
abbrev pub fit_text : FitFault → List ℕ
fit_text (Foreign kept object) = foreign_text kept object
fit_text Ending = codes "flag"
fit_text (NotABlock start) = codes "not a block at " ++ address_text start
fit_text (Edge start) = codes "edge at " ++ address_text start
fit_text (HistoryAddress entry) = place_text (codes "history address") entry
fit_text (HistoryNotFlat entry) = place_text (codes "history not flat") entry

-- the words for a check of a consolidated file
abbrev pub consolidated_text : ConsFault → List ℕ
consolidated_text faults.Short = codes "short"
consolidated_text faults.Magic = codes "magic"
consolidated_text faults.Version = codes "version"
consolidated_text faults.Long = codes "long"
consolidated_text faults.Damaged = codes "damaged"
consolidated_text (faults.Order entry) = place_text (codes "order") entry
consolidated_text (faults.Flag entry) = place_text (codes "flag") entry
consolidated_text (faults.Foreign kept object) = foreign_text kept object
consolidated_text (faults.Start entry) = place_text (codes "start") entry
consolidated_text (faults.Vector entry) = place_text (codes "vector") entry

-- the words for a check that a trace fails
abbrev pub trace_text : TraceWhy → List ℕ
trace_text (File why) = file_text why
trace_text (Fit why) = fit_text why
trace_text (Broken why) = place_text (codes "broken history") why.at
trace_text (Consolidated why) = consolidated_text why
