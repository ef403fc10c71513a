-- A walk whose symbols alone go on.
use Rattle.std.proofs.Common.{Result, Ok, Err}
use Rattle.cov_base.specs.declared.failure.Failure.{Failure}
use Rattle.cov_base.specs.declared.failure.Failure.TheVariants.{Fault, WantOfMemory}
use Rattle.ada_entities.specs.declared.fault.Refusal.{Refusal}
use Rattle.ada_entities.specs.declared.types.Subtype.{Subtype}
use Rattle.program_walk.specs.declared.symbols.Symbols.{Symbols}
use Rattle.program_walk.specs.Changes.{IsOpen}
use Rattle.program_walk.specs.Changes as changes
use Rattle.program_walk.specs.declared.walk.Walk.{Walk}
use Rattle.program_walk.specs.Going.{GoesOn}
use Rattle.program_walk.proofs.HidingLaws.{with_symbols, symbols_inside}
use Rattle.declarations.specs.Types.{GoesAsSymbols}

-- Where a definition is refused, what the symbols were is there still.
pub symbols_kept : (old new : Symbols) (f : Failure Refusal) → changes.Continues old new → GoesAsSymbols old new (Err f)
symbols_kept old new (Fault x) g = g
symbols_kept old new WantOfMemory g = tt

-- a walk whose symbols alone go on
pub goes_as_symbols : (w : Walk) (s : Symbols) (r : Result Subtype (Failure Refusal)) → IsOpen w.symbols → GoesAsSymbols w.symbols s r
    → GoesOn w (with_symbols w s) r
goes_as_symbols w s (Ok x) open_now g = symbols_inside w s (g open_now)
goes_as_symbols w s (Err (Fault x)) open_now g = λ k b. record { symbols = g k b.symbols; spans = b.spans }
goes_as_symbols w s (Err WantOfMemory) open_now g = tt
