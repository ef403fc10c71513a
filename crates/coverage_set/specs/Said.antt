-- How what a trace says is found.
use Rattle.std.specs.Prelude.{ℕ, ◌≤◌, nat_le, Bool, ◌&&◌, List, [], ◌∷◌, if◌then◌else◌}
use Rattle.std.specs.List.{list_any}
use Rattle.cov_base.specs.declared.event.Event.{Event}
use Rattle.cov_base.specs.declared.event.Event.TheVariants.{Start}
use Rattle.cov_base.specs.declared.failure.Failure.{Failure}
use Rattle.cov_base.specs.declared.failure.Failure.TheVariants.{Fault, WantOfMemory}
use Rattle.cov_base.specs.Lists.{Everywhere}
use Rattle.line_table.specs.declared.rows.Row.{Row}
use Rattle.trace_format.specs.declared.trace.Block.{Block}
use Rattle.transcript.specs.Facts.{Facts}
use Rattle.transcript.specs.Replay.{BreaksAt}
use Rattle.transcript.specs.Visit.{Visit}
use Rattle.vector_rebuild.specs.declared.fault.BrokenHistory.{BrokenHistory}

-- whether an address lies in a block
abbrev pub covers : ℕ → Block → Bool
covers pc b = nat_le b.start pc && nat_le pc b.last

-- the starts of rows that lie in blocks
abbrev pub starts_in : List Block → List Row → List Event
starts_in blocks [] = []
starts_in blocks (row ∷ rows) =
    if list_any (covers row.address) blocks then Start row.statement row.instance ∷ starts_in blocks rows else starts_in blocks rows

-- rows stand at an address or above it
abbrev pub AreFrom : ℕ → List Row → Type 0
AreFrom pc rows = Everywhere (λ (row : Row). pc ≤ row.address) rows

-- why a history isn't taken: it breaks first at that place
abbrev pub IsBrokenBy : Facts → List Visit → Failure BrokenHistory → Type 0
IsBrokenBy o vs (Fault broken) = BreaksAt o vs broken.at
IsBrokenBy o vs WantOfMemory = Unit {0}
