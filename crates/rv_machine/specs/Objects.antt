-- What an object is to the machine.
use Rattle.std.specs.Prelude.{ℕ, ℤ, List, length}
use Rattle.object_format.specs.declared.object.Object.{Object}
use Rattle.rv_semantics.specs.State.{Image, State, start}
use Rattle.rv_semantics.specs.Run.{Run, runs}

-- what no instruction of it changes
abbrev pub object_image : Object → Image
object_image o = record { text = o.text; exceptions = length o.obligations.exceptions }

-- the machine before its first instruction
abbrev pub object_start : Object → State
object_start o = start (object_image o) o.entry o.init_at o.init

-- its run on an input, of at most `budget` instructions
abbrev pub object_run : Object → (budget : ℕ) → (input : List ℤ) → Run
object_run o budget input = runs (object_image o) budget (object_start o) input
