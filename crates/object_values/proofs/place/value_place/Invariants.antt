-- What is left of the `others` tells the place from the component so far.
use Rattle.std.proofs.Common.{◌≡◌, drop}
use Rattle.ada_rules.specs.Declarations.{value_place}
use Rattle.ada_entities.specs.Views.{subtype_of}
use Rattle.ada_entities.specs.EntityViews.{Tables}
use Rattle.program_walk.specs.SymbolViews.{Begins, IsKnown}
use Rattle.object_values.proofs.place.value_place.Given as goal

abbrev pub invariant-loop-other : goal.invariant-loop-other
invariant-loop-other l =
    IsKnown l.fn.symbols → (k : Tables) → Begins l.fn.symbols k
    → value_place l.place (subtype_of k.types l.component) (drop l.other-index l.fn.others) ≡ value_place l.fn.pos (subtype_of k.types l.fn.subtype) l.fn.others
