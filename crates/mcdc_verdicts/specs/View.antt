-- What an answer says, in the words of the definitions.
use Rattle.std.specs.Prelude.{Option, Some, None}
use Rattle.cov_base.specs.declared.event.Vector.{Vector}
use Rattle.decision_meaning.specs.Pair.{Pair}

-- the pair that is shown, if one is
abbrev pub pair_view : Option (Vector × Vector) → Option Pair
pair_view None = None
pair_view (Some shown) = Some (record { first = shown.0; second = shown.1 })
