-- What a construct changes in the counters of the walk.
use Rattle.std.specs.Prelude.{◌≡◌, ℕ, List}
use Rattle.cov_base.specs.declared.position.Pos.{Pos}
use Rattle.ada_meaning.specs.Program.{GenericConstant}
use Rattle.ada_rules.specs.Environment.{State}
use Rattle.ada_rules.specs.Statics.{Asked}

-- names and expressions number decisions, and pass the limit of conditions
abbrev pub with_decisions : State → ℕ → List Pos → State
with_decisions s n places = record s { decisions = n; excesses = places }

abbrev pub OnlyDecides : State → State → Type 0
OnlyDecides s t = t ≡ with_decisions s t.decisions t.excesses

-- static expressions make demands, and name constants, too
abbrev pub with_statics : State → ℕ → List Pos → List Asked → List GenericConstant → State
with_statics s n places asked constants =
    record s { decisions = n; excesses = places; demands = asked; constants_declared = constants }

abbrev pub OnlyStatics : State → State → Type 0
OnlyStatics s t = t ≡ with_statics s t.decisions t.excesses t.demands t.constants_declared
