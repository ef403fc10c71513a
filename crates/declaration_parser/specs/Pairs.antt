-- A part that was read, and the answer of the part behind it.
use Rattle.std.specs.Prelude.{◌≡◌, Result, Ok, Err}
use Rattle.std.specs.Borrow.{Bor}
use Rattle.expression_parser.specs.declared.fault.Fault.{Fault}
use Rattle.expression_parser.specs.Reading.{Tokens}

-- both parts, with the same tokens behind them, or the second part's fault
abbrev pub Pairs : {A B : Type 0} → A → Result (B × Bor Tokens) Fault → Result ((A × B) × Bor Tokens) Fault → Type 0
Pairs a (Ok y) (Ok z) = (z.0 ≡ (a, y.0)) × (z.1.now ≡ y.1.now)
Pairs a (Ok y) (Err g) = ⊥
Pairs a (Err f) (Ok z) = ⊥
Pairs a (Err f) (Err g) = g ≡ f
