-- A part that was looked at, and the answer of the part behind it.
use Rattle.std.specs.Prelude.{◌≡◌, Result, Ok, Err}

-- both parts, or the fault of the second one
abbrev pub Pairs : {A B E : Type 0} → A → Result B E → Result (A × B) E → Type 0
Pairs a (Ok b) (Ok z) = z ≡ (a, b)
Pairs a (Ok b) (Err g) = ⊥
Pairs a (Err f) (Ok z) = ⊥
Pairs a (Err f) (Err g) = g ≡ f
