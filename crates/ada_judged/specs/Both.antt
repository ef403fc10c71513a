-- Two answers as one.
use Rattle.std.specs.Prelude.{◌≡◌, Result, Ok, Err}

-- both values, or the first fault
abbrev pub Both : {A B E : Type 0} → Result A E → Result B E → Result (A × B) E → Type 0
Both (Ok a) (Ok b) (Ok z) = z ≡ (a, b)
Both (Ok a) (Ok b) (Err g) = ⊥
Both (Ok a) (Err f) (Ok z) = ⊥
Both (Ok a) (Err f) (Err g) = g ≡ f
Both (Err f) s (Ok z) = ⊥
Both (Err f) s (Err g) = g ≡ f
