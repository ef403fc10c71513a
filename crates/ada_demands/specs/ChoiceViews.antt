-- What choices name, one at a time.
use Rattle.std.specs.Prelude.{ℤ, int_le, Bool, ◌&&◌, ◌||◌, List, ◌∷◌, Option, Some, None}
use Rattle.ada_meaning.specs.Program.{Bounds}

abbrev pub with_named : Option Bounds → List Bounds → List Bounds
with_named None bs = bs
with_named (Some b) bs = b ∷ bs

-- whether bounds begin where the next value is, or with others behind it, and end no later than the last value
abbrev pub is_next : (others : Bool) → (next last : ℤ) → Bounds → Bool
is_next others next last b = int_le next b.low && int_le b.high last && (others || int_le b.low next)
