-- The signs of numbers.
use Rattle.std.specs.Prelude.{ℤ, pos, int_lt, Bool, ◌&&◌, ◌||◌}

-- the signs of two numbers, none of which is 0, differ
abbrev pub differ : ℤ → ℤ → Bool
differ x y = int_lt x (pos 0) && int_lt (pos 0) y || int_lt (pos 0) x && int_lt y (pos 0)
