-- The predefined operators on whole numbers.
use Rattle.std.specs.Prelude.{ℕ, ℤ, pos, negsuc, ◌+ℤ◌, ◌-ℤ◌, ◌*ℤ◌, neg_ℤ, nat_abs, int_lt, int_le, int_div, int_rem, Bool, true, false, not, ◌&&◌, ◌||◌, if◌then◌else◌}
use Rattle.std.specs.Ordering.{int_eq}
use Rattle.ada_meaning.specs.Types.{Sign, unary_plus, unary_minus, absolute_value, Operator, addition, subtraction, multiplication, division, modulus, remainder, Relation, equal, unequal, less, at_most, greater, at_least}
use Rattle.ada_meaning.specs.Program.{Bounds}

-- whether a number is within bounds
abbrev pub is_within : Bounds → ℤ → Bool
is_within b x = int_le b.low x && int_le x b.high

-- the base range of every integer type: that of 32 bits in two's complement (RM 3.5.4)
abbrev pub base_range : Bounds
base_range = record { low = negsuc 2147483647; high = pos 2147483647 }

-- plus, minus and abs (RM 4.5.4, 4.5.6)
abbrev pub sign_of : Sign → ℤ → ℤ
sign_of unary_plus x = x
sign_of unary_minus x = neg_ℤ x
sign_of absolute_value x = pos (nat_abs x)

-- the remainder of a division that truncates toward zero, moved by one divisor where its sign is not the divisor's (RM 4.5.5)
abbrev pub modulo : ℤ → ℤ → ℤ
modulo x y =
    let r = int_rem x y in
    if not (int_eq r (pos 0)) && (int_lt r (pos 0) && int_lt (pos 0) y || int_lt (pos 0) r && int_lt y (pos 0)) then r +ℤ y else r

-- the exact result; the divisor is not 0 (RM 4.5.3, 4.5.5). Division truncates toward zero, and a remainder has the dividend's sign.
abbrev pub exact : Operator → ℤ → ℤ → ℤ
exact addition x y = x +ℤ y
exact subtraction x y = x -ℤ y
exact multiplication x y = x *ℤ y
exact division x y = int_div x y
exact modulus x y = modulo x y
exact remainder x y = int_rem x y

-- whether the right operand is a divisor
abbrev pub divides : Operator → Bool
divides addition = false
divides subtraction = false
divides multiplication = false
divides division = true
divides modulus = true
divides remainder = true

-- whether a relation holds (RM 4.5.2)
abbrev pub holds : Relation → ℤ → ℤ → Bool
holds equal x y = int_eq x y
holds unequal x y = not (int_eq x y)
holds less x y = int_lt x y
holds at_most x y = int_le x y
holds greater x y = int_lt y x
holds at_least x y = int_le y x

-- the position number of a truth value: 0 for False, 1 for True (RM 3.5.3)
abbrev pub number_of_truth : Bool → ℤ
number_of_truth false = pos 0
number_of_truth true = pos 1

-- whether a position number is that of True
abbrev pub is_true : ℤ → Bool
is_true x = int_eq x (pos 1)

-- a number, or 0 for a negative one
abbrev pub natural : ℤ → ℕ
natural (pos n) = n
natural (negsuc n) = 0

-- how many values there are from low to high
abbrev pub count_between : ℤ → ℤ → ℕ
count_between low high = natural (high -ℤ low +ℤ pos 1)
