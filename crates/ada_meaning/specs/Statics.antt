-- The values of static expressions (RM 4.9): computed exactly. There is none where a part leaves the base range, or has a divisor of 0.
use Rattle.std.specs.Prelude.{ℕ, nat_eq, ℤ, pos, ◌&&◌, List, [], ◌∷◌, ◌++◌, Option, Some, None, option_map, slice_get, unwrap_or, if◌then◌else◌}
use Rattle.std.specs.Option.{option_and_then}
use Rattle.std.specs.Ordering.{int_eq}
use Rattle.ada_meaning.specs.Types.{Operator, Static, static_number, static_formal, static_constant, static_first, static_last, static_length, static_sign, static_operation, static_of, Range, between, formal_range, range_of}
use Rattle.ada_meaning.specs.Program.{Bounds, GenericConstant, FormalActual, actual_object, actual_type, Program}
use Rattle.ada_meaning.specs.Arithmetic.{is_within, base_range, count_between, sign_of, exact, divides}
use Rattle.ada_meaning.specs.Resolved.{formal_of, constant_of}

-- a number of the base range (RM 3.5.4)
abbrev pub in_base : ℤ → Option ℤ
in_base x = if is_within base_range x then Some x else None

-- an operation on two numbers, where it is defined
abbrev pub computed : Operator → ℤ → ℤ → Option ℤ
computed o x y = if divides o && int_eq y (pos 0) then None else in_base (exact o x y)

abbrev pub bounds_between : Option ℤ → Option ℤ → Option Bounds
bounds_between x y = option_and_then (λ low. option_map (λ high. record { low = low; high = high }) y) x

-- what instances have, by the number of the instance and the place in its generic: the values of formal objects, the bounds of formal
-- types, the values of constants
pub record InstanceValues : Type 0 where
  pub object : ℕ → ℕ → Option ℤ
  pub type : ℕ → ℕ → Option Bounds
  pub constant : ℕ → ℕ → Option ℤ

module _ (v : InstanceValues) where
  abbrev mutual
    -- the value of a static expression in an instance (0: in no generic)
    pub static_value : ℕ → Static → Option ℤ
    static_value inst (static_number x) = in_base x
    static_value inst (static_formal k) = v.object inst k
    static_value inst (static_constant k) = v.constant inst k
    static_value inst (static_first r) = option_map (λ b. b.low) (static_bounds inst r)
    static_value inst (static_last r) = option_map (λ b. b.high) (static_bounds inst r)
    static_value inst (static_length r) = option_and_then (λ b. in_base (pos (count_between b.low b.high))) (static_bounds inst r)
    static_value inst (static_sign s e) = option_and_then (λ x. in_base (sign_of s x)) (static_value inst e)
    static_value inst (static_operation o e f) =
        option_and_then (λ x. option_and_then (computed o x) (static_value inst f)) (static_value inst e)
    static_value inst (static_of i e) = static_value i e

    -- the bounds of a scalar subtype in an instance (RM 3.5)
    pub static_bounds : ℕ → Range → Option Bounds
    static_bounds inst (between e f) = bounds_between (static_value inst e) (static_value inst f)
    static_bounds inst (formal_range k) = v.type inst k
    static_bounds inst (range_of i r) = static_bounds i r

-- a value within bounds, where there are both
abbrev pub within : Option ℤ → Option Bounds → Option ℤ
within x b = option_and_then (λ y. option_and_then (λ c. if is_within c y then Some y else None) b) x

-- a constant's value: that of its expression, where it lies in the constant's subtype (RM 3.3.1)
abbrev pub value_of_constant : InstanceValues → ℕ → GenericConstant → Option ℤ
value_of_constant v inst c = within (static_value v inst c.value) (static_bounds v inst c.range)

-- with these values of the first constants of an instance
abbrev pub with_constants : ℕ → List (Option ℤ) → InstanceValues → InstanceValues
with_constants inst xs v =
    record v { constant = λ i k. if nat_eq i inst then unwrap_or (slice_get xs k) None else v.constant i k }

-- the values of constants in an instance, in order, behind those of the constants before them
abbrev pub constant_values : InstanceValues → ℕ → List (Option ℤ) → List GenericConstant → List (Option ℤ)
constant_values v inst xs [] = xs
constant_values v inst xs (c ∷ cs) =
    constant_values v inst (xs ++ value_of_constant (with_constants inst xs v) inst c ∷ []) cs

-- the constants of a generic, in order
abbrev pub constants_of : ℕ → List GenericConstant → List GenericConstant
constants_of g [] = []
constants_of g (c ∷ cs) = if nat_eq c.generic g then c ∷ constants_of g cs else constants_of g cs

-- the value that an instance has for a formal object, and the bounds that it has for a formal type
abbrev pub value_of_formal : Option FormalActual → Option ℤ
value_of_formal (Some (actual_object e x)) = in_base x
value_of_formal a = None

abbrev pub bounds_of_formal : Option FormalActual → Option Bounds
bounds_of_formal (Some (actual_type r b c)) = Some b
bounds_of_formal a = None

-- what the instances of a program have
abbrev pub values_of : Program → InstanceValues
values_of p = record {
  object = λ i k. value_of_formal (formal_of p i k);
  type = λ i k. bounds_of_formal (formal_of p i k);
  constant = constant_of p;
}
