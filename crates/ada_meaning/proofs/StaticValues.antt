-- Where a static expression has a value, it is the exact one.
use Rattle.std.proofs.Common.{◌≡◌, ℕ, ℤ, pos, Bool, true, false, ◌&&◌, int_eq, Option, Some, None, IfSome, option_map, refl, ap, ◌∙◌}
use Rattle.std.specs.Prelude.{unwrap_or, if◌then◌else◌}
use Rattle.std.specs.Option.{option_and_then}
use Rattle.ada_meaning.specs.Types.{Operator, Static, static_number, static_formal, static_constant, static_first, static_last, static_length, static_sign, static_operation, static_of, Range, between, formal_range, range_of}
use Rattle.ada_meaning.specs.Program.{Bounds, FormalActual, actual_object, actual_type, actual_subprogram, Program}
use Rattle.ada_meaning.specs.Arithmetic.{is_within, base_range, count_between, sign_of, exact, divides}
use Rattle.ada_meaning.specs.Resolved.{formal_of, formal_number, formal_bounds, constant_of, number_in, bounds_in}
use Rattle.ada_meaning.specs.Statics.{in_base, computed, static_value, static_bounds, value_of_formal, bounds_of_formal, values_of}

-- steps from an option
if_then : {X Y : Type 0} (P : X → Type 0) (Q : Y → Type 0) (f : X → Option Y) (o : Option X) → IfSome o P → ((x : X) → P x → IfSome (f x) Q) → IfSome (option_and_then f o) Q
if_then P Q f None h k = tt
if_then P Q f (Some x) h k = k x h

if_map : {X Y : Type 0} (P : X → Type 0) (Q : Y → Type 0) (f : X → Y) (o : Option X) → IfSome o P → ((x : X) → P x → Q (f x)) → IfSome (option_map f o) Q
if_map P Q f None h k = tt
if_map P Q f (Some x) h k = k x h

if_so : {X : Type 0} (P : X → Type 0) (b : Bool) (o : Option X) → IfSome o P → IfSome (if b then o else None) P
if_so P true o h = h
if_so P false o h = tt

unless : {X : Type 0} (P : X → Type 0) (b : Bool) (o : Option X) → IfSome o P → IfSome (if b then None else o) P
unless P true o h = tt
unless P false o h = h

in_base_of : (x y : ℤ) → x ≡ y → IfSome (in_base y) (λ z. x ≡ z)
in_base_of x y h = if_so (λ z. x ≡ z) (is_within base_range y) (Some y) h

in_base_exact : (x : ℤ) → IfSome (in_base x) (λ y. x ≡ y)
in_base_exact x = in_base_of x x refl

computed_of : (o : Operator) (x y z : ℤ) → z ≡ exact o x y → IfSome (computed o x y) (λ w. z ≡ w)
computed_of o x y z h =
    unless (λ w. z ≡ w) (divides o && int_eq y (pos 0)) (in_base (exact o x y)) (in_base_of z (exact o x y) h)

formal_exact : (a : Option FormalActual) → IfSome (value_of_formal a) (λ x. formal_number a ≡ x)
formal_exact None = tt
formal_exact (Some (actual_object e x)) = in_base_exact x
formal_exact (Some (actual_type r b c)) = tt
formal_exact (Some (actual_subprogram t)) = tt

type_exact : (a : Option FormalActual) → IfSome (bounds_of_formal a) (λ b. formal_bounds a ≡ b)
type_exact None = tt
type_exact (Some (actual_object e x)) = tt
type_exact (Some (actual_type r b c)) = refl
type_exact (Some (actual_subprogram t)) = tt

constant_exact : (o : Option ℤ) → IfSome o (λ x. unwrap_or o (pos 0) ≡ x)
constant_exact None = tt
constant_exact (Some x) = refl

module _ (p : Program) where
  -- what is said of a value, and of bounds
  abbrev Is : ℕ → Static → ℤ → Type 0
  Is inst e x = number_in p inst e ≡ x

  abbrev Are : ℕ → Range → Bounds → Type 0
  Are inst r b = bounds_in p inst r ≡ b

  mutual
    pub value_exact : (inst : ℕ) (e : Static) → IfSome (static_value (values_of p) inst e) (Is inst e)
    value_exact inst (static_number x) = in_base_exact x
    value_exact inst (static_formal k) = formal_exact (formal_of p inst k)
    value_exact inst (static_constant k) = constant_exact (constant_of p inst k)
    value_exact inst (static_first r) =
        if_map (Are inst r) (Is inst (static_first r)) _ _ (bounds_exact inst r) (λ b h. ap (λ c. c.low) h)
    value_exact inst (static_last r) =
        if_map (Are inst r) (Is inst (static_last r)) _ _ (bounds_exact inst r) (λ b h. ap (λ c. c.high) h)
    value_exact inst (static_length r) =
        if_then (Are inst r) (Is inst (static_length r)) _ _ (bounds_exact inst r)
        (λ b h. in_base_of _ _ (ap (λ c. pos (count_between c.low c.high)) h))
    value_exact inst (static_sign s e) =
        if_then (Is inst e) (Is inst (static_sign s e)) _ _ (value_exact inst e) (λ x h. in_base_of _ _ (ap (sign_of s) h))
    value_exact inst (static_operation o e f) =
        if_then (Is inst e) (Is inst (static_operation o e f)) _ _ (value_exact inst e)
        (λ x h. if_then (Is inst f) (Is inst (static_operation o e f)) _ _ (value_exact inst f)
        (λ y k. computed_of o x y _ (ap (λ z. exact o z (number_in p inst f)) h ∙ ap (exact o x) k)))
    value_exact inst (static_of i e) = value_exact i e

    pub bounds_exact : (inst : ℕ) (r : Range) → IfSome (static_bounds (values_of p) inst r) (Are inst r)
    bounds_exact inst (between e f) =
        if_then (Is inst e) (Are inst (between e f)) _ _ (value_exact inst e)
        (λ x h. if_map (Is inst f) (Are inst (between e f)) _ _ (value_exact inst f) (λ y k. ap (λ z. record { low = z; high = number_in p inst f }) h ∙ ap (λ z. record { low = x; high = z }) k))
    bounds_exact inst (formal_range k) = type_exact (formal_of p inst k)
    bounds_exact inst (range_of i r) = bounds_exact i r
