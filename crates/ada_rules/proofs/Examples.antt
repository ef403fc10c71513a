-- Worked values of single rules.
use Rattle.std.proofs.Common.{◌≡◌, ℕ, pos, true, false, [], ◌∷◌, codes, Some, None, refl}
use Rattle.ada_meaning.specs.Program.{Bounds}
use Rattle.ada_meaning.specs.Types.{of_instance, addition, division, static_number, static_operation}
use Rattle.ada_rules.specs.Types.{declared_in, enumeration, same_type, boolean_type, integer_type, integer, universal, kind_of, common}
use Rattle.ada_meaning.specs.Statics.{computed}
use Rattle.ada_rules.specs.Statics.{value_in, named_once}
use Rattle.ada_rules.specs.Environment.{package_interface, generic_interface}
use Rattle.ada_rules.specs.Denoted.{converts}
use Rattle.ada_rules.specs.Expressions.{part_of_generic, part_of_interface}
use Rattle.ada_rules.specs.Entities.{component, whole_standard}
use Rattle.ada_rules.specs.Library.{dependency_order, library_of}
use Rattle.ada_rules.specs.Units.{world_before}

abbrev from_to : ℕ → ℕ → Bounds
from_to low high = record { low = pos low; high = pos high }

-- 0 .. 2 named by 0 and 1 .. 2
each_once : named_once [] false (pos 0) (pos 2) (from_to 0 0 ∷ from_to 1 2 ∷ []) ≡ true
each_once = refl

one_twice : named_once [] false (pos 0) (pos 2) (from_to 0 1 ∷ from_to 1 2 ∷ []) ≡ false
one_twice = refl

one_left_out : named_once [] false (pos 0) (pos 2) (from_to 0 0 ∷ from_to 2 2 ∷ []) ≡ false
one_left_out = refl

left_to_others : named_once [] true (pos 0) (pos 2) (from_to 0 0 ∷ from_to 2 2 ∷ []) ≡ true
left_to_others = refl

-- a static operation without a result, and one whose result leaves the base range
no_divisor : computed division (pos 1) (pos 0) ≡ None
no_divisor = refl

too_great : value_in [] 0 (static_operation addition (static_number (pos 2147483647)) (static_number (pos 1))) ≡ None
too_great = refl

-- types of two instances of one generic differ
two_instances : same_type (enumeration (declared_in (of_instance 1) 0 0) 2) (enumeration (declared_in (of_instance 2) 0 0) 2) ≡ false
two_instances = refl

-- a numeral fits no enumeration, and Boolean is not converted to Integer
no_number : common universal (kind_of boolean_type) ≡ None
no_number = refl

no_conversion : converts (integer_type integer) (kind_of boolean_type) ≡ false
no_conversion = refl

-- units on a cycle have no place in the order in which they depend on each other
a_cycle : dependency_order ((1 ∷ []) ∷ (0 ∷ []) ∷ [] ∷ []) (0 ∷ 1 ∷ 2 ∷ []) ≡ 2 ∷ []
a_cycle = refl

in_order : dependency_order ((2 ∷ []) ∷ (0 ∷ []) ∷ [] ∷ []) (0 ∷ 1 ∷ 2 ∷ []) ≡ 2 ∷ 0 ∷ 1 ∷ []
in_order = refl

-- a generic is no package from outside
no_part : part_of_interface (world_before (library_of whole_standard [])) (codes "x") (generic_interface [] ((codes "x", component) ∷ [])) ≡ None
no_part = refl

a_part : part_of_interface (world_before (library_of whole_standard [])) (codes "x") (package_interface ((codes "x", component) ∷ [])) ≡ Some component
a_part = refl

-- a formal is no part of an instance
no_formal : part_of_generic 1 [] (codes "x") (generic_interface ((codes "x", component) ∷ []) ((codes "x", component) ∷ [])) ≡ None
no_formal = refl
