-- Ranges in one instance, or alike in all.
use Rattle.std.specs.Prelude.{◌≡◌, ⊤, ℕ, Bool, true, false, List, Option, IfSome}
use Rattle.ada_tree.specs.declared.types.Owner.{Owner}
use Rattle.ada_tree.specs.declared.types.Owner.TheVariants as owner
use Rattle.ada_tree.specs.declared.types.ScalarRange.{ScalarRange}
use Rattle.ada_tree.specs.declared.types.ScalarRange.TheVariants as range
use Rattle.ada_tree.specs.View.{scalar_range_of}
use Rattle.ada_rules.specs.Limits.{length_of}
use Rattle.ada_rules.specs.Statics.{Facts, bounds_in}
use Rattle.word_limits.specs.declared.ranges.Scope.{Scope}
use Rattle.word_limits.specs.declared.ranges.Scope.TheVariants as scope

-- an instance in which something is looked at
abbrev pub IsAt : Scope → ℕ → Type 0
IsAt scope.Everywhere i = ⊤
IsAt (scope.Instance n) i = n ≡ i

abbrev pub owned : Scope → Owner → Scope
owned s owner.Here = s
owned s (owner.Instance n) = scope.Instance n

abbrev pub is_instance : Owner → Bool
is_instance owner.Here = false
is_instance (owner.Instance n) = true

abbrev pub is_fixed : ScalarRange → Bool
is_fixed (range.Known r) = true
is_fixed (range.Between o a b) = is_instance o
is_fixed (range.Formal o k) = is_instance o

-- in this instance a range has the bounds that it has there
abbrev pub IsSeenFrom : Scope → ScalarRange → Option ℕ → Type 0
IsSeenFrom s r o =
    IfSome o (λ n. (is : List Facts) (i : ℕ) → IsAt s i
    → bounds_in is n (scalar_range_of r) ≡ bounds_in is i (scalar_range_of r))

-- a range has so many values there
abbrev pub HasLength : List Facts → Scope → ScalarRange → Option ℕ → Type 0
HasLength is s r o = IfSome o (λ n. (i : ℕ) → IsAt s i → n ≡ length_of (bounds_in is i (scalar_range_of r)))
