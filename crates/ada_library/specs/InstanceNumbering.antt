-- The numbers of instances, counted in the order of the text.
use Rattle.std.specs.Prelude.{◌≡◌, ℕ, ◌+◌, List, [], ◌∷◌, slice_get, unwrap_or, if◌then◌else◌}
use Rattle.ada_syntax.specs.declared.unit.LibraryItem.{LibraryItem}
use Rattle.ada_syntax.specs.declared.unit.Unit.{Unit as LibraryUnit}
use Rattle.ada_rules.specs.Library.{is_instance, instance_number}
use Rattle.ada_library.specs.declared.instances.InstanceNumbers.{InstanceNumbers}

-- the number of the next instance behind a unit, and behind several
abbrev pub next_number : ℕ → LibraryItem → ℕ
next_number n i = if is_instance i then n + 1 else n

abbrev pub next_behind : ℕ → List LibraryUnit → ℕ
next_behind n [] = n
next_behind n (u ∷ us) = next_behind (next_number n u.item) us

-- for each unit the number of the next instance
abbrev pub numbers_from : ℕ → List LibraryUnit → List ℕ
numbers_from n [] = []
numbers_from n (u ∷ us) = n ∷ numbers_from (next_number n u.item) us

-- by a list of numbers, or behind all units
abbrev pub number_at : List ℕ → ℕ → ℕ → ℕ
number_at numbers next n = unwrap_or (slice_get numbers n) next

abbrev pub AreInstances : List LibraryUnit → InstanceNumbers → Type 0
AreInstances units x = (n : ℕ) → number_at x.numbers.items x.next n ≡ instance_number n units
