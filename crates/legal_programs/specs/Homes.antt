-- Bodies of packages whose package is there, and how many instances units make.
use Rattle.std.specs.Prelude.{◌≡◌, ℕ, ◌+◌, true, false, List, [], ◌∷◌, Option, None, Some, Ok, slice_get, if◌then◌else◌}
use Rattle.cov_base.specs.Lists.{Everywhere}
use Rattle.ada_syntax.specs.declared.unit.LibraryItem.{LibraryItem}
use Rattle.ada_syntax.specs.declared.unit.LibraryItem.TheVariants as library
use Rattle.ada_syntax.specs.declared.unit.Unit.{Unit as LibraryUnit}
use Rattle.ada_rules.specs.Entities.{key, same_name}
use Rattle.ada_rules.specs.Environment.{BodyName}
use Rattle.ada_rules.specs.Library.{Library, is_instance, unit_named, is_declared_well, all_named_in_with, clause_names}

abbrev pub IsThere : {X : Type 0} → Option X → Type 0
IsThere None = ⊥
IsThere (Some x) = Unit {0}

abbrev pub HasHome : Library → LibraryItem → Type 0
HasHome l (library.PackageBody b) = IsThere (unit_named l.names (key b.name))
HasHome l i = Unit {0}

-- the instances that these units make
abbrev pub instances_in : Option LibraryUnit → ℕ
instances_in None = 0
instances_in (Some u) = if is_instance u.item then 1 else 0

abbrev pub instances_at : Library → List ℕ → ℕ
instances_at l [] = 0
instances_at l (n ∷ ns) = instances_in (slice_get l.units n) + instances_at l ns

-- units, numbered from n on, whose names are new, and whose `with` clauses name units of the library
abbrev pub AreHeaded : Library → ℕ → List LibraryUnit → Type 0
AreHeaded l n [] = Unit {0}
AreHeaded l n (u ∷ us) =
    ((is_declared_well l n u.item ≡ true) × ((all_named_in_with l n u (clause_names u.withs)).answer ≡ Ok tt))
    × AreHeaded l (n + 1) us

-- bodies with names of their own
abbrev pub IsOtherName : List ℕ → BodyName → Type 0
IsOtherName name b = same_name name b.name ≡ false

abbrev pub AreNamedApart : List BodyName → Type 0
AreNamedApart [] = Unit {0}
AreNamedApart (b ∷ bs) = Everywhere (IsOtherName b.name) bs × AreNamedApart bs
