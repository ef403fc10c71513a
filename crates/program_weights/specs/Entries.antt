-- What the limits ask of the units, by the world that the rules come to (Ada RM 2012, 12.3).
use Rattle.std.specs.Prelude.{ℕ, ◌+◌, List, [], ◌∷◌, Option, Some, None}
use Rattle.std.specs.Option.{option_and_then}
use Rattle.ada_syntax.specs.Nodes.{capped, unit_nodes}
use Rattle.ada_syntax.specs.declared.unit.LibraryItem.{LibraryItem}
use Rattle.ada_syntax.specs.declared.unit.LibraryItem.TheVariants as item
use Rattle.ada_syntax.specs.declared.unit.PackageBody.{PackageBody}
use Rattle.ada_syntax.specs.declared.unit.Unit.{Unit as LibraryUnit}
use Rattle.ada_tree.specs.declared.program.UnitEntry.{UnitEntry}
use Rattle.ada_tree.specs.declared.program.UnitRole.{UnitRole}
use Rattle.ada_tree.specs.declared.program.UnitRole.TheVariants.{Once, OfGeneric, InstanceOf}
use Rattle.ada_rules.specs.Entities.{key}
use Rattle.ada_rules.specs.Environment as rules
use Rattle.ada_rules.specs.Environment.{World, generic_interface, instance_interface, interface_of}
use Rattle.ada_rules.specs.Library.{Library as RulesLibrary, unit_named}
use Rattle.ada_rules.specs.Units.{is_generic_interface}

-- The text of a generic counts in each of its instances, and an instance counts with the text of its generic; all else
-- counts once.
abbrev pub text_role : Option ℕ → UnitRole
text_role None = Once
text_role (Some g) = OfGeneric g

abbrev pub instance_role : Option ℕ → UnitRole
instance_role None = Once
instance_role (Some g) = InstanceOf g

abbrev pub role_by : ℕ → rules.Interface → UnitRole
role_by n (generic_interface formals region) = OfGeneric n
role_by n (instance_interface g number actuals) = instance_role g
role_by n i = Once

-- a body of a package belongs to the text of the package with its name
abbrev pub body_role : World → RulesLibrary → PackageBody → UnitRole
body_role w l b =
    text_role
    (option_and_then (λ n. is_generic_interface (interface_of w n) n) (unit_named l.names (key b.name)))

abbrev pub role_of : World → RulesLibrary → ℕ → LibraryItem → UnitRole
role_of w l n (item.PackageBody b) = body_role w l b
role_of w l n i = role_by n (interface_of w n)

abbrev pub entry_of : World → RulesLibrary → ℕ → LibraryUnit → UnitEntry
entry_of w l n u = record { pos = u.pos; nodes = capped (unit_nodes u); role = role_of w l n u.item }

abbrev pub entries_from : World → RulesLibrary → ℕ → List LibraryUnit → List UnitEntry
entries_from w l n [] = []
entries_from w l n (u ∷ us) = entry_of w l n u ∷ entries_from w l (n + 1) us

abbrev pub entries_of : World → RulesLibrary → List UnitEntry
entries_of w l = entries_from w l 0 l.units
