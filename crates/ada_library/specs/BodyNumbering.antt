-- The numbers of bodies: their places among all.
use Rattle.std.specs.Prelude.{◌≡◌, ℕ, List, ◌++◌, Option}
use Rattle.std.specs.Map.{lookup}
use Rattle.std.specs.Option.{option_or}
use Rattle.ada_syntax.specs.declared.name.Identifier.{Identifier}
use Rattle.ada_rules.specs.Entities.{key}
use Rattle.ada_rules.specs.Environment.{BodyName}
use Rattle.ada_rules.specs.Subprograms.{is_body, place_among}
use Rattle.ada_library.specs.BodyTable.{BodyTable}

abbrev pub body_named : (package_name name : Identifier) → BodyName
body_named p i = record { package_name = key p; name = key i }

-- the number of a body by a table, and where it has none there by its place among those behind
abbrev pub number_in : BodyTable → List BodyName → (unit name : List ℕ) → Option ℕ
number_in t behind unit name = option_or (lookup (is_body unit name) t.numbers) (place_among unit name t.count behind)

-- a table takes over these bodies, which stand first among those behind it
abbrev pub AddsBodies : (old : BodyTable) → List BodyName → (new : BodyTable) → Type 0
AddsBodies old bodies new =
    (behind : List BodyName) (unit name : List ℕ) → number_in new behind unit name ≡ number_in old (bodies ++ behind) unit name

-- a table of all of these bodies
abbrev pub AreBodies : List BodyName → BodyTable → Type 0
AreBodies bodies t = (unit name : List ℕ) → lookup (is_body unit name) t.numbers ≡ place_among unit name 0 bodies
