-- How far in `(others => ..)` goes, as the checker finds it.
use Rattle.std.specs.Prelude.{◌≡◌, List, [], Option, Some, None, option_map}
use Rattle.cov_base.specs.declared.position.Pos.{Pos}
use Rattle.ada_meaning.specs.Tree as tree
use Rattle.ada_tree.specs.declared.statement.Indices.{Indices}
use Rattle.ada_tree.specs.declared.types.ScalarRange.{ScalarRange}
use Rattle.ada_tree.specs.View.{others_of}
use Rattle.ada_rules.specs.Denoted as rules
use Rattle.ada_rules.specs.Declarations.{value_for}
use Rattle.ada_entities.specs.declared.types.Subtype.{Subtype}
use Rattle.ada_entities.specs.Views.{TypeTables, subtype_of}
use Rattle.ada_entities.specs.EntityViews.{Tables}
use Rattle.program_walk.specs.declared.symbols.Symbols.{Symbols}
use Rattle.program_walk.specs.SymbolViews.{Begins, IsKnown}
use Rattle.object_values.specs.Values.{in_indices}
use Rattle.ada_entities.specs.Trees.{IsSubtypeThere}
use Rattle.object_values.specs.declared.reach.Placement.{Placement}
use Rattle.object_values.specs.declared.reach.Reach.{Reach}

-- what the component within is set to, round which the indices stand
abbrev pub reached_value : TypeTables → rules.Judged → Option Reach → Option tree.NewValue
reached_value k e None = None
reached_value k e (Some r) = option_map (others_of r.indices.items) (value_for (subtype_of k r.component) [] e)

abbrev pub IsReached : Symbols → Subtype → List Pos → Option Reach → Type 0
IsReached symbols t others o =
    IsKnown symbols → (k : Tables) → Begins symbols k → (e : rules.Judged)
    → value_for (subtype_of k.types t) others e ≡ reached_value k.types e o

abbrev pub AreIndices : List ScalarRange → Option Indices → Type 0
AreIndices rs o = (v : tree.NewValue) → others_of rs v ≡ in_indices o v

-- what the component within is set to, with the indices as a value has them
abbrev pub placed_value : TypeTables → rules.Judged → Option Placement → Option tree.NewValue
placed_value k e None = None
placed_value k e (Some p) = option_map (in_indices p.indices) (value_for (subtype_of k p.component) [] e)

-- the component's type is in the table
abbrev pub IsPlaceThere : TypeTables → Option Placement → Type 0
IsPlaceThere k None = Unit {0}
IsPlaceThere k (Some p) = IsSubtypeThere k p.component

abbrev pub IsPlacing : Symbols → Subtype → List Pos → Option Placement → Type 0
IsPlacing symbols t others o =
    IsKnown symbols → (k : Tables) → Begins symbols k
    → ((e : rules.Judged) → value_for (subtype_of k.types t) others e ≡ placed_value k.types e o) × IsPlaceThere k.types o
