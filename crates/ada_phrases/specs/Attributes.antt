-- Attributes, as the checker finds them.
use Rattle.std.specs.Prelude.{◌≡◌, ℕ, List, Option, Some, None, option_map}
use Rattle.ada_meaning.specs.Tree as tree
use Rattle.ada_meaning.specs.Types.{Static}
use Rattle.ada_tree.specs.View.{static_of, scalar_range_of}
use Rattle.ada_rules.specs.Types.{AdaSubtype, Kind}
use Rattle.ada_rules.specs.Entities as entities
use Rattle.ada_rules.specs.Denoted as rules
use Rattle.ada_entities.specs.declared.types.Subtype.{Subtype}
use Rattle.ada_entities.specs.Views.{TypeTables, type_of}
use Rattle.ada_entities.specs.EntityViews.{Tables}
use Rattle.ada_judged.specs.Views.{kind_of}
use Rattle.ada_phrases.specs.declared.attributes.Attribute.{Attribute}
use Rattle.ada_phrases.specs.declared.names.Denoted.{Denoted}
use Rattle.ada_phrases.specs.DenotedView.{denotes}

abbrev pub value_and_kind : TypeTables → Attribute → Static × Kind
value_and_kind k a = (static_of a.value, kind_of k a.kind)

-- of an array, where these are the subtypes of its index and of its components
abbrev pub extent_in : List ℕ → Option (AdaSubtype × AdaSubtype) → Option (Static × Kind)
extent_in name None = None
extent_in name (Some p) = rules.extent_of name p.0

-- of an object in whose name an index stands
abbrev pub indexed_attribute : entities.Variable → Static × Kind → rules.Denoted
indexed_attribute v a = rules.a_value (rules.valued (tree.attribute v.object v.parts a.0) a.1 None None)

abbrev pub IsAttributeOfType : TypeTables → List ℕ → Subtype → Option Attribute → Type 0
IsAttributeOfType k name t o =
    option_map (value_and_kind k) o ≡ rules.attribute_of_type name (type_of k t.of) (scalar_range_of t.range)

abbrev pub IsAttribute : TypeTables → List ℕ → (prefix : Denoted) → Option Denoted → Type 0
IsAttribute types name d o =
    (k : Tables) → k.types ≡ types → option_map (denotes k) o ≡ rules.attribute_of name (denotes k d)
