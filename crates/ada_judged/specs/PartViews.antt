-- Parts of objects, whatever the numbers in them lead to.
use Rattle.std.specs.Prelude.{◌≡◌, ℕ, true, List, Option, Some, None, option_map, if◌then◌else◌}
use Rattle.ada_meaning.specs.Tree as tree
use Rattle.ada_entities.specs.ada_rules.specs.Denoted as rules
use Rattle.ada_entities.specs.ada_rules.specs.Types.{AdaSubtype, type_in, range_in, fits}
use Rattle.ada_entities.specs.ada_rules.specs.Entities as entities
use Rattle.ada_entities.specs.Views.{TypeTables}
use Rattle.ada_entities.specs.EntityViews.{Tables}
use Rattle.ada_judged.specs.declared.judged.Judged.{Judged}
use Rattle.ada_judged.specs.declared.judged.Variable.{Variable}
use Rattle.ada_judged.specs.JudgedView.{variable_of, judged_of}

abbrev pub as_denoted : Tables → Option Variable → Option rules.Denoted
as_denoted k o = option_map (λ v. rules.a_variable (variable_of k v)) o

abbrev pub IsComponent : TypeTables → List ℕ → (whole : Variable) → (part : Option Variable) → Type 0
IsComponent types name v o =
    (k : Tables) → k.types ≡ types → as_denoted k o ≡ rules.field_of name (variable_of k v) (type_in (variable_of k v).subtype)

-- an element of an array, where these are the subtypes of its index and of its components
abbrev pub element_by : entities.Variable → rules.Judged → Option (AdaSubtype × AdaSubtype) → Option rules.Denoted
element_by v e None = None
element_by v e (Some p) =
    if fits (type_in p.0) e.kind
    then Some (rules.a_variable (rules.part_of v p.1 true (tree.element (range_in p.0) (rules.expr_of e) tree.whole)))
    else None

abbrev pub IsElement : TypeTables → (index : Judged) → (whole : Variable) → (part : Option Variable) → Type 0
IsElement types e v o =
    (k : Tables) → k.types ≡ types
    → as_denoted k o ≡ rules.element_of (variable_of k v) (type_in (variable_of k v).subtype) (judged_of k e)
