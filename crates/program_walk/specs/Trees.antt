-- Subtypes as the typed program has them, whatever tables begin with what is there.
use Rattle.std.specs.Prelude.{◌≡◌}
use Rattle.ada_tree.specs.declared.types.Subtype.{Subtype as TreeSubtype}
use Rattle.ada_rules.specs.Types.{subtype_in_tree}
use Rattle.ada_entities.specs.declared.types.Subtype.{Subtype}
use Rattle.ada_entities.specs.Views.{subtype_of}
use Rattle.ada_entities.specs.EntityViews.{Tables}
use Rattle.program_walk.specs.declared.symbols.Symbols.{Symbols}
use Rattle.program_walk.specs.SymbolViews.{Begins, IsKnown}
use Rattle.program_walk.specs.States.{subtype_there}

abbrev pub IsTree : Tables → Subtype → TreeSubtype → Type 0
IsTree k t x = subtype_there k x ≡ subtype_in_tree (subtype_of k.types t)

abbrev pub IsTreeOf : Symbols → Subtype → TreeSubtype → Type 0
IsTreeOf symbols t x = IsKnown symbols → (k : Tables) → Begins symbols k → IsTree k t x
