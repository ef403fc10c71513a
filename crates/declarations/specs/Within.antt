-- How far in `(others => ..)` goes of an object of the library level, as the checker finds it.
use Rattle.std.specs.Prelude.{◌≡◌, ℕ, List, length, Option, Some, None, option_map, if◌then◌else◌}
use Rattle.cov_base.specs.declared.position.Pos.{Pos}
use Rattle.ada_meaning.specs.Program as program
use Rattle.ada_tree.specs.Programs.{in_others}
use Rattle.ada_rules.specs.Types.{AdaSubtype, type_in, fits}
use Rattle.ada_rules.specs.Expressions.{Valued}
use Rattle.ada_rules.specs.Declarations.{innermost, initial_for}
use Rattle.ada_entities.specs.declared.types.Subtype.{Subtype}
use Rattle.ada_entities.specs.Views.{TypeTables, subtype_of}
use Rattle.ada_entities.specs.EntityViews.{Tables}
use Rattle.program_walk.specs.declared.symbols.Symbols.{Symbols}
use Rattle.program_walk.specs.SymbolViews.{Begins, IsKnown}
use Rattle.declarations.specs.declared.within.Within.{Within}
use Rattle.declarations.specs.declared.within.Within.TheVariants as within

abbrev pub subtype_within : Within → Subtype
subtype_within (within.Component t) = t
subtype_within (within.NoArray t) = t

-- a static value, where it fits
abbrev pub fitting_value : AdaSubtype → Valued → Option program.Initial
fitting_value t e = if fits (type_in t) e.kind then Some (program.static_initial e.value) else None

-- in so many `others`
abbrev pub initial_within : TypeTables → ℕ → Valued → Within → Option program.Initial
initial_within k n e (within.Component t) = option_map (in_others n) (fitting_value (subtype_of k t) e)
initial_within k n e (within.NoArray t) = None

-- what stands in the `others` at these places, in an object of this subtype
pub record StandsWithin (k : TypeTables) (t : AdaSubtype) (others : List Pos) (w : Within) : Type 0 where
  pub subtype : innermost t others ≡ subtype_of k (subtype_within w)
  pub initial : (e : Valued) → initial_for t others e ≡ initial_within k (length others) e w

abbrev pub IsWithin : Symbols → Subtype → List Pos → Within → Type 0
IsWithin symbols t others w =
    IsKnown symbols → (k : Tables) → Begins symbols k → StandsWithin k.types (subtype_of k.types t) others w
