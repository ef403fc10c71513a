-- What the typed program and the demands know of actuals, whatever tables begin with what is there.
use Rattle.std.specs.Prelude.{◌≡◌, ℕ, List, Option}
use Rattle.cov_base.specs.declared.position.Pos.{Pos}
use Rattle.ada_syntax.specs.declared.name.Identifier.{Identifier}
use Rattle.ada_syntax.specs.declared.unit.Instance.{Instance as SourceInstance}
use Rattle.ada_tree.specs.declared.program.Instance.{Instance}
use Rattle.ada_tree.specs.Programs.{instance_of}
use Rattle.ada_rules.specs.Environment.{World}
use Rattle.ada_rules.specs.Instances as rules
use Rattle.ada_demands.specs.declared.facts.Facts.{Facts}
use Rattle.ada_demands.specs.FactViews.{facts_of}
use Rattle.ada_demands.specs.SpanViews.{listed}
use Rattle.ada_demands.specs.SpanViews as spans
use Rattle.ada_entities.specs.EntityViews.{Tables}
use Rattle.program_walk.specs.declared.symbols.Symbols.{Symbols}
use Rattle.program_walk.specs.Sites.{HoldsUnits}
use Rattle.program_walk.specs.SymbolViews.{Begins, IsKnown}
use Rattle.specifications.specs.declared.actual.InstanceActual.{InstanceActual}
use Rattle.specifications.specs.declared.facts.Lookup.{Lookup}
use Rattle.specifications.specs.Actuals.{actuals_of}

-- what holds in each table that begins with what is declared and with the values that are listed
abbrev pub Finds : Lookup → (Tables → Type 0) → Type 0
Finds lookup P =
    IsKnown lookup.symbols.now → (k : Tables) → Begins lookup.symbols.now k → spans.Begins (listed lookup.spans.now) k
    → P k

abbrev pub IsUnitOf : Symbols → Option ℕ → ℕ → Type 0
IsUnitOf symbols g n = (k : Tables) (w : World) → HoldsUnits symbols k w → n ≡ rules.generic_unit w g

-- a world that has this, with the tables of its numbers
pub record LooksIn (lookup : Lookup) (k : Tables) (w : World) : Type 0 where
  pub units : HoldsUnits lookup.symbols.now k w
  pub spans : spans.Begins (listed lookup.spans.now) k
  pub instances : w.instances ≡ lookup.instances.now

abbrev pub AreMade : Lookup → Option ℕ → List InstanceActual → Facts → Type 0
AreMade lookup g xs facts =
    (k : Tables) (w : World) → LooksIn lookup k w → facts_of facts ≡ rules.facts_made w g (actuals_of k xs)

abbrev pub IsMade : Lookup → Pos → Identifier → Option ℕ → List InstanceActual → Instance → Type 0
IsMade lookup p name g xs made =
    (k : Tables) (w : World) (i : SourceInstance) → LooksIn lookup k w → i.name ≡ name
    → instance_of made ≡ rules.instance_made w p i g (actuals_of k xs)
