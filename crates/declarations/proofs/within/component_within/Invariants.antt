-- What is left of the `others` stands round the component so far.
use Rattle.std.proofs.Common.{◌≡◌, ◌≤◌, drop, length, option_map}
use Rattle.ada_tree.specs.Programs.{in_others}
use Rattle.ada_rules.specs.Expressions.{Valued}
use Rattle.ada_rules.specs.Declarations.{innermost, initial_for}
use Rattle.ada_entities.specs.Views.{subtype_of}
use Rattle.ada_entities.specs.EntityViews.{Tables}
use Rattle.program_walk.specs.SymbolViews.{Begins, IsKnown}
use Rattle.declarations.proofs.within.component_within.Given as goal

abbrev pub invariant-loop : goal.invariant-loop
invariant-loop l = record {
  count : l.index ≤ length l.fn.others;
  subtype : IsKnown l.fn.symbols → (k : Tables) → Begins l.fn.symbols k
      → innermost (subtype_of k.types l.fn.subtype) l.fn.others ≡ innermost (subtype_of k.types l.component) (drop l.index l.fn.others);
  initial : IsKnown l.fn.symbols → (k : Tables) → Begins l.fn.symbols k → (e : Valued)
      → initial_for (subtype_of k.types l.fn.subtype) l.fn.others e
      ≡ option_map (in_others l.index) (initial_for (subtype_of k.types l.component) (drop l.index l.fn.others) e);
}
