-- What was reached by as many steps as there were turns is marked.
use Rattle.std.proofs.Common.{[], ◌∷◌}
use Rattle.ada_rules.specs.Library.{reached}
use Rattle.ada_library.specs.Marking.{AreMarked, IsSearched}
use Rattle.ada_library.proofs.search.reached.Given as goal

abbrev pub invariant-loop : goal.invariant-loop
invariant-loop l = record {
  marked : AreMarked (reached l.graph l.index (l.from ∷ [])) l.marks;
  searched : IsSearched l.graph (reached l.graph l.index (l.from ∷ [])) l.latest.items;
}
