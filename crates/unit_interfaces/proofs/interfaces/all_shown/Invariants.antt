-- What is left of the units comes to what all of them come to, where the walk stands.
use Rattle.std.proofs.Common.{◌≡◌, List, drop}
use Rattle.ada_syntax.specs.declared.unit.Unit.{Unit as LibraryUnit}
use Rattle.ada_rules.specs.Environment.{World}
use Rattle.ada_rules.specs.Library.{Library as RulesLibrary}
use Rattle.ada_entities.specs.EntityViews.{Tables}
use Rattle.ada_phrases.specs.Scopes.{step_of}
use Rattle.program_walk.specs.States.{state_of}
use Rattle.program_walk.specs.Walks.{Begins}
use Rattle.program_walk.specs.Standing.{StandsBefore}
use Rattle.unit_walk.specs.Interfaces.{IsIdle}
use Rattle.unit_walk.specs.Walked.{GoesBehind}
use Rattle.unit_interfaces.proofs.InterfaceLaws.{Reached}
use Rattle.unit_interfaces.proofs.interfaces.all_shown.Given as goal

abbrev pub invariant-loop-number : goal.invariant-loop-number
invariant-loop-number l = record {
  rest : (all : List LibraryUnit) (r : RulesLibrary) → IsIdle l.fn.library all r l.fn.walk → l.fn.units ≡ r.units → (k : Tables) (world : World)
      → StandsBefore l.fn.library l.fn.instances l.fn.walk k world → Begins l.walk k
      → Reached (step_of l.fn.step) l.fn.library r l.instances l.walk k (record { world = world; next = state_of k l.fn.walk })
      l.number-items (drop l.number-index l.number-items);
  goes : (all : List LibraryUnit) (r : RulesLibrary) → IsIdle l.fn.library all r l.fn.walk → GoesBehind l.fn.walk l.walk;
}
