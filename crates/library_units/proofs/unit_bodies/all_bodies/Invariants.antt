-- What is left of the units comes to what all of them come to, where the walk stands.
use Rattle.std.proofs.Common.{◌≡◌, List, drop}
use Rattle.ada_syntax.specs.declared.unit.Unit.{Unit as LibraryUnit}
use Rattle.ada_rules.specs.Environment.{World}
use Rattle.ada_rules.specs.Library.{Library as RulesLibrary}
use Rattle.ada_rules.specs.Units.{all_bodies_judged}
use Rattle.ada_entities.specs.EntityViews.{Tables}
use Rattle.ada_phrases.specs.Scopes.{step_of}
use Rattle.program_walk.specs.States.{state_of}
use Rattle.program_walk.specs.Walks.{Begins}
use Rattle.program_walk.specs.Standing.{StandsBefore}
use Rattle.unit_interfaces.specs.unit_walk.specs.Bodies.{GoesByBodies}
use Rattle.unit_interfaces.specs.unit_walk.specs.Interfaces.{IsIdle}
use Rattle.library_units.proofs.unit_bodies.all_bodies.Given as goal

abbrev pub invariant-loop-index : goal.invariant-loop-index
invariant-loop-index l = record {
  rest : (all : List LibraryUnit) (r : RulesLibrary) → IsIdle l.fn.library all r l.fn.walk → l.fn.units ≡ r.units → (k : Tables) (world : World)
      → StandsBefore l.fn.library l.fn.instances l.fn.walk k world → Begins l.walk k
      → (all_bodies_judged (step_of l.fn.step) r world (state_of k l.fn.walk) 0 l.fn.units).answer
      ≡ (all_bodies_judged (step_of l.fn.step) r world (state_of k l.walk) l.index (drop l.index l.fn.units)).answer;
  goes : (all : List LibraryUnit) (r : RulesLibrary) → IsIdle l.fn.library all r l.fn.walk → l.fn.units ≡ r.units → GoesByBodies l.fn.walk l.walk;
}
