-- The typed program of a walk that came to its end.
use Rattle.std.specs.Prelude.{◌≡◌, ℕ, List, [], map, Option}
use Rattle.cov_base.specs.TextOrder.{precedes}
use Rattle.ada_meaning.specs.Obligations.{in_order}
use Rattle.ada_meaning.specs.Program as meaning
use Rattle.ada_tree.specs.declared.program.Program.{Program}
use Rattle.ada_tree.specs.Programs as tree
use Rattle.ada_rules.specs.Environment.{World}
use Rattle.ada_rules.specs.Legal as rules
use Rattle.ada_rules.specs.Legal.{listed, with_values}
use Rattle.ada_rules.specs.Statics.{Facts}
use Rattle.ada_entities.specs.EntityViews.{Tables}
use Rattle.ada_entities.specs.TypeTable.{tables}
use Rattle.ada_library.specs.declared.library.Library.{Library}
use Rattle.ada_entities.specs.Trees.{shapes_in_tree, AreIn}
use Rattle.program_walk.specs.declared.found.Found.{Found}
use Rattle.program_walk.specs.declared.walk.Walk.{Walk}
use Rattle.program_walk.specs.States.{state_of}
use Rattle.program_walk.specs.Walks.{HasLibrary}
use Rattle.typed_program.specs.declared.program.Outline.{Outline}

-- The program of what was found, with instances that have this.
abbrev pub assembled : Outline → List Facts → Found → meaning.Program
assembled o facts f =
    listed (record {
      subprograms = map (tree.subprogram_of (tree.types_of o.types)) f.subprograms.items;
      main = o.main;
      objects = map (tree.library_object_of (tree.types_of o.types)) f.objects.items;
      constants = map tree.constant_of o.constants.items;
      instances = with_values (in_order (λ a b. precedes a.place b.place) (map tree.instance_of f.instances.items)) facts;
      declared = map tree.exception_declaration_of f.exceptions.items;
      exceptions = [];
    })

-- Its composite types are those of the walk, by their numbers, and stand in the texts of these generics.
pub record HasTypes (generics : List (Option ℕ)) (w : Walk) (p : Program) : Type 0 where
  pub types : tree.types_of p.types ≡ shapes_in_tree (tables w.symbols.types)
  pub texts : AreIn generics 0 p.types

-- It is that of the rules, in a world with this library and with instances that have this, where the tables keep the
-- composite types of the walk and no more.
abbrev pub IsProgramOf : Library → List Facts → Walk → (main : List ℕ) → Program → Type 0
IsProgramOf library facts w main p =
    (k : Tables) (world : World) → k.types ≡ tables w.symbols.types → HasLibrary library world → world.instances ≡ facts
    → tree.program_of p ≡ rules.program_of world (state_of k w) main
