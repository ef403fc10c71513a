-- A worked program: procedure Main is begin null; end Main;
use Rattle.std.specs.Prelude.{ℕ, List, [], ◌∷◌, codes, None}
use Rattle.cov_base.specs.declared.position.Pos.{Pos}
use Rattle.ada_syntax.specs.StatementTree as text
use Rattle.ada_syntax.specs.declared.unit.LibraryItem.TheVariants as library
use Rattle.ada_syntax.specs.declared.unit.Specification.{Specification}
use Rattle.ada_syntax.specs.declared.unit.SubprogramBody.{SubprogramBody}
use Rattle.ada_syntax.specs.declared.unit.Unit.{Unit as LibraryUnit}
use Rattle.ada_meaning.specs.Program.{Subprogram, Program}
use Rattle.ada_meaning.specs.Tree as tree

abbrev pub at : (line column : ℕ) → Pos
at line column = record { file = 0; line = line; col = column }

abbrev pub worked_specification : Specification
worked_specification =
    record { pos = at 1 1; name = record { pos = at 1 11; text = codes "Main" }; parameters = []; result_mark = None }

abbrev pub worked_body : SubprogramBody
worked_body = record {
  specification = worked_specification;
  declarations = [];
  statements = text.handled (text.then_also (text.null (at 1 25)) text.no_statements) text.no_handlers;
  end_name = None;
}

abbrev pub worked_units : List LibraryUnit
worked_units = record { pos = at 1 1; withs = []; item_pos = at 1 1; item = library.Subprogram worked_body } ∷ []

abbrev pub worked_statements : tree.Stmts
worked_statements =
    tree.and_statement (tree.null_statement (record { number = 0; place = at 1 25 })) tree.no_statement

abbrev pub worked_subprogram : Subprogram
worked_subprogram =
    record { generic = None; parameters = []; objects = []; body = tree.block [] worked_statements tree.no_handler }

abbrev pub worked_program : Program
worked_program = record {
  subprograms = worked_subprogram ∷ [];
  main = 0;
  objects = [];
  constants = [];
  instances = [];
  declared = [];
  exceptions = [];
}
