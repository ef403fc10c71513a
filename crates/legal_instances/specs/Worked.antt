-- A worked program with an instance:
--
--   generic
--      type T is range <>;
--      N : T;
--   package G is
--      C : constant T := N;
--   end G;
--
--   with G;
--   package I is new G (Integer, 3);
--
--   procedure Main is begin null; end Main;
use Rattle.std.specs.Prelude.{ℕ, pos, List, [], ◌∷◌, codes, Some, None}
use Rattle.cov_base.specs.declared.position.Pos.{Pos}
use Rattle.ada_syntax.specs.StatementTree as text
use Rattle.ada_syntax.specs.Tree as source
use Rattle.ada_syntax.specs.declared.declaration.Constancy.TheVariants as constancy
use Rattle.ada_syntax.specs.declared.declaration.Declaration.{Declaration}
use Rattle.ada_syntax.specs.declared.declaration.DeclarationKind.TheVariants as declares
use Rattle.ada_syntax.specs.declared.name.Identifier.{Identifier}
use Rattle.ada_syntax.specs.declared.unit.Formal.{Formal}
use Rattle.ada_syntax.specs.declared.unit.FormalKind.TheVariants as formal
use Rattle.ada_syntax.specs.declared.unit.Instance.{Instance as SourceInstance}
use Rattle.ada_syntax.specs.declared.unit.LibraryItem.TheVariants as library
use Rattle.ada_syntax.specs.declared.unit.Mode.TheVariants as mode
use Rattle.ada_syntax.specs.declared.unit.PackageItem.TheVariants as part
use Rattle.ada_syntax.specs.declared.unit.PackageSpecification.{PackageSpecification}
use Rattle.ada_syntax.specs.declared.unit.SubprogramBody.{SubprogramBody}
use Rattle.ada_syntax.specs.declared.unit.Unit.{Unit as LibraryUnit}
use Rattle.ada_meaning.specs.Arithmetic.{base_range}
use Rattle.ada_meaning.specs.Program.{Subprogram, static_initial, actual_object, actual_type, Program}
use Rattle.ada_meaning.specs.Tree as tree
use Rattle.ada_meaning.specs.Types.{static_number, static_formal, formal_range, scalar}
use Rattle.ada_rules.specs.Types.{base}

abbrev pub at : (line column : ℕ) → Pos
at line column = record { file = 0; line = line; col = column }

abbrev pub called : Pos → List ℕ → Identifier
called p name = record { pos = p; text = name }

abbrev pub worked_formals : List Formal
worked_formals =
    record { pos = at 2 4; kind = formal.IntegerType (called (at 2 9) (codes "T")) }
    ∷ record { pos = at 3 4; kind = formal.Object (called (at 3 4) (codes "N")) mode.Default (source.simple (called (at 3 8) (codes "T"))) } ∷ []

abbrev pub worked_constant : Declaration
worked_constant = record {
  pos = at 5 4;
  kind = declares.Object (called (at 5 4) (codes "C") ∷ []) constancy.Constant
      (record { mark = source.simple (called (at 5 17) (codes "T")); constraint = None })
      (Some (record { others = []; value = source.named (at 5 22) (source.simple (called (at 5 22) (codes "N"))) }));
}

abbrev pub worked_generic : PackageSpecification
worked_generic = record {
  formals = Some worked_formals;
  name = called (at 4 9) (codes "G");
  items = part.Declaration worked_constant ∷ [];
  end_name = Some (called (at 6 5) (codes "G"));
}

abbrev pub worked_instance : SourceInstance
worked_instance = record {
  name = called (at 9 9) (codes "I");
  generic_name = called (at 9 18) (codes "G");
  actuals = source.named (at 9 21) (source.simple (called (at 9 21) (codes "Integer"))) ∷ source.numeral (at 9 30) 3 ∷ [];
}

abbrev pub worked_body : SubprogramBody
worked_body = record {
  specification = record { pos = at 11 1; name = called (at 11 11) (codes "Main"); parameters = []; result_mark = None };
  declarations = [];
  statements = text.handled (text.then_also (text.null (at 11 25)) text.no_statements) text.no_handlers;
  end_name = None;
}

abbrev pub worked_units : List LibraryUnit
worked_units =
    record { pos = at 1 1; withs = []; item_pos = at 1 1; item = library.Package worked_generic }
    ∷ record { pos = at 8 1; withs = record { names = called (at 8 6) (codes "G") ∷ [] } ∷ []; item_pos = at 9 1; item = library.Instance worked_instance }
    ∷ record { pos = at 11 1; withs = []; item_pos = at 11 1; item = library.Subprogram worked_body } ∷ []

abbrev pub worked_subprogram : Subprogram
worked_subprogram = record {
  generic = None;
  parameters = [];
  objects = [];
  body = tree.block [] (tree.and_statement (tree.null_statement (record { number = 0; place = at 11 25 })) tree.no_statement) tree.no_handler;
}

abbrev pub worked_program : Program
worked_program = record {
  subprograms = worked_subprogram ∷ [];
  main = 0;
  objects = record { declaration = 0; generic = Some 0; subtype = scalar (formal_range 0); initial = static_initial (static_formal 1) } ∷ [];
  constants = record { generic = 0; value = static_formal 1; range = formal_range 0 } ∷ [];
  instances = record {
    name = codes "i";
    place = at 9 1;
    generic = 0;
    actuals = actual_type base base_range base_range ∷ actual_object (static_number (pos 3)) (pos 3) ∷ [];
    constants = Some (pos 3) ∷ [];
  } ∷ [];
  declared = [];
  exceptions = [];
}
