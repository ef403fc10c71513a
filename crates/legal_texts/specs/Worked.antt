-- A worked program of a package and a subprogram:
--
--   package P is
--      C : constant Integer := 3;
--   end P;
--
--   procedure Main is begin null; end Main;
use Rattle.std.specs.Prelude.{ℕ, ◌+◌, pos, List, [], ◌∷◌, codes, Some, None}
use Rattle.ada_syntax.specs.StatementTree as text
use Rattle.ada_syntax.specs.Tree as source
use Rattle.ada_syntax.specs.declared.declaration.Constancy.TheVariants as constancy
use Rattle.ada_syntax.specs.declared.declaration.Declaration.{Declaration}
use Rattle.ada_syntax.specs.declared.declaration.DeclarationKind.TheVariants as declares
use Rattle.ada_syntax.specs.declared.unit.BodyItem.TheVariants as item
use Rattle.ada_syntax.specs.declared.unit.LibraryItem.TheVariants as library
use Rattle.ada_syntax.specs.declared.unit.PackageBody.{PackageBody}
use Rattle.ada_syntax.specs.declared.unit.PackageItem.TheVariants as part
use Rattle.ada_syntax.specs.declared.unit.PackageSpecification.{PackageSpecification}
use Rattle.ada_syntax.specs.declared.unit.Specification.{Specification}
use Rattle.ada_syntax.specs.declared.unit.SubprogramBody.{SubprogramBody}
use Rattle.ada_syntax.specs.declared.unit.Unit.{Unit as LibraryUnit}
use Rattle.ada_meaning.specs.Program.{Subprogram, LibraryObject, static_initial, Program}
use Rattle.ada_meaning.specs.Tree as tree
use Rattle.ada_meaning.specs.Types.{of_instance, static_number, scalar}
use Rattle.ada_rules.specs.Types.{base}
use Rattle.legal_instances.specs.Worked.{at, called}

abbrev pub plain_constant : Declaration
plain_constant = record {
  pos = at 2 4;
  kind = declares.Object (called (at 2 4) (codes "C") ∷ []) constancy.Constant
      (record { mark = source.simple (called (at 2 17) (codes "Integer")); constraint = None })
      (Some (record { others = []; value = source.numeral (at 2 28) 3 }));
}

abbrev pub plain_package : PackageSpecification
plain_package = record {
  formals = None;
  name = called (at 1 9) (codes "P");
  items = part.Declaration plain_constant ∷ [];
  end_name = Some (called (at 3 5) (codes "P"));
}

abbrev pub plain_body : SubprogramBody
plain_body = record {
  specification = record { pos = at 5 1; name = called (at 5 11) (codes "Main"); parameters = []; result_mark = None };
  declarations = [];
  statements = text.handled (text.then_also (text.null (at 5 25)) text.no_statements) text.no_handlers;
  end_name = None;
}

abbrev pub plain_units : List LibraryUnit
plain_units =
    record { pos = at 1 1; withs = []; item_pos = at 1 1; item = library.Package plain_package }
    ∷ record { pos = at 5 1; withs = []; item_pos = at 5 1; item = library.Subprogram plain_body } ∷ []

abbrev pub plain_statements : tree.Stmts
plain_statements =
    tree.and_statement (tree.null_statement (record { number = 0; place = at 5 25 })) tree.no_statement

abbrev pub plain_subprogram : Subprogram
plain_subprogram =
    record { generic = None; parameters = []; objects = []; body = tree.block [] plain_statements tree.no_handler }

abbrev pub plain_object : LibraryObject
plain_object =
    record { declaration = 0; generic = None; subtype = scalar base; initial = static_initial (static_number (pos 3)) }

abbrev pub plain_program : Program
plain_program = record {
  subprograms = plain_subprogram ∷ [];
  main = 0;
  objects = plain_object ∷ [];
  constants = [];
  instances = [];
  declared = [];
  exceptions = [];
}

-- A worked program with a package that declares a subprogram, whose body declares another one before its body:
--
--   package Q is
--      procedure R;
--   end Q;
--
--   package body Q is
--      procedure S;
--      procedure R is begin S; end R;
--      procedure S is begin null; end S;
--   end Q;
--
--   with Q;
--   procedure Main is begin Q.R; end Main;
abbrev pub procedure_at : (line column : ℕ) → List ℕ → Specification
procedure_at line column name =
    record { pos = at line column; name = called (at line (column + 10)) name; parameters = []; result_mark = None }

abbrev pub body_of : Specification → text.Statement → SubprogramBody
body_of x s = record {
  specification = x;
  declarations = [];
  statements = text.handled (text.then_also s text.no_statements) text.no_handlers;
  end_name = None;
}

abbrev pub inner_call : text.Statement
inner_call = text.call (at 7 25) (source.simple (called (at 7 25) (codes "S")))

abbrev pub outer_name : source.Name
outer_name = source.selected (source.simple (called (at 12 25) (codes "Q"))) (called (at 12 27) (codes "R"))

abbrev pub outer_call : text.Statement
outer_call = text.call (at 12 25) outer_name

abbrev pub shown_package : PackageSpecification
shown_package = record {
  formals = None;
  name = called (at 1 9) (codes "Q");
  items = part.Subprogram (procedure_at 2 4 (codes "R")) ∷ [];
  end_name = None;
}

abbrev pub shown_body : PackageBody
shown_body = record {
  name = called (at 5 14) (codes "Q");
  items =
      item.Declared (part.Subprogram (procedure_at 6 4 (codes "S")))
      ∷ item.Body (body_of (procedure_at 7 4 (codes "R")) inner_call)
      ∷ item.Body (body_of (procedure_at 8 4 (codes "S")) (text.null (at 8 25))) ∷ [];
  end_name = None;
}

abbrev pub package_units : List LibraryUnit
package_units =
    record { pos = at 1 1; withs = []; item_pos = at 1 1; item = library.Package shown_package }
    ∷ record { pos = at 5 1; withs = []; item_pos = at 5 1; item = library.PackageBody shown_body }
    ∷ record {
      pos = at 11 1;
      withs = record { names = called (at 11 6) (codes "Q") ∷ [] } ∷ [];
      item_pos = at 12 1;
      item = library.Subprogram (body_of (procedure_at 12 1 (codes "Main")) outer_call);
    } ∷ []

abbrev pub procedure_of : tree.Stmt → Subprogram
procedure_of s = record {
  generic = None;
  parameters = [];
  objects = [];
  body = tree.block [] (tree.and_statement s tree.no_statement) tree.no_handler;
}

abbrev pub label_at : (number line column : ℕ) → tree.Label
label_at n line column = record { number = n; place = at line column }

abbrev pub calls : tree.Label → (body : ℕ) → tree.Stmt
calls l m = tree.procedure_call l (tree.subprogram (of_instance 0) m) tree.no_actual

abbrev pub package_program : Program
package_program = record {
  subprograms =
      procedure_of (calls (label_at 0 7 25) 1)
      ∷ procedure_of (tree.null_statement (label_at 1 8 25))
      ∷ procedure_of (calls (label_at 2 12 25) 0) ∷ [];
  main = 2;
  objects = [];
  constants = [];
  instances = [];
  declared = [];
  exceptions = [];
}
