-- The readers of units at a depth, and what the functions for files answer.
use Rattle.std.specs.Prelude.{ℕ, List, [], Option, Result, Ok, Err, ⊤}
use Rattle.std.specs.declared.vec.Vec.{Vec}
use Rattle.std.specs.declared.alloc.Global.{Global}
use Rattle.cov_base.specs.declared.position.Pos.{Pos}
use Rattle.ada_syntax.specs.StatementTree.{Handled}
use Rattle.ada_syntax.specs.declared.name.Identifier.{Identifier}
use Rattle.ada_syntax.specs.declared.unit.Specification.{Specification}
use Rattle.ada_syntax.specs.declared.unit.SubprogramBody.{SubprogramBody}
use Rattle.ada_syntax.specs.declared.unit.BodyItem.{BodyItem}
use Rattle.ada_syntax.specs.declared.unit.Formal.{Formal}
use Rattle.ada_syntax.specs.declared.unit.LibraryItem.{LibraryItem}
use Rattle.ada_syntax.specs.declared.unit.WithClause.{WithClause}
use Rattle.ada_syntax.specs.declared.unit.Unit.{Unit as LibraryUnit}
use Rattle.expression_parser.specs.declared.extent.Extent.{Extent}
use Rattle.expression_parser.specs.declared.fault.Fault.{Fault}
use Rattle.expression_parser.specs.declared.fault.Fault.TheVariants.{Syntax, Memory}
use Rattle.expression_parser.specs.Reading.{Tokens, Reader, Got, Stuck, got, ◌>>=◌}
use Rattle.expression_parser.specs.Shows.{Reads}
use Rattle.ada_parser.specs.StatementDepth.{at_handled}
use Rattle.ada_parser.specs.UnitReading as read

abbrev pub at_end_name : ℕ → Reader (Option Identifier)
at_end_name m = read.end_name_by

abbrev pub at_end : ℕ → Reader (Option Identifier)
at_end m = read.end_by

-- stmts [handlers] END [id] ;
abbrev pub at_statements_to_end : Extent → ℕ → Reader (Handled × Option Identifier)
at_statements_to_end x m = at_handled x m >>= λ h. read.end_by >>= λ n. got (h, n)

abbrev pub at_body_rest : Extent → Specification → ℕ → Reader SubprogramBody
at_body_rest x s m = read.body_rest x m s

abbrev pub at_specified : Extent → Specification → ℕ → Reader BodyItem
at_specified x s m = read.specified_rest x m s

abbrev pub at_instance : Extent → Identifier → ℕ → Reader LibraryItem
at_instance x i m = read.instance_rest x m i

abbrev pub at_package : Extent → Option (List Formal) → Identifier → ℕ → Reader LibraryItem
at_package x fs i m = read.package_rest x m fs i

abbrev pub at_package_or_instance : Extent → Identifier → ℕ → Reader LibraryItem
at_package_or_instance x i m = read.package_or_instance x m i

abbrev pub at_unit_item : Extent → Pos → List WithClause → ℕ → Reader LibraryUnit
at_unit_item x p ws m = read.unit_item x m p ws

-- the answer for a whole file
abbrev pub ReadsFile : Extent → Tokens → Result (Vec LibraryUnit Global) Fault → Type 0
ReadsFile x ts (Ok v) = Reads (read.file_by x) ts (Got v.items [])
ReadsFile x ts (Err (Syntax rest)) = Reads (read.file_by x) ts (Stuck rest.now)
ReadsFile x ts (Err Memory) = ⊤
