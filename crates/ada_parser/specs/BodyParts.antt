-- What is read of a body behind `IS`, whatever is specified before it.
use Rattle.std.specs.Prelude.{Option, Result}
use Rattle.std.specs.Borrow.{Bor}
use Rattle.std.specs.declared.vec.Vec.{Vec}
use Rattle.std.specs.declared.alloc.Global.{Global}
use Rattle.ada_syntax.specs.StatementTree.{Handled}
use Rattle.ada_syntax.specs.declared.name.Identifier.{Identifier}
use Rattle.ada_syntax.specs.declared.declaration.Declaration.{Declaration}
use Rattle.ada_syntax.specs.declared.unit.Specification.{Specification}
use Rattle.ada_syntax.specs.declared.unit.SubprogramBody.{SubprogramBody}
use Rattle.expression_parser.specs.declared.extent.Extent.{Extent}
use Rattle.expression_parser.specs.declared.fault.Fault.{Fault}
use Rattle.expression_parser.specs.Reading.{Tokens}
use Rattle.expression_parser.specs.Shows.{ShowsAs, Reads}
use Rattle.ada_parser.specs.Grammar.{bodied}
use Rattle.ada_parser.specs.UnitDepth as at

-- declarations, statements with their handlers, and the name at the end
abbrev pub Parts : Type 0
Parts = Vec Declaration Global × (Handled × Option Identifier)

abbrev pub whole_body : Specification → Parts → SubprogramBody
whole_body s v = bodied s v.0.items v.1.0 v.1.1

abbrev pub ReadsBodyParts : Extent → Tokens → Result (Parts × Bor Tokens) Fault → Type 0
ReadsBodyParts x ts r = (s : Specification) → ShowsAs (whole_body s) (Reads (at.at_body_rest x s) ts) r
