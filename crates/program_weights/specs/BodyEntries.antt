-- What the limits ask of the bodies of subprograms (Ada RM 2012, 6.3).
use Rattle.std.specs.Prelude.{List, map}
use Rattle.ada_syntax.specs.Nodes.{capped, body_nodes}
use Rattle.ada_syntax.specs.declared.unit.SubprogramBody.{SubprogramBody}
use Rattle.ada_syntax.specs.declared.unit.Unit.{Unit as LibraryUnit}
use Rattle.ada_tree.specs.declared.program.BodyEntry.{BodyEntry}
use Rattle.program_weights.specs.BodyTexts.{bodies_in}

-- A body begins with its specification and counts its own nodes: the context clauses before it are no part of it.
abbrev pub body_entry : SubprogramBody → BodyEntry
body_entry b = record { pos = b.specification.pos; nodes = capped (body_nodes b) }

-- of the bodies in all units, in the order of the text
abbrev pub body_entries : List LibraryUnit → List BodyEntry
body_entries units = map body_entry (bodies_in units)
