-- The lines that are written, as those of the definition of a kernel's code.
use Rattle.std.specs.Prelude.{List, map}
use Rattle.kernel_code.specs.Line.{Line, Said, nothing, starts, decides, checks, steers}
use Rattle.kernel_code.specs.declared.line.Line.{Line as DeclaredLine}
use Rattle.kernel_code.specs.declared.line.Said.{Said as DeclaredSaid}
use Rattle.kernel_code.specs.declared.line.Said.TheVariants as said

abbrev pub said_of : DeclaredSaid → Said
said_of said.Nothing = nothing
said_of (said.Starts statement instance) = starts statement instance
said_of (said.Decides decision condition instance) = decides decision condition.0 instance
said_of said.Checks = checks
said_of said.Steers = steers

abbrev pub line_of : DeclaredLine → Line
line_of line = record { item = line.item; said = said_of line.said }

abbrev pub lines_of : List DeclaredLine → List Line
lines_of lines = map line_of lines
