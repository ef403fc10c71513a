-- The line that tells each status.
use Rattle.std.specs.Prelude.{ℕ, List, [], ◌++◌, codes}
use Rattle.std.specs.Fmt.{decimal}
use Rattle.object_format.specs.declared.fault.ObjectFault.{ObjectFault}
use Rattle.object_format.specs.declared.fault.ObjectFault.TheVariants.{Short, Magic, Version, Long, Damaged, Field, Decision, Row, Role}
use Rattle.commands.specs.declared.status.Status.{Status}
use Rattle.commands.specs.declared.status.Status.TheVariants.{Done, Usage, SourceRefused, ObjectRefused, TraceRefused, InputRefused, OverBudget, Trap, SourceChanged, ReadFault, WriteFault, WantOfMemory}
use Rattle.commands.specs.TraceWords.{address_text, trace_text}
use Rattle.program_objects.specs.Why.{why_text}
use Rattle.rv_semantics.specs.TrapWords.{trap_words}

-- the exit status of the program
abbrev pub number_of : Status → ℕ
number_of Done = 0
number_of Usage = 1
number_of (SourceRefused file line col why) = 2
number_of (ObjectRefused why) = 3
number_of (TraceRefused index why) = 4
number_of (InputRefused line) = 5
number_of (OverBudget count) = 6
number_of (Trap pc why) = 7
number_of (SourceChanged file) = 8
number_of (ReadFault file) = 9
number_of WriteFault = 10
number_of WantOfMemory = 11

-- the word for why an object is refused
abbrev pub object_word : ObjectFault → List ℕ
object_word Short = codes "short"
object_word Magic = codes "magic"
object_word Version = codes "version"
object_word Long = codes "long"
object_word Damaged = codes "damaged"
object_word Field = codes "field"
object_word Decision = codes "decision"
object_word Row = codes "row"
object_word Role = codes "role"

-- the line that tells a status of the file of this name; where all went well there is none
abbrev pub line_of : List ℕ → Status → List ℕ
line_of name Done = []
line_of name Usage = codes "gnatcov: usage\n"
line_of name (SourceRefused file line col why) = codes "gnatcov: " ++ (name ++ (codes ":" ++ (decimal line ++ (codes ":" ++ (decimal col ++ (codes ": " ++ (why_text why ++ codes "\n")))))))
line_of name (ObjectRefused why) = codes "gnatcov: object refused: " ++ (object_word why ++ codes "\n")
line_of name (TraceRefused index why) = codes "gnatcov: trace " ++ (decimal index ++ (codes " refused: " ++ (trace_text why ++ codes "\n")))
line_of name (InputRefused line) = codes "gnatcov: input line " ++ (decimal line ++ codes " refused\n")
line_of name (OverBudget count) = codes "gnatcov: over budget after " ++ (decimal count ++ codes " instructions\n")
line_of name (Trap pc why) = codes "gnatcov: trap at " ++ (address_text pc ++ (codes ": " ++ (trap_words why ++ codes "\n")))
line_of name (SourceChanged file) = codes "gnatcov: source changed: " ++ (name ++ codes "\n")
line_of name (ReadFault file) = codes "gnatcov: cannot read " ++ (name ++ codes "\n")
line_of name WriteFault = codes "gnatcov: cannot write\n"
line_of name WantOfMemory = codes "gnatcov: out of memory\n"
