-- The status for each layer's failure.
use Rattle.std.specs.Prelude.{ℕ}
use Rattle.cov_base.specs.declared.failure.Failure.{Failure}
use Rattle.cov_base.specs.declared.failure.Failure.TheVariants.{Fault}
use Rattle.cov_base.specs.declared.failure.Failure.TheVariants as failures
use Rattle.program_objects.specs.declared.fault.SourceFault.{SourceFault}
use Rattle.rv32_emulator.specs.declared.input_file.InputFault.{InputFault}
use Rattle.rv32_emulator.specs.declared.emulator.RunFault.{RunFault}
use Rattle.rv32_emulator.specs.declared.emulator.RunFault.TheVariants as runs
use Rattle.commands.specs.declared.status.Status.{Status}
use Rattle.commands.specs.declared.status.FileRef.TheVariants.{Word}
use Rattle.commands.specs.declared.status.Status.TheVariants.{SourceRefused, ObjectRefused, TraceRefused, InputRefused, OverBudget, Trap, ReadFault, WantOfMemory}
use Rattle.commands.specs.declared.status.TraceWhy.TheVariants.{File, Fit, Broken, Consolidated}
use Rattle.coverage_set.specs.declared.fault.AddFault.{AddFault}
use Rattle.coverage_set.specs.declared.fault.AddFault.TheVariants as adds
use Rattle.trace_format.specs.declared.entry.ReaderFault.{ReaderFault}
use Rattle.trace_format.specs.declared.entry.ReaderFault.TheVariants as readers
use Rattle.object_format.specs.declared.fault.ObjectFault.{ObjectFault}
use Rattle.trace_format.specs.declared.consolidated.fault.ConsFault.{ConsFault}

abbrev pub source_status : Failure SourceFault → Status
source_status (Fault fault) = SourceRefused fault.file fault.line fault.col fault.why
source_status failures.WantOfMemory = WantOfMemory

abbrev pub object_status : Failure ObjectFault → Status
object_status (Fault why) = ObjectRefused why
object_status failures.WantOfMemory = WantOfMemory

abbrev pub input_status : Failure InputFault → Status
input_status (Fault fault) = InputRefused fault.line
input_status failures.WantOfMemory = WantOfMemory

abbrev pub run_status : Failure RunFault → Status
run_status (Fault (runs.OverBudget count)) = OverBudget count
run_status (Fault (runs.Trap pc why)) = Trap pc why
run_status failures.WantOfMemory = WantOfMemory

-- of the trace with this number, where its front was not read
abbrev pub opened_status : ℕ → Failure ReaderFault → Status
opened_status number (Fault readers.Read) = ReadFault (Word number)
opened_status number (Fault (readers.Trace why)) = TraceRefused number (File why)
opened_status number failures.WantOfMemory = WantOfMemory

-- and where it was not added
abbrev pub added_status : ℕ → Failure AddFault → Status
added_status number (Fault adds.Read) = ReadFault (Word number)
added_status number (Fault (adds.Trace why)) = TraceRefused number (File why)
added_status number (Fault (adds.Fit why)) = TraceRefused number (Fit why)
added_status number (Fault (adds.Broken at)) = TraceRefused number (Broken (record { at = at }))
added_status number failures.WantOfMemory = WantOfMemory

abbrev pub consolidated_status : ℕ → Failure ConsFault → Status
consolidated_status number (Fault why) = TraceRefused number (Consolidated why)
consolidated_status number failures.WantOfMemory = WantOfMemory
