-- How refusals of units are told as faults of their sources.
use Rattle.std.specs.Prelude.{◌≡◌, ℕ, List, Option, None, Some}
use Rattle.ada_syntax.specs.declared.unit.Unit.{Unit as LibraryUnit}
use Rattle.cov_base.specs.declared.failure.Failure.{Failure}
use Rattle.cov_base.specs.declared.failure.Failure.TheVariants.{Fault, WantOfMemory}
use Rattle.cov_base.specs.declared.position.Pos.{Pos}
use Rattle.program_objects.specs.Expanding.{failure_at}
use Rattle.program_objects.specs.Legal.{BreakRules, PassRules, PassLimits}
use Rattle.program_objects.specs.Units.{fault_at}
use Rattle.program_objects.specs.declared.fault.SourceFault.{SourceFault}
use Rattle.program_objects.specs.declared.fault.Why.TheVariants.{Limit, Naming, Typing, Exemption}
use Rattle.checker.specs.fault.CheckFault.{CheckFault}
use Rattle.checker.specs.fault.CheckFault.TheVariants as check_fault

-- a counted limit is passed, here: the first exemption pragma that pairs with none is told before it
abbrev pub past_limit : Option Pos → Pos → Failure SourceFault
past_limit None pos = failure_at pos Limit
past_limit (Some unpaired) pos = failure_at unpaired Exemption

abbrev pub illegal : Option Pos → Failure CheckFault → Failure SourceFault
illegal unpaired (Fault (check_fault.Naming pos)) = failure_at pos Naming
illegal unpaired (Fault (check_fault.Typing pos)) = failure_at pos Typing
illegal unpaired (Fault (check_fault.Limit pos)) = past_limit unpaired pos
illegal unpaired WantOfMemory = WantOfMemory

-- Why units are refused whose first exemption pragma that pairs with none stands here, if there is one: they break the
-- rules; else there is such a pragma; or else a counted limit is passed.
pub data UnitsAreRefused (units : List LibraryUnit) (main : List ℕ) (unpaired : Option Pos) : SourceFault → Type 0 where
  broken_rules : {fault : SourceFault} → BreakRules units main fault → UnitsAreRefused units main unpaired fault
  unpaired_pragma : {pos : Pos} → PassRules units main → unpaired ≡ Some pos
      → UnitsAreRefused units main unpaired (fault_at pos Exemption)
  passed_limits : {fault : SourceFault} → unpaired ≡ None → PassLimits units main fault
      → UnitsAreRefused units main unpaired fault

-- a call refused the units, where memory was not refused
abbrev pub RefusesUnits : List LibraryUnit → (main : List ℕ) → Option Pos → Failure SourceFault → Type 0
RefusesUnits units main unpaired (Fault fault) = UnitsAreRefused units main unpaired fault
RefusesUnits units main unpaired WantOfMemory = Unit {0}
