-- Which sources are a legal program, which program they are, and why others are refused.
use Rattle.std.specs.Prelude.{◌≡◌, ℕ, List, [], None, Some, Result, Ok, Err}
use Rattle.std.specs.Str.{str_to_ascii_lowercase}
use Rattle.ada_meaning.specs.Program.{Program}
use Rattle.ada_rules.specs.Environment.{typing}
use Rattle.ada_rules.specs.Legal.{unnamed, mistyped, too_large, legal, checked}
use Rattle.ada_rules.specs.Library.{Library as RulesLibrary}
use Rattle.ada_rules.specs.Refusals.{BreaksNames, BreaksTypes}
use Rattle.ada_rules.specs.Units.{Walked, judged_in}
use Rattle.ada_syntax.specs.declared.unit.Unit.{Unit as LibraryUnit}
use Rattle.ada_tree.specs.declared.program.UnitEntry.{UnitEntry}
use Rattle.program_weights.specs.Wholes.{PassesLimit, whole_library}
use Rattle.program_weights.specs.Entries.{entries_of}
use Rattle.cov_base.specs.declared.failure.Failure.{Failure}
use Rattle.cov_base.specs.declared.failure.Failure.TheVariants.{Fault, WantOfMemory}
use Rattle.cov_base.specs.declared.obligations.SourceFile.{SourceFile}
use Rattle.cov_base.specs.declared.position.Pos.{Pos}
use Rattle.exemptions.specs.declared.pairing.Unpaired.{Unpaired}
use Rattle.generic_expand.specs.Expanded.{past_instances, first_past}
use Rattle.program_objects.specs.Exemptions.{pragmas_of, exempt_regions}
use Rattle.program_objects.specs.Units.{HaveUnits, HaveNoUnits, fault_at}
use Rattle.program_objects.specs.declared.fault.SourceFault.{SourceFault}
use Rattle.program_objects.specs.declared.fault.Why.TheVariants.{Limit, Naming, Typing, Exemption}

-- what the limits on instances and nodes ask of units, in the world that the rules on types come to
abbrev pub entries_in : RulesLibrary → Result Walked Pos → List UnitEntry
entries_in l (Ok x) = entries_of x.world l
entries_in l (Err pos) = []

abbrev pub entries_for : List LibraryUnit → (main : List ℕ) → List UnitEntry
entries_for units main = entries_in (whole_library units) (judged_in typing (whole_library units) main).answer

-- units that the rules accept as this program, within the limits on instances and on nodes; the main procedure's name is in lower case
pub record AreProgram (units : List LibraryUnit) (main : List ℕ) (p : Program) : Type 0 where
  pub legal : checked units main ≡ legal p
  pub few_instances : past_instances 0 (entries_for units main) ≡ None
  pub few : first_past 0 (entries_for units main) ≡ None

-- the sources are this legal program with a main procedure of this name, whose case does not count, and each exemption
-- pragma pairs
pub record IsLegal (files : List SourceFile) (main : List ℕ) (p : Program) : Type 0 where
  pub units : List LibraryUnit
  pub parsed : HaveUnits files units
  pub program : AreProgram units (str_to_ascii_lowercase main) p
  pub exemptions : pragmas_of files ≡ Ok (exempt_regions files)

-- Units break the rules, here: a construct breaks a rule on names; or else one on types. Each is the verdict of the
-- rules, with its reason.
pub data BreakRules (units : List LibraryUnit) (main : List ℕ) : SourceFault → Type 0 where
  breaks_names : {pos : Pos} → checked units main ≡ unnamed pos → BreaksNames (whole_library units) main pos
      → BreakRules units main (fault_at pos Naming)
  breaks_types : {pos : Pos} → checked units main ≡ mistyped pos → BreaksTypes (whole_library units) main pos
      → BreakRules units main (fault_at pos Typing)

-- units break no rule on names or types: they are a program, or pass a counted limit of the rules
pub data PassRules (units : List LibraryUnit) (main : List ℕ) : Type 0 where
  within : {p : Program} → checked units main ≡ legal p → PassRules units main
  beyond : {pos : Pos} → checked units main ≡ too_large pos → PassRules units main

-- Units that break no rule pass a counted limit, here: one of the rules, with its reason; else there are too many
-- instances; or else too many nodes.
pub data PassLimits (units : List LibraryUnit) (main : List ℕ) : SourceFault → Type 0 where
  passes_a_limit : {pos : Pos} → checked units main ≡ too_large pos → PassesLimit (whole_library units) main pos
      → PassLimits units main (fault_at pos Limit)
  has_too_many_instances : {p : Program} {pos : Pos} → checked units main ≡ legal p
      → past_instances 0 (entries_for units main) ≡ Some pos → PassLimits units main (fault_at pos Limit)
  has_too_many_nodes : {p : Program} {pos : Pos} → checked units main ≡ legal p
      → past_instances 0 (entries_for units main) ≡ None → first_past 0 (entries_for units main) ≡ Some pos
      → PassLimits units main (fault_at pos Limit)

-- Sources that are refused, with their first fault: they have no units; else these break the rules; else an exemption
-- pragma pairs with none; or else a counted limit is passed.
pub data AreRefused (files : List SourceFile) (main : List ℕ) : SourceFault → Type 0 where
  no_units : {fault : SourceFault} → HaveNoUnits files fault → AreRefused files main fault
  broken_rules : {units : List LibraryUnit} {fault : SourceFault} → HaveUnits files units
      → BreakRules units (str_to_ascii_lowercase main) fault → AreRefused files main fault
  unpaired_pragma : {units : List LibraryUnit} {unpaired : Unpaired} → HaveUnits files units
      → PassRules units (str_to_ascii_lowercase main) → pragmas_of files ≡ Err unpaired
      → AreRefused files main (fault_at unpaired.pos Exemption)
  passed_limits : {units : List LibraryUnit} {fault : SourceFault} → HaveUnits files units
      → pragmas_of files ≡ Ok (exempt_regions files) → PassLimits units (str_to_ascii_lowercase main) fault
      → AreRefused files main fault

-- a call refused the sources, where memory was not refused
abbrev pub RefusesFor : List SourceFile → (main : List ℕ) → Failure SourceFault → Type 0
RefusesFor files main (Fault fault) = AreRefused files main fault
RefusesFor files main WantOfMemory = Unit {0}
