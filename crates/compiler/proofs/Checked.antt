-- Refusals of units are told as faults of their sources.
use Rattle.std.proofs.Common.{◌≡◌, ℕ, List, Option, None, Some, Ok, Err, Result, IfErr, refl, sym, ap, ◌∙◌, subst}
use Rattle.std.specs.Prelude.{IsErrAnd}
use Rattle.std.specs.Str.{str_to_ascii_lowercase}
use Rattle.cov_base.specs.declared.failure.Failure.{Failure}
use Rattle.cov_base.specs.declared.failure.Failure.TheVariants.{Fault, WantOfMemory}
use Rattle.cov_base.specs.declared.obligations.SourceFile.{SourceFile}
use Rattle.cov_base.specs.declared.position.Pos.{Pos}
use Rattle.ada_meaning.specs.Program.{Program}
use Rattle.ada_rules.specs.Legal.{too_large, legal, checked}
use Rattle.ada_syntax.specs.declared.unit.Unit.{Unit as LibraryUnit}
use Rattle.ada_tree.specs.declared.program.Program.{Program as TypedProgram}
use Rattle.ada_tree.specs.declared.program.UnitEntry.{UnitEntry}
use Rattle.ada_tree.specs.Programs.{program_of}
use Rattle.checker.specs.Checking as checker
use Rattle.checker.specs.Checking.{IsBroken}
use Rattle.checker.specs.Wholes as weights
use Rattle.checker.specs.Wholes.{HasEntries, whole_library}
use Rattle.checker.specs.fault.CheckFault.{CheckFault}
use Rattle.compiler.specs.Checking as checking
use Rattle.compiler.specs.Checking.{past_limit, illegal, UnitsAreRefused, RefusesUnits}
use Rattle.program_objects.specs.Exemptions.{pragmas_of, unpaired_in}
use Rattle.program_objects.specs.Expanding.{failure_at, AreFew, PassesLimit, has_too_many, passes, no_memory}
use Rattle.program_objects.specs.Legal as units
use Rattle.program_objects.specs.Legal.{entries_for, AreProgram, AreRefused, RefusesFor}
use Rattle.program_objects.specs.Units.{HaveUnits, FailsFor}
use Rattle.program_objects.specs.declared.fault.SourceFault.{SourceFault}
use Rattle.program_objects.specs.declared.fault.Why.TheVariants.{Exemption}
use Rattle.program_objects.proofs.Pairing.{all_paired, refused_at}
use Rattle.program_objects.proofs.Entries.{entries_law}
use Rattle.generic_expand.specs.Expanded.{past_instances, first_past}

-- a counted limit of the rules is passed: an exemption pragma that pairs with none comes before it
limit_or_pragma : (us : List LibraryUnit) (main : List ℕ) (unpaired : Option Pos) (pos : Pos) → checked us main ≡ too_large pos → weights.PassesLimit (whole_library us) main pos
    → RefusesUnits us main unpaired (past_limit unpaired pos)
limit_or_pragma us main None pos is passed = checking.passed_limits refl (units.passes_a_limit is passed)
limit_or_pragma us main (Some pragma) pos is passed = checking.unpaired_pragma (units.beyond is) refl

-- by the rules, with the reason for each refusal
pub illegal_units : (us : List LibraryUnit) (main : List ℕ) (unpaired : Option Pos)
    → ((units : List LibraryUnit) (main : List ℕ) (fault : CheckFault) → checker.Refuses units main (Fault fault) → IsBroken (whole_library units) main fault)
    → (f : Failure CheckFault) → checker.Refuses us main f → RefusesUnits us main unpaired (illegal unpaired f)
illegal_units us main unpaired reasons _ (checker.breaks_names is) = checking.broken_rules (units.breaks_names is (reasons us main _ (checker.breaks_names is)))
illegal_units us main unpaired reasons _ (checker.breaks_types is) = checking.broken_rules (units.breaks_types is (reasons us main _ (checker.breaks_types is)))
illegal_units us main unpaired reasons _ (checker.passes_a_limit {p} is) = limit_or_pragma us main unpaired p is (reasons us main _ (checker.passes_a_limit is))
illegal_units us main unpaired reasons _ checker.memory_is_out = tt

-- a legal program with an exemption pragma that pairs with none
pub unpaired_units : (us : List LibraryUnit) (main : List ℕ) (unpaired : Option Pos) (p : Program) (pos : Pos) → checked us main ≡ legal p → unpaired ≡ Some pos
    → RefusesUnits us main unpaired (failure_at pos Exemption)
unpaired_units us main unpaired p pos is there = checking.unpaired_pragma (units.within is) there

-- the entries of a typed program are those that the limits ask of its units
pub entries_are : (us : List LibraryUnit) (main : List ℕ) (p : TypedProgram) → checked us main ≡ legal (program_of p) → HasEntries (whole_library us) main p
    → p.units ≡ entries_for us main
entries_are us main p h has = entries_law us main (program_of p) h (λ (es : List UnitEntry). p.units ≡ es) has

pub program_law : (us : List LibraryUnit) (main : List ℕ) (p : TypedProgram) → checked us main ≡ legal (program_of p) → HasEntries (whole_library us) main p → AreFew p.units
    → AreProgram us main (program_of p)
program_law us main p h has few =
    let are = entries_are us main p h has in
    record {
      legal = h;
      few_instances = ap (past_instances 0) (sym are) ∙ few.instances;
      few = ap (first_past 0) (sym are) ∙ few.nodes;
    }

-- and of units that are a legal program that is too large
pub units_past_limit : (us : List LibraryUnit) (main : List ℕ) (unpaired : Option Pos) (p : TypedProgram) → checked us main ≡ legal (program_of p) → HasEntries (whole_library us) main p
    → unpaired ≡ None → (f : Failure SourceFault) → PassesLimit p.units f → RefusesUnits us main unpaired f
units_past_limit us main unpaired p h has none _ (has_too_many past) =
    checking.passed_limits none (units.has_too_many_instances h (ap (past_instances 0) (sym (entries_are us main p h has)) ∙ past))
units_past_limit us main unpaired p h has none _ (passes few past) =
    let are = entries_are us main p h has in
    checking.passed_limits none (units.has_too_many_nodes h (ap (past_instances 0) (sym are) ∙ few) (ap (first_past 0) (sym are) ∙ past))
units_past_limit us main unpaired p h has none _ no_memory = tt

-- sources whose units are refused are
refused_of : (files : List SourceFile) (us : List LibraryUnit) (main : List ℕ) (unpaired : Option Pos) (fault : SourceFault) → HaveUnits files us → unpaired ≡ unpaired_in (pragmas_of files)
    → UnitsAreRefused us (str_to_ascii_lowercase main) unpaired fault → AreRefused files main fault
refused_of files us main unpaired fault have told (checking.broken_rules broken) = units.broken_rules have broken
refused_of files us main unpaired _ have told (checking.unpaired_pragma {pos} passed there) = refused_at files us main pos have passed (sym told ∙ there)
refused_of files us main unpaired fault have told (checking.passed_limits none passed) = units.passed_limits have (all_paired (pragmas_of files) (sym told ∙ none)) passed

pub sources_refused : (files : List SourceFile) (us read : List LibraryUnit) (main : List ℕ) (unpaired : Option Pos) (f : Failure SourceFault) → HaveUnits files us → read ≡ us
    → unpaired ≡ unpaired_in (pragmas_of files) → RefusesUnits read (str_to_ascii_lowercase main) unpaired f → RefusesFor files main f
sources_refused files us read main unpaired f have are told refused =
    by f (subst (λ vs. RefusesUnits vs (str_to_ascii_lowercase main) unpaired f) are refused)
  where
    by : (f : Failure SourceFault) → RefusesUnits us (str_to_ascii_lowercase main) unpaired f → RefusesFor files main f
    by (Fault fault) refused = refused_of files us main unpaired fault have told refused
    by WantOfMemory refused = tt

pub sources_failed : (files : List SourceFile) (main : List ℕ) (f : Failure SourceFault) → FailsFor files f → RefusesFor files main f
sources_failed files main (Fault fault) none = units.no_units none
sources_failed files main WantOfMemory none = tt

-- what an exit passes on
pub passed_on : {X E : Type 0} (Q : E → Type 0) (r : Result X E) (f : E) → IsErrAnd r (λ e. e ≡ f) → Q f → IfErr r Q
passed_on Q (Ok x) f is q = tt
passed_on Q (Err e) f is q = subst (λ e. Q e) (sym is) q
