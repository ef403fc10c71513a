-- What was read and accepted is a legal program with this typed form.
use Rattle.std.proofs.Common.{◌≡◌, ◌∙◌, ℕ, List, length, Option, None, Result, Ok, Err, IfOk, OnOk, sym, subst}
use Rattle.std.specs.Str.{str_to_ascii_lowercase}
use Rattle.cov_base.specs.declared.failure.Failure.{Failure}
use Rattle.cov_base.specs.declared.obligations.SourceFile.{SourceFile}
use Rattle.cov_base.specs.declared.position.Pos.{Pos}
use Rattle.ada_parser.specs.Opening.{open_extent}
use Rattle.ada_syntax.specs.declared.unit.Unit.{Unit as LibraryUnit}
use Rattle.ada_tree.specs.Programs.{program_of}
use Rattle.program_objects.specs.Parsed.{AreOfFiles}
use Rattle.program_objects.specs.Built.{AreTyped}
use Rattle.program_objects.specs.Exemptions.{exempt_regions, pragmas_of, unpaired_in, AreRegionsIn}
use Rattle.program_objects.specs.Legal.{AreProgram}
use Rattle.program_objects.specs.Units.{HaveUnits}
use Rattle.program_objects.specs.declared.fault.SourceFault.{SourceFault}
use Rattle.program_objects.proofs.Pairing.{all_paired}
use Rattle.checker.specs.Wholes.{DeclaresTypes, whole_library}
use Rattle.compiler.specs.declared.checking.LegalProgram.{LegalProgram}

pub typed_answer : (files : List SourceFile) (units read : List LibraryUnit) (main : List ℕ) (unpaired : Option Pos)
    (r : Result LegalProgram (Failure SourceFault)) → HaveUnits files units → AreOfFiles open_extent (length files) units
    → read ≡ units → IfOk r (λ l. AreProgram read (str_to_ascii_lowercase main) (program_of l.program))
    → IfOk r (λ l. DeclaresTypes (whole_library read) (str_to_ascii_lowercase main) l.program)
    → unpaired ≡ unpaired_in (pragmas_of files) → OnOk r (unpaired ≡ None) → AreRegionsIn (length files) (exempt_regions files)
    → IfOk r (λ l. AreTyped files main l.program)
typed_answer files units read main unpaired (Ok l) parsed of_files are program types told none stand = record {
  legal = record {
    units = units;
    parsed = parsed;
    program = record {
      read = of_files;
      program = subst (λ us. AreProgram us (str_to_ascii_lowercase main) (program_of l.program)) are program;
    };
    exemptions = all_paired (pragmas_of files) (sym told ∙ none);
    regions = stand;
  };
  types = subst (λ us. DeclaresTypes (whole_library us) (str_to_ascii_lowercase main) l.program) are types;
}
typed_answer files units read main unpaired (Err f) parsed of_files are program types told none stand = tt
