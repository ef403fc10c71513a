-- The object that is built of a program and its sources.
use Rattle.std.specs.Prelude.{◌≡◌, ◌≤◌, ◌<◌, ℕ, true, List, Ok, length, map}
use Rattle.std.specs.List.{All}
use Rattle.std.specs.Str.{is_utf8, str_to_ascii_lowercase}
use Rattle.ada_meaning.specs.Obligations.{obligations_of}
use Rattle.ada_meaning.specs.Program.{Program}
use Rattle.ada_syntax.specs.declared.unit.Unit.{Unit as LibraryUnit}
use Rattle.ada_tree.specs.declared.program.Program.{Program as TypedProgram}
use Rattle.ada_tree.specs.Programs.{program_of}
use Rattle.program_weights.specs.Wholes.{DeclaresTypes, whole_library}
use Rattle.program_objects.specs.Exemptions.{pragmas_of, exempt_regions, AreRegionsIn}
use Rattle.program_objects.specs.Held.{HoldsImage}
use Rattle.program_objects.specs.Source.{entry_of_file}
use Rattle.cov_base.specs.declared.obligations.SourceFile.{SourceFile}
use Rattle.program_objects.specs.Kernels.{IsKernelOf}
use Rattle.kernel_ir.specs.declared.kernel.Kernel.{Kernel}
use Rattle.object_format.specs.declared.object.Object.{Object}
use Rattle.program_objects.specs.Texts.{AreUnitsOf}
use Rattle.program_objects.specs.Units.{HaveUnits}

-- a source has a name that an object can have: UTF-8 of at most 4,096 bytes
abbrev pub HasPlainName : SourceFile → Type 0
HasPlainName f = (is_utf8 f.name ≡ true) × (length f.name ≤ 4096)

-- sources that an object can name: 1 to 64
pub record CanBeNamed (files : List SourceFile) : Type 0 where
  pub some : 0 < length files
  pub few : length files ≤ 64
  pub names : All HasPlainName files

-- the object holds the image of a kernel of the program, which has so many nodes, names the sources with their digests,
-- and has the program's obligations and the sources' exempt regions
pub record IsBuiltOf (files : List SourceFile) (p : Program) (nodes : ℕ) (o : Object) : Type 0 where
  pub kernel : Kernel
  pub is_kernel : IsKernelOf p nodes kernel
  pub holds : HoldsImage kernel o
  pub sources : o.files ≡ map entry_of_file files
  pub obligations : o.obligations ≡ obligations_of p (exempt_regions files)

-- sources that are this legal program, as `IsLegal` says, whose units and exempt regions stand in the files as they were
-- read
pub record AreLegal (files : List SourceFile) (main : List ℕ) (p : Program) : Type 0 where
  pub units : List LibraryUnit
  pub parsed : HaveUnits files units
  pub program : AreUnitsOf (length files) units (str_to_ascii_lowercase main) p
  pub exemptions : pragmas_of files ≡ Ok (exempt_regions files)
  pub regions : AreRegionsIn (length files) (exempt_regions files)

-- sources whose legal program has this typed form; its declarations of types weigh no more than the rules count
pub record AreTyped (files : List SourceFile) (main : List ℕ) (t : TypedProgram) : Type 0 where
  pub legal : AreLegal files main (program_of t)
  pub types : DeclaresTypes (whole_library legal.units) (str_to_ascii_lowercase main) t
