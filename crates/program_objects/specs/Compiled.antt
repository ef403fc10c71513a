-- The object of legal units.
use Rattle.std.specs.Prelude.{◌≡◌, ℕ, true, List, length}
use Rattle.cov_base.specs.Lists.{Everywhere}
use Rattle.std.specs.List.{All}
use Rattle.ada_meaning.specs.Obligations.{obligations_of}
use Rattle.ada_meaning.specs.Program.{Program}
use Rattle.ada_syntax.specs.declared.unit.Unit.{Unit as LibraryUnit}
use Rattle.parsed_texts.specs.legal_counts.specs.ConditionPlaces.{units_conditions}
use Rattle.legal_programs.specs.DecisionPlaces.{units_decisions}
use Rattle.legal_programs.specs.TextPlaces.{units_places}
use Rattle.program_objects.specs.Exemptions.{AreRegionsIn}
use Rattle.program_objects.specs.Held.{HoldsImage}
use Rattle.parsed_texts.specs.Places.{AreInFiles, IsInFiles}
use Rattle.program_objects.specs.Kernels.{IsKernelOf}
use Rattle.kernel_ir.specs.declared.kernel.Kernel.{Kernel}
use Rattle.object_format.specs.Counts.{FileFits}
use Rattle.object_format.specs.Fields.{are_files}
use Rattle.object_format.specs.declared.object.Object.{Object}

-- an object that is compiled from units, whose typed program is p: it holds the image of a kernel of the program and
-- the program's obligations; the units, with their statements, decisions and conditions, and the exempt regions stand in
-- its files
pub record IsCompiled (units : List LibraryUnit) (p : Program) (o : Object) : Type 0 where
  pub kernel : Kernel
  pub nodes : ℕ
  pub is_kernel : IsKernelOf p nodes kernel
  pub holds : HoldsImage kernel o
  pub obligations : o.obligations ≡ obligations_of p o.obligations.regions
  pub files : are_files o.files ≡ true
  pub names : All FileFits o.files
  pub items : Everywhere (λ u. IsInFiles (length o.files) u.item_pos) units
  pub places : AreInFiles (length o.files) (units_places units)
  pub decisions : AreInFiles (length o.files) (units_decisions units)
  pub regions : AreRegionsIn (length o.files) o.obligations.regions
  pub conditions : Everywhere (AreInFiles (length o.files)) (units_conditions units)
