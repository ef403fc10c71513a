-- The object of a program: what it has beside the image of the kernel.
use Rattle.std.specs.Prelude.{◌≡◌, ◌≤◌, ℕ, true, List, length, map, IsAscii}
use Rattle.std.specs.List.{All}
use Rattle.ada_meaning.specs.Collected.{labels_of, decisions_of}
use Rattle.ada_meaning.specs.Obligations.{IsNumbered, ordered_labels, ordered_decisions, ordered_exceptions, obligations_of}
use Rattle.ada_meaning.specs.Program.{Program}
use Rattle.ada_meaning.specs.Tree.{shape_of, conditions_of}
use Rattle.cov_base.specs.Expr.{negates_once}
use Rattle.program_objects.specs.Exemptions.{AreRegionsIn}
use Rattle.program_objects.specs.Held.{HoldsImage}
use Rattle.cov_base.specs.Lists.{Everywhere}
use Rattle.program_objects.specs.Kernels.{IsKernelOf}
use Rattle.kernel_ir.specs.declared.kernel.Kernel.{Kernel}
use Rattle.object_format.specs.Counts.{FileFits, InstanceFits, IsCountable, AreCountable}
use Rattle.object_format.specs.Fields.{are_files, are_instances, are_statements, are_decisions}
use Rattle.object_format.specs.declared.object.Object.{Object}

-- the names of the exceptions that a program declares, in the order of their numbers
abbrev pub exceptions_in : Program → List (List ℕ)
exceptions_in p = map (λ x. x.name) (ordered_exceptions p)

-- such a name: in ASCII, and short enough for an object
pub record IsExceptionName (name : List ℕ) : Type 0 where
  pub ascii : IsAscii name
  pub short : IsCountable name

-- a program that can be compiled: its statements and its decisions are numbered in the order in which they stand, and four bytes can count
-- them; each decision has at most 32 conditions, and no `not` stands directly in another; its exceptions have names, and are no more than the
-- limit on nodes
pub record IsCompilable (p : Program) : Type 0 where
  pub numbered : IsNumbered p
  pub in_order : ordered_labels p ≡ labels_of p.subprograms
  pub decisions_in_order : ordered_decisions p ≡ decisions_of p.subprograms
  pub few_conditions : Everywhere (λ h. conditions_of h.test ≤ 32) (decisions_of p.subprograms)
  pub once : Everywhere (λ h. negates_once (shape_of h.test) ≡ true) (decisions_of p.subprograms)
  pub few_statements : IsCountable (labels_of p.subprograms)
  pub few_decisions : IsCountable (decisions_of p.subprograms)
  pub exceptions : Everywhere IsExceptionName (exceptions_in p)
  pub few_exceptions : length (exceptions_in p) ≤ 4096

-- an object that is made of a program: it holds the image of a kernel of the program, its obligations are the program's,
-- with some exempt regions, and its files, the instances, the statements, the decisions and the regions are such as an
-- object has
pub record IsMadeOf (p : Program) (o : Object) : Type 0 where
  pub kernel : Kernel
  pub nodes : ℕ
  pub is_kernel : IsKernelOf p nodes kernel
  pub holds : HoldsImage kernel o
  pub obligations : o.obligations ≡ obligations_of p o.obligations.regions
  pub files : are_files o.files ≡ true
  pub names : All FileFits o.files
  pub instances : are_instances (length o.files) o.obligations.instances ≡ true
  pub instance_names : AreCountable InstanceFits o.obligations.instances
  pub statements : are_statements (length o.files) o.obligations.statements ≡ true
  pub decisions : are_decisions (length o.files) (length o.obligations.statements) o.obligations.decisions ≡ true
  pub regions : AreRegionsIn (length o.files) o.obligations.regions
