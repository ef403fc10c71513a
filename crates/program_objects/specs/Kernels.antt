-- What makes a kernel that of a program, and an image that of such a kernel.
use Rattle.std.specs.Prelude.{◌≡◌, ◌≢◌, ℕ, ◌+◌, ◌*◌, ◌≤◌, ℤ, List, length, sum_by}
use Rattle.ada_meaning.specs.Bodies.{bodies_of}
use Rattle.ada_meaning.specs.Collected.{decisions_of}
use Rattle.ada_meaning.specs.Execution as source
use Rattle.ada_meaning.specs.Program.{Program}
use Rattle.ada_meaning.specs.Tree.{shape_of}
use Rattle.ada_meaning.specs.WellFormed.{IsWellFormed as IsWellFormedProgram}
use Rattle.ada_tree.specs.declared.program.Program.{Program as TypedProgram}
use Rattle.ada_tree.specs.Programs.{program_of}
use Rattle.assembler.specs.Reach.{AreItems}
use Rattle.cov_base.specs.declared.position.DecId.{DecId}
use Rattle.cov_base.specs.Graph.{Edges}
use Rattle.cov_base.specs.Graph as logic
use Rattle.cov_base.specs.Lists.{Everywhere}
use Rattle.generic_expand.specs.Limits.{types_weight}
use Rattle.kernel_code.specs.Pieces.{kernel_pieces}
use Rattle.kernel_ir.specs.declared.kernel.Kernel.{Kernel}
use Rattle.kernel_ir.specs.Limits.{IsWellFormed, IsWithin, kernel_instructions}
use Rattle.kernel_ir.specs.Meaning as code
use Rattle.kernel_ir.specs.Obligations.{Condition, rows, conditions}
use Rattle.linker.specs.Linked.{linked}
use Rattle.linker.specs.declared.image.Image.{Image}
use Rattle.lower.specs.Standing.{AreTypesNamed, IsWithinLimits}
use Rattle.statement_code.specs.Kernels.{conditions_of, expanded_nodes, rows_of}
use Rattle.statement_code.specs.Programs.{Same}

-- the nodes of a typed program: those of its bodies and what its declarations of types weigh, those of a generic for each of its instances
abbrev pub nodes_of : TypedProgram → ℕ
nodes_of t = expanded_nodes (program_of t) + types_weight t

-- A kernel is that of a program of so many nodes: under each fuel but 512 it ends as the program does, with the same events and output; it is
-- well-formed where decisions have the graphs of their expressions; its rows are the statement obligations of the program's bodies and its
-- conditions those of their decisions, each in the instance of its body; it has the predefined exceptions and the program's; and it is small
-- enough, for each of the nodes, which are within their limit.
pub record IsKernelOf (p : Program) (nodes : ℕ) (k : Kernel) : Type 0 where
  pub does : (fuel : ℕ) (input : List ℤ) → fuel ≢ source.deepest → Same (source.exec p fuel input) (code.exec k fuel input)
  pub formed : (graph : DecId → List Edges) → Everywhere (λ h. graph (record { 0 = h.label.number }) ≡ logic.graph (shape_of h.test)) (decisions_of p.subprograms)
      → IsWellFormed graph k
  pub rows : rows k ≡ rows_of p (bodies_of p)
  pub conditions : (weight : Condition → ℕ) → sum_by weight (conditions k) ≡ sum_by weight (conditions_of p (bodies_of p))
  pub exceptions : k.exceptions ≤ 4 + length p.exceptions
  pub within : IsWithin k
  pub short : 4 * kernel_instructions k ≤ 240 * nodes + 4096
  pub few : nodes ≤ 4096

-- a typed program whose kernel can be laid out: it is well-formed and within the limits, those on all of its nodes too, and composite types are
-- named where they stand
pub record CanBeLaid (t : TypedProgram) : Type 0 where
  pub well : IsWellFormedProgram (program_of t)
  pub named : AreTypesNamed t
  pub limits : IsWithinLimits t
  pub light : nodes_of t ≤ 4096

-- an image is that of a kernel of a program of so many nodes: its linked machine code, with the words of the library level as data
pub record IsImageOf (p : Program) (nodes : ℕ) (image : Image) : Type 0 where
  pub kernel : Kernel
  pub is_kernel : IsKernelOf p nodes kernel
  pub linked : image ≡ linked (kernel_pieces kernel) kernel.library
  pub items : AreItems (kernel_pieces kernel)
