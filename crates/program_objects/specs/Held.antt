-- When an object holds the image of a kernel.
use Rattle.std.specs.Prelude.{◌≡◌, ◌≤◌, length}
use Rattle.assembler.specs.Reach.{AreItems}
use Rattle.kernel_code.specs.Pieces.{kernel_pieces}
use Rattle.kernel_ir.specs.declared.kernel.Kernel.{Kernel}
use Rattle.linker.specs.Linked.{linked}
use Rattle.object_format.specs.declared.object.Object.{Object}
use Rattle.rv_semantics.specs.Layout.{data_start}

-- the text, the entry, the rows and the roles of an object are those of the linked pieces of a kernel, its data are the kernel's words of the
-- library level, and it has the kernel's exceptions
pub record HoldsImage (k : Kernel) (o : Object) : Type 0 where
  pub items : AreItems (kernel_pieces k)
  pub text : o.text ≡ (linked (kernel_pieces k) k.library).text
  pub entry : o.entry ≡ (linked (kernel_pieces k) k.library).entry
  pub init_at : o.init_at ≡ data_start
  pub init : o.init ≡ k.library
  pub rows : o.rows ≡ (linked (kernel_pieces k) k.library).rows
  pub roles : o.roles ≡ (linked (kernel_pieces k) k.library).roles
  pub exceptions : k.exceptions ≤ length o.obligations.exceptions
