-- Code that fits a kernel fits a larger one, with more slots.
use Rattle.std.proofs.Common.{ℕ, ◌<◌, ◌≤◌, List, arith}
use Rattle.cov_base.specs.declared.position.DecId.{DecId}
use Rattle.cov_base.specs.Graph.{Edges}
use Rattle.kernel_ir.specs.declared.kernel.Kernel.{Kernel}
use Rattle.kernel_ir.specs.declared.simple.Simple.{Simple}
use Rattle.kernel_ir.specs.declared.simple.Simple.TheVariants as simple_op
use Rattle.kernel_ir.specs.Tree.{Op, simple, choose, forever, for_loop, exit, returns, catch, decide, call, Code, no_op, and_op, Nodes, no_node, and_node}
use Rattle.kernel_ir.specs.Limits.{SimpleFits, OpFits, CodeFits, NodesFit}
use Rattle.kernel_ir.specs.Laws.{IsPartOf}

module _ (p q : Kernel) (part : IsPartOf p q) (slots more : ℕ) (enough : slots ≤ more) where
  slot : (k : ℕ) → k < slots → k < more
  slot k h = omega (arith, h, enough)

  simple_fits_more : (s : Simple) → SimpleFits p slots s → SimpleFits q more s
  simple_fits_more (simple_op.Number k x) h = (slot k h.0, h.1)
  simple_fits_more (simple_op.Move k j) h = (slot k h.0, slot j h.1)
  simple_fits_more (simple_op.Compare r k i j) h = (slot k h.0, slot i h.1, slot j h.2)
  simple_fits_more (simple_op.Complement k j) h = (slot k h.0, slot j h.1)
  simple_fits_more (simple_op.Negate k j) h = (slot k h.0, slot j h.1)
  simple_fits_more (simple_op.Absolute k j) h = (slot k h.0, slot j h.1)
  simple_fits_more (simple_op.Arithmetic o k i j) h = (slot k h.0, slot i h.1, slot j h.2)
  simple_fits_more (simple_op.Within k low high) h = (slot k h.0, h.1, h.2)
  simple_fits_more (simple_op.Index k j low high n) h = (slot k h.0, slot j h.1, h.2, h.3, h.4)
  simple_fits_more (simple_op.Offset k i j) h = (slot k h.0, slot i h.1, slot j h.2)
  simple_fits_more (simple_op.Advance k j x) h = (slot k h.0, slot j h.1, h.2)
  simple_fits_more (simple_op.FrameAddress k j) h = (slot k h.0, slot j h.1)
  simple_fits_more (simple_op.LibraryAddress k n) h = (slot k h.0, omega (arith, h.1, part.library))
  simple_fits_more (simple_op.Load k j) h = (slot k h.0, slot j h.1)
  simple_fits_more (simple_op.Store j k) h = (slot j h.0, slot k h.1)
  simple_fits_more (simple_op.ReadLibrary k n) h = (slot k h.0, omega (arith, h.1, part.library))
  simple_fits_more (simple_op.WriteLibrary n k) h = (omega (arith, h.0, part.library), slot k h.1)
  simple_fits_more (simple_op.Copy k j n) h = (slot k h.0, slot j h.1, h.2)
  simple_fits_more (simple_op.Fill k l) h = (slot k h.0, omega (arith, h.1, part.layouts))
  simple_fits_more (simple_op.Start s i) h = tt
  simple_fits_more (simple_op.Get k) h = slot k h
  simple_fits_more (simple_op.Put k) h = slot k h
  simple_fits_more (simple_op.Raise e) h = (h.0, omega (arith, h.1, part.exceptions))
  simple_fits_more (simple_op.RaiseSlot k) h = slot k h

  module _ (graph : DecId → List Edges) where
    mutual
      op_fits_more : (o : Op) → OpFits p slots graph o → OpFits q more graph o
      op_fits_more (simple s) h = simple_fits_more s h
      op_fits_more (choose k a b) h = (slot k h.0, code_fits_more a h.1, code_fits_more b h.2)
      op_fits_more (forever a) h = code_fits_more a h
      op_fits_more (for_loop a) h = code_fits_more a h
      op_fits_more exit h = tt
      op_fits_more returns h = tt
      op_fits_more (catch a k b) h = (code_fits_more a h.0, slot k h.1, code_fits_more b h.2)
      op_fits_more (decide d i k ns) h = (slot k h.0, h.1, h.2, h.3, h.4, nodes_fit_more ns h.5)
      op_fits_more (call f) h = omega (arith, h, part.bodies)

      pub code_fits_more : (a : Code) → CodeFits p slots graph a → CodeFits q more graph a
      code_fits_more no_op h = tt
      code_fits_more (and_op o a) h = (op_fits_more o h.0, code_fits_more a h.1)

      nodes_fit_more : (ns : Nodes) → NodesFit p slots graph ns → NodesFit q more graph ns
      nodes_fit_more no_node h = tt
      nodes_fit_more (and_node a k t f ns) h = (code_fits_more a h.0, slot k h.1, h.2, h.3, nodes_fit_more ns h.4)
