-- What machine code needs of a kernel: that its numbers name something, and that it is small enough.
use Rattle.std.specs.Prelude.{◌≡◌, ℕ, ℤ, zero, suc, ◌+◌, ◌*◌, ◌^◌, ◌<◌, ◌≤◌, List, [], ◌∷◌, length, sum_by}
use Rattle.std.specs.Int.{w32}
use Rattle.std.specs.Int.RustNames.{FitsSigned}
use Rattle.cov_base.specs.declared.position.DecId.{DecId}
use Rattle.cov_base.specs.Graph.{Next, node, leaf, Edges}
use Rattle.cov_base.specs.Lists.{Everywhere}
use Rattle.kernel_ir.specs.declared.code.Edge.{Edge}
use Rattle.kernel_ir.specs.declared.code.Edge.TheVariants as edge
use Rattle.kernel_ir.specs.declared.kernel.Body.{Body}
use Rattle.kernel_ir.specs.declared.kernel.Kernel.{Kernel}
use Rattle.kernel_ir.specs.declared.kernel.Layout.{Layout}
use Rattle.kernel_ir.specs.declared.kernel.Layout.TheVariants as layout
use Rattle.kernel_ir.specs.declared.simple.Simple.{Simple}
use Rattle.kernel_ir.specs.declared.simple.Simple.TheVariants as simple_op
use Rattle.kernel_ir.specs.Tree.{Op, simple, choose, forever, for_loop, exit, returns, catch, decide, call, Code, no_op, and_op, Nodes, no_node, and_node}
use Rattle.kernel_ir.specs.Layouts.{contents_after}

-- a number of 32 bits in two's complement
abbrev pub IsWord : ℤ → Type 0
IsWord x = FitsSigned w32 x

-- the most words of a type, and of the library level
abbrev pub most_words : ℕ
most_words = 0x40000

-- the most parameters
abbrev pub most_arguments : ℕ
most_arguments = 16

-- the most words of a frame, with those of the arguments of a call below it
abbrev pub widest : ℕ
widest = 7500

-- how many nodes there are
abbrev pub count : Nodes → ℕ
count no_node = zero
count (and_node a k t f ns) = suc (count ns)

-- where an edge of the node with the number n leads
abbrev pub next_of : (n : ℕ) → Edge → Next
next_of n (edge.Leaf outcome) = leaf outcome
next_of n (edge.NodeAfter skipped) = node (suc n + skipped)

-- the graph that nodes are, which are numbered from n on
abbrev pub edges_of : (n : ℕ) → Nodes → List Edges
edges_of n no_node = []
edges_of n (and_node a k t f ns) = record { on_true = next_of n t; on_false = next_of n f } ∷ edges_of (suc n) ns

abbrev mutual
  -- an operation holds no evaluation of a decision
  pub OpLacks : DecId → Op → Type 0
  OpLacks d (simple s) = Unit {0}
  OpLacks d (choose k a b) = CodeLacks d a × CodeLacks d b
  OpLacks d (forever a) = CodeLacks d a
  OpLacks d (for_loop a) = CodeLacks d a
  OpLacks d exit = Unit {0}
  OpLacks d returns = Unit {0}
  OpLacks d (catch a k b) = CodeLacks d a × CodeLacks d b
  OpLacks d (decide e i k ns) = (d.0 ≡ e.0 → ⊥) × NodesLack d ns
  OpLacks d (call f) = Unit {0}

  pub CodeLacks : DecId → Code → Type 0
  CodeLacks d no_op = Unit {0}
  CodeLacks d (and_op o a) = OpLacks d o × CodeLacks d a

  -- the code of no condition does
  pub NodesLack : DecId → Nodes → Type 0
  NodesLack d no_node = Unit {0}
  NodesLack d (and_node a k t f ns) = CodeLacks d a × NodesLack d ns

-- an edge leads to an outcome or to one of the nodes that follow
abbrev pub EdgeFits : Edge → Nodes → Type 0
EdgeFits (edge.Leaf outcome) ns = Unit {0}
EdgeFits (edge.NodeAfter skipped) ns = skipped < count ns

module _ (p : Kernel) (slots : ℕ) where
  -- the numbers of an operation name slots of these, words of the library level, layouts and exceptions of a kernel
  abbrev pub SimpleFits : Simple → Type 0
  SimpleFits (simple_op.Number k x) = (k < slots) × IsWord x
  SimpleFits (simple_op.Move k j) = (k < slots) × (j < slots)
  SimpleFits (simple_op.Compare r k i j) = (k < slots) × (i < slots) × (j < slots)
  SimpleFits (simple_op.Complement k j) = (k < slots) × (j < slots)
  SimpleFits (simple_op.Negate k j) = (k < slots) × (j < slots)
  SimpleFits (simple_op.Absolute k j) = (k < slots) × (j < slots)
  SimpleFits (simple_op.Arithmetic o k i j) = (k < slots) × (i < slots) × (j < slots)
  SimpleFits (simple_op.Within k low high) = (k < slots) × IsWord low × IsWord high
  SimpleFits (simple_op.Index k j low high n) = (k < slots) × (j < slots) × IsWord low × IsWord high × (n ≤ most_words)
  SimpleFits (simple_op.Offset k i j) = (k < slots) × (i < slots) × (j < slots)
  SimpleFits (simple_op.Advance k j x) = (k < slots) × (j < slots) × IsWord x
  SimpleFits (simple_op.FrameAddress k j) = (k < slots) × (j < slots)
  SimpleFits (simple_op.LibraryAddress k n) = (k < slots) × (n < length p.library)
  SimpleFits (simple_op.Load k j) = (k < slots) × (j < slots)
  SimpleFits (simple_op.Store j k) = (j < slots) × (k < slots)
  SimpleFits (simple_op.ReadLibrary k n) = (k < slots) × (n < length p.library)
  SimpleFits (simple_op.WriteLibrary n k) = (n < length p.library) × (k < slots)
  SimpleFits (simple_op.Copy k j n) = (k < slots) × (j < slots) × (n ≤ most_words)
  SimpleFits (simple_op.Fill k l) = (k < slots) × (l < length p.layouts)
  SimpleFits (simple_op.Start s i) = Unit {0}
  SimpleFits (simple_op.Get k) = k < slots
  SimpleFits (simple_op.Put k) = k < slots
  SimpleFits (simple_op.Raise e) = (1 ≤ e) × (e ≤ p.exceptions)
  SimpleFits (simple_op.RaiseSlot k) = k < slots

  module _ (graph : DecId → List Edges) where
    abbrev mutual
      -- the numbers of an operation name slots and bodies; the nodes of each decision are its graph, and it is not evaluated inside itself
      -- but by a call
      pub OpFits : Op → Type 0
      OpFits (simple s) = SimpleFits s
      OpFits (choose k a b) = (k < slots) × CodeFits a × CodeFits b
      OpFits (forever a) = CodeFits a
      OpFits (for_loop a) = CodeFits a
      OpFits exit = Unit {0}
      OpFits returns = Unit {0}
      OpFits (catch a k b) = CodeFits a × (k < slots) × CodeFits b
      OpFits (decide d i k ns) =
          (k < slots) × (edges_of zero ns ≡ graph d) × (1 ≤ count ns) × (count ns ≤ 32) × NodesLack d ns × NodesFit ns
      OpFits (call f) = f < length p.bodies

      pub CodeFits : Code → Type 0
      CodeFits no_op = Unit {0}
      CodeFits (and_op o a) = OpFits o × CodeFits a

      pub NodesFit : Nodes → Type 0
      NodesFit no_node = Unit {0}
      NodesFit (and_node a k t f ns) = CodeFits a × (k < slots) × EdgeFits t ns × EdgeFits f ns × NodesFit ns

-- a layout names earlier ones, of which there are n
abbrev pub LayoutFits : (n : ℕ) → Layout → Type 0
LayoutFits n (layout.Word x) = IsWord x
LayoutFits n (layout.Array times component) = (component < n) × (times ≤ most_words)
LayoutFits n (layout.Record components) = Everywhere (λ l. l < n) components

abbrev pub LayoutsFit : (n : ℕ) → List Layout → Type 0
LayoutsFit n [] = Unit {0}
LayoutsFit n (l ∷ ls) = LayoutFits n l × LayoutsFit (suc n) ls

-- a kernel is well-formed, where decisions have these graphs
pub record IsWellFormed (graph : DecId → List Edges) (p : Kernel) : Type 0 where
  pub bodies : Everywhere (λ b. CodeFits p (b.width + most_arguments) graph b.code) p.bodies
  pub main : p.main < length p.bodies
  pub layouts : LayoutsFit 0 p.layouts
  pub library : Everywhere (λ word. word < 2 ^ 32) p.library
  pub predefined : 4 ≤ p.exceptions
  pub exceptions : p.exceptions < 2 ^ 31

-- how many instructions the machine code of an operation has at most
abbrev pub simple_instructions : Simple → ℕ
simple_instructions (simple_op.Number k x) = 5
simple_instructions (simple_op.Move k j) = 6
simple_instructions (simple_op.Compare r k i j) = 11
simple_instructions (simple_op.Complement k j) = 8
simple_instructions (simple_op.Negate k j) = 11
simple_instructions (simple_op.Absolute k j) = 15
simple_instructions (simple_op.Arithmetic o k i j) = 21
simple_instructions (simple_op.Within k low high) = 13
simple_instructions (simple_op.Index k j low high n) = 20
simple_instructions (simple_op.Offset k i j) = 10
simple_instructions (simple_op.Advance k j x) = 9
simple_instructions (simple_op.FrameAddress k j) = 7
simple_instructions (simple_op.LibraryAddress k n) = 5
simple_instructions (simple_op.Load k j) = 15
simple_instructions (simple_op.Store j k) = 15
simple_instructions (simple_op.ReadLibrary k n) = 5
simple_instructions (simple_op.WriteLibrary n k) = 5
simple_instructions (simple_op.Copy k j n) = 34
simple_instructions (simple_op.Fill k l) = 12
simple_instructions (simple_op.Start s i) = 1
simple_instructions (simple_op.Get k) = 8
simple_instructions (simple_op.Put k) = 5
simple_instructions (simple_op.Raise e) = 3
simple_instructions (simple_op.RaiseSlot k) = 9

abbrev mutual
  pub op_instructions : Op → ℕ
  op_instructions (simple s) = simple_instructions s
  op_instructions (choose k a b) = code_instructions a + code_instructions b + 7
  op_instructions (forever a) = code_instructions a + 1
  op_instructions (for_loop a) = code_instructions a + 1
  op_instructions exit = 1
  op_instructions returns = 1
  op_instructions (catch a k b) = code_instructions a + code_instructions b + 4
  op_instructions (decide d i k ns) = nodes_instructions ns + 9
  op_instructions (call f) = 13

  pub code_instructions : Code → ℕ
  code_instructions no_op = 0
  code_instructions (and_op o a) = op_instructions o + code_instructions a

  pub nodes_instructions : Nodes → ℕ
  nodes_instructions no_node = 0
  nodes_instructions (and_node a k t f ns) = code_instructions a + nodes_instructions ns + 8

-- those of a body
abbrev pub body_instructions : Body → ℕ
body_instructions b = code_instructions b.code + 8

-- those of the routine that fills a layout
abbrev pub layout_instructions : Layout → ℕ
layout_instructions (layout.Word x) = 8
layout_instructions (layout.Array times component) = 24
layout_instructions (layout.Record components) = 8 + 2 * length components

-- those of a kernel, and of what starts it
abbrev pub kernel_instructions : Kernel → ℕ
kernel_instructions p = sum_by body_instructions p.bodies + sum_by layout_instructions p.layouts + 16

-- A kernel is small enough: 513 frames and the library level lie in the data area, the words behind the area suffice for return addresses
-- and for the routines of the layouts, and a jump reaches the whole text.
pub record IsWithin (p : Kernel) : Type 0 where
  pub widths : Everywhere (λ b. (1 ≤ b.width) × (b.width + most_arguments ≤ widest)) p.bodies
  pub library : length p.library ≤ most_words
  pub layouts : length p.layouts ≤ 0x3f00
  pub contents : Everywhere (λ c. length c.words ≤ most_words) (contents_after [] p.layouts)
  pub text : kernel_instructions p < 0x40000
