-- What the lines of code say: the statements and conditions of the code, in order, and the role of each branch.
use Rattle.std.proofs.Common.{◌≡◌, ℕ, suc, ◌+◌, true, List, [], ◌∷◌, ◌++◌, map, refl, ap₂, ◌∙◌}
use Rattle.std.proofs.lemmas.List.{append-nil}
use Rattle.cov_base.specs.declared.position.DecId.{DecId}
use Rattle.cov_base.specs.declared.position.InstId.{InstId}
use Rattle.rv_isa.specs.declared.ops.BranchOp.TheVariants.{Bne}
use Rattle.rv_isa.specs.declared.ops.ImmediateOp.TheVariants.{Addi}
use Rattle.rv_isa.specs.declared.ops.LoadOp.TheVariants.{Lw}
use Rattle.rv_isa.specs.declared.instr.Instr.TheVariants.{Jalr, Load, Immediate}
use Rattle.kernel_ir.specs.declared.code.Edge.{Edge}
use Rattle.kernel_ir.specs.declared.kernel.Layout.TheVariants as layout
use Rattle.kernel_ir.specs.declared.simple.Operator.TheVariants as operator
use Rattle.kernel_ir.specs.declared.simple.Relation.TheVariants as relation
use Rattle.kernel_ir.specs.declared.simple.Simple.{Simple}
use Rattle.kernel_ir.specs.declared.simple.Simple.TheVariants as simple_op
use Rattle.kernel_ir.specs.Tree.{Op, simple, choose, forever, for_loop, exit, returns, catch, decide, call, Code, no_op, and_op, Nodes, no_node, and_node}
use Rattle.kernel_ir.specs.Obligations.{simple_rows, op_rows, code_rows, node_rows, op_conditions, code_conditions, node_conditions}
use Rattle.kernel_code.specs.Line.{Line, decides, plain, jump}
use Rattle.kernel_code.specs.Words.{store_slot}
use Rattle.kernel_code.specs.SimpleCode.{Setting, Targets, branch, call_piece, simple_lines}
use Rattle.kernel_code.specs.Code.{op_length, code_length, nodes_length, edge_place, inside, guarded, load_truth, op_lines, code_lines, nodes_lines, body_targets, body_lines, start_lines}
use Rattle.kernel_code.specs.FillCode.{go_back, layout_lines}
use Rattle.kernel_code.specs.Marked.{BodiesAreMarked, LayoutsAreMarked, StartIsMarked}
use Rattle.kernel_code.proofs.Marked.{say_their_roles, rows_in, conditions_in, rows_append, conditions_append, roles_append, marked}

-- an operation that holds no others starts a statement or none, and decides no condition

simple_says : (e : Setting) (r p : ℕ) (s : Simple) → rows_in (simple_lines e r p s) ≡ simple_rows s
simple_says e r p (simple_op.Number to value) = refl
simple_says e r p (simple_op.Move to from) = refl
simple_says e r p (simple_op.Compare relation.Equal to i j) = refl
simple_says e r p (simple_op.Compare relation.Unequal to i j) = refl
simple_says e r p (simple_op.Compare relation.Less to i j) = refl
simple_says e r p (simple_op.Compare relation.AtMost to i j) = refl
simple_says e r p (simple_op.Compare relation.Greater to i j) = refl
simple_says e r p (simple_op.Compare relation.AtLeast to i j) = refl
simple_says e r p (simple_op.Complement to from) = refl
simple_says e r p (simple_op.Negate to from) = refl
simple_says e r p (simple_op.Absolute to from) = refl
simple_says e r p (simple_op.Arithmetic operator.Add to i j) = refl
simple_says e r p (simple_op.Arithmetic operator.Subtract to i j) = refl
simple_says e r p (simple_op.Arithmetic operator.Multiply to i j) = refl
simple_says e r p (simple_op.Arithmetic operator.Divide to i j) = refl
simple_says e r p (simple_op.Arithmetic operator.Modulo to i j) = refl
simple_says e r p (simple_op.Arithmetic operator.Remainder to i j) = refl
simple_says e r p (simple_op.Within slot low high) = refl
simple_says e r p (simple_op.Index to from low high size) = refl
simple_says e r p (simple_op.Offset to i j) = refl
simple_says e r p (simple_op.Advance to from by) = refl
simple_says e r p (simple_op.FrameAddress to slot) = refl
simple_says e r p (simple_op.LibraryAddress to word) = refl
simple_says e r p (simple_op.Load to address) = refl
simple_says e r p (simple_op.Store address from) = refl
simple_says e r p (simple_op.ReadLibrary to word) = refl
simple_says e r p (simple_op.WriteLibrary word from) = refl
simple_says e r p (simple_op.Copy to from words) = refl
simple_says e r p (simple_op.Fill at layout) = refl
simple_says e r p (simple_op.Start statement instance) = refl
simple_says e r p (simple_op.Get to) = refl
simple_says e r p (simple_op.Put from) = refl
simple_says e r p (simple_op.Raise exception) = refl
simple_says e r p (simple_op.RaiseSlot slot) = refl

simple_decides : (e : Setting) (r p : ℕ) (s : Simple) → conditions_in (simple_lines e r p s) ≡ []
simple_decides e r p (simple_op.Number to value) = refl
simple_decides e r p (simple_op.Move to from) = refl
simple_decides e r p (simple_op.Compare relation.Equal to i j) = refl
simple_decides e r p (simple_op.Compare relation.Unequal to i j) = refl
simple_decides e r p (simple_op.Compare relation.Less to i j) = refl
simple_decides e r p (simple_op.Compare relation.AtMost to i j) = refl
simple_decides e r p (simple_op.Compare relation.Greater to i j) = refl
simple_decides e r p (simple_op.Compare relation.AtLeast to i j) = refl
simple_decides e r p (simple_op.Complement to from) = refl
simple_decides e r p (simple_op.Negate to from) = refl
simple_decides e r p (simple_op.Absolute to from) = refl
simple_decides e r p (simple_op.Arithmetic operator.Add to i j) = refl
simple_decides e r p (simple_op.Arithmetic operator.Subtract to i j) = refl
simple_decides e r p (simple_op.Arithmetic operator.Multiply to i j) = refl
simple_decides e r p (simple_op.Arithmetic operator.Divide to i j) = refl
simple_decides e r p (simple_op.Arithmetic operator.Modulo to i j) = refl
simple_decides e r p (simple_op.Arithmetic operator.Remainder to i j) = refl
simple_decides e r p (simple_op.Within slot low high) = refl
simple_decides e r p (simple_op.Index to from low high size) = refl
simple_decides e r p (simple_op.Offset to i j) = refl
simple_decides e r p (simple_op.Advance to from by) = refl
simple_decides e r p (simple_op.FrameAddress to slot) = refl
simple_decides e r p (simple_op.LibraryAddress to word) = refl
simple_decides e r p (simple_op.Load to address) = refl
simple_decides e r p (simple_op.Store address from) = refl
simple_decides e r p (simple_op.ReadLibrary to word) = refl
simple_decides e r p (simple_op.WriteLibrary word from) = refl
simple_decides e r p (simple_op.Copy to from words) = refl
simple_decides e r p (simple_op.Fill at layout) = refl
simple_decides e r p (simple_op.Start statement instance) = refl
simple_decides e r p (simple_op.Get to) = refl
simple_decides e r p (simple_op.Put from) = refl
simple_decides e r p (simple_op.Raise exception) = refl
simple_decides e r p (simple_op.RaiseSlot slot) = refl

simple_roles : (e : Setting) (r p : ℕ) (s : Simple) → say_their_roles (simple_lines e r p s) ≡ true
simple_roles e r p (simple_op.Number to value) = refl
simple_roles e r p (simple_op.Move to from) = refl
simple_roles e r p (simple_op.Compare relation.Equal to i j) = refl
simple_roles e r p (simple_op.Compare relation.Unequal to i j) = refl
simple_roles e r p (simple_op.Compare relation.Less to i j) = refl
simple_roles e r p (simple_op.Compare relation.AtMost to i j) = refl
simple_roles e r p (simple_op.Compare relation.Greater to i j) = refl
simple_roles e r p (simple_op.Compare relation.AtLeast to i j) = refl
simple_roles e r p (simple_op.Complement to from) = refl
simple_roles e r p (simple_op.Negate to from) = refl
simple_roles e r p (simple_op.Absolute to from) = refl
simple_roles e r p (simple_op.Arithmetic operator.Add to i j) = refl
simple_roles e r p (simple_op.Arithmetic operator.Subtract to i j) = refl
simple_roles e r p (simple_op.Arithmetic operator.Multiply to i j) = refl
simple_roles e r p (simple_op.Arithmetic operator.Divide to i j) = refl
simple_roles e r p (simple_op.Arithmetic operator.Modulo to i j) = refl
simple_roles e r p (simple_op.Arithmetic operator.Remainder to i j) = refl
simple_roles e r p (simple_op.Within slot low high) = refl
simple_roles e r p (simple_op.Index to from low high size) = refl
simple_roles e r p (simple_op.Offset to i j) = refl
simple_roles e r p (simple_op.Advance to from by) = refl
simple_roles e r p (simple_op.FrameAddress to slot) = refl
simple_roles e r p (simple_op.LibraryAddress to word) = refl
simple_roles e r p (simple_op.Load to address) = refl
simple_roles e r p (simple_op.Store address from) = refl
simple_roles e r p (simple_op.ReadLibrary to word) = refl
simple_roles e r p (simple_op.WriteLibrary word from) = refl
simple_roles e r p (simple_op.Copy to from words) = refl
simple_roles e r p (simple_op.Fill at layout) = refl
simple_roles e r p (simple_op.Start statement instance) = refl
simple_roles e r p (simple_op.Get to) = refl
simple_roles e r p (simple_op.Put from) = refl
simple_roles e r p (simple_op.Raise exception) = refl
simple_roles e r p (simple_op.RaiseSlot slot) = refl

-- the lines of nodes behind the code of the first one's condition
abbrev pub rest_of_nodes : Setting → Targets → (true_at false_at : ℕ) → DecId → InstId → (n p : ℕ) → Code → (slot : ℕ) → Edge → Edge → Nodes → List Line
rest_of_nodes e t true_at false_at d i n p a k on_true on_false ns =
    map plain (load_truth k)
    ++ (branch (decides d n i) Bne 10 0 (p + code_length a + 7)
    ∷ (jump (edge_place true_at false_at ns (p + code_length a + 8) on_false)
    ∷ (jump (edge_place true_at false_at ns (p + code_length a + 8) on_true)
    ∷ nodes_lines e t true_at false_at d i (suc n) (p + code_length a + 8) ns)))

abbrev pub after_decision : (place slot : ℕ) → List Line
after_decision place k =
    map plain (Immediate Addi 10 0 1 ∷ store_slot 10 k [])
    ++ (jump place ∷ map plain (Immediate Addi 10 0 0 ∷ store_slot 10 k []))

mutual
  pub op_says : (e : Setting) (t : Targets) (p : ℕ) (o : Op) → rows_in (op_lines e t p o) ≡ op_rows o
  op_says e t p (simple s) = simple_says e t.raise_to p s
  op_says e t p (choose k a b) =
      rows_append (code_lines e t (p + 6) a) (jump (p + 7 + code_length a + code_length b) ∷ code_lines e t (p + 7 + code_length a) b)
      ∙ ap₂ (λ xs ys. xs ++ ys) (code_says e t (p + 6) a) (code_says e t (p + 7 + code_length a) b)
  op_says e t p (forever a) =
      rows_append (code_lines e (inside t p a) p a) (jump p ∷ []) ∙ (append-nil (rows_in (code_lines e (inside t p a) p a)) ∙ code_says e (inside t p a) p a)
  op_says e t p (for_loop a) =
      rows_append (code_lines e (inside t p a) p a) (jump p ∷ []) ∙ (append-nil (rows_in (code_lines e (inside t p a) p a)) ∙ code_says e (inside t p a) p a)
  op_says e t p exit = refl
  op_says e t p returns = refl
  op_says e t p (catch a k b) =
      rows_append (code_lines e (guarded t p a) p a)
      (jump (p + code_length a + 4 + code_length b) ∷ (map plain (store_slot 12 k []) ++ code_lines e t (p + code_length a + 4) b))
      ∙ ap₂ (λ xs ys. xs ++ ys) (code_says e (guarded t p a) p a) (code_says e t (p + code_length a + 4) b)
  op_says e t p (decide d i k ns) =
      let true_at = p + nodes_length ns in
      rows_append (nodes_lines e t true_at (true_at + 5) d i 0 p ns) (after_decision (true_at + 9) k)
      ∙ (append-nil (rows_in (nodes_lines e t true_at (true_at + 5) d i 0 p ns)) ∙ nodes_say e t true_at (true_at + 5) d i 0 p ns)
  op_says e t p (call f) = refl

  pub code_says : (e : Setting) (t : Targets) (p : ℕ) (a : Code) → rows_in (code_lines e t p a) ≡ code_rows a
  code_says e t p no_op = refl
  code_says e t p (and_op o a) =
      rows_append (op_lines e t p o) (code_lines e t (p + op_length o) a)
      ∙ ap₂ (λ xs ys. xs ++ ys) (op_says e t p o) (code_says e t (p + op_length o) a)

  nodes_say : (e : Setting) (t : Targets) (true_at false_at : ℕ) (d : DecId) (i : InstId) (n p : ℕ) (ns : Nodes)
      → rows_in (nodes_lines e t true_at false_at d i n p ns) ≡ node_rows ns
  nodes_say e t true_at false_at d i n p no_node = refl
  nodes_say e t true_at false_at d i n p (and_node a k on_true on_false ns) =
      rows_append (code_lines e t p a) (rest_of_nodes e t true_at false_at d i n p a k on_true on_false ns)
      ∙ ap₂ (λ xs ys. xs ++ ys) (code_says e t p a) (nodes_say e t true_at false_at d i (suc n) (p + code_length a + 8) ns)

mutual
  pub op_decides : (e : Setting) (t : Targets) (p : ℕ) (o : Op) → conditions_in (op_lines e t p o) ≡ op_conditions o
  op_decides e t p (simple s) = simple_decides e t.raise_to p s
  op_decides e t p (choose k a b) =
      conditions_append (code_lines e t (p + 6) a) (jump (p + 7 + code_length a + code_length b) ∷ code_lines e t (p + 7 + code_length a) b)
      ∙ ap₂ (λ xs ys. xs ++ ys) (code_decides e t (p + 6) a) (code_decides e t (p + 7 + code_length a) b)
  op_decides e t p (forever a) =
      conditions_append (code_lines e (inside t p a) p a) (jump p ∷ []) ∙ (append-nil (conditions_in (code_lines e (inside t p a) p a)) ∙ code_decides e (inside t p a) p a)
  op_decides e t p (for_loop a) =
      conditions_append (code_lines e (inside t p a) p a) (jump p ∷ []) ∙ (append-nil (conditions_in (code_lines e (inside t p a) p a)) ∙ code_decides e (inside t p a) p a)
  op_decides e t p exit = refl
  op_decides e t p returns = refl
  op_decides e t p (catch a k b) =
      conditions_append (code_lines e (guarded t p a) p a)
      (jump (p + code_length a + 4 + code_length b) ∷ (map plain (store_slot 12 k []) ++ code_lines e t (p + code_length a + 4) b))
      ∙ ap₂ (λ xs ys. xs ++ ys) (code_decides e (guarded t p a) p a) (code_decides e t (p + code_length a + 4) b)
  op_decides e t p (decide d i k ns) =
      let true_at = p + nodes_length ns in
      conditions_append (nodes_lines e t true_at (true_at + 5) d i 0 p ns) (after_decision (true_at + 9) k)
      ∙ (append-nil (conditions_in (nodes_lines e t true_at (true_at + 5) d i 0 p ns)) ∙ nodes_decide e t true_at (true_at + 5) d i 0 p ns)
  op_decides e t p (call f) = refl

  pub code_decides : (e : Setting) (t : Targets) (p : ℕ) (a : Code) → conditions_in (code_lines e t p a) ≡ code_conditions a
  code_decides e t p no_op = refl
  code_decides e t p (and_op o a) =
      conditions_append (op_lines e t p o) (code_lines e t (p + op_length o) a)
      ∙ ap₂ (λ xs ys. xs ++ ys) (op_decides e t p o) (code_decides e t (p + op_length o) a)

  nodes_decide : (e : Setting) (t : Targets) (true_at false_at : ℕ) (d : DecId) (i : InstId) (n p : ℕ) (ns : Nodes)
      → conditions_in (nodes_lines e t true_at false_at d i n p ns) ≡ node_conditions d i n ns
  nodes_decide e t true_at false_at d i n p no_node = refl
  nodes_decide e t true_at false_at d i n p (and_node a k on_true on_false ns) =
      conditions_append (code_lines e t p a) (rest_of_nodes e t true_at false_at d i n p a k on_true on_false ns)
      ∙ ap₂ (λ xs ys. xs ++ (record { decision = d; at_node = n; instance = i } ∷ ys)) (code_decides e t p a)
      (nodes_decide e t true_at false_at d i (suc n) (p + code_length a + 8) ns)

mutual
  pub op_roles : (e : Setting) (t : Targets) (p : ℕ) (o : Op) → say_their_roles (op_lines e t p o) ≡ true
  op_roles e t p (simple s) = simple_roles e t.raise_to p s
  op_roles e t p (choose k a b) =
      roles_append (code_lines e t (p + 6) a) (jump (p + 7 + code_length a + code_length b) ∷ code_lines e t (p + 7 + code_length a) b)
      (code_roles e t (p + 6) a) (code_roles e t (p + 7 + code_length a) b)
  op_roles e t p (forever a) = roles_append (code_lines e (inside t p a) p a) (jump p ∷ []) (code_roles e (inside t p a) p a) refl
  op_roles e t p (for_loop a) = roles_append (code_lines e (inside t p a) p a) (jump p ∷ []) (code_roles e (inside t p a) p a) refl
  op_roles e t p exit = refl
  op_roles e t p returns = refl
  op_roles e t p (catch a k b) =
      roles_append (code_lines e (guarded t p a) p a)
      (jump (p + code_length a + 4 + code_length b) ∷ (map plain (store_slot 12 k []) ++ code_lines e t (p + code_length a + 4) b))
      (code_roles e (guarded t p a) p a) (code_roles e t (p + code_length a + 4) b)
  op_roles e t p (decide d i k ns) =
      let true_at = p + nodes_length ns in
      roles_append (nodes_lines e t true_at (true_at + 5) d i 0 p ns) (after_decision (true_at + 9) k) (nodes_roles e t true_at (true_at + 5) d i 0 p ns) refl
  op_roles e t p (call f) = refl

  pub code_roles : (e : Setting) (t : Targets) (p : ℕ) (a : Code) → say_their_roles (code_lines e t p a) ≡ true
  code_roles e t p no_op = refl
  code_roles e t p (and_op o a) =
      roles_append (op_lines e t p o) (code_lines e t (p + op_length o) a) (op_roles e t p o) (code_roles e t (p + op_length o) a)

  nodes_roles : (e : Setting) (t : Targets) (true_at false_at : ℕ) (d : DecId) (i : InstId) (n p : ℕ) (ns : Nodes)
      → say_their_roles (nodes_lines e t true_at false_at d i n p ns) ≡ true
  nodes_roles e t true_at false_at d i n p no_node = refl
  nodes_roles e t true_at false_at d i n p (and_node a k on_true on_false ns) =
      roles_append (code_lines e t p a) (rest_of_nodes e t true_at false_at d i n p a k on_true on_false ns)
      (code_roles e t p a) (nodes_roles e t true_at false_at d i (suc n) (p + code_length a + 8) ns)

-- the lines behind a body's code
abbrev pub end_of_body : List Line
end_of_body = map plain (Immediate Addi 12 0 0 ∷ Load Lw 1 2 0 ∷ Immediate Addi 2 2 4 ∷ []) ++ (plain (Jalr 0 1 0) ∷ [])

pub bodies_are_marked : BodiesAreMarked
bodies_are_marked e a =
    let code = code_lines e (body_targets a) 2 a in
    marked (body_lines e a) (code_rows a) (code_conditions a)
    (roles_append code end_of_body (code_roles e (body_targets a) 2 a) refl)
    (rows_append code end_of_body ∙ (append-nil (rows_in code) ∙ code_says e (body_targets a) 2 a))
    (conditions_append code end_of_body ∙ (append-nil (conditions_in code) ∙ code_decides e (body_targets a) 2 a))

pub start_is_marked : StartIsMarked
start_is_marked main = marked (start_lines main) [] [] refl refl refl

-- calls of pieces say nothing, and branch nowhere
abbrev pub end_of_layout : (l : ℕ) → List Line
end_of_layout l = map plain (go_back l) ++ (plain (Jalr 0 1 0) ∷ [])

calls_say : (first l : ℕ) (components : List ℕ)
    → (rows_in (map (λ component. call_piece (first + component)) components ++ end_of_layout l) ≡ [])
    × (conditions_in (map (λ component. call_piece (first + component)) components ++ end_of_layout l) ≡ [])
    × (say_their_roles (map (λ component. call_piece (first + component)) components ++ end_of_layout l) ≡ true)
calls_say first l [] = (refl, refl, refl)
calls_say first l (component ∷ components) = calls_say first l components

pub layouts_are_marked : LayoutsAreMarked
layouts_are_marked first l (layout.Word x) = marked (layout_lines first l (layout.Word x)) [] [] refl refl refl
layouts_are_marked first l (layout.Array count component) = marked (layout_lines first l (layout.Array count component)) [] [] refl refl refl
layouts_are_marked first l (layout.Record components) =
    let (says, decides_none, roles) = calls_say first l components in
    marked (layout_lines first l (layout.Record components)) [] [] roles says decides_none
