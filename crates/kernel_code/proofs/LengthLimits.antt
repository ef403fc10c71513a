-- Pieces have no more lines than the limits of a kernel count.
use Rattle.std.proofs.Common.{◌≡◌, ℕ, ◌+◌, ◌≤◌, List, [], ◌∷◌, ◌++◌, map, length, refl, sym, subst, ◌∙◌, arith, lit≤, length-append}
use Rattle.std.proofs.lemmas.List.{length-map}
use Rattle.std.proofs.lemmas.List.Sums.{sum_by-cons}
use Rattle.std.specs.List.{sum_by}
use Rattle.assembler.specs.declared.piece.Piece.{Piece}
use Rattle.assembler.specs.Placed.{words_of, words_in}
use Rattle.kernel_ir.specs.declared.kernel.Body.{Body}
use Rattle.kernel_ir.specs.declared.kernel.Kernel.{Kernel}
use Rattle.kernel_ir.specs.declared.kernel.Layout.{Layout}
use Rattle.kernel_ir.specs.declared.kernel.Layout.TheVariants as layout
use Rattle.kernel_ir.specs.declared.simple.Operator.TheVariants as operator
use Rattle.kernel_ir.specs.declared.simple.Relation.TheVariants as relation
use Rattle.kernel_ir.specs.declared.simple.Simple.{Simple}
use Rattle.kernel_ir.specs.declared.simple.Simple.TheVariants as simple_op
use Rattle.kernel_ir.specs.Tree.{Op, simple, choose, forever, for_loop, exit, returns, catch, decide, call, Code, no_op, and_op, Nodes, no_node, and_node}
use Rattle.kernel_ir.specs.Limits.{simple_instructions, op_instructions, code_instructions, nodes_instructions, body_instructions, layout_instructions, kernel_instructions}
use Rattle.kernel_code.specs.Line.{Line, items_of}
use Rattle.kernel_code.specs.SimpleCode.{Setting, call_piece}
use Rattle.kernel_code.specs.Code.{simple_length, op_length, code_length, nodes_length, body_targets, code_lines, body_lines, start_lines}
use Rattle.kernel_code.specs.FillCode.{layout_lines}
use Rattle.kernel_code.specs.Calls.{first_layout, setting}
use Rattle.kernel_code.specs.Marked.{piece_of}
use Rattle.kernel_code.specs.Pieces.{body_piece, layout_pieces, kernel_pieces}
use Rattle.kernel_code.proofs.Lengths.{code_long}
use Rattle.kernel_code.proofs.Stands.{one_word_each}
use Rattle.kernel_code.proofs.CodeMarks.{end_of_body, end_of_layout}

simple_few : (s : Simple) → simple_length s ≤ simple_instructions s
simple_few (simple_op.Number to value) = lit≤ tt
simple_few (simple_op.Move to from) = lit≤ tt
simple_few (simple_op.Compare relation.Equal to i j) = lit≤ tt
simple_few (simple_op.Compare relation.Unequal to i j) = lit≤ tt
simple_few (simple_op.Compare relation.Less to i j) = lit≤ tt
simple_few (simple_op.Compare relation.AtMost to i j) = lit≤ tt
simple_few (simple_op.Compare relation.Greater to i j) = lit≤ tt
simple_few (simple_op.Compare relation.AtLeast to i j) = lit≤ tt
simple_few (simple_op.Complement to from) = lit≤ tt
simple_few (simple_op.Negate to from) = lit≤ tt
simple_few (simple_op.Absolute to from) = lit≤ tt
simple_few (simple_op.Arithmetic operator.Add to i j) = lit≤ tt
simple_few (simple_op.Arithmetic operator.Subtract to i j) = lit≤ tt
simple_few (simple_op.Arithmetic operator.Multiply to i j) = lit≤ tt
simple_few (simple_op.Arithmetic operator.Divide to i j) = lit≤ tt
simple_few (simple_op.Arithmetic operator.Modulo to i j) = lit≤ tt
simple_few (simple_op.Arithmetic operator.Remainder to i j) = lit≤ tt
simple_few (simple_op.Within slot low high) = lit≤ tt
simple_few (simple_op.Index to from low high size) = lit≤ tt
simple_few (simple_op.Offset to i j) = lit≤ tt
simple_few (simple_op.Advance to from by) = lit≤ tt
simple_few (simple_op.FrameAddress to slot) = lit≤ tt
simple_few (simple_op.LibraryAddress to word) = lit≤ tt
simple_few (simple_op.Load to address) = lit≤ tt
simple_few (simple_op.Store address from) = lit≤ tt
simple_few (simple_op.ReadLibrary to word) = lit≤ tt
simple_few (simple_op.WriteLibrary word from) = lit≤ tt
simple_few (simple_op.Copy to from words) = lit≤ tt
simple_few (simple_op.Fill at layout) = lit≤ tt
simple_few (simple_op.Start statement instance) = lit≤ tt
simple_few (simple_op.Get to) = lit≤ tt
simple_few (simple_op.Put from) = lit≤ tt
simple_few (simple_op.Raise exception) = lit≤ tt
simple_few (simple_op.RaiseSlot slot) = lit≤ tt

mutual
  op_few : (o : Op) → op_length o ≤ op_instructions o
  op_few (simple s) = simple_few s
  op_few (choose k a b) = omega (arith, code_few a, code_few b)
  op_few (forever a) = omega (arith, code_few a)
  op_few (for_loop a) = omega (arith, code_few a)
  op_few exit = lit≤ tt
  op_few returns = lit≤ tt
  op_few (catch a k b) = omega (arith, code_few a, code_few b)
  op_few (decide d i k ns) = omega (arith, nodes_few ns)
  op_few (call f) = lit≤ tt

  pub code_few : (a : Code) → code_length a ≤ code_instructions a
  code_few no_op = lit≤ tt
  code_few (and_op o a) = omega (arith, op_few o, code_few a)

  nodes_few : (ns : Nodes) → nodes_length ns ≤ nodes_instructions ns
  nodes_few no_node = lit≤ tt
  nodes_few (and_node a k t f ns) = omega (arith, code_few a, nodes_few ns)

-- how long the lines of each piece are

pub body_long : (e : Setting) (a : Code) → length (body_lines e a) ≡ code_length a + 6
body_long e a = omega (arith, code_long e (body_targets a) 2 a, length-append (code_lines e (body_targets a) 2 a) end_of_body)

pub record_long : (first l : ℕ) (components : List ℕ) → length (layout_lines first l (layout.Record components)) ≡ length components + 5
record_long first l components =
    omega (
      arith,
      length-append (map (λ component. call_piece (first + component)) components) (end_of_layout l),
      length-map components (λ component. call_piece (first + component)),
    )

layout_few : (first l : ℕ) (x : Layout) → length (layout_lines first l x) ≤ layout_instructions x
layout_few first l (layout.Word x) = lit≤ tt
layout_few first l (layout.Array count component) = lit≤ tt
layout_few first l (layout.Record components) = omega (arith, record_long first l components)

pub words_of_lines : (lines : List Line) → words_of (items_of lines) ≡ length lines
words_of_lines lines = one_word_each (items_of lines) ∙ length-map lines (λ line. line.item)

words_in_parts : (xs ys : List Piece) → words_in (xs ++ ys) ≡ words_in xs + words_in ys
words_in_parts [] ys = omega arith
words_in_parts (x ∷ xs) ys = omega (arith, words_in_parts xs ys)

both : (a b c d : ℕ) → a ≤ b → c ≤ d → a + c ≤ b + d
both a b c d least rest = omega arith

bodies_few : (p : Kernel) (bs : List Body) → words_in (map (body_piece p) bs) ≤ sum_by body_instructions bs
bodies_few p [] = lit≤ tt
bodies_few p (b ∷ bs) =
    subst (λ n. words_in (map (body_piece p) (b ∷ bs)) ≤ n) (sym (sum_by-cons body_instructions b bs))
    (both (words_of (body_piece p b).items) (body_instructions b) (words_in (map (body_piece p) bs)) (sum_by body_instructions bs)
    (most (words_of (body_piece p b).items) (length (body_lines (setting p b.width) b.code)) (code_length b.code) (code_instructions b.code)
    (words_of_lines (body_lines (setting p b.width) b.code)) (body_long (setting p b.width) b.code) (code_few b.code))
    (bodies_few p bs))
  where
    most : (words lines long limit : ℕ) → words ≡ lines → lines ≡ long + 6 → long ≤ limit → words ≤ limit + 8
    most words lines long limit is are least = omega arith

layouts_few : (first l : ℕ) (xs : List Layout) → words_in (layout_pieces first l xs) ≤ sum_by layout_instructions xs
layouts_few first l [] = lit≤ tt
layouts_few first l (x ∷ xs) =
    subst (λ n. words_in (layout_pieces first l (x ∷ xs)) ≤ n) (sym (sum_by-cons layout_instructions x xs))
    (both (words_of (piece_of (layout_lines first l x)).items) (layout_instructions x) (words_in (layout_pieces first (l + 1) xs)) (sum_by layout_instructions xs)
    (most (words_of (piece_of (layout_lines first l x)).items) (length (layout_lines first l x)) (layout_instructions x) (words_of_lines (layout_lines first l x)) (layout_few first l x))
    (layouts_few first (l + 1) xs))
  where
    most : (words lines limit : ℕ) → words ≡ lines → lines ≤ limit → words ≤ limit
    most words lines limit is least = omega arith

pub pieces_few : (p : Kernel) → words_in (kernel_pieces p) ≤ kernel_instructions p
pieces_few p =
    let start : words_of (items_of (start_lines p.main)) ≡ 7 = refl in
    let parts = words_in_parts (map (body_piece p) p.bodies) (layout_pieces (first_layout p) 0 p.layouts) in
    let bodies = bodies_few p p.bodies in
    let layouts = layouts_few (first_layout p) 0 p.layouts in
    omega arith
