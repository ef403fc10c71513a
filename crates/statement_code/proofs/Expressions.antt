-- What the code of expressions, names and actuals is like.
use Rattle.std.proofs.Common.{◌≡◌, ℕ, zero, suc, ◌+◌, ◌*◌, ◌<◌, ◌≤◌, pos, Bool, true, false, List, [], ◌++◌, drop, length, refl, subst, ◌∙◌, arith}
use Rattle.std.proofs.lemmas.List.{append-nil}
use Rattle.cov_base.specs.declared.position.DecId.{DecId}
use Rattle.cov_base.specs.Graph as logic
use Rattle.cov_base.specs.Graph.{Edges}
use Rattle.ada_meaning.specs.Calls.{word_bounds, next_parameter}
use Rattle.ada_meaning.specs.Collected.{Standing, elsewhere, Decision, in_expr, in_parts, in_actuals, in_test, in_decision}
use Rattle.ada_meaning.specs.Program.{Mode, in_mode, out_mode, in_out_mode, Target, get_target, put_target, body_target, Program}
use Rattle.ada_meaning.specs.Resolved.{ResolvedParameter, number_in, bounds_in, target_in, parameters_of}
use Rattle.ada_meaning.specs.Shape.{Shape, word, row, group}
use Rattle.ada_meaning.specs.Tree as tree
use Rattle.ada_resolved.specs.Sizes.{words}
use Rattle.kernel_ir.specs.declared.code.Edge.{Edge}
use Rattle.kernel_ir.specs.declared.code.Edge.TheVariants as edge
use Rattle.kernel_ir.specs.declared.kernel.Kernel.{Kernel}
use Rattle.kernel_ir.specs.declared.simple.Simple.TheVariants as op
use Rattle.kernel_ir.specs.Limits.{most_arguments}
use Rattle.kernel_ir.specs.Sequence.{joined}
use Rattle.kernel_ir.specs.Tree.{simple, decide, Code, and_op, Nodes, no_node}
use Rattle.frame_widths.specs.Ends.{end_of, end_of_actuals, end_of_parts, end_of_test}
use Rattle.frame_widths.proofs.Above.{end_is_above, actuals_are_above, parts_are_above, test_is_above}
use Rattle.statement_code.specs.Names.{names_in}
use Rattle.statement_code.specs.Numbers.{ShapeFits, ParametersFit, BodiesFit, ObjectsFit, ExprFits, PartsFit, ActualsFit, TestFits}
use Rattle.statement_code.specs.Objects.{component_of, words_before}
use Rattle.statement_code.specs.Sizes.{expr_nodes, parts_nodes, actuals_nodes, test_nodes, node_instructions, expr_margin, parts_margin, actuals_margin}
use Rattle.statement_code.specs.Values.{single, one, within, address_on, Home, operator_on, relation_on, complement_on, past, IsBody, count_of, arguments, Site, unless_out, moves_code, body_number, expr_code, actuals_code, parts_code, nodes_code, IsPlainExpr, ArePlainParts, ArePlainActuals, IsPlainTest}
use Rattle.statement_code.proofs.Graphs.{has_condition, edges_are, count_is, past_fits, next_fits}
use Rattle.statement_code.proofs.Numbers as number
use Rattle.statement_code.proofs.Numbers.{word_is, size_is, words_few, before_few, component_fits, bounds_fit, others_fit}
use Rattle.statement_code.proofs.Fragments.{Is, Held, shorter, nothing, both, before, last, behind, calling, decided, held_condition, held_twice}

-- each actual is moved, and there are no more than so many instructions for that
pub moves_covered : (actuals : tree.Actuals) → 6 * count_of actuals ≤ actuals_margin actuals
moves_covered tree.no_actual = omega arith
moves_covered (tree.by_expression e rest) = omega (arith, moves_covered rest)
moves_covered (tree.by_variable o tree.whole r rest) = omega (arith, moves_covered rest)
moves_covered (tree.by_variable o (tree.component n parts) r rest) = omega (arith, moves_covered rest)
moves_covered (tree.by_variable o (tree.element t e parts) r rest) = omega (arith, moves_covered rest)
moves_covered (tree.by_composite o parts rest) = omega (arith, moves_covered rest)

module _ (p : Program) (inst : ℕ) (shape_of : tree.Object → Shape) (home_of : tree.Object → Home) (site : Site) (Bodies : Bool → ℕ → ℕ → Type 0) (K : Kernel) (graph : DecId → List Edges)
    (bodies : BodiesFit p K site Bodies) where
  abbrev slots : ℕ
  slots = site.width + most_arguments

  abbrev Like : (x : Bool) → List Decision → (more most : ℕ) → Code → Type 0
  Like x hs more most a = Is K slots graph inst x [] hs more most a

  -- values and addresses that go below the frame
  pub moves_like : (actuals : tree.Actuals) (x : Bool) (k j : ℕ) → end_of_actuals k actuals ≤ site.width → j + count_of actuals ≤ arguments
      → Like x [] 0 (6 * count_of actuals) (moves_code site.width k j actuals)
  moves_like tree.no_actual x k j room few = nothing K slots graph inst x
  moves_like (tree.by_expression e rest) x k j room few =
      shorter K slots graph inst 0 (6 * suc (count_of rest)) (omega arith)
      (before K slots graph inst (op.Move (site.width + j) k) refl (omega (arith, few), omega (arith, room, end_is_above k e))
      (moves_like rest x (k + 1) (j + 1) (omega (arith, room)) (omega (arith, few))))
  moves_like (tree.by_variable o tree.whole r rest) x k j room few =
      shorter K slots graph inst 0 (6 * suc (count_of rest)) (omega arith)
      (before K slots graph inst (op.Move (site.width + j) k) refl (omega (arith, few), omega (arith, room, actuals_are_above (k + 1) rest))
      (moves_like rest x (k + 1) (j + 1) (omega (arith, room)) (omega (arith, few))))
  moves_like (tree.by_variable o (tree.component n parts) r rest) x k j room few =
      shorter K slots graph inst 0 (6 * suc (count_of rest)) (omega arith)
      (before K slots graph inst (op.Move (site.width + j) (k + 1)) refl (omega (arith, few), omega (arith, room, actuals_are_above (k + 2) rest))
      (moves_like rest x (k + 2) (j + 1) (omega (arith, room)) (omega (arith, few))))
  moves_like (tree.by_variable o (tree.element t e parts) r rest) x k j room few =
      shorter K slots graph inst 0 (6 * suc (count_of rest)) (omega arith)
      (before K slots graph inst (op.Move (site.width + j) (k + 1)) refl (omega (arith, few), omega (arith, room, actuals_are_above (k + 2) rest))
      (moves_like rest x (k + 2) (j + 1) (omega (arith, room)) (omega (arith, few))))
  moves_like (tree.by_composite o parts rest) x k j room few =
      shorter K slots graph inst 0 (6 * suc (count_of rest)) (omega arith)
      (before K slots graph inst (op.Move (site.width + j) k) refl (omega (arith, few), omega (arith, room, actuals_are_above (k + 1) rest))
      (moves_like rest x (k + 1) (j + 1) (omega (arith, room)) (omega (arith, few))))

  -- what a parameter of mode out does without
  unless_like : {a : Code} {n : ℕ} (m : Mode) (x : Bool) → Like x [] 0 n a → Like x [] 0 n (unless_out m a)
  unless_like {n = n} out_mode x h = shorter K slots graph inst 0 n (omega arith) (nothing K slots graph inst x)
  unless_like in_mode x h = h
  unless_like in_out_mode x h = h

  -- the body that a call of a function comes to
  called_there : (c : Target) → IsBody Bodies true c → (body_number site c < length K.bodies) × ParametersFit (parameters_of p c)
  called_there get_target is = absurd is
  called_there put_target is = absurd is
  called_there (body_target j m) is = bodies true j m is

  -- what is listed first is all
  listed_first : {x : Bool} {a : Code} {m n : ℕ} (hs : List Decision) → Like x (hs ++ []) m n a → Like x hs m n a
  listed_first {x = x} {a = a} {m = m} {n = n} hs h = subst (λ gs. Like x gs m n a) (append-nil hs) h

  -- a bound that follows, and edges the other way round
  held_shorter : {d at next count : ℕ} {ns rest : Nodes} {hs : List Decision} {m n : ℕ} {e f : Edge} (j k : ℕ) → n + j ≤ k + m
      → Held K slots graph inst d at ns count hs next rest m n e f → Held K slots graph inst d at ns count hs next rest j k e f
  held_shorter j k le h = record {
    rows = h.rows;
    weigh = h.weigh;
    fits = h.fits;
    lacks = h.lacks;
    leave = h.leave;
    size = omega (arith, h.size, le);
  }

  held_turned : {d at next count : ℕ} {ns rest : Nodes} {hs : List Decision} {m n : ℕ} {e f : Edge}
      → Held K slots graph inst d at ns count hs next rest m n f e → Held K slots graph inst d at ns count hs next rest m n e f
  held_turned h = record {
    rows = h.rows;
    weigh = h.weigh;
    fits = λ own true_fits false_fits more. h.fits own false_fits true_fits more;
    lacks = h.lacks;
    leave = h.leave;
    size = omega (arith, h.size);
  }

  -- a decision by its nodes
  pub decision_like : (x : Bool) (standing : Standing) (s : ℕ) (d : tree.Label) (t : tree.Test) (k : ℕ) → k < slots
      → Held K slots graph inst d.number 0 (nodes_code (names_in p inst) shape_of home_of site k t (edge.Leaf true) (edge.Leaf false) no_node) (tree.conditions_of t) (in_test s t) (tree.conditions_of t) no_node
      30 (node_instructions * test_nodes t) (edge.Leaf true) (edge.Leaf false)
      → Like x (in_decision s standing d t) 30 (node_instructions * test_nodes t + 9)
      (single (decide (record { 0 = d.number }) (record { 0 = inst }) k (nodes_code (names_in p inst) shape_of home_of site k t (edge.Leaf true) (edge.Leaf false) no_node)))
  decision_like x standing s d t k lt h =
      decided K slots graph inst x standing s d t k (tree.conditions_of t) (edge.Leaf true) (edge.Leaf false) lt
      (edges_are p inst shape_of home_of site Bodies t k zero (tree.conditions_of t) (edge.Leaf true) (edge.Leaf false) no_node (omega arith) ∙ append-nil (logic.graph (tree.shape_of t)))
      (has_condition t) (omega (arith, count_is p inst shape_of home_of site Bodies t k (edge.Leaf true) (edge.Leaf false) no_node)) tt tt h

  module _ (Sees : tree.Object → Type 0) (objects : ObjectsFit site.width K shape_of home_of Sees) where
    -- a part of a variable as an actual, before others
    variable_like : {hs gs : List Decision} {i j m n : ℕ} (parts : tree.Parts) (o : tree.Object) (rest : tree.Actuals) (s k : ℕ) (x : Bool) (qs : List ResolvedParameter) → Sees o
        → ParametersFit qs → k + 1 < slots → Like x hs i m (parts_code (names_in p inst) shape_of home_of site k (shape_of o) parts)
        → Like x gs j n (actuals_code (names_in p inst) shape_of home_of site (k + 2) (drop 1 qs) rest)
        → Like x (hs ++ gs) (i + j) (7 + (m + (28 + n)))
        (and_op (simple (address_on k (home_of o))) (joined (parts_code (names_in p inst) shape_of home_of site k (shape_of o) parts)
        (joined (unless_out (next_parameter qs).mode (and_op (simple (op.Load (k + 1) k)) (one (within (k + 1) (word_bounds (next_parameter qs).shape)))))
        (actuals_code (names_in p inst) shape_of home_of site (k + 2) (drop 1 qs) rest))))
    variable_like {i = i} {j = j} {m = m} {n = n} parts o rest s k x qs seen shaped lt h g =
        shorter K slots graph inst (i + j) (7 + (m + (28 + n))) (omega arith)
        (number.address_before K site.width graph inst k (home_of o) (objects o seen).1 (omega (arith, lt))
        (both K slots graph inst h
        (both K slots graph inst
        (unless_like (next_parameter qs).mode x
        (before K slots graph inst (op.Load (k + 1) k) refl (lt, omega (arith, lt))
        (number.check_before K site.width graph inst (k + 1) (word_bounds (next_parameter qs).shape) (bounds_fit (next_parameter qs).shape (number.next_fits qs shaped)) lt
        (nothing K slots graph inst x)))) g)))

    mutual
      pub expr_like : (e : tree.Expr) (s k : ℕ) (x : Bool) → IsPlainExpr p inst shape_of home_of site Bodies Sees e → ExprFits p inst e → end_of k e ≤ site.width
          → Like x (in_expr s e) expr_margin (node_instructions * expr_nodes e) (expr_code (names_in p inst) shape_of home_of site k e)
      expr_like (tree.literal y) s k x plain fits room =
          shorter K slots graph inst expr_margin node_instructions (omega arith)
          (last K slots graph inst x (op.Number k y) refl (omega (arith, room), word_is y plain))
      expr_like (tree.constant e) s k x plain fits room =
          shorter K slots graph inst expr_margin node_instructions (omega arith)
          (last K slots graph inst x (op.Number k (number_in p inst e)) refl (omega (arith, room), word_is (number_in p inst e) plain))
      expr_like (tree.attribute o parts e) s k x plain fits room =
          let lt : k < slots = omega (arith, room, parts_are_above k parts) in
          shorter K slots graph inst expr_margin (node_instructions * suc (parts_nodes parts)) (omega arith)
          (number.address_before K site.width graph inst k (home_of o) (objects o plain.0).1 lt
          (behind K slots graph inst (op.Number k (number_in p inst e)) refl (lt, word_is (number_in p inst e) plain.1.1)
          (parts_like parts s k x (shape_of o) plain.1.0 (objects o plain.0).0 fits room)))
      expr_like (tree.read o tree.whole) s k x plain fits room =
          shorter K slots graph inst expr_margin node_instructions (omega arith)
          (number.fetch_before K site.width graph inst k (home_of o) (objects o plain.0).1 (omega (arith, room)) (nothing K slots graph inst x))
      expr_like (tree.read o (tree.component n parts)) s k x plain fits room =
          let lt : k < slots = omega (arith, room, parts_are_above k parts) in
          shorter K slots graph inst expr_margin (node_instructions * suc (suc (parts_nodes parts))) (omega arith)
          (number.address_before K site.width graph inst k (home_of o) (objects o plain.0).1 lt
          (behind K slots graph inst (op.Load k k) refl (lt, lt)
          (parts_like (tree.component n parts) s k x (shape_of o) plain.1.0 (objects o plain.0).0 fits room)))
      expr_like (tree.read o (tree.element r e parts)) s k x plain fits room =
          let lt : k < slots = omega (arith, room, parts_are_above k parts) in
          shorter K slots graph inst expr_margin (node_instructions * suc (expr_nodes e + parts_nodes parts)) (omega arith)
          (number.address_before K site.width graph inst k (home_of o) (objects o plain.0).1 lt
          (behind K slots graph inst (op.Load k k) refl (lt, lt)
          (parts_like (tree.element r e parts) s k x (shape_of o) plain.1.0 (objects o plain.0).0 fits room)))
      expr_like (tree.signed o e) s k x plain fits room =
          shorter K slots graph inst expr_margin (node_instructions * suc (expr_nodes e)) (omega arith)
          (number.sign_behind K site.width graph inst k o (omega (arith, room, end_is_above k e)) (expr_like e s k x plain fits room))
      expr_like (tree.operation o e f) s k x plain fits room =
          let lt : k + 1 < slots = omega (arith, room, end_is_above (k + 1) f) in
          let less : k < slots = omega (arith, lt) in
          shorter K slots graph inst expr_margin (node_instructions * suc (expr_nodes e + expr_nodes f)) (omega arith)
          (both K slots graph inst (expr_like e s k x plain.0 fits.0 (omega (arith, room)))
          (behind K slots graph inst (operator_on k o) refl (less, less, lt) (expr_like f s (k + 1) x plain.1 fits.1 (omega (arith, room)))))
      expr_like (tree.relation o e f) s k x plain fits room =
          let lt : k + 1 < slots = omega (arith, room, end_is_above (k + 1) f) in
          let less : k < slots = omega (arith, lt) in
          shorter K slots graph inst expr_margin (node_instructions * suc (expr_nodes e + expr_nodes f)) (omega arith)
          (both K slots graph inst (expr_like e s k x plain.0 fits.0 (omega (arith, room)))
          (behind K slots graph inst (relation_on k o) refl (less, less, lt) (expr_like f s (k + 1) x plain.1 fits.1 (omega (arith, room)))))
      expr_like (tree.complement e) s k x plain fits room =
          let lt : k < slots = omega (arith, room, end_is_above k e) in
          shorter K slots graph inst expr_margin (node_instructions * suc (expr_nodes e)) (omega arith)
          (behind K slots graph inst (complement_on k) refl (lt, lt) (expr_like e s k x plain fits room))
      expr_like (tree.conversion r e) s k x plain fits room =
          shorter K slots graph inst expr_margin (node_instructions * suc (expr_nodes e)) (omega arith)
          (behind K slots graph inst (within k (bounds_in p inst r)) refl (omega (arith, room, end_is_above k e), fits.0.0, fits.0.1) (expr_like e s k x plain fits.1 room))
      expr_like (tree.call c actuals) s k x plain fits room =
          let there = called_there (target_in p inst c) plain.0 in
          let lt : k < slots = omega (arith, room, actuals_are_above k actuals) in
          shorter K slots graph inst expr_margin (node_instructions * suc (actuals_nodes actuals)) (omega (arith, moves_covered actuals))
          (listed_first (in_actuals s actuals)
          (both K slots graph inst (actuals_like actuals s k x (parameters_of p (target_in p inst c)) plain.1.0 there.1 fits room)
          (both K slots graph inst (moves_like actuals x k 0 room (omega (arith, plain.1.1)))
          (calling K slots graph inst (body_number site (target_in p inst c)) there.0
          (last K slots graph inst x (op.Move k site.width) refl (lt, omega arith))))))
      expr_like (tree.decision d t) s k x plain fits room =
          let lt : k < slots = omega (arith, room, test_is_above k t) in
          shorter K slots graph inst expr_margin (node_instructions * suc (test_nodes t)) (omega arith)
          (decision_like x elsewhere s d t k lt (test_like t s k d.number 0 (tree.conditions_of t) (edge.Leaf true) (edge.Leaf false) no_node plain fits room (omega arith)))

      pub parts_like : (parts : tree.Parts) (s k : ℕ) (x : Bool) (a : Shape) → ArePlainParts p inst shape_of home_of site Bodies Sees a parts → ShapeFits a → PartsFit p inst parts
          → end_of_parts k parts ≤ site.width
          → Like x (in_parts s parts) (parts_margin parts) (node_instructions * parts_nodes parts) (parts_code (names_in p inst) shape_of home_of site k a parts)
      parts_like tree.whole s k x a plain shaped fits room = nothing K slots graph inst x
      parts_like (tree.component n parts) s k x (word b) plain shaped fits room = absurd plain
      parts_like (tree.component n parts) s k x (row b a) plain shaped fits room = absurd plain
      parts_like (tree.component n parts) s k x (group ss) plain shaped fits room =
          let lt : k < slots = omega (arith, room, parts_are_above k parts) in
          shorter K slots graph inst 11 (node_instructions * suc (parts_nodes parts)) (omega arith)
          (before K slots graph inst (op.Advance k k (pos (words_before ss n))) refl (lt, lt, size_is (words_before ss n) (before_few ss n plain.0 shaped))
          (parts_like parts s k x (component_of ss n) plain.1 (component_fits ss n plain.0 shaped.1) fits room))
      parts_like (tree.element r e parts) s k x (word b) plain shaped fits room = absurd plain
      parts_like (tree.element r e parts) s k x (group ss) plain shaped fits room = absurd plain
      parts_like (tree.element r e parts) s k x (row b a) plain shaped fits room =
          let lt : k + 1 < slots = omega (arith, room, end_is_above (k + 1) e) in
          let less : k < slots = omega (arith, lt) in
          shorter K slots graph inst 11 (node_instructions * (expr_nodes e + parts_nodes parts)) (omega arith)
          (both K slots graph inst (expr_like e s (k + 1) x plain.1.0 fits.0 (omega (arith, room)))
          (before K slots graph inst (op.Index (k + 1) (k + 1) b.low b.high (words a)) refl (lt, lt, shaped.0.0, shaped.0.1, words_few a shaped.1.1)
          (before K slots graph inst (op.Offset k k (k + 1)) refl (less, less, lt)
          (parts_like parts s k x a plain.1.1 shaped.1.1 fits.1 (omega (arith, room))))))

      pub actuals_like : (actuals : tree.Actuals) (s k : ℕ) (x : Bool) (qs : List ResolvedParameter) → ArePlainActuals p inst shape_of home_of site Bodies Sees qs actuals
          → ParametersFit qs → ActualsFit p inst actuals → end_of_actuals k actuals ≤ site.width
          → Like x (in_actuals s actuals) (actuals_margin actuals) (node_instructions * actuals_nodes actuals) (actuals_code (names_in p inst) shape_of home_of site k qs actuals)
      actuals_like tree.no_actual s k x qs plain shaped fits room = nothing K slots graph inst x
      actuals_like (tree.by_expression e rest) s k x qs plain shaped fits room =
          shorter K slots graph inst (28 + actuals_margin rest) (node_instructions * (expr_nodes e + actuals_nodes rest)) (omega arith)
          (both K slots graph inst (expr_like e s k x plain.1.1.1.0 fits.0 (omega (arith, room)))
          (number.check_before K site.width graph inst k (word_bounds (next_parameter qs).shape) (bounds_fit (next_parameter qs).shape (number.next_fits qs shaped))
          (omega (arith, room, end_is_above k e))
          (actuals_like rest s (k + 1) x (drop 1 qs) plain.1.1.1.1 (others_fit qs shaped) fits.1 (omega (arith, room)))))
      actuals_like (tree.by_variable o tree.whole r rest) s k x qs plain shaped fits room =
          let lt : k < slots = omega (arith, room, actuals_are_above (k + 1) rest) in
          shorter K slots graph inst (41 + actuals_margin rest) (node_instructions * suc (parts_nodes tree.whole + actuals_nodes rest)) (omega arith)
          (both K slots graph inst
          (unless_like (next_parameter qs).mode x
          (number.fetch_before K site.width graph inst k (home_of o) (objects o plain.1.1.1.0).1 lt
          (number.check_before K site.width graph inst k (word_bounds (next_parameter qs).shape) (bounds_fit (next_parameter qs).shape (number.next_fits qs shaped)) lt
          (nothing K slots graph inst x))))
          (actuals_like rest s (k + 1) x (drop 1 qs) plain.1.1.1.1.1.1 (others_fit qs shaped) fits.1.1 room))
      actuals_like (tree.by_variable o (tree.component n parts) r rest) s k x qs plain shaped fits room =
          shorter K slots graph inst (36 + actuals_margin rest) (node_instructions * suc (suc (parts_nodes parts) + actuals_nodes rest)) (omega arith)
          (variable_like (tree.component n parts) o rest s k x qs plain.1.1.1.0 shaped (omega (arith, room, actuals_are_above (k + 2) rest))
          (parts_like (tree.component n parts) s k x (shape_of o) plain.1.1.1.1.0 (objects o plain.1.1.1.0).0 fits.0 (omega (arith, room)))
          (actuals_like rest s (k + 2) x (drop 1 qs) plain.1.1.1.1.1.1 (others_fit qs shaped) fits.1.1 (omega (arith, room))))
      actuals_like (tree.by_variable o (tree.element t e parts) r rest) s k x qs plain shaped fits room =
          shorter K slots graph inst (36 + actuals_margin rest) (node_instructions * suc (expr_nodes e + parts_nodes parts + actuals_nodes rest)) (omega arith)
          (variable_like (tree.element t e parts) o rest s k x qs plain.1.1.1.0 shaped (omega (arith, room, actuals_are_above (k + 2) rest))
          (parts_like (tree.element t e parts) s k x (shape_of o) plain.1.1.1.1.0 (objects o plain.1.1.1.0).0 fits.0 (omega (arith, room)))
          (actuals_like rest s (k + 2) x (drop 1 qs) plain.1.1.1.1.1.1 (others_fit qs shaped) fits.1.1 (omega (arith, room))))
      actuals_like (tree.by_composite o parts rest) s k x qs plain shaped fits room =
          let lt : k < slots = omega (arith, room, parts_are_above k parts) in
          shorter K slots graph inst (53 + actuals_margin rest) (node_instructions * suc (parts_nodes parts + actuals_nodes rest)) (omega arith)
          (number.address_before K site.width graph inst k (home_of o) (objects o plain.1.1.0).1 lt
          (both K slots graph inst (parts_like parts s k x (shape_of o) plain.1.1.1.0 (objects o plain.1.1.0).0 fits.0 (omega (arith, room)))
          (actuals_like rest s (k + 1) x (drop 1 qs) plain.1.1.1.1.1 (others_fit qs shaped) fits.1 (omega (arith, room)))))

      pub test_like : (t : tree.Test) (s k d at next : ℕ) (on_true on_false : Edge) (rest : Nodes) → IsPlainTest p inst shape_of home_of site Bodies Sees t → TestFits p inst t
          → end_of_test k t ≤ site.width → next ≡ at + tree.conditions_of t
          → Held K slots graph inst d at (nodes_code (names_in p inst) shape_of home_of site k t on_true on_false rest) (tree.conditions_of t) (in_test s t) next rest 30 (node_instructions * test_nodes t) on_true on_false
      test_like (tree.condition place e) s k d at next on_true on_false rest plain fits room all =
          held_shorter 30 (node_instructions * expr_nodes e) (omega arith)
          (held_condition K slots graph inst d at next k on_true on_false rest (omega (arith, all)) (omega (arith, room, end_is_above k e)) (expr_like e s k false plain fits room))
      test_like (tree.negation t) s k d at next on_true on_false rest plain fits room all =
          held_shorter 30 (node_instructions * suc (test_nodes t)) (omega arith) (held_turned (test_like t s k d at next on_false on_true rest plain fits room all))
      test_like (tree.operator true t u) s k d at next on_true on_false rest plain fits room all =
          let middle = at + tree.conditions_of t in
          let right = nodes_code (names_in p inst) shape_of home_of site k u on_true on_false rest in
          held_shorter 30 (node_instructions * suc (test_nodes t + test_nodes u)) (omega arith)
          (held_twice K slots graph inst d at middle next (tree.conditions_of t) (tree.conditions_of u) (tree.conditions_of t + tree.conditions_of u) refl refl
          (λ h g. (next_fits p inst shape_of home_of site Bodies u k on_true on_false rest, past_fits p inst shape_of home_of site Bodies u k on_true on_false on_false rest g))
          (test_like t s k d at middle (edge.NodeAfter 0) (past (tree.conditions_of u) on_false) right plain.0 fits.0 (omega (arith, room)) refl)
          (test_like u s k d middle next on_true on_false rest plain.1 fits.1 (omega (arith, room)) (omega (arith, all))))
      test_like (tree.operator false t u) s k d at next on_true on_false rest plain fits room all =
          let middle = at + tree.conditions_of t in
          let right = nodes_code (names_in p inst) shape_of home_of site k u on_true on_false rest in
          held_shorter 30 (node_instructions * suc (test_nodes t + test_nodes u)) (omega arith)
          (held_twice K slots graph inst d at middle next (tree.conditions_of t) (tree.conditions_of u) (tree.conditions_of t + tree.conditions_of u) refl refl
          (λ h g. (past_fits p inst shape_of home_of site Bodies u k on_true on_false on_true rest h, next_fits p inst shape_of home_of site Bodies u k on_true on_false rest))
          (test_like t s k d at middle (past (tree.conditions_of u) on_true) (edge.NodeAfter 0) right plain.0 fits.0 (omega (arith, room)) refl)
          (test_like u s k d middle next on_true on_false rest plain.1 fits.1 (omega (arith, room)) (omega (arith, all))))
