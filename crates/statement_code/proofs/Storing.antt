-- What the code is like that sets objects, reads and writes words, and calls procedures.
use Rattle.std.proofs.Common.{ℕ, suc, ◌+◌, ◌*◌, ◌<◌, ◌≤◌, pos, Bool, true, false, List, [], ◌++◌, drop, length, refl, sym, arith}
use Rattle.std.proofs.lemmas.List.{append-nil}
use Rattle.cov_base.specs.declared.position.DecId.{DecId}
use Rattle.cov_base.specs.Graph.{Edges}
use Rattle.ada_meaning.specs.Arithmetic.{base_range}
use Rattle.ada_meaning.specs.Calls.{next_parameter}
use Rattle.ada_meaning.specs.Collected.{Decision, in_parts, in_value, in_actuals}
use Rattle.ada_meaning.specs.Program.{Mode, in_mode, out_mode, in_out_mode, Target, get_target, put_target, body_target, Program}
use Rattle.ada_meaning.specs.Resolved.{ResolvedParameter, bounds_in, parameters_of}
use Rattle.ada_meaning.specs.Shape.{Shape, word, row, group}
use Rattle.ada_meaning.specs.Tree as tree
use Rattle.ada_meaning.specs.Types as type
use Rattle.ada_resolved.specs.Sizes.{words}
use Rattle.kernel_ir.specs.declared.kernel.Kernel.{Kernel}
use Rattle.kernel_ir.specs.declared.simple.Relation.TheVariants as relation
use Rattle.kernel_ir.specs.declared.simple.Simple.TheVariants as op
use Rattle.kernel_ir.specs.Layouts.{Content}
use Rattle.kernel_ir.specs.Limits.{most_arguments}
use Rattle.kernel_ir.specs.Sequence.{joined}
use Rattle.kernel_ir.specs.Tree.{Code}
use Rattle.frame_widths.specs.Ends.{end_of_actuals, end_of_parts, end_of_value, end_of_assignment, end_of_call}
use Rattle.frame_widths.proofs.Above.{end_is_above, actuals_are_above, parts_are_above}
use Rattle.statement_code.specs.Names.{names_in}
use Rattle.statement_code.specs.Numbers.{AreWords, ShapeFits, HomeFits, ParametersFit, BodiesFit, ObjectsFit, PartsFit, ActualsFit, ValueFits}
use Rattle.statement_code.specs.Objects.{component_of}
use Rattle.statement_code.specs.Sets.{next_code, set_code, IsPlainValue}
use Rattle.statement_code.specs.Sizes.{expr_nodes, parts_nodes, actuals_nodes, value_nodes, node_instructions, actuals_margin}
use Rattle.statement_code.specs.Statements.{copied_back, assign_at, assign_code, get_at, get_code, backs_code, call_code, first_code, IsPlainCall}
use Rattle.statement_code.specs.Values.{Home, part_shape, IsComposite, count_of, arguments, Site, ArePlainParts, ArePlainActuals}
use Rattle.statement_code.proofs.Expressions as expression
use Rattle.statement_code.proofs.Numbers as number
use Rattle.statement_code.proofs.Numbers.{word_is, size_is, words_few, component_fits, base_words, others_fit}
use Rattle.statement_code.proofs.Fragments.{Is, shorter, listed, nothing, both, before, last, behind, calling, chosen, counted, left}

-- what is copied back takes so many instructions
abbrev pub back_instructions : tree.Actuals → ℕ
back_instructions tree.no_actual = 0
back_instructions (tree.by_expression e rest) = back_instructions rest
back_instructions (tree.by_variable o tree.whole r rest) = 19 + back_instructions rest
back_instructions (tree.by_variable o (tree.component n parts) r rest) = 28 + back_instructions rest
back_instructions (tree.by_variable o (tree.element t e parts) r rest) = 28 + back_instructions rest
back_instructions (tree.by_composite o parts rest) = 34 + back_instructions rest

-- moves and copies back are covered by what actuals leave
pub backs_covered : (actuals : tree.Actuals) → 6 * count_of actuals + back_instructions actuals ≤ actuals_margin actuals
backs_covered tree.no_actual = omega arith
backs_covered (tree.by_expression e rest) = omega (arith, backs_covered rest)
backs_covered (tree.by_variable o tree.whole r rest) = omega (arith, backs_covered rest)
backs_covered (tree.by_variable o (tree.component n parts) r rest) = omega (arith, backs_covered rest)
backs_covered (tree.by_variable o (tree.element t e parts) r rest) = omega (arith, backs_covered rest)
backs_covered (tree.by_composite o parts rest) = omega (arith, backs_covered rest)

-- the slots of a call are those of its actuals
actuals_within : (k : ℕ) (width : ℕ) (actuals : tree.Actuals) → end_of_call k actuals ≤ width → end_of_actuals k actuals ≤ width
actuals_within k width tree.no_actual fits = fits
actuals_within k width (tree.by_expression e rest) fits = fits
actuals_within k width (tree.by_variable o parts r rest) fits = omega (arith, fits)
actuals_within k width (tree.by_composite o parts rest) fits = fits

module _ (p : Program) (inst : ℕ) (shape_of : tree.Object → Shape) (home_of : tree.Object → Home) (site : Site) (Bodies : Bool → ℕ → ℕ → Type 0) (K : Kernel) (graph : DecId → List Edges)
    (bodies : BodiesFit p K site Bodies) (Sees : tree.Object → Type 0) (objects : ObjectsFit site.width K shape_of home_of Sees) where
  abbrev slots : ℕ
  slots = site.width + most_arguments

  abbrev Has : (x : Bool) → List Decision → (more most : ℕ) → Code → Type 0
  Has x hs more most a = Is K slots graph inst x [] hs more most a

  -- the type of a part of an object fits
  part_fits : (parts : tree.Parts) (a : Shape) → ArePlainParts p inst shape_of home_of site Bodies Sees a parts → ShapeFits a → ShapeFits (part_shape a parts)
  part_fits tree.whole a plain fits = fits
  part_fits (tree.component n parts) (word b) plain fits = absurd plain
  part_fits (tree.component n parts) (row b a) plain fits = absurd plain
  part_fits (tree.component n parts) (group ss) plain fits = part_fits parts (component_of ss n) plain.1 (component_fits ss n plain.0 fits.1)
  part_fits (tree.element r e parts) (word b) plain fits = absurd plain
  part_fits (tree.element r e parts) (group ss) plain fits = absurd plain
  part_fits (tree.element r e parts) (row b a) plain fits = part_fits parts a plain.1.1 fits.1.1

  -- more that has no decisions
  then_none : {x : Bool} {hs : List Decision} {a b : Code} {j k m n : ℕ} → Has x hs j m a → Has x [] k n b → Has x hs (j + k) (m + n) (joined a b)
  then_none {hs = hs} h g = listed K slots graph inst refl (append-nil hs) (both K slots graph inst h g)

  -- the address of the next component
  next_behind : {x : Bool} {hs : List Decision} {a : Code} {m n : ℕ} (v : tree.NewValue) (k : ℕ) (s : Shape) → k < slots → ShapeFits s → Has x hs m n a → Has x hs m (n + 9) (joined a (next_code k s v))
  next_behind (tree.scalar_value r e) k s lt fits h =
      behind K slots graph inst (op.Advance k k (pos (words s))) refl (lt, lt, size_is (words s) (words_few s fits)) h
  next_behind (tree.composite_value t o parts) k s lt fits h =
      behind K slots graph inst (op.Advance k k (pos (words s))) refl (lt, lt, size_is (words s) (words_few s fits)) h
  next_behind {x = x} {m = m} {n = n} (tree.others_value r v) k s lt fits h = shorter K slots graph inst m (n + 9) (omega arith) (then_none h (nothing K slots graph inst x))

  pub set_like : (v : tree.NewValue) (s k j : ℕ) (x : Bool) (a : Shape) → IsPlainValue p inst shape_of home_of site Bodies Sees a v → ShapeFits a → ValueFits p inst v → k < slots
      → end_of_value j v ≤ site.width → Has x (in_value s v) 12 (node_instructions * value_nodes v) (set_code (names_in p inst) shape_of home_of site k j a v)
  set_like (tree.scalar_value r e) s k j x a plain shaped fits there room =
      let lt : j < slots = omega (arith, room, end_is_above j e) in
      shorter K slots graph inst 12 (node_instructions * expr_nodes e) (omega arith)
      (then_none (expression.expr_like p inst shape_of home_of site Bodies K graph bodies Sees objects e s j x plain.1 fits.1 room)
      (number.check_before K site.width graph inst j (bounds_in p inst r) fits.0 lt (last K slots graph inst x (op.Store k j) refl (there, lt))))
  set_like (tree.composite_value t o parts) s k j x a plain shaped fits there room =
      let lt : j < slots = omega (arith, room, parts_are_above j parts) in
      shorter K slots graph inst 12 (node_instructions * suc (parts_nodes parts)) (omega arith)
      (number.address_before K site.width graph inst j (home_of o) (objects o plain.0).1 lt
      (behind K slots graph inst (op.Copy k j (words a)) refl (there, lt, words_few a shaped)
      (expression.parts_like p inst shape_of home_of site Bodies K graph bodies Sees objects parts s j x (shape_of o) plain.1.0 (objects o plain.0).0 fits room)))
  set_like (tree.others_value r v) s k j x (word b) plain shaped fits there room = absurd plain
  set_like (tree.others_value r v) s k j x (group ss) plain shaped fits there room = absurd plain
  set_like (tree.others_value r v) s k j x (row b a) plain shaped fits there room =
      let lt : j + 1 < slots = omega (arith, room) in
      let less : j < slots = omega (arith, lt) in
      shorter K slots graph inst 12 (node_instructions * suc (value_nodes v)) (omega arith)
      (before K slots graph inst (op.Advance j k (pos (words (row b a)))) refl (less, there, size_is (words (row b a)) (words_few (row b a) shaped))
      (counted K slots graph inst x
      (before K slots graph inst (op.Compare relation.Equal (j + 1) k j) refl (lt, there, less)
      (chosen K slots graph inst (j + 1) lt (left K slots graph inst true refl)
      (next_behind v k a there shaped.1.1 (set_like v s k (j + 1) true a plain.1.1 shaped.1.1 fits there (omega (arith, room))))))))

  -- an object, or a part of one, is set
  set_at_like : (o : tree.Object) (parts : tree.Parts) (v : tree.NewValue) (s k : ℕ) (x : Bool) → ShapeFits (shape_of o) × HomeFits site.width K (home_of o)
      → ArePlainParts p inst shape_of home_of site Bodies Sees (shape_of o) parts → IsPlainValue p inst shape_of home_of site Bodies Sees (part_shape (shape_of o) parts) v
      → PartsFit p inst parts → ValueFits p inst v → end_of_parts k parts ≤ site.width → end_of_value (k + 1) v ≤ site.width
      → Has x (in_parts s parts ++ in_value s v) 4 (node_instructions * (parts_nodes parts + value_nodes v)) (assign_at (names_in p inst) shape_of home_of site k o parts v)
  set_at_like o parts v s k x object plain good selected fits room more =
      let lt : k < slots = omega (arith, room, parts_are_above k parts) in
      shorter K slots graph inst 4 (node_instructions * (parts_nodes parts + value_nodes v)) (omega arith)
      (number.address_before K site.width graph inst k (home_of o) object.1 lt
      (both K slots graph inst (expression.parts_like p inst shape_of home_of site Bodies K graph bodies Sees objects parts s k x (shape_of o) plain object.0 selected room)
      (set_like v s k (k + 1) x (part_shape (shape_of o) parts) good (part_fits parts (shape_of o) plain object.0) fits lt more)))

  pub assign_like : (o : tree.Object) (parts : tree.Parts) (v : tree.NewValue) (s k : ℕ) (x : Bool) → ShapeFits (shape_of o) × HomeFits site.width K (home_of o)
      → ArePlainParts p inst shape_of home_of site Bodies Sees (shape_of o) parts → IsPlainValue p inst shape_of home_of site Bodies Sees (part_shape (shape_of o) parts) v
      → PartsFit p inst parts → ValueFits p inst v → end_of_assignment k parts v ≤ site.width
      → Has x (in_parts s parts ++ in_value s v) 4 (node_instructions * (parts_nodes parts + value_nodes v)) (assign_code (names_in p inst) shape_of home_of site k o parts v)
  assign_like o tree.whole (tree.scalar_value r e) s k x object plain good selected fits room =
      let lt : k < slots = omega (arith, room, end_is_above k e) in
      shorter K slots graph inst 4 (node_instructions * (0 + expr_nodes e)) (omega arith)
      (then_none (expression.expr_like p inst shape_of home_of site Bodies K graph bodies Sees objects e s k x good.1 fits.1 room)
      (number.check_before K site.width graph inst k (bounds_in p inst r) fits.0 lt
      (number.keep_before K site.width graph inst k (home_of o) object.1 lt (nothing K slots graph inst x))))
  assign_like o tree.whole (tree.composite_value t q parts) s k x object plain good selected fits room =
      set_at_like o tree.whole (tree.composite_value t q parts) s k x object plain good selected fits (omega (arith, room)) (omega (arith, room))
  assign_like o tree.whole (tree.others_value r v) s k x object plain good selected fits room =
      set_at_like o tree.whole (tree.others_value r v) s k x object plain good selected fits (omega (arith, room)) (omega (arith, room))
  assign_like o (tree.component n parts) v s k x object plain good selected fits room =
      set_at_like o (tree.component n parts) v s k x object plain good selected fits (omega (arith, room)) (omega (arith, room))
  assign_like o (tree.element r e parts) v s k x object plain good selected fits room =
      set_at_like o (tree.element r e parts) v s k x object plain good selected fits (omega (arith, room)) (omega (arith, room))

  -- the first value of an object
  pub first_like : (a : Shape) (x : Bool) (k layout : ℕ) (h : Home) → ShapeFits a → HomeFits site.width K h → (IsComposite a → layout < length K.layouts) → k < slots
      → Has x [] 0 19 (first_code (names_in p inst) shape_of home_of site k a layout h)
  first_like (word b) x k layout h shaped fits there lt =
      shorter K slots graph inst 0 19 (omega arith)
      (before K slots graph inst (op.Number k b.low) refl (lt, shaped.0) (number.keep_before K site.width graph inst k h fits lt (nothing K slots graph inst x)))
  first_like (row b a) x k layout h shaped fits there lt =
      shorter K slots graph inst 0 19 (omega arith)
      (number.address_before K site.width graph inst k h fits lt (last K slots graph inst x (op.Fill k layout) refl (lt, there tt)))
  first_like (group ss) x k layout h shaped fits there lt =
      shorter K slots graph inst 0 19 (omega arith)
      (number.address_before K site.width graph inst k h fits lt (last K slots graph inst x (op.Fill k layout) refl (lt, there tt)))

  -- the next word of the input goes to a variable
  get_at_like : (o : tree.Object) (parts : tree.Parts) (r : type.Range) (s k : ℕ) (x : Bool) → Sees o → ArePlainParts p inst shape_of home_of site Bodies Sees (shape_of o) parts
      → PartsFit p inst parts → AreWords (bounds_in p inst r) → k + 2 ≤ site.width → end_of_parts k parts ≤ site.width
      → Has x (in_parts s parts) 15 (node_instructions * suc (parts_nodes parts)) (get_at (names_in p inst) shape_of home_of site k o parts r)
  get_at_like o parts r s k x seen plain fits bounded room more =
      let lt : k + 1 < slots = omega (arith, room) in
      let less : k < slots = omega (arith, lt) in
      shorter K slots graph inst 15 (node_instructions * suc (parts_nodes parts)) (omega arith)
      (number.address_before K site.width graph inst k (home_of o) (objects o seen).1 less
      (then_none (expression.parts_like p inst shape_of home_of site Bodies K graph bodies Sees objects parts s k x (shape_of o) plain (objects o seen).0 fits more)
      (before K slots graph inst (op.Get (k + 1)) refl lt
      (number.check_before K site.width graph inst (k + 1) (bounds_in p inst r) bounded lt (last K slots graph inst x (op.Store k (k + 1)) refl (less, lt))))))

  get_like : (o : tree.Object) (parts : tree.Parts) (r : type.Range) (s k : ℕ) (x : Bool) → Sees o → ArePlainParts p inst shape_of home_of site Bodies Sees (shape_of o) parts
      → PartsFit p inst parts → AreWords (bounds_in p inst r) → k + 2 ≤ site.width → end_of_parts k parts ≤ site.width
      → Has x (in_parts s parts) 15 (node_instructions * suc (parts_nodes parts)) (get_code (names_in p inst) shape_of home_of site k o parts r)
  get_like o tree.whole r s k x seen plain fits bounded room more =
      let lt : k < slots = omega (arith, room) in
      shorter K slots graph inst 15 (node_instructions * suc (parts_nodes tree.whole)) (omega arith)
      (before K slots graph inst (op.Get k) refl lt
      (number.check_before K site.width graph inst k (bounds_in p inst r) bounded lt
      (number.keep_before K site.width graph inst k (home_of o) (objects o seen).1 lt (nothing K slots graph inst x))))
  get_like o (tree.component n parts) r s k x seen plain fits bounded room more = get_at_like o (tree.component n parts) r s k x seen plain fits bounded room more
  get_like o (tree.element t e parts) r s k x seen plain fits bounded room more = get_at_like o (tree.element t e parts) r s k x seen plain fits bounded room more

  copied_like : {a : Code} {n : ℕ} (m : Mode) (x : Bool) → Has x [] 0 n a → Has x [] 0 n (copied_back m a)
  copied_like {n = n} in_mode x h = shorter K slots graph inst 0 n (omega arith) (nothing K slots graph inst x)
  copied_like out_mode x h = h
  copied_like in_out_mode x h = h

  -- parameters are copied back
  backs_like : (actuals : tree.Actuals) (k i : ℕ) (x : Bool) (qs : List ResolvedParameter) → ArePlainActuals p inst shape_of home_of site Bodies Sees qs actuals → ParametersFit qs
      → ActualsFit p inst actuals → end_of_actuals k actuals ≤ site.width → i + count_of actuals ≤ arguments
      → Has x [] 0 (back_instructions actuals) (backs_code (names_in p inst) shape_of home_of site k i qs actuals)
  backs_like tree.no_actual k i x qs plain shaped fits room few = nothing K slots graph inst x
  backs_like (tree.by_expression e rest) k i x qs plain shaped fits room few =
      backs_like rest (k + 1) (i + 1) x (drop 1 qs) plain.1.1.1.1 (others_fit qs shaped) fits.1 (omega (arith, room)) (omega (arith, few))
  backs_like (tree.by_variable o tree.whole r rest) k i x qs plain shaped fits room few =
      let lt : site.width + i < slots = omega (arith, few) in
      shorter K slots graph inst 0 (19 + back_instructions rest) (omega arith)
      (number.check_before K site.width graph inst (site.width + i) (bounds_in p inst r) fits.1.0 lt
      (number.keep_before K site.width graph inst (site.width + i) (home_of o) (objects o plain.1.1.1.0).1 lt
      (backs_like rest (k + 1) (i + 1) x (drop 1 qs) plain.1.1.1.1.1.1 (others_fit qs shaped) fits.1.1 room (omega (arith, few)))))
  backs_like (tree.by_variable o (tree.component n parts) r rest) k i x qs plain shaped fits room few =
      let lt : site.width + i < slots = omega (arith, few) in
      shorter K slots graph inst 0 (28 + back_instructions rest) (omega arith)
      (number.check_before K site.width graph inst (site.width + i) (bounds_in p inst r) fits.1.0 lt
      (before K slots graph inst (op.Store k (site.width + i)) refl (omega (arith, room, actuals_are_above (k + 2) rest), lt)
      (backs_like rest (k + 2) (i + 1) x (drop 1 qs) plain.1.1.1.1.1.1 (others_fit qs shaped) fits.1.1 (omega (arith, room)) (omega (arith, few)))))
  backs_like (tree.by_variable o (tree.element t e parts) r rest) k i x qs plain shaped fits room few =
      let lt : site.width + i < slots = omega (arith, few) in
      shorter K slots graph inst 0 (28 + back_instructions rest) (omega arith)
      (number.check_before K site.width graph inst (site.width + i) (bounds_in p inst r) fits.1.0 lt
      (before K slots graph inst (op.Store k (site.width + i)) refl (omega (arith, room, actuals_are_above (k + 2) rest), lt)
      (backs_like rest (k + 2) (i + 1) x (drop 1 qs) plain.1.1.1.1.1.1 (others_fit qs shaped) fits.1.1 (omega (arith, room)) (omega (arith, few)))))
  backs_like (tree.by_composite o parts rest) k i x qs plain shaped fits room few =
      let lt : site.width + i < slots = omega (arith, few) in
      shorter K slots graph inst 0 (34 + back_instructions rest) (omega arith)
      (both K slots graph inst
      (copied_like (next_parameter qs).mode x
      (last K slots graph inst x (op.Copy k (site.width + i) (words (next_parameter qs).shape)) refl
      (omega (arith, room, actuals_are_above (k + 1) rest), lt, words_few (next_parameter qs).shape (number.next_fits qs shaped))))
      (backs_like rest (k + 1) (i + 1) x (drop 1 qs) plain.1.1.1.1.1 (others_fit qs shaped) fits.1 (omega (arith, room)) (omega (arith, few))))

  -- what a call does when its statement has started
  pub call_like : (t : Target) (actuals : tree.Actuals) (layout_of : ℕ → ℕ) (content : ℕ → Content) (Declares : ℕ → Type 0) (top : ℕ) (gives : Bool) (s k : ℕ) (x : Bool)
      → IsPlainCall p inst shape_of home_of site Bodies layout_of content Declares top gives Sees t actuals → ActualsFit p inst actuals → end_of_call k actuals ≤ site.width
      → Has x (in_actuals s actuals) 0 (node_instructions * actuals_nodes actuals + 15) (call_code (names_in p inst) shape_of home_of site k t actuals)
  call_like put_target (tree.by_expression e tree.no_actual) layout_of content Declares top gives s k x plain fits room =
      let lt : k < slots = omega (arith, room, end_is_above k e) in
      shorter K slots graph inst 0 (node_instructions * (expr_nodes e + 0) + 15) (omega arith)
      (both K slots graph inst (expression.expr_like p inst shape_of home_of site Bodies K graph bodies Sees objects e s k x plain fits.0 (omega (arith, room)))
      (number.check_before K site.width graph inst k base_range base_words lt (last K slots graph inst x (op.Put k) refl lt)))
  call_like get_target (tree.by_variable o parts r tree.no_actual) layout_of content Declares top gives s k x plain fits room =
      listed K slots graph inst refl (sym (append-nil (in_parts s parts)))
      (shorter K slots graph inst 0 (node_instructions * suc (parts_nodes parts + 0) + 15) (omega arith)
      (get_like o parts r s k x plain.0 plain.1.0 fits.0 fits.1.0 (omega (arith, room)) (omega (arith, room))))
  call_like (body_target j m) actuals layout_of content Declares top gives s k x plain fits room =
      let there = bodies false j m plain.0 in
      let most : end_of_actuals k actuals ≤ site.width = actuals_within k site.width actuals room in
      shorter K slots graph inst 0 (node_instructions * actuals_nodes actuals + 15) (omega (arith, backs_covered actuals))
      (then_none (expression.actuals_like p inst shape_of home_of site Bodies K graph bodies Sees objects actuals s k x (parameters_of p (body_target j m)) plain.1.0 there.1 fits most)
      (both K slots graph inst (expression.moves_like p inst shape_of home_of site Bodies K graph bodies actuals x k 0 most (omega (arith, plain.1.1)))
      (calling K slots graph inst (site.body j m) there.0
      (backs_like actuals k 0 x (parameters_of p (body_target j m)) plain.1.0 there.1 fits most (omega (arith, plain.1.1))))))
  call_like t actuals layout_of content Declares top gives s k x plain fits room = absurd plain
