-- What the code of declarations, statements and blocks is like.
use Rattle.std.proofs.Common.{◌≡◌, ℕ, suc, ◌+◌, ◌*◌, ◌<◌, ◌≤◌, inl, inr, ℤ, pos, negsuc, Bool, true, false, List, [], ◌∷◌, ◌++◌, append_assoc, length, refl, sym, ap, subst, arith}
use Rattle.std.proofs.lemmas.List.{append-nil}
use Rattle.cov_base.specs.declared.position.DecId.{DecId}
use Rattle.cov_base.specs.Graph.{Edges}
use Rattle.cov_base.specs.Lists.{Everywhere}
use Rattle.ada_meaning.specs.Collected.{Standing, after_if, after_while, after_exit, Decision, in_expr, in_turns, in_decision, in_declarations, in_stmt, in_stmts, in_branches, in_alternatives, in_handlers, in_block, declaration_labels, labels, all_labels, branch_labels, alternative_labels, handler_labels, block_labels}
use Rattle.ada_meaning.specs.Program.{Program}
use Rattle.ada_meaning.specs.Resolved.{number_in, bounds_in, exception_in, target_in}
use Rattle.ada_meaning.specs.Shape.{Shape}
use Rattle.ada_meaning.specs.Tree as tree
use Rattle.kernel_ir.specs.declared.code.Edge.TheVariants as edge
use Rattle.kernel_ir.specs.declared.kernel.Kernel.{Kernel}
use Rattle.kernel_ir.specs.declared.simple.Relation.TheVariants as relation
use Rattle.kernel_ir.specs.declared.simple.Simple.TheVariants as op
use Rattle.kernel_ir.specs.Layouts.{Content}
use Rattle.kernel_ir.specs.Limits.{IsWord, most_arguments}
use Rattle.kernel_ir.specs.Tree.{Code, no_node}
use Rattle.frame_widths.specs.Ends.{end_of_test, end_of_declarations, end_of_range, end_of_statement, end_of_statements, end_of_branches, end_of_alternatives, end_of_block, end_of_handlers}
use Rattle.frame_widths.proofs.Above.{end_is_above, test_is_above}
use Rattle.statement_code.specs.Names.{names_in}
use Rattle.statement_code.specs.Flows.{counted_code, range_code, decided_code, choice_code, choices_code}
use Rattle.statement_code.specs.Numbers.{ShapeFits, HomeFits, BodiesFit, ObjectsFit, TestFits, RangeFits, ChoiceFits, ExceptionChoiceFits, DeclarationFits, StatementFits, StatementsFit, BranchesFit, AlternativesFit, HandlersFit, BlockFits}
use Rattle.statement_code.specs.Sizes.{expr_nodes, test_nodes, value_nodes, range_nodes, declarations_nodes, statement_nodes, statements_nodes, branches_nodes, alternatives_nodes, handlers_nodes, block_nodes, node_instructions}
use Rattle.statement_code.specs.Statements.{slot_of, guarded_code, exception_choice_code, exception_choices_code, bounds_code, declarations_code, statement_code, statements_code, branches_code, alternatives_code, block_code, handlers_code, IsInFrame, behind, declared_in, behind_all, ArePlainDeclarations, IsPlainRange, IsPlainStatement, ArePlainStatements, ArePlainBranches, ArePlainAlternatives, IsPlainBlock, ArePlainHandlers}
use Rattle.statement_code.specs.Values.{Home, in_frame, in_library, Site, IsPlainTest}
use Rattle.statement_code.proofs.Expressions as expression
use Rattle.statement_code.proofs.Numbers as number
use Rattle.statement_code.proofs.Numbers.{word_is}
use Rattle.statement_code.proofs.Fragments.{Is, shorter, listed, nothing, both, before, last, started, chosen, caught, looped, counted, left, returned}
use Rattle.statement_code.proofs.Storing as storing

-- the slot of an object in the frame
slot_fits : (width : ℕ) (K : Kernel) (h : Home) → IsInFrame h → HomeFits width K h → slot_of h < width
slot_fits width K (in_frame j) is fits = fits
slot_fits width K (in_library n) is fits = absurd is

-- the code of handlers leaves room for what catches their exceptions
abbrev handlers_margin : tree.Handlers → ℕ
handlers_margin tree.no_handler = 0
handlers_margin (tree.handler cs ss hs) = 16

handlers_are_above : (k : ℕ) (hs : tree.Handlers) → k < end_of_handlers k hs
handlers_are_above k tree.no_handler = omega arith
handlers_are_above k (tree.handler cs ss hs) = omega arith

ranges_are_above : (k : ℕ) (ts : tree.LoopRange) → k + 3 ≤ end_of_range k ts
ranges_are_above k (tree.over_subtype r) = omega arith
ranges_are_above k (tree.over_bounds e f) = omega arith

module _ (p : Program) (inst : ℕ) (shape_of : tree.Object → Shape) (home_of : tree.Object → Home) (site : Site) (Bodies : Bool → ℕ → ℕ → Type 0) (K : Kernel) (graph : DecId → List Edges)
    (bodies : BodiesFit p K site Bodies) where
  abbrev slots : ℕ
  slots = site.width + most_arguments

  abbrev Has : (x : Bool) → List tree.Label → List Decision → (more most : ℕ) → Code → Type 0
  Has = Is K slots graph inst

  -- a turn of a loop over a range, and the loop
  counted_like : {ls : List tree.Label} {hs : List Decision} {a : Code} {m n : ℕ} (h k d : ℕ) (step : ℤ) → IsWord step → k < slots → h + 1 < slots → d < slots → Has true ls hs m n a
      → Has true ls hs m (n + 35) (counted_code h k d step a)
  counted_like {ls = ls} {hs = hs} {m = m} {n = n} h k d step word lt next there body =
      let less : h < slots = omega (arith, next) in
      shorter K slots graph inst m (n + 35) (omega arith)
      (before K slots graph inst (op.Move d h) refl (there, less)
      (listed K slots graph inst (append-nil ls) (append-nil hs)
      (both K slots graph inst body
      (before K slots graph inst (op.Compare relation.Equal k h (h + 1)) refl (lt, less, next)
      (chosen K slots graph inst k lt (left K slots graph inst true refl) (last K slots graph inst true (op.Advance h h step) refl (less, less, word)))))))

  range_like : {ls : List tree.Label} {hs : List Decision} {a : Code} {m n : ℕ} (reversed x : Bool) (h k d : ℕ) → k < slots → h + 1 < slots → d < slots → Has true ls hs m n a
      → Has x ls hs m (n + 74) (range_code h k d reversed a)
  range_like {ls = ls} {hs = hs} {m = m} {n = n} false x h k d lt next there body =
      let less : h < slots = omega (arith, next) in
      shorter K slots graph inst m (n + 74) (omega arith)
      (before K slots graph inst (op.Compare relation.AtMost k h (h + 1)) refl (lt, less, next)
      (listed K slots graph inst (append-nil ls) (append-nil hs)
      (chosen K slots graph inst k lt (counted K slots graph inst x (counted_like h k d (pos 1) (word_is (pos 1) refl) lt next there body)) (nothing K slots graph inst x))))
  range_like {ls = ls} {hs = hs} {m = m} {n = n} true x h k d lt next there body =
      let less : h < slots = omega (arith, next) in
      shorter K slots graph inst m (n + 74) (omega arith)
      (before K slots graph inst (op.Compare relation.AtMost k h (h + 1)) refl (lt, less, next)
      (listed K slots graph inst (append-nil ls) (append-nil hs)
      (chosen K slots graph inst k lt
      (before K slots graph inst (op.Move k h) refl (lt, less)
      (before K slots graph inst (op.Move h (h + 1)) refl (less, next)
      (before K slots graph inst (op.Move (h + 1) k) refl (next, lt)
      (counted K slots graph inst x (counted_like h k d (negsuc 0) (word_is (negsuc 0) refl) lt next there body)))))
      (nothing K slots graph inst x))))

  -- choices of an alternative
  choice_like : (c : tree.Choice) (k : ℕ) (x : Bool) → ChoiceFits p inst c → k + 2 < slots → Has x [] [] 0 40 (choice_code (names_in p inst) shape_of home_of site k c)
  choice_like (tree.value_choice e) k x fits lt =
      let less : k + 1 < slots = omega (arith, lt) in
      let least : k < slots = omega (arith, lt) in
      shorter K slots graph inst 0 40 (omega arith)
      (before K slots graph inst (op.Number (k + 2) (number_in p inst e)) refl (lt, fits)
      (last K slots graph inst x (op.Compare relation.Equal (k + 1) k (k + 2)) refl (less, least, lt)))
  choice_like (tree.range_choice e f) k x fits lt =
      let less : k + 1 < slots = omega (arith, lt) in
      let least : k < slots = omega (arith, lt) in
      shorter K slots graph inst 0 40 (omega arith)
      (before K slots graph inst (op.Number (k + 2) (number_in p inst e)) refl (lt, fits.0)
      (before K slots graph inst (op.Compare relation.AtMost (k + 1) (k + 2) k) refl (less, lt, least)
      (chosen K slots graph inst (k + 1) less
      (before K slots graph inst (op.Number (k + 2) (number_in p inst f)) refl (lt, fits.1)
      (last K slots graph inst x (op.Compare relation.AtMost (k + 1) k (k + 2)) refl (less, least, lt)))
      (nothing K slots graph inst x))))
  choice_like tree.other_values k x fits lt =
      shorter K slots graph inst 0 40 (omega arith) (last K slots graph inst x (op.Number (k + 1) (pos 1)) refl (omega (arith, lt), word_is (pos 1) refl))

  choices_like : (cs : List tree.Choice) (k : ℕ) (x : Bool) → Everywhere (ChoiceFits p inst) cs → k + 2 < slots
      → Has x [] [] 0 (5 + 48 * length cs) (choices_code (names_in p inst) shape_of home_of site k cs)
  choices_like [] k x fits lt =
      shorter K slots graph inst 0 (5 + 48 * 0) (omega arith) (last K slots graph inst x (op.Number (k + 1) (pos 0)) refl (omega (arith, lt), word_is (pos 0) refl))
  choices_like (c ∷ cs) k x fits lt =
      shorter K slots graph inst 0 (5 + 48 * suc (length cs)) (omega arith)
      (both K slots graph inst (choice_like c k x fits.0 lt)
      (chosen K slots graph inst (k + 1) (omega (arith, lt)) (nothing K slots graph inst x) (choices_like cs k x fits.1 lt)))

  -- choices of a handler
  exception_like : (c : tree.ExceptionChoice) (k : ℕ) (x : Bool) → ExceptionChoiceFits p inst c → k + 2 < slots
      → Has x [] [] 0 16 (exception_choice_code (names_in p inst) shape_of home_of site k c)
  exception_like (tree.named_exception e) k x fits lt =
      shorter K slots graph inst 0 16 (omega arith)
      (before K slots graph inst (op.Number (k + 2) (pos (exception_in p inst e))) refl (lt, fits)
      (last K slots graph inst x (op.Compare relation.Equal (k + 1) k (k + 2)) refl (omega (arith, lt), omega (arith, lt), lt)))
  exception_like tree.other_exceptions k x fits lt =
      shorter K slots graph inst 0 16 (omega arith) (last K slots graph inst x (op.Number (k + 1) (pos 1)) refl (omega (arith, lt), word_is (pos 1) refl))

  exceptions_like : (cs : List tree.ExceptionChoice) (k : ℕ) (x : Bool) → Everywhere (ExceptionChoiceFits p inst) cs → k + 2 < slots
      → Has x [] [] 0 (5 + 24 * length cs) (exception_choices_code (names_in p inst) shape_of home_of site k cs)
  exceptions_like [] k x fits lt =
      shorter K slots graph inst 0 (5 + 24 * 0) (omega arith) (last K slots graph inst x (op.Number (k + 1) (pos 0)) refl (omega (arith, lt), word_is (pos 0) refl))
  exceptions_like (c ∷ cs) k x fits lt =
      shorter K slots graph inst 0 (5 + 24 * suc (length cs)) (omega arith)
      (both K slots graph inst (exception_like c k x fits.0 lt)
      (chosen K slots graph inst (k + 1) (omega (arith, lt)) (nothing K slots graph inst x) (exceptions_like cs k x fits.1 lt)))

  -- a decision with the code of both outcomes
  decided_like : {ls ms : List tree.Label} {hs gs : List Decision} {a b : Code} {i j m n : ℕ} (Sees : tree.Object → Type 0) → ObjectsFit site.width K shape_of home_of Sees
      → (x : Bool) (standing : Standing) (s : ℕ) (d : tree.Label) (t : tree.Test) (k : ℕ) → IsPlainTest p inst shape_of home_of site Bodies Sees t → TestFits p inst t → end_of_test k t ≤ site.width
      → Has x ls hs i m a → Has x ms gs j n b
      → Has x (ls ++ ms) (in_decision s standing d t ++ (hs ++ gs)) 12 (node_instructions * test_nodes t + (m + n)) (decided_code (names_in p inst) shape_of home_of site k d t a b)
  decided_like {m = m} {n = n} Sees objects x standing s d t k plain fits room h g =
      let lt : k < slots = omega (arith, room, test_is_above k t) in
      shorter K slots graph inst 12 (node_instructions * test_nodes t + (m + n)) (omega arith)
      (both K slots graph inst
      (expression.decision_like p inst shape_of home_of site Bodies K graph bodies x standing s d t k lt
      (expression.test_like p inst shape_of home_of site Bodies K graph bodies Sees objects t s k d.number 0 (tree.conditions_of t) (edge.Leaf true) (edge.Leaf false) no_node plain fits room (omega arith)))
      (chosen K slots graph inst k lt h g))

  -- statements with their handlers
  guarded_like : {ls : List tree.Label} {gs : List Decision} {a b : Code} {m n : ℕ} (hs : tree.Handlers) (x : Bool) (k : ℕ) → k < slots → Has x ls gs m n a
      → Has x (handler_labels hs) (in_handlers hs) (handlers_margin hs) (node_instructions * handlers_nodes hs + 10) b
      → Has x (ls ++ handler_labels hs) (gs ++ in_handlers hs) m (n + node_instructions * handlers_nodes hs) (guarded_code hs a k b)
  guarded_like {ls = ls} {gs = gs} {m = m} {n = n} tree.no_handler x k lt h g =
      listed K slots graph inst (sym (append-nil ls)) (sym (append-nil gs)) (shorter K slots graph inst m (n + node_instructions * 0) (omega arith) h)
  guarded_like {m = m} {n = n} (tree.handler cs ss hs) x k lt h g =
      shorter K slots graph inst m (n + node_instructions * handlers_nodes (tree.handler cs ss hs)) (omega arith) (caught K slots graph inst k lt h g)

  module _ (layout_of : ℕ → ℕ) (content : ℕ → Content) (Declares : ℕ → Type 0) (top : ℕ) (gives : Bool)
      (declared : (d : ℕ) → Declares d → ShapeFits (shape_of (tree.local_object d)) × HomeFits site.width K (home_of (tree.local_object d)))
      (some : 1 ≤ K.exceptions) (few : top ≤ K.exceptions) where
    -- the objects that are visible behind declarations
    behind_fit : (Sees : tree.Object → Type 0) (d : ℕ) → Declares d → ObjectsFit site.width K shape_of home_of Sees → ObjectsFit site.width K shape_of home_of (behind Sees d)
    behind_fit Sees d there objects o (inl seen) = objects o seen
    behind_fit Sees d there objects o (inr is) = subst (λ q. ShapeFits (shape_of q) × HomeFits site.width K (home_of q)) (sym is) (declared d there)

    declares_it : (Sees : tree.Object → Type 0) (d : tree.Declaration) (ds : List tree.Declaration)
        → ArePlainDeclarations p inst shape_of home_of site Bodies layout_of content Declares top gives Sees (d ∷ ds) → Declares (declared_in d)
    declares_it Sees (tree.initialized l d v) ds plain = plain.0.0
    declares_it Sees (tree.without_value d t) ds plain = plain.0.0

    all_fit : (ds : List tree.Declaration) (Sees : tree.Object → Type 0) → ArePlainDeclarations p inst shape_of home_of site Bodies layout_of content Declares top gives Sees ds
        → ObjectsFit site.width K shape_of home_of Sees → ObjectsFit site.width K shape_of home_of (behind_all Sees ds)
    all_fit [] Sees plain objects = objects
    all_fit (d ∷ ds) Sees plain objects = all_fit ds (behind Sees (declared_in d)) plain.1 (behind_fit Sees (declared_in d) (declares_it Sees d ds plain) objects)

    declarations_like : (ds : List tree.Declaration) (Sees : tree.Object → Type 0) (k : ℕ) (x : Bool)
        → ArePlainDeclarations p inst shape_of home_of site Bodies layout_of content Declares top gives Sees ds → ObjectsFit site.width K shape_of home_of Sees
        → Everywhere (DeclarationFits p inst K shape_of layout_of) ds → end_of_declarations k ds ≤ site.width
        → Has x (declaration_labels ds) (in_declarations ds) 0 (node_instructions * declarations_nodes ds) (declarations_code (names_in p inst) shape_of home_of site layout_of k ds)
    declarations_like [] Sees k x plain objects fits room = nothing K slots graph inst x
    declarations_like (tree.initialized l d v ∷ ds) Sees k x plain objects fits room =
        shorter K slots graph inst 0 (node_instructions * (suc (value_nodes v) + declarations_nodes ds)) (omega arith)
        (started K slots graph inst l
        (both K slots graph inst
        (storing.assign_like p inst shape_of home_of site Bodies K graph bodies Sees objects (tree.local_object d) tree.whole v l.number k x (declared d plain.0.0) tt plain.0.1 tt fits.0 (omega (arith, room)))
        (declarations_like ds (behind Sees d) k x plain.1 (behind_fit Sees d plain.0.0 objects) fits.1 (omega (arith, room)))))
    declarations_like (tree.without_value d t ∷ ds) Sees k x plain objects fits room =
        shorter K slots graph inst 0 (node_instructions * (1 + declarations_nodes ds)) (omega arith)
        (both K slots graph inst
        (storing.first_like p inst shape_of home_of site Bodies K graph bodies Sees objects (shape_of (tree.local_object d)) x k (layout_of d) (home_of (tree.local_object d)) (declared d plain.0.0).0 (declared d plain.0.0).1
        fits.0 (omega (arith, room)))
        (declarations_like ds (behind Sees d) k x plain.1 (behind_fit Sees d plain.0.0 objects) fits.1 (omega (arith, room))))

    -- the bounds of a loop
    bounds_like : (ts : tree.LoopRange) (Sees : tree.Object → Type 0) (s k : ℕ) (x : Bool) → IsPlainRange p inst shape_of home_of site Bodies layout_of content Declares top gives Sees ts
        → ObjectsFit site.width K shape_of home_of Sees → RangeFits p inst ts → end_of_range k ts ≤ site.width
        → Has x [] (in_turns s ts) 50 (node_instructions * range_nodes ts) (bounds_code (names_in p inst) shape_of home_of site k ts)
    bounds_like (tree.over_subtype r) Sees s k x plain objects fits room =
        shorter K slots graph inst 50 (node_instructions * 1) (omega arith)
        (before K slots graph inst (op.Number k (bounds_in p inst r).low) refl (omega (arith, room), word_is (bounds_in p inst r).low plain.0)
        (last K slots graph inst x (op.Number (k + 1) (bounds_in p inst r).high) refl (omega (arith, room), word_is (bounds_in p inst r).high plain.1)))
    bounds_like (tree.over_bounds e f) Sees s k x plain objects fits room =
        shorter K slots graph inst 50 (node_instructions * (expr_nodes e + expr_nodes f)) (omega arith)
        (both K slots graph inst
        (expression.expr_like p inst shape_of home_of site Bodies K graph bodies Sees objects e s k x plain.0 fits.0 (omega (arith, room)))
        (expression.expr_like p inst shape_of home_of site Bodies K graph bodies Sees objects f s (k + 1) x plain.1 fits.1 (omega (arith, room))))

    mutual
      pub statement_like : (s : tree.Stmt) (Sees : tree.Object → Type 0) (k t : ℕ) (x handling : Bool)
          → IsPlainStatement p inst shape_of home_of site Bodies layout_of content Declares top gives Sees x handling s → ObjectsFit site.width K shape_of home_of Sees
          → StatementFits p inst K shape_of layout_of s → (handling ≡ true → t < slots) → end_of_statement k s ≤ site.width
          → Has x (labels s) (in_stmt s) 0 (node_instructions * statement_nodes s) (statement_code (names_in p inst) shape_of home_of site layout_of k t s)
      statement_like (tree.null_statement l) Sees k t x handling plain objects fits took room =
          shorter K slots graph inst 0 node_instructions (omega arith) (started K slots graph inst l (nothing K slots graph inst x))
      statement_like (tree.assignment l o parts v) Sees k t x handling plain objects fits took room =
          shorter K slots graph inst 0 (node_instructions * statement_nodes (tree.assignment l o parts v)) (omega arith)
          (started K slots graph inst l
          (storing.assign_like p inst shape_of home_of site Bodies K graph bodies Sees objects o parts v l.number k x (objects o plain.0) plain.1.0 plain.1.1 fits.0 fits.1 room))
      statement_like (tree.procedure_call l c actuals) Sees k t x handling plain objects fits took room =
          shorter K slots graph inst 0 (node_instructions * statement_nodes (tree.procedure_call l c actuals)) (omega arith)
          (started K slots graph inst l
          (storing.call_like p inst shape_of home_of site Bodies K graph bodies Sees objects (target_in p inst c) actuals layout_of content Declares top gives l.number k x plain fits room))
      statement_like (tree.if_statement l bs) Sees k t x handling plain objects fits took room =
          shorter K slots graph inst 0 (node_instructions * suc (branches_nodes bs)) (omega arith)
          (started K slots graph inst l (branches_like bs l.number Sees k t x handling plain objects fits took room))
      statement_like (tree.case_statement l e choices) Sees k t x handling plain objects fits took room =
          shorter K slots graph inst 0 (node_instructions * suc (expr_nodes e + alternatives_nodes choices)) (omega arith)
          (started K slots graph inst l
          (both K slots graph inst
          (expression.expr_like p inst shape_of home_of site Bodies K graph bodies Sees objects e l.number k x plain.0 fits.0 (omega (arith, room)))
          (alternatives_like choices Sees k t x handling plain.1 objects fits.1 took (omega (arith, room)) (omega (arith, room)))))
      statement_like (tree.bare_loop l ss) Sees k t x handling plain objects fits took room =
          shorter K slots graph inst 0 (node_instructions * suc (statements_nodes ss)) (omega arith)
          (started K slots graph inst l (looped K slots graph inst x (statements_like ss Sees k t true handling plain objects fits took room)))
      statement_like (tree.while_loop l d u ss) Sees k t x handling plain objects fits took room =
          shorter K slots graph inst 0 (node_instructions * suc (suc (test_nodes u) + statements_nodes ss)) (omega arith)
          (started K slots graph inst l
          (looped K slots graph inst x
          (listed K slots graph inst (append-nil (all_labels ss)) (ap (λ hs. in_decision l.number after_while d u ++ hs) (append-nil (in_stmts ss)))
          (decided_like Sees objects true after_while l.number d u k plain.0 fits.0 (omega (arith, room))
          (statements_like ss Sees k t true handling plain.1 objects fits.1 took (omega (arith, room))) (left K slots graph inst true refl)))))
      statement_like (tree.for_loop l d reversed ts ss) Sees k t x handling plain objects fits took room =
          let there : slot_of (home_of (tree.local_object d)) < slots = omega (arith, slot_fits site.width K (home_of (tree.local_object d)) plain.1.1.0 (declared d plain.0).1) in
          shorter K slots graph inst 0 (node_instructions * suc (range_nodes ts + statements_nodes ss)) (omega arith)
          (started K slots graph inst l
          (both K slots graph inst (bounds_like ts Sees l.number k x plain.1.1.1.0 objects fits.0 (omega (arith, room)))
          (range_like reversed x k (k + 2) (slot_of (home_of (tree.local_object d))) (omega (arith, room, ranges_are_above k ts)) (omega (arith, room, ranges_are_above k ts)) there
          (statements_like ss (behind Sees d) (k + 2) t true handling plain.1.1.1.1 (behind_fit Sees d plain.0 objects) fits.1 took (omega (arith, room))))))
      statement_like (tree.exit_statement l) Sees k t x handling plain objects fits took room =
          shorter K slots graph inst 0 node_instructions (omega arith) (started K slots graph inst l (left K slots graph inst x plain))
      statement_like (tree.exit_when l d u) Sees k t x handling plain objects fits took room =
          shorter K slots graph inst 0 (node_instructions * suc (suc (test_nodes u))) (omega arith)
          (started K slots graph inst l
          (listed K slots graph inst refl (append-nil (in_decision l.number after_exit d u))
          (decided_like Sees objects x after_exit l.number d u k plain.1 fits room (left K slots graph inst x plain.0) (nothing K slots graph inst x))))
      statement_like (tree.return_statement l) Sees k t x handling plain objects fits took room =
          shorter K slots graph inst 0 node_instructions (omega arith) (started K slots graph inst l (returned K slots graph inst x))
      statement_like (tree.return_value l r e) Sees k t x handling plain objects fits took room =
          let lt : k < slots = omega (arith, room, end_is_above k e) in
          shorter K slots graph inst 0 (node_instructions * suc (expr_nodes e)) (omega arith)
          (started K slots graph inst l
          (listed K slots graph inst refl (append-nil (in_expr l.number e))
          (both K slots graph inst (expression.expr_like p inst shape_of home_of site Bodies K graph bodies Sees objects e l.number k x plain.1 fits.1 room)
          (number.check_before K site.width graph inst k (bounds_in p inst r) fits.0 lt
          (before K slots graph inst (op.Move 0 k) refl (omega (arith, lt), lt) (returned K slots graph inst x))))))
      statement_like (tree.raise_statement l e) Sees k t x handling plain objects fits took room =
          shorter K slots graph inst 0 node_instructions (omega arith)
          (started K slots graph inst l (last K slots graph inst x (op.Raise (exception_in p inst e)) refl (plain.0, omega (arith, plain.1, few))))
      statement_like (tree.raise_again l) Sees k t x handling plain objects fits took room =
          shorter K slots graph inst 0 node_instructions (omega arith)
          (started K slots graph inst l (last K slots graph inst x (op.RaiseSlot t) refl (took plain)))
      statement_like (tree.block_statement b) Sees k t x handling plain objects fits took room =
          shorter K slots graph inst 0 (node_instructions * suc (block_nodes b)) (omega arith) (block_like b Sees k t x handling plain objects fits took room)

      pub statements_like : (ss : tree.Stmts) (Sees : tree.Object → Type 0) (k t : ℕ) (x handling : Bool)
          → ArePlainStatements p inst shape_of home_of site Bodies layout_of content Declares top gives Sees x handling ss → ObjectsFit site.width K shape_of home_of Sees
          → StatementsFit p inst K shape_of layout_of ss → (handling ≡ true → t < slots) → end_of_statements k ss ≤ site.width
          → Has x (all_labels ss) (in_stmts ss) 0 (node_instructions * statements_nodes ss) (statements_code (names_in p inst) shape_of home_of site layout_of k t ss)
      statements_like tree.no_statement Sees k t x handling plain objects fits took room = nothing K slots graph inst x
      statements_like (tree.and_statement s ss) Sees k t x handling plain objects fits took room =
          shorter K slots graph inst 0 (node_instructions * (statement_nodes s + statements_nodes ss)) (omega arith)
          (both K slots graph inst (statement_like s Sees k t x handling plain.0 objects fits.0 took (omega (arith, room)))
          (statements_like ss Sees k t x handling plain.1 objects fits.1 took (omega (arith, room))))

      pub branches_like : (bs : tree.Branches) (s : ℕ) (Sees : tree.Object → Type 0) (k t : ℕ) (x handling : Bool)
          → ArePlainBranches p inst shape_of home_of site Bodies layout_of content Declares top gives Sees x handling bs → ObjectsFit site.width K shape_of home_of Sees
          → BranchesFit p inst K shape_of layout_of bs → (handling ≡ true → t < slots) → end_of_branches k bs ≤ site.width
          → Has x (branch_labels bs) (in_branches s bs) 0 (node_instructions * branches_nodes bs) (branches_code (names_in p inst) shape_of home_of site layout_of k t bs)
      branches_like (tree.else_part ss) s Sees k t x handling plain objects fits took room = statements_like ss Sees k t x handling plain objects fits took room
      branches_like (tree.branch d u ss bs) s Sees k t x handling plain objects fits took room =
          shorter K slots graph inst 0 (node_instructions * (suc (test_nodes u) + statements_nodes ss + branches_nodes bs)) (omega arith)
          (listed K slots graph inst refl (sym (append_assoc (in_decision s after_if d u) (in_stmts ss) (in_branches s bs)))
          (decided_like Sees objects x after_if s d u k plain.0 fits.0 (omega (arith, room))
          (statements_like ss Sees k t x handling plain.1.0 objects fits.1.0 took (omega (arith, room)))
          (branches_like bs s Sees k t x handling plain.1.1 objects fits.1.1 took (omega (arith, room)))))

      pub alternatives_like : (choices : tree.Alternatives) (Sees : tree.Object → Type 0) (k t : ℕ) (x handling : Bool)
          → ArePlainAlternatives p inst shape_of home_of site Bodies layout_of content Declares top gives Sees x handling choices → ObjectsFit site.width K shape_of home_of Sees
          → AlternativesFit p inst K shape_of layout_of choices → (handling ≡ true → t < slots) → k + 3 ≤ site.width → end_of_alternatives k choices ≤ site.width
          → Has x (alternative_labels choices) (in_alternatives choices) 0 (node_instructions * alternatives_nodes choices + 3) (alternatives_code (names_in p inst) shape_of home_of site layout_of k t choices)
      alternatives_like tree.no_alternative Sees k t x handling plain objects fits took room more =
          shorter K slots graph inst 0 (node_instructions * 0 + 3) (omega arith) (last K slots graph inst x (op.Raise 1) refl (omega arith, some))
      alternatives_like (tree.alternative cs ss rest) Sees k t x handling plain objects fits took room more =
          shorter K slots graph inst 0 (node_instructions * suc (length cs + statements_nodes ss + alternatives_nodes rest) + 3) (omega arith)
          (both K slots graph inst (choices_like cs k x fits.0 (omega (arith, room)))
          (chosen K slots graph inst (k + 1) (omega (arith, room)) (statements_like ss Sees k t x handling plain.1.0 objects fits.1.0 took (omega (arith, more)))
          (alternatives_like rest Sees k t x handling plain.1.1 objects fits.1.1 took room (omega (arith, more)))))

      pub block_like : (b : tree.Block) (Sees : tree.Object → Type 0) (k t : ℕ) (x handling : Bool)
          → IsPlainBlock p inst shape_of home_of site Bodies layout_of content Declares top gives Sees x handling b → ObjectsFit site.width K shape_of home_of Sees
          → BlockFits p inst K shape_of layout_of b → (handling ≡ true → t < slots) → end_of_block k b ≤ site.width
          → Has x (block_labels b) (in_block b) 0 (node_instructions * block_nodes b) (block_code (names_in p inst) shape_of home_of site layout_of k t b)
      block_like (tree.block ds ss hs) Sees k t x handling plain objects fits took room =
          let inner = all_fit ds Sees plain.0 objects in
          shorter K slots graph inst 0 (node_instructions * (declarations_nodes ds + statements_nodes ss + handlers_nodes hs)) (omega arith)
          (listed K slots graph inst (sym (append_assoc (declaration_labels ds) (all_labels ss) (handler_labels hs))) (sym (append_assoc (in_declarations ds) (in_stmts ss) (in_handlers hs)))
          (both K slots graph inst (declarations_like ds Sees k x plain.0 objects fits.0 (omega (arith, room)))
          (guarded_like hs x k (omega (arith, room, handlers_are_above k hs)) (statements_like ss (behind_all Sees ds) k t x handling plain.1.0 inner fits.1.0 took (omega (arith, room)))
          (handlers_like hs (behind_all Sees ds) k x plain.1.1 inner fits.1.1 (omega (arith, room))))))

      pub handlers_like : (hs : tree.Handlers) (Sees : tree.Object → Type 0) (k : ℕ) (x : Bool)
          → ArePlainHandlers p inst shape_of home_of site Bodies layout_of content Declares top gives Sees x hs → ObjectsFit site.width K shape_of home_of Sees
          → HandlersFit p inst K shape_of layout_of hs → end_of_handlers k hs ≤ site.width
          → Has x (handler_labels hs) (in_handlers hs) (handlers_margin hs) (node_instructions * handlers_nodes hs + 10) (handlers_code (names_in p inst) shape_of home_of site layout_of k hs)
      handlers_like tree.no_handler Sees k x plain objects fits room =
          shorter K slots graph inst 0 (node_instructions * 0 + 10) (omega arith) (last K slots graph inst x (op.RaiseSlot k) refl (omega (arith, room)))
      handlers_like (tree.handler cs ss hs) Sees k x plain objects fits room =
          shorter K slots graph inst 16 (node_instructions * suc (length cs + statements_nodes ss + handlers_nodes hs) + 10) (omega arith)
          (both K slots graph inst (exceptions_like cs k x fits.0 (omega (arith, room)))
          (chosen K slots graph inst (k + 1) (omega (arith, room)) (statements_like ss Sees (k + 1) k x true plain.1.0 objects fits.1.0 (λ is. omega (arith, room)) (omega (arith, room)))
          (handlers_like hs Sees k x plain.1.1 objects fits.1.1 (omega (arith, room)))))
