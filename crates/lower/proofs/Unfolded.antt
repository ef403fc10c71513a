-- Code is made of a text alike whether its types are named by number or unfolded: it takes types from objects.
use Rattle.std.proofs.Common.{◌≡◌, ℕ, ◌+◌, max, pos, List, [], ◌∷◌, map, refl, ap, ◌∙◌}
use Rattle.ada_meaning.specs.Shape.{Shape, word, row, group}
use Rattle.ada_meaning.specs.Tree as tree
use Rattle.ada_meaning.specs.Types.{Subtype}
use Rattle.ada_resolved.specs.Sizes.{words}
use Rattle.ada_tree.specs.Programs.{unfolded_value, unfolded_declaration, unfolded_statement, unfolded_statements, unfolded_branches, unfolded_alternatives, unfolded_handlers, unfolded_block}
use Rattle.frame_widths.specs.Ends.{end_of, end_of_parts, end_of_test, end_of_value, end_of_assignment, end_of_declaration, end_of_declarations, end_of_range, end_of_statement, end_of_statements, end_of_branches, end_of_alternatives, end_of_block, end_of_handlers}
use Rattle.kernel_ir.specs.declared.simple.Simple.TheVariants as op
use Rattle.kernel_ir.specs.Sequence.{joined}
use Rattle.kernel_ir.specs.Tree.{simple, choose, forever, for_loop, exit, Code, and_op}
use Rattle.statement_code.specs.Flows.{range_code, decided_code, choices_code}
use Rattle.statement_code.specs.Names.{Names}
use Rattle.statement_code.specs.Sets.{turn_code, next_code, set_code}
use Rattle.statement_code.specs.Statements.{slot_of, start_of, guarded_code, assign_at, assign_code, bounds_code, exception_choices_code, declaration_code, declarations_code, statement_code, statements_code, branches_code, alternatives_code, block_code, handlers_code}
use Rattle.statement_code.specs.Values.{Home, Site, address_on, expr_code, parts_code, part_shape, single}

module _ (types : List Subtype) where
  value_ends : (j : ℕ) (v : tree.NewValue) → end_of_value j (unfolded_value types v) ≡ end_of_value j v
  value_ends j (tree.scalar_value r e) = refl
  value_ends j (tree.composite_value t o parts) = refl
  value_ends j (tree.others_value r v) = ap (max (j + 2)) (value_ends (j + 1) v)

  assignment_ends : (k : ℕ) (parts : tree.Parts) (v : tree.NewValue) → end_of_assignment k parts (unfolded_value types v) ≡ end_of_assignment k parts v
  assignment_ends k tree.whole (tree.scalar_value r e) = refl
  assignment_ends k tree.whole (tree.composite_value t o parts) = refl
  assignment_ends k tree.whole (tree.others_value r v) = ap (max (end_of_parts k tree.whole)) (value_ends (k + 1) (tree.others_value r v))
  assignment_ends k (tree.component n parts) v = ap (max (end_of_parts k (tree.component n parts))) (value_ends (k + 1) v)
  assignment_ends k (tree.element r e parts) v = ap (max (end_of_parts k (tree.element r e parts))) (value_ends (k + 1) v)

  declaration_ends : (k : ℕ) (d : tree.Declaration) → end_of_declaration k (unfolded_declaration types d) ≡ end_of_declaration k d
  declaration_ends k (tree.initialized l d v) = assignment_ends k tree.whole v
  declaration_ends k (tree.without_value d t) = refl

  declarations_end : (k : ℕ) (ds : List tree.Declaration) → end_of_declarations k (map (unfolded_declaration types) ds) ≡ end_of_declarations k ds
  declarations_end k [] = refl
  declarations_end k (d ∷ ds) = λ i. max (declaration_ends k d i) (declarations_end k ds i)

  mutual
    statement_ends : (k : ℕ) (s : tree.Stmt) → end_of_statement k (unfolded_statement types s) ≡ end_of_statement k s
    statement_ends k (tree.null_statement l) = refl
    statement_ends k (tree.assignment l o parts v) = assignment_ends k parts v
    statement_ends k (tree.procedure_call l c actuals) = refl
    statement_ends k (tree.if_statement l bs) = branches_end k bs
    statement_ends k (tree.case_statement l e choices) = λ i. max (end_of k e) (max (k + 3) (alternatives_end k choices i))
    statement_ends k (tree.bare_loop l ss) = statements_end k ss
    statement_ends k (tree.while_loop l d t ss) = ap (max (end_of_test k t)) (statements_end k ss)
    statement_ends k (tree.for_loop l d reversed ts ss) = ap (max (end_of_range k ts)) (statements_end (k + 2) ss)
    statement_ends k (tree.exit_statement l) = refl
    statement_ends k (tree.exit_when l d t) = refl
    statement_ends k (tree.return_statement l) = refl
    statement_ends k (tree.return_value l r e) = refl
    statement_ends k (tree.raise_statement l x) = refl
    statement_ends k (tree.raise_again l) = refl
    statement_ends k (tree.block_statement b) = block_ends k b

    statements_end : (k : ℕ) (ss : tree.Stmts) → end_of_statements k (unfolded_statements types ss) ≡ end_of_statements k ss
    statements_end k tree.no_statement = refl
    statements_end k (tree.and_statement s ss) = λ i. max (statement_ends k s i) (statements_end k ss i)

    branches_end : (k : ℕ) (bs : tree.Branches) → end_of_branches k (unfolded_branches types bs) ≡ end_of_branches k bs
    branches_end k (tree.else_part ss) = statements_end k ss
    branches_end k (tree.branch d t ss bs) = λ i. max (max (end_of_test k t) (statements_end k ss i)) (branches_end k bs i)

    alternatives_end : (k : ℕ) (xs : tree.Alternatives) → end_of_alternatives k (unfolded_alternatives types xs) ≡ end_of_alternatives k xs
    alternatives_end k tree.no_alternative = refl
    alternatives_end k (tree.alternative cs ss xs) = λ i. max (statements_end k ss i) (alternatives_end k xs i)

    handlers_end : (k : ℕ) (hs : tree.Handlers) → end_of_handlers k (unfolded_handlers types hs) ≡ end_of_handlers k hs
    handlers_end k tree.no_handler = refl
    handlers_end k (tree.handler cs ss hs) = λ i. max (k + 3) (max (statements_end (k + 1) ss i) (handlers_end k hs i))

    pub block_ends : (k : ℕ) (b : tree.Block) → end_of_block k (unfolded_block types b) ≡ end_of_block k b
    block_ends k (tree.block ds ss hs) = λ i. max (declarations_end k ds i) (max (statements_end k ss i) (handlers_end k hs i))

module _ (types : List Subtype) (names : Names) (shape_of : tree.Object → Shape) (home_of : tree.Object → Home) (site : Site) where
  next_is : (k : ℕ) (s : Shape) (v : tree.NewValue) → next_code k s (unfolded_value types v) ≡ next_code k s v
  next_is k s (tree.scalar_value r e) = refl
  next_is k s (tree.composite_value t o parts) = refl
  next_is k s (tree.others_value r v) = refl

  value_is : (k j : ℕ) (s : Shape) (v : tree.NewValue)
      → set_code names shape_of home_of site k j s (unfolded_value types v) ≡ set_code names shape_of home_of site k j s v
  value_is k j s (tree.scalar_value r e) = refl
  value_is k j s (tree.composite_value t o parts) = refl
  value_is k j (row b s) (tree.others_value r v) =
      λ i. and_op (simple (op.Advance j k (pos (words (row b s))))) (single (for_loop (turn_code k j (joined (value_is k (j + 1) s v i) (next_is k s v i)))))
  value_is k j (word b) (tree.others_value r v) = refl
  value_is k j (group ss) (tree.others_value r v) = refl

  assigned_at : (k : ℕ) (o : tree.Object) (parts : tree.Parts) (v : tree.NewValue)
      → assign_at names shape_of home_of site k o parts (unfolded_value types v) ≡ assign_at names shape_of home_of site k o parts v
  assigned_at k o parts v =
      λ i. and_op (simple (address_on k (home_of o))) (joined (parts_code names shape_of home_of site k (shape_of o) parts) (value_is k (k + 1) (part_shape (shape_of o) parts) v i))

  assignment_is : (k : ℕ) (o : tree.Object) (parts : tree.Parts) (v : tree.NewValue)
      → assign_code names shape_of home_of site k o parts (unfolded_value types v) ≡ assign_code names shape_of home_of site k o parts v
  assignment_is k o tree.whole (tree.scalar_value r e) = refl
  assignment_is k o tree.whole (tree.composite_value t q parts) = assigned_at k o tree.whole (tree.composite_value t q parts)
  assignment_is k o tree.whole (tree.others_value r v) = assigned_at k o tree.whole (tree.others_value r v)
  assignment_is k o (tree.component n parts) v = assigned_at k o (tree.component n parts) v
  assignment_is k o (tree.element r e parts) v = assigned_at k o (tree.element r e parts) v

  module _ (layout_of : ℕ → ℕ) where
    declaration_is : (k : ℕ) (d : tree.Declaration)
        → declaration_code names shape_of home_of site layout_of k (unfolded_declaration types d) ≡ declaration_code names shape_of home_of site layout_of k d
    declaration_is k (tree.initialized l d v) = ap (and_op (simple (start_of names.instance l))) (assignment_is k (tree.local_object d) tree.whole v)
    declaration_is k (tree.without_value d t) = refl

    declarations_are : (k : ℕ) (ds : List tree.Declaration)
        → declarations_code names shape_of home_of site layout_of k (map (unfolded_declaration types) ds) ≡ declarations_code names shape_of home_of site layout_of k ds
    declarations_are k [] = refl
    declarations_are k (d ∷ ds) = λ i. joined (declaration_is k d i) (declarations_are k ds i)

    guarded : (hs : tree.Handlers) (body : Code) (k : ℕ) (handlers : Code) → guarded_code (unfolded_handlers types hs) body k handlers ≡ guarded_code hs body k handlers
    guarded tree.no_handler body k handlers = refl
    guarded (tree.handler cs ss hs) body k handlers = refl

    mutual
      statement_is : (k t : ℕ) (s : tree.Stmt)
          → statement_code names shape_of home_of site layout_of k t (unfolded_statement types s) ≡ statement_code names shape_of home_of site layout_of k t s
      statement_is k t (tree.null_statement l) = refl
      statement_is k t (tree.assignment l o parts v) = ap (and_op (simple (start_of names.instance l))) (assignment_is k o parts v)
      statement_is k t (tree.procedure_call l c actuals) = refl
      statement_is k t (tree.if_statement l bs) = ap (and_op (simple (start_of names.instance l))) (branches_are k t bs)
      statement_is k t (tree.case_statement l e choices) =
          λ i. and_op (simple (start_of names.instance l)) (joined (expr_code names shape_of home_of site k e) (alternatives_are k t choices i))
      statement_is k t (tree.bare_loop l ss) = λ i. and_op (simple (start_of names.instance l)) (single (forever (statements_are k t ss i)))
      statement_is k t (tree.while_loop l d u ss) =
          λ i. and_op (simple (start_of names.instance l)) (single (forever (decided_code names shape_of home_of site k d u (statements_are k t ss i) (single exit))))
      statement_is k t (tree.for_loop l d reversed ts ss) =
          λ i. and_op (simple (start_of names.instance l))
          (joined (bounds_code names shape_of home_of site k ts) (range_code k (k + 2) (slot_of (home_of (tree.local_object d))) reversed (statements_are (k + 2) t ss i)))
      statement_is k t (tree.exit_statement l) = refl
      statement_is k t (tree.exit_when l d u) = refl
      statement_is k t (tree.return_statement l) = refl
      statement_is k t (tree.return_value l r e) = refl
      statement_is k t (tree.raise_statement l x) = refl
      statement_is k t (tree.raise_again l) = refl
      statement_is k t (tree.block_statement b) = block_is k t b

      statements_are : (k t : ℕ) (ss : tree.Stmts)
          → statements_code names shape_of home_of site layout_of k t (unfolded_statements types ss) ≡ statements_code names shape_of home_of site layout_of k t ss
      statements_are k t tree.no_statement = refl
      statements_are k t (tree.and_statement s ss) = λ i. joined (statement_is k t s i) (statements_are k t ss i)

      branches_are : (k t : ℕ) (bs : tree.Branches)
          → branches_code names shape_of home_of site layout_of k t (unfolded_branches types bs) ≡ branches_code names shape_of home_of site layout_of k t bs
      branches_are k t (tree.else_part ss) = statements_are k t ss
      branches_are k t (tree.branch d u ss bs) = λ i. decided_code names shape_of home_of site k d u (statements_are k t ss i) (branches_are k t bs i)

      alternatives_are : (k t : ℕ) (xs : tree.Alternatives)
          → alternatives_code names shape_of home_of site layout_of k t (unfolded_alternatives types xs) ≡ alternatives_code names shape_of home_of site layout_of k t xs
      alternatives_are k t tree.no_alternative = refl
      alternatives_are k t (tree.alternative cs ss xs) =
          λ i. joined (choices_code names shape_of home_of site k cs) (single (choose (k + 1) (statements_are k t ss i) (alternatives_are k t xs i)))

      handlers_are : (k : ℕ) (hs : tree.Handlers)
          → handlers_code names shape_of home_of site layout_of k (unfolded_handlers types hs) ≡ handlers_code names shape_of home_of site layout_of k hs
      handlers_are k tree.no_handler = refl
      handlers_are k (tree.handler cs ss hs) =
          λ i. joined (exception_choices_code names shape_of home_of site k cs) (single (choose (k + 1) (statements_are (k + 1) k ss i) (handlers_are k hs i)))

      pub block_is : (k t : ℕ) (b : tree.Block) → block_code names shape_of home_of site layout_of k t (unfolded_block types b) ≡ block_code names shape_of home_of site layout_of k t b
      block_is k t (tree.block ds ss hs) =
          (λ i. joined (declarations_are k ds i) (guarded_code (unfolded_handlers types hs) (statements_are k t ss i) k (handlers_are k hs i)))
          ∙ ap (joined (declarations_code names shape_of home_of site layout_of k ds))
          (guarded hs (statements_code names shape_of home_of site layout_of k t ss) k (handlers_code names shape_of home_of site layout_of k hs))
