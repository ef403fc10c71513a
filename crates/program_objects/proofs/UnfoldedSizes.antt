-- A text whose types are named by number has as many nodes as one whose types are unfolded.
use Rattle.std.proofs.Common.{◌≡◌, ◌+◌, suc, List, [], ◌∷◌, length, map, refl, ap}
use Rattle.ada_meaning.specs.Tree as tree
use Rattle.ada_meaning.specs.Types as type
use Rattle.ada_tree.specs.Programs.{unfolded_value, unfolded_declaration, unfolded_statement, unfolded_statements, unfolded_branches, unfolded_alternatives, unfolded_handlers, unfolded_block}
use Rattle.statement_code.specs.Sizes.{expr_nodes, test_nodes, parts_nodes, value_nodes, declaration_nodes, declarations_nodes, range_nodes, statement_nodes, statements_nodes, branches_nodes, alternatives_nodes, handlers_nodes, block_nodes}

module _ (types : List type.Subtype) where
  value_alike : (v : tree.NewValue) → value_nodes (unfolded_value types v) ≡ value_nodes v
  value_alike (tree.scalar_value r e) = refl
  value_alike (tree.composite_value t o parts) = refl
  value_alike (tree.others_value r v) = ap suc (value_alike v)

  declaration_alike : (d : tree.Declaration) → declaration_nodes (unfolded_declaration types d) ≡ declaration_nodes d
  declaration_alike (tree.initialized l d v) = ap suc (value_alike v)
  declaration_alike (tree.without_value d t) = refl

  declarations_alike : (ds : List tree.Declaration) → declarations_nodes (map (unfolded_declaration types) ds) ≡ declarations_nodes ds
  declarations_alike [] = refl
  declarations_alike (d ∷ ds) = λ i. declaration_alike d i + declarations_alike ds i

  mutual
    statement_alike : (s : tree.Stmt) → statement_nodes (unfolded_statement types s) ≡ statement_nodes s
    statement_alike (tree.null_statement l) = refl
    statement_alike (tree.assignment l o parts v) = λ i. suc (parts_nodes parts + value_alike v i)
    statement_alike (tree.procedure_call l c actuals) = refl
    statement_alike (tree.if_statement l bs) = ap suc (branches_alike bs)
    statement_alike (tree.case_statement l e choices) = λ i. suc (expr_nodes e + alternatives_alike choices i)
    statement_alike (tree.bare_loop l ss) = ap suc (statements_alike ss)
    statement_alike (tree.while_loop l d t ss) = λ i. suc (suc (test_nodes t) + statements_alike ss i)
    statement_alike (tree.for_loop l d reversed ts ss) = λ i. suc (range_nodes ts + statements_alike ss i)
    statement_alike (tree.exit_statement l) = refl
    statement_alike (tree.exit_when l d t) = refl
    statement_alike (tree.return_statement l) = refl
    statement_alike (tree.return_value l r e) = refl
    statement_alike (tree.raise_statement l x) = refl
    statement_alike (tree.raise_again l) = refl
    statement_alike (tree.block_statement b) = ap suc (block_alike b)

    statements_alike : (ss : tree.Stmts) → statements_nodes (unfolded_statements types ss) ≡ statements_nodes ss
    statements_alike tree.no_statement = refl
    statements_alike (tree.and_statement s ss) = λ i. statement_alike s i + statements_alike ss i

    branches_alike : (bs : tree.Branches) → branches_nodes (unfolded_branches types bs) ≡ branches_nodes bs
    branches_alike (tree.else_part ss) = statements_alike ss
    branches_alike (tree.branch d t ss bs) = λ i. suc (test_nodes t) + statements_alike ss i + branches_alike bs i

    alternatives_alike : (choices : tree.Alternatives) → alternatives_nodes (unfolded_alternatives types choices) ≡ alternatives_nodes choices
    alternatives_alike tree.no_alternative = refl
    alternatives_alike (tree.alternative cs ss rest) = λ i. suc (length cs + statements_alike ss i + alternatives_alike rest i)

    handlers_alike : (hs : tree.Handlers) → handlers_nodes (unfolded_handlers types hs) ≡ handlers_nodes hs
    handlers_alike tree.no_handler = refl
    handlers_alike (tree.handler cs ss hs) = λ i. suc (length cs + statements_alike ss i + handlers_alike hs i)

    pub block_alike : (b : tree.Block) → block_nodes (unfolded_block types b) ≡ block_nodes b
    block_alike (tree.block ds ss hs) = λ i. declarations_alike ds i + statements_alike ss i + handlers_alike hs i
