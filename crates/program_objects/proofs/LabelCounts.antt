-- A program has no more statement obligations than nodes.
use Rattle.std.proofs.Common.{◌≤◌, List, [], ◌∷◌, ◌++◌, length, sum_by, arith, length-append}
use Rattle.std.proofs.lemmas.List.Sums.{sum_by-cons}
use Rattle.ada_meaning.specs.Collected.{declaration_labels, labels_of, labels, all_labels, branch_labels, alternative_labels, handler_labels, block_labels}
use Rattle.ada_meaning.specs.Program.{Subprogram}
use Rattle.ada_meaning.specs.Tree as tree
use Rattle.statement_code.specs.Sizes.{declarations_nodes, statement_nodes, statements_nodes, branches_nodes, alternatives_nodes, handlers_nodes, block_nodes, subprogram_nodes}

declarations_counted : (ds : List tree.Declaration) → length (declaration_labels ds) ≤ declarations_nodes ds
declarations_counted [] = omega arith
declarations_counted (tree.initialized l d v ∷ ds) = omega (arith, declarations_counted ds)
declarations_counted (tree.without_value d t ∷ ds) = omega (arith, declarations_counted ds)

mutual
  statement_counted : (s : tree.Stmt) → length (labels s) ≤ statement_nodes s
  statement_counted (tree.null_statement l) = omega arith
  statement_counted (tree.assignment l o parts v) = omega arith
  statement_counted (tree.procedure_call l c actuals) = omega arith
  statement_counted (tree.if_statement l bs) = omega (arith, branches_counted bs)
  statement_counted (tree.case_statement l e xs) = omega (arith, alternatives_counted xs)
  statement_counted (tree.bare_loop l ss) = omega (arith, statements_counted ss)
  statement_counted (tree.while_loop l d t ss) = omega (arith, statements_counted ss)
  statement_counted (tree.for_loop l d reversed ts ss) = omega (arith, statements_counted ss)
  statement_counted (tree.exit_statement l) = omega arith
  statement_counted (tree.exit_when l d t) = omega arith
  statement_counted (tree.return_statement l) = omega arith
  statement_counted (tree.return_value l r e) = omega arith
  statement_counted (tree.raise_statement l x) = omega arith
  statement_counted (tree.raise_again l) = omega arith
  statement_counted (tree.block_statement b) = omega (arith, block_counted b)

  statements_counted : (ss : tree.Stmts) → length (all_labels ss) ≤ statements_nodes ss
  statements_counted tree.no_statement = omega arith
  statements_counted (tree.and_statement s ss) = omega (arith, length-append (labels s) (all_labels ss), statement_counted s, statements_counted ss)

  branches_counted : (bs : tree.Branches) → length (branch_labels bs) ≤ branches_nodes bs
  branches_counted (tree.else_part ss) = statements_counted ss
  branches_counted (tree.branch d t ss bs) = omega (arith, length-append (all_labels ss) (branch_labels bs), statements_counted ss, branches_counted bs)

  alternatives_counted : (xs : tree.Alternatives) → length (alternative_labels xs) ≤ alternatives_nodes xs
  alternatives_counted tree.no_alternative = omega arith
  alternatives_counted (tree.alternative cs ss xs) = omega (arith, length-append (all_labels ss) (alternative_labels xs), statements_counted ss, alternatives_counted xs)

  handlers_counted : (hs : tree.Handlers) → length (handler_labels hs) ≤ handlers_nodes hs
  handlers_counted tree.no_handler = omega arith
  handlers_counted (tree.handler cs ss hs) = omega (arith, length-append (all_labels ss) (handler_labels hs), statements_counted ss, handlers_counted hs)

  block_counted : (b : tree.Block) → length (block_labels b) ≤ block_nodes b
  block_counted (tree.block ds ss hs) =
      let front = declaration_labels ds in
      omega (arith, length-append (front ++ all_labels ss) (handler_labels hs), length-append front (all_labels ss), declarations_counted ds, statements_counted ss, handlers_counted hs)

pub labels_few : (ss : List Subprogram) → length (labels_of ss) ≤ sum_by subprogram_nodes ss
labels_few [] = omega arith
labels_few (s ∷ ss) = omega (arith, length-append (block_labels s.body) (labels_of ss), block_counted s.body, labels_few ss, sum_by-cons subprogram_nodes s ss)
