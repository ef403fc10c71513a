-- How far code works in a frame: the first slot behind those that a text is worked out in, of which k is the first.
use Rattle.std.specs.Prelude.{ℕ, ◌+◌, max, List, [], ◌∷◌}
use Rattle.ada_meaning.specs.Tree as tree

abbrev mutual
  -- the first slot behind those that the value of an expression is worked out in, of which k is the first
  pub end_of : (k : ℕ) → tree.Expr → ℕ
  end_of k (tree.attribute o parts e) = end_of_parts k parts
  end_of k (tree.read o parts) = end_of_parts k parts
  end_of k (tree.signed s e) = end_of k e
  end_of k (tree.operation o e f) = max (end_of k e) (end_of (k + 1) f)
  end_of k (tree.relation r e f) = max (end_of k e) (end_of (k + 1) f)
  end_of k (tree.complement e) = end_of k e
  end_of k (tree.conversion r e) = end_of k e
  end_of k (tree.call c actuals) = end_of_actuals k actuals
  end_of k (tree.decision d t) = end_of_test k t
  end_of k e = k + 1

  -- of actuals: a slot for each, and one more for the address of a part of an object
  pub end_of_actuals : (k : ℕ) → tree.Actuals → ℕ
  end_of_actuals k tree.no_actual = k + 1
  end_of_actuals k (tree.by_expression e rest) = max (end_of k e) (end_of_actuals (k + 1) rest)
  end_of_actuals k (tree.by_variable o tree.whole r rest) = end_of_actuals (k + 1) rest
  end_of_actuals k (tree.by_variable o (tree.component n parts) r rest) = max (end_of_parts k parts) (end_of_actuals (k + 2) rest)
  end_of_actuals k (tree.by_variable o (tree.element r e parts) s rest) =
      max (max (end_of (k + 1) e) (end_of_parts k parts)) (end_of_actuals (k + 2) rest)
  end_of_actuals k (tree.by_composite o parts rest) = max (end_of_parts k parts) (end_of_actuals (k + 1) rest)

  -- of the parts of a name, whose address stands in the slot k
  pub end_of_parts : (k : ℕ) → tree.Parts → ℕ
  end_of_parts k tree.whole = k + 1
  end_of_parts k (tree.component n parts) = end_of_parts k parts
  end_of_parts k (tree.element r e parts) = max (end_of (k + 1) e) (end_of_parts k parts)

  -- of a decision, whose conditions are all worked out from the same slot on
  pub end_of_test : (k : ℕ) → tree.Test → ℕ
  end_of_test k (tree.condition at e) = end_of k e
  end_of_test k (tree.negation t) = end_of_test k t
  end_of_test k (tree.operator neutral t u) = max (end_of_test k t) (end_of_test k u)

-- of what an object or a component is set to, where the slot before j holds its address (RM 4.3.3)
abbrev pub end_of_value : (j : ℕ) → tree.NewValue → ℕ
end_of_value j (tree.scalar_value r e) = end_of j e
end_of_value j (tree.composite_value t o parts) = end_of_parts j parts
end_of_value j (tree.others_value r v) = max (j + 2) (end_of_value (j + 1) v)

-- of an assignment to these parts of an object (RM 5.2)
abbrev pub end_of_assignment : (k : ℕ) → tree.Parts → tree.NewValue → ℕ
end_of_assignment k tree.whole (tree.scalar_value r e) = end_of k e
end_of_assignment k parts v = max (end_of_parts k parts) (end_of_value (k + 1) v)

-- of a call: what Get works in, and what actuals take
abbrev pub end_of_call : (k : ℕ) → tree.Actuals → ℕ
end_of_call k (tree.by_variable o parts r rest) = max (max (k + 2) (end_of_parts k parts)) (end_of_actuals k (tree.by_variable o parts r rest))
end_of_call k actuals = end_of_actuals k actuals

abbrev pub end_of_declaration : (k : ℕ) → tree.Declaration → ℕ
end_of_declaration k (tree.initialized l d v) = end_of_assignment k tree.whole v
end_of_declaration k (tree.without_value d t) = k + 1

abbrev pub end_of_declarations : (k : ℕ) → List tree.Declaration → ℕ
end_of_declarations k [] = k + 1
end_of_declarations k (d ∷ ds) = max (end_of_declaration k d) (end_of_declarations k ds)

-- of the bounds of a loop, which stay in two slots
abbrev pub end_of_range : (k : ℕ) → tree.LoopRange → ℕ
end_of_range k (tree.over_subtype r) = k + 3
end_of_range k (tree.over_bounds e f) = max (k + 3) (max (end_of k e) (end_of (k + 1) f))

abbrev mutual
  pub end_of_statement : (k : ℕ) → tree.Stmt → ℕ
  end_of_statement k (tree.assignment l o parts v) = end_of_assignment k parts v
  end_of_statement k (tree.procedure_call l c actuals) = end_of_call k actuals
  end_of_statement k (tree.if_statement l bs) = end_of_branches k bs
  end_of_statement k (tree.case_statement l e choices) = max (end_of k e) (max (k + 3) (end_of_alternatives k choices))
  end_of_statement k (tree.bare_loop l ss) = end_of_statements k ss
  end_of_statement k (tree.while_loop l d t ss) = max (end_of_test k t) (end_of_statements k ss)
  end_of_statement k (tree.for_loop l d reversed ts ss) = max (end_of_range k ts) (end_of_statements (k + 2) ss)
  end_of_statement k (tree.exit_when l d t) = end_of_test k t
  end_of_statement k (tree.return_value l r e) = end_of k e
  end_of_statement k (tree.block_statement b) = end_of_block k b
  end_of_statement k s = k + 1

  pub end_of_statements : (k : ℕ) → tree.Stmts → ℕ
  end_of_statements k tree.no_statement = k + 1
  end_of_statements k (tree.and_statement s ss) = max (end_of_statement k s) (end_of_statements k ss)

  pub end_of_branches : (k : ℕ) → tree.Branches → ℕ
  end_of_branches k (tree.else_part ss) = end_of_statements k ss
  end_of_branches k (tree.branch d t ss bs) = max (max (end_of_test k t) (end_of_statements k ss)) (end_of_branches k bs)

  pub end_of_alternatives : (k : ℕ) → tree.Alternatives → ℕ
  end_of_alternatives k tree.no_alternative = k + 1
  end_of_alternatives k (tree.alternative cs ss rest) = max (end_of_statements k ss) (end_of_alternatives k rest)

  pub end_of_block : (k : ℕ) → tree.Block → ℕ
  end_of_block k (tree.block ds ss hs) = max (end_of_declarations k ds) (max (end_of_statements k ss) (end_of_handlers k hs))

  -- the slot k holds the number of the exception
  pub end_of_handlers : (k : ℕ) → tree.Handlers → ℕ
  end_of_handlers k tree.no_handler = k + 1
  end_of_handlers k (tree.handler cs ss hs) = max (k + 3) (max (end_of_statements (k + 1) ss) (end_of_handlers k hs))
