-- The statement obligations and decisions of a program, as they are met on a walk over its trees.
use Rattle.std.specs.Prelude.{ℕ, List, [], ◌∷◌, ◌++◌}
use Rattle.cov_base.specs.declared.position.Pos.{Pos}
use Rattle.ada_meaning.specs.Tree.{Label, Expr, literal, constant, attribute, read, signed, operation, relation, complement, conversion, call, decision, Parts, whole, component, element, Actuals, no_actual, by_expression, by_variable, by_composite, Test, condition, negation, operator, NewValue, scalar_value, composite_value, others_value, LoopRange, over_subtype, over_bounds, Declaration, initialized, without_value, Stmt, null_statement, assignment, procedure_call, if_statement, case_statement, bare_loop, while_loop, for_loop, exit_statement, exit_when, return_statement, return_value, raise_statement, raise_again, block_statement, Stmts, no_statement, and_statement, Branches, else_part, branch, Alternatives, no_alternative, alternative, Handlers, no_handler, handler, Block, block}
use Rattle.ada_meaning.specs.Program.{Subprogram}

-- where a decision stands: after if or elsif, after while, after exit when, or elsewhere
pub data Standing : Type 0 where
  after_if : Standing
  after_while : Standing
  after_exit : Standing
  elsewhere : Standing

-- a decision: where it stands, the number of the statement obligation that holds it, its label and its expression
pub record Decision : Type 0 where
  pub standing : Standing
  pub statement : ℕ
  pub label : Label
  pub test : Test

-- the places of the conditions, in the order of the text
abbrev pub condition_places : Test → List Pos
condition_places (condition at e) = at ∷ []
condition_places (negation t) = condition_places t
condition_places (operator neutral t u) = condition_places t ++ condition_places u

module _ (statement : ℕ) where
  abbrev mutual
    -- the decisions in an expression that this statement holds, an outer one before those nested in it
    pub in_expr : Expr → List Decision
    in_expr (literal x) = []
    in_expr (constant e) = []
    in_expr (attribute o parts e) = in_parts parts
    in_expr (read o parts) = in_parts parts
    in_expr (signed s e) = in_expr e
    in_expr (operation o e f) = in_expr e ++ in_expr f
    in_expr (relation r e f) = in_expr e ++ in_expr f
    in_expr (complement e) = in_expr e
    in_expr (conversion r e) = in_expr e
    in_expr (call c actuals) = in_actuals actuals
    in_expr (decision d t) = record { standing = elsewhere; statement = statement; label = d; test = t } ∷ in_test t

    -- those in the indices of a name
    pub in_parts : Parts → List Decision
    in_parts whole = []
    in_parts (component n parts) = in_parts parts
    in_parts (element r e parts) = in_expr e ++ in_parts parts

    -- those in actual parameters
    pub in_actuals : Actuals → List Decision
    in_actuals no_actual = []
    in_actuals (by_expression e actuals) = in_expr e ++ in_actuals actuals
    in_actuals (by_variable o parts r actuals) = in_parts parts ++ in_actuals actuals
    in_actuals (by_composite o parts actuals) = in_parts parts ++ in_actuals actuals

    -- those nested in the conditions of a decision
    pub in_test : Test → List Decision
    in_test (condition at e) = in_expr e
    in_test (negation t) = in_test t
    in_test (operator neutral t u) = in_test t ++ in_test u

  -- those in what an object is set to
  abbrev pub in_value : NewValue → List Decision
  in_value (scalar_value r e) = in_expr e
  in_value (composite_value t o parts) = in_parts parts
  in_value (others_value r v) = in_value v

  -- those in the bounds of a for loop
  abbrev pub in_turns : LoopRange → List Decision
  in_turns (over_subtype r) = []
  in_turns (over_bounds e f) = in_expr e ++ in_expr f

  -- a decision of a statement, and those nested in it
  abbrev pub in_decision : Standing → Label → Test → List Decision
  in_decision standing d t = record { standing = standing; statement = statement; label = d; test = t } ∷ in_test t

-- the decisions in declarations
abbrev pub in_declarations : List Declaration → List Decision
in_declarations [] = []
in_declarations (initialized l d v ∷ ds) = in_value l.number v ++ in_declarations ds
in_declarations (without_value d t ∷ ds) = in_declarations ds

abbrev mutual
  -- the decisions in a statement
  pub in_stmt : Stmt → List Decision
  in_stmt (null_statement l) = []
  in_stmt (assignment l o parts v) = in_parts l.number parts ++ in_value l.number v
  in_stmt (procedure_call l c actuals) = in_actuals l.number actuals
  in_stmt (if_statement l bs) = in_branches l.number bs
  in_stmt (case_statement l e choices) = in_expr l.number e ++ in_alternatives choices
  in_stmt (bare_loop l ss) = in_stmts ss
  in_stmt (while_loop l d t ss) = in_decision l.number after_while d t ++ in_stmts ss
  in_stmt (for_loop l d reversed ts ss) = in_turns l.number ts ++ in_stmts ss
  in_stmt (exit_statement l) = []
  in_stmt (exit_when l d t) = in_decision l.number after_exit d t
  in_stmt (return_statement l) = []
  in_stmt (return_value l r e) = in_expr l.number e
  in_stmt (raise_statement l x) = []
  in_stmt (raise_again l) = []
  in_stmt (block_statement b) = in_block b

  -- those in statements
  pub in_stmts : Stmts → List Decision
  in_stmts no_statement = []
  in_stmts (and_statement s ss) = in_stmt s ++ in_stmts ss

  -- those in the branches of the if statement with this number
  pub in_branches : ℕ → Branches → List Decision
  in_branches statement (else_part ss) = in_stmts ss
  in_branches statement (branch d t ss bs) = in_decision statement after_if d t ++ in_stmts ss ++ in_branches statement bs

  -- those in the alternatives of a case statement
  pub in_alternatives : Alternatives → List Decision
  in_alternatives no_alternative = []
  in_alternatives (alternative cs ss rest) = in_stmts ss ++ in_alternatives rest

  -- those in handlers
  pub in_handlers : Handlers → List Decision
  in_handlers no_handler = []
  in_handlers (handler cs ss hs) = in_stmts ss ++ in_handlers hs

  -- those in a block or a body
  pub in_block : Block → List Decision
  in_block (block ds ss hs) = in_declarations ds ++ in_stmts ss ++ in_handlers hs

-- the statement obligations of declarations: those with an initial expression
abbrev pub declaration_labels : List Declaration → List Label
declaration_labels [] = []
declaration_labels (initialized l d v ∷ ds) = l ∷ declaration_labels ds
declaration_labels (without_value d t ∷ ds) = declaration_labels ds

abbrev mutual
  -- the statement obligations of a statement: itself, unless it is a block, and those inside it
  pub labels : Stmt → List Label
  labels (null_statement l) = l ∷ []
  labels (assignment l o parts v) = l ∷ []
  labels (procedure_call l c actuals) = l ∷ []
  labels (if_statement l bs) = l ∷ branch_labels bs
  labels (case_statement l e choices) = l ∷ alternative_labels choices
  labels (bare_loop l ss) = l ∷ all_labels ss
  labels (while_loop l d t ss) = l ∷ all_labels ss
  labels (for_loop l d reversed ts ss) = l ∷ all_labels ss
  labels (exit_statement l) = l ∷ []
  labels (exit_when l d t) = l ∷ []
  labels (return_statement l) = l ∷ []
  labels (return_value l r e) = l ∷ []
  labels (raise_statement l x) = l ∷ []
  labels (raise_again l) = l ∷ []
  labels (block_statement b) = block_labels b

  -- those of statements
  pub all_labels : Stmts → List Label
  all_labels no_statement = []
  all_labels (and_statement s ss) = labels s ++ all_labels ss

  -- those of the branches of an if statement
  pub branch_labels : Branches → List Label
  branch_labels (else_part ss) = all_labels ss
  branch_labels (branch d t ss bs) = all_labels ss ++ branch_labels bs

  -- those of the alternatives of a case statement
  pub alternative_labels : Alternatives → List Label
  alternative_labels no_alternative = []
  alternative_labels (alternative cs ss rest) = all_labels ss ++ alternative_labels rest

  -- those of handlers
  pub handler_labels : Handlers → List Label
  handler_labels no_handler = []
  handler_labels (handler cs ss hs) = all_labels ss ++ handler_labels hs

  -- those of a block or a body
  pub block_labels : Block → List Label
  block_labels (block ds ss hs) = declaration_labels ds ++ all_labels ss ++ handler_labels hs

-- the statement obligations of a program, a generic's once
abbrev pub labels_of : List Subprogram → List Label
labels_of [] = []
labels_of (s ∷ ss) = block_labels s.body ++ labels_of ss

-- the decisions of a program, a generic's once
abbrev pub decisions_of : List Subprogram → List Decision
decisions_of [] = []
decisions_of (s ∷ ss) = in_block s.body ++ decisions_of ss
