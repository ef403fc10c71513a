-- Copies of a generic's text for an instance: what hangs on the formals is replaced by what it is there.
use Rattle.std.specs.Prelude.{ℕ, zero, suc, ℤ, List, [], map, Option, None, option_map, slice_get}
use Rattle.ada_meaning.specs.Types.{of_instance, Static, static_number, Range, between, Subtype, scalar, array, fields, subtype_of, Components, no_component, and_component}
use Rattle.ada_meaning.specs.Tree.{Object, library_object, local_object, Callee, test_get, test_put, subprogram, ExceptionName, predefined, Expr, literal, constant, attribute, read, signed, operation, relation, complement, conversion, call, decision, Parts, whole, component, element, Actuals, no_actual, by_expression, by_variable, by_composite, Test, condition, negation, operator, NewValue, scalar_value, composite_value, others_value, Choice, value_choice, range_choice, other_values, ExceptionChoice, named_exception, other_exceptions, LoopRange, over_subtype, over_bounds, Declaration, initialized, without_value, Stmt, null_statement, assignment, procedure_call, if_statement, case_statement, bare_loop, while_loop, for_loop, exit_statement, exit_when, return_statement, return_value, raise_statement, raise_again, block_statement, Stmts, no_statement, and_statement, Branches, else_part, branch, Alternatives, no_alternative, alternative, Handlers, no_handler, handler, Block, block}
use Rattle.ada_meaning.specs.Program.{Parameter, Subprogram, Target, get_target, put_target, body_target, Program}
use Rattle.ada_meaning.specs.State.{Outcome, out_of_fuel}
use Rattle.ada_meaning.specs.Calls.{Calls}
use Rattle.ada_meaning.specs.Execution.{called, initial}
use Rattle.ada_meaning.specs.Resolved.{owner_in, number_in, bounds_in, target_in, exception_in}

-- what names a target from everywhere
abbrev pub callee_of : Target → Callee
callee_of get_target = test_get
callee_of put_target = test_put
callee_of (body_target j n) = subprogram (of_instance j) n

module _ (p : Program) where
  -- a static expression in an instance: its value
  abbrev pub static_copy : ℕ → Static → Static
  static_copy inst e = static_number (number_in p inst e)

  -- a scalar subtype in an instance: its bounds
  abbrev pub range_copy : ℕ → Range → Range
  range_copy inst r = between (static_number (bounds_in p inst r).low) (static_number (bounds_in p inst r).high)

  abbrev mutual
    -- a subtype in an instance
    pub subtype_copy : ℕ → Subtype → Subtype
    subtype_copy inst (scalar r) = scalar (range_copy inst r)
    subtype_copy inst (array r t) = array (range_copy inst r) (subtype_copy inst t)
    subtype_copy inst (fields cs) = fields (components_copy inst cs)
    subtype_copy inst (subtype_of i t) = subtype_copy i t

    -- the types of components in an instance
    pub components_copy : ℕ → Components → Components
    components_copy inst no_component = no_component
    components_copy inst (and_component t cs) = and_component (subtype_copy inst t) (components_copy inst cs)

module _ (p : Program) (inst : ℕ) where
  -- an object, of a known instance
  abbrev pub object_copy : Object → Object
  object_copy (library_object o d) = library_object (of_instance (owner_in inst o)) d
  object_copy (local_object d) = local_object d

  -- a callee: a formal subprogram is replaced by the actual
  abbrev pub callee_copy : Callee → Callee
  callee_copy c = callee_of (target_in p inst c)

  -- an exception, by its number
  abbrev pub exception_copy : ExceptionName → ExceptionName
  exception_copy x = predefined (exception_in p inst x)

  abbrev mutual
    -- an expression
    pub expr_copy : Expr → Expr
    expr_copy (literal x) = literal x
    expr_copy (constant e) = constant (static_copy p inst e)
    expr_copy (attribute o parts e) = attribute (object_copy o) (parts_copy parts) (static_copy p inst e)
    expr_copy (read o parts) = read (object_copy o) (parts_copy parts)
    expr_copy (signed s e) = signed s (expr_copy e)
    expr_copy (operation o e f) = operation o (expr_copy e) (expr_copy f)
    expr_copy (relation r e f) = relation r (expr_copy e) (expr_copy f)
    expr_copy (complement e) = complement (expr_copy e)
    expr_copy (conversion r e) = conversion (range_copy p inst r) (expr_copy e)
    expr_copy (call c actuals) = call (callee_copy c) (actuals_copy actuals)
    expr_copy (decision d t) = decision d (test_copy t)

    -- the selectors of a name
    pub parts_copy : Parts → Parts
    parts_copy whole = whole
    parts_copy (component n parts) = component n (parts_copy parts)
    parts_copy (element r e parts) = element (range_copy p inst r) (expr_copy e) (parts_copy parts)

    -- actual parameters
    pub actuals_copy : Actuals → Actuals
    actuals_copy no_actual = no_actual
    actuals_copy (by_expression e rest) = by_expression (expr_copy e) (actuals_copy rest)
    actuals_copy (by_variable o parts r rest) = by_variable (object_copy o) (parts_copy parts) (range_copy p inst r) (actuals_copy rest)
    actuals_copy (by_composite o parts rest) = by_composite (object_copy o) (parts_copy parts) (actuals_copy rest)

    -- the expression of a decision
    pub test_copy : Test → Test
    test_copy (condition at e) = condition at (expr_copy e)
    test_copy (negation t) = negation (test_copy t)
    test_copy (operator neutral t u) = operator neutral (test_copy t) (test_copy u)

  -- what an object is set to
  abbrev pub value_copy : NewValue → NewValue
  value_copy (scalar_value r e) = scalar_value (range_copy p inst r) (expr_copy e)
  value_copy (composite_value t o parts) = composite_value (subtype_copy p inst t) (object_copy o) (parts_copy parts)
  value_copy (others_value r v) = others_value (range_copy p inst r) (value_copy v)

  -- a declaration
  abbrev pub declaration_copy : Declaration → Declaration
  declaration_copy (initialized l d v) = initialized l d (value_copy v)
  declaration_copy (without_value d t) = without_value d (subtype_copy p inst t)

  -- a choice of a case alternative
  abbrev pub choice_copy : Choice → Choice
  choice_copy (value_choice e) = value_choice (static_copy p inst e)
  choice_copy (range_choice e f) = range_choice (static_copy p inst e) (static_copy p inst f)
  choice_copy other_values = other_values

  -- a choice of a handler
  abbrev pub catch_copy : ExceptionChoice → ExceptionChoice
  catch_copy (named_exception x) = named_exception (exception_copy x)
  catch_copy other_exceptions = other_exceptions

  -- the values of a loop parameter
  abbrev pub loop_copy : LoopRange → LoopRange
  loop_copy (over_subtype r) = over_subtype (range_copy p inst r)
  loop_copy (over_bounds e f) = over_bounds (expr_copy e) (expr_copy f)

  abbrev mutual
    -- a statement
    pub stmt_copy : Stmt → Stmt
    stmt_copy (null_statement l) = null_statement l
    stmt_copy (assignment l o parts v) = assignment l (object_copy o) (parts_copy parts) (value_copy v)
    stmt_copy (procedure_call l c actuals) = procedure_call l (callee_copy c) (actuals_copy actuals)
    stmt_copy (if_statement l bs) = if_statement l (branches_copy bs)
    stmt_copy (case_statement l e choices) = case_statement l (expr_copy e) (alternatives_copy choices)
    stmt_copy (bare_loop l ss) = bare_loop l (stmts_copy ss)
    stmt_copy (while_loop l d t ss) = while_loop l d (test_copy t) (stmts_copy ss)
    stmt_copy (for_loop l d reversed r ss) = for_loop l d reversed (loop_copy r) (stmts_copy ss)
    stmt_copy (exit_statement l) = exit_statement l
    stmt_copy (exit_when l d t) = exit_when l d (test_copy t)
    stmt_copy (return_statement l) = return_statement l
    stmt_copy (return_value l r e) = return_value l (range_copy p inst r) (expr_copy e)
    stmt_copy (raise_statement l x) = raise_statement l (exception_copy x)
    stmt_copy (raise_again l) = raise_again l
    stmt_copy (block_statement b) = block_statement (block_copy b)

    -- statements
    pub stmts_copy : Stmts → Stmts
    stmts_copy no_statement = no_statement
    stmts_copy (and_statement s ss) = and_statement (stmt_copy s) (stmts_copy ss)

    -- the branches of an if statement
    pub branches_copy : Branches → Branches
    branches_copy (else_part ss) = else_part (stmts_copy ss)
    branches_copy (branch d t ss bs) = branch d (test_copy t) (stmts_copy ss) (branches_copy bs)

    -- the alternatives of a case statement
    pub alternatives_copy : Alternatives → Alternatives
    alternatives_copy no_alternative = no_alternative
    alternatives_copy (alternative cs ss rest) = alternative (map choice_copy cs) (stmts_copy ss) (alternatives_copy rest)

    -- handlers
    pub handlers_copy : Handlers → Handlers
    handlers_copy no_handler = no_handler
    handlers_copy (handler cs ss hs) = handler (map catch_copy cs) (stmts_copy ss) (handlers_copy hs)

    -- a block or a body
    pub block_copy : Block → Block
    block_copy (block ds ss hs) = block (map declaration_copy ds) (stmts_copy ss) (handlers_copy hs)

  -- a parameter
  abbrev pub parameter_copy : Parameter → Parameter
  parameter_copy q = record { declaration = q.declaration; mode = q.mode; subtype = subtype_copy p inst q.subtype }

  -- a subprogram, which then stands in no generic
  abbrev pub subprogram_copy : Subprogram → Subprogram
  subprogram_copy s = record {
    generic = None;
    parameters = map parameter_copy s.parameters;
    objects = map (subtype_copy p inst) s.objects;
    body = block_copy s.body;
  }

-- calls that execute the copy of a subprogram for its instance
abbrev pub copied_calls : Program → ℕ → Calls
copied_calls p zero inst n arguments = out_of_fuel
copied_calls p (suc fuel) inst n arguments =
    called p (copied_calls p fuel) (suc fuel) inst (option_map (subprogram_copy p inst) (slice_get p.subprograms n)) arguments

-- the execution of the main subprogram, where each call executes a copy
abbrev pub exec_copies : Program → ℕ → List ℤ → Outcome (Option ℤ)
exec_copies p fuel input = copied_calls p fuel 0 p.main [] (initial p input)
