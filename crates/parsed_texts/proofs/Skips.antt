-- What follows each part of the grammar is the end of its tokens; expressions and names begin at their places.
use Rattle.std.proofs.Common.{List, ◌∷◌, Option}
use Rattle.cov_base.specs.declared.position.Pos.{Pos}
use Rattle.ada_lexer.specs.declared.token.Token.{Token}
use Rattle.ada_syntax.specs.Tree.{Expr, expr_pos, Name, name_pos}
use Rattle.ada_syntax.specs.StatementTree.{Statement, Branches, Alternatives, Handlers, Handled}
use Rattle.ada_syntax.specs.declared.expr.LogicalOperator.{LogicalOperator}
use Rattle.ada_syntax.specs.declared.declaration.Bounds.{Bounds}
use Rattle.ada_syntax.specs.declared.declaration.Component.{Component}
use Rattle.ada_syntax.specs.declared.declaration.Constancy.{Constancy}
use Rattle.ada_syntax.specs.declared.declaration.Declaration.{Declaration}
use Rattle.ada_syntax.specs.declared.declaration.DiscreteRange.{DiscreteRange}
use Rattle.ada_syntax.specs.declared.declaration.Initial.{Initial}
use Rattle.ada_syntax.specs.declared.declaration.Pragma.{Pragma}
use Rattle.ada_syntax.specs.declared.declaration.SubtypeIndication.{SubtypeIndication}
use Rattle.ada_syntax.specs.declared.declaration.TypeDefinition.{TypeDefinition}
use Rattle.ada_syntax.specs.declared.name.Identifier.{Identifier}
use Rattle.ada_syntax.specs.declared.statement.Choice.{Choice}
use Rattle.ada_syntax.specs.declared.statement.Direction.{Direction}
use Rattle.ada_syntax.specs.declared.statement.ExceptionChoice.{ExceptionChoice}
use Rattle.ada_syntax.specs.declared.unit.BodyItem.{BodyItem}
use Rattle.ada_syntax.specs.declared.unit.Formal.{Formal}
use Rattle.ada_syntax.specs.declared.unit.LibraryItem.{LibraryItem}
use Rattle.ada_syntax.specs.declared.unit.Mode.{Mode}
use Rattle.ada_syntax.specs.declared.unit.PackageItem.{PackageItem}
use Rattle.ada_syntax.specs.declared.unit.Parameter.{Parameter}
use Rattle.ada_syntax.specs.declared.unit.Specification.{Specification}
use Rattle.ada_syntax.specs.declared.unit.SubprogramBody.{SubprogramBody}
use Rattle.ada_syntax.specs.declared.unit.Unit.{Unit as LibraryUnit}
use Rattle.ada_syntax.specs.declared.unit.WithClause.{WithClause}
use Rattle.expression_parser.specs.declared.extent.Extent.{Extent}
use Rattle.expression_parser.specs.declared.symbol.Symbol.{Symbol}
use Rattle.expression_parser.specs.Reading.{Tokens}
use Rattle.expression_parser.specs.Syntax.{Suffix, all, after}
use Rattle.expression_parser.specs.Expressions.{Level, Joins, by_and, by_or, by_xor, by_and_then, by_or_else, IsExpr, a_numeral, a_name, in_parentheses, a_primary, an_abs, a_not, a_factor, a_product, a_term, a_signed_term, a_first_term, a_sum, a_simple, a_relation, a_single, a_chain, IsChain, a_pair, a_longer, IsName, an_identifier, a_selection, an_attribute, an_application, AreExprs, one_expr, more_exprs}
use Rattle.declaration_parser.specs.Identifiers.{AreIdentifiers, one_identifier, more_identifiers}
use Rattle.declaration_parser.specs.Subtypes.{IsInitial, a_value, an_aggregate, AreBounds, low_and_high, IsRange, a_mark, a_range, IsConstraint, no_constraint, a_constraint, IsIndication, an_indication, IsComponent, a_component, AreComponents, one_component, more_components, IsDefinition, an_integer, an_enumeration, an_array, a_record}
use Rattle.declaration_parser.specs.Declarations.{IsExemption, an_on, an_off, IsPragma, a_pragma, IsConstancy, a_variable, a_constant, HasInitial, no_initial, an_initial, IsDeclaration, a_type, a_subtype, an_object, an_exception, an_exemption, AreDeclarations, no_declarations, more_declarations}
use Rattle.declaration_parser.specs.Specifications.{IsMode, no_mode, mode_in, mode_out, mode_in_out, IsParameter, a_parameter, AreParameters, one_parameter, more_parameters, HasParameters, no_parameters, some_parameters, IsSpecification, a_procedure, a_function}
use Rattle.declaration_parser.specs.Formals.{IsFormalMode, no_formal_mode, formal_in, IsFormal, a_discrete_type, an_integer_type, a_formal_object, a_formal_subprogram, AreFormals, no_formals, more_formals}
use Rattle.ada_parser.specs.Words.{Word, word, Named, name, Closes, closes}
use Rattle.ada_parser.specs.Statements as grammar
use Rattle.ada_parser.specs.Statements.{IsChoice, other_values, AreChoices, one_choice, more_choices, IsException, a_named, other_exceptions, AreExceptions, one_exception, more_exceptions, HasCondition, no_condition, a_condition, HasResult, no_result, a_result, HasException, no_exception, IsDirection, forward, backward, IsStatement, a_null, an_assignment, a_call, an_if, a_case, an_endless_loop, a_while, a_for, an_exit, a_return, a_raise, a_block, a_declaring_block, AreStatements, one_statement, more_statements, IsBranch, a_branch, AreBranches, no_branches, more_branches, HasElse, no_else, an_else, IsAlternative, an_alternative, AreAlternatives, one_alternative, more_alternatives, IsLoop, a_loop, IsHandler, a_handler, AreHandlers, one_handler, more_handlers, HasHandlers, no_handlers, some_handlers, IsHandled, a_sequence}
use Rattle.ada_parser.specs.Grammar.{IsWith, a_with, AreWiths, no_withs, more_withs, IsEndName, no_end_name, an_end_name, IsEnd, an_end, IsBody, a_body, IsPackageItem, a_declaration, a_specification, ArePackageItems, no_package_items, more_package_items, IsBodyItem, declared_in_body, a_body_in_body, AreBodyItems, no_body_items, more_body_items, HasActuals, no_actuals, some_actuals, IsPackageRest, a_package_rest, IsItem, a_generic, a_package, a_package_body, an_instance, a_subprogram, IsUnit, a_unit, AreUnits, one_unit, more_units}

pub through : {ts us vs : Tokens} → Suffix us ts → Suffix vs us → Suffix vs ts
through all q = q
through (after p) q = after (through p q)

-- ---- words

pub past_word : {s : Symbol} {ts rest : Tokens} → Word s ts rest → Suffix rest ts
past_word (word i) = after all

pub past_named : {i : Identifier} {ts rest : Tokens} → Named i ts rest → Suffix rest ts
past_named (name i) = after all

pub past_closing : {s : Symbol} {ts rest : Tokens} → Closes s ts rest → Suffix rest ts
past_closing (closes a b c) = through (past_word a) (through (past_word b) (past_word c))

-- ---- expressions and names

pub past_operator : {x : Extent} {op : LogicalOperator} {ts rest : Tokens} → Joins x op ts rest → Suffix rest ts
past_operator (by_and o i) = after all
past_operator (by_or o i) = after all
past_operator (by_xor o i) = after all
past_operator (by_and_then o p i j) = after (after all)
past_operator (by_or_else o p i j) = after (after all)

mutual
  pub past_expr : {x : Extent} {l : Level} {e : Expr} {ts rest : Tokens} → IsExpr x l e ts rest → Suffix rest ts
  past_expr (a_numeral i) = after all
  past_expr (a_name o n) = past_name n
  past_expr (in_parentheses o i e j) = after (through (past_expr e) (after all))
  past_expr (a_primary e) = past_expr e
  past_expr (an_abs o i e) = after (past_expr e)
  past_expr (a_not o i e) = after (past_expr e)
  past_expr (a_factor e) = past_expr e
  past_expr (a_product o a i b) = through (past_expr a) (after (past_expr b))
  past_expr (a_term e) = past_expr e
  past_expr (a_signed_term o i e) = after (past_expr e)
  past_expr (a_first_term e) = past_expr e
  past_expr (a_sum o a i b) = through (past_expr a) (after (past_expr b))
  past_expr (a_simple e) = past_expr e
  past_expr (a_relation o a i b) = through (past_expr a) (after (past_expr b))
  past_expr (a_single e) = past_expr e
  past_expr (a_chain c) = past_chain c

  pub past_chain : {x : Extent} {op : LogicalOperator} {e : Expr} {ts rest : Tokens} → IsChain x op e ts rest → Suffix rest ts
  past_chain (a_pair a j b) = through (past_expr a) (through (past_operator j) (past_expr b))
  past_chain (a_longer a j b) = through (past_chain a) (through (past_operator j) (past_expr b))

  pub past_name : {x : Extent} {n : Name} {ts rest : Tokens} → IsName x n ts rest → Suffix rest ts
  past_name (an_identifier i) = after all
  past_name (a_selection n i j) = through (past_name n) (after (after all))
  past_name (an_attribute o n i j) = through (past_name n) (after (after all))
  past_name (an_application n i es j) = through (past_name n) (after (through (past_exprs es) (after all)))

  pub past_exprs : {x : Extent} {es : List Expr} {ts rest : Tokens} → AreExprs x es ts rest → Suffix rest ts
  past_exprs (one_expr e) = past_expr e
  past_exprs (more_exprs es i e) = through (past_exprs es) (after (past_expr e))

-- the first token stands at this place
pub data Starts : Pos → Tokens → Type 0 where
  starts : {t : Token} {ts : Tokens} → Starts t.pos (t ∷ ts)

pub name_starts : {x : Extent} {n : Name} {ts rest : Tokens} → IsName x n ts rest → Starts (name_pos n) ts
name_starts (an_identifier i) = starts
name_starts (a_selection n i j) = name_starts n
name_starts (an_attribute o n i j) = name_starts n
name_starts (an_application n i es j) = name_starts n

mutual
  pub expr_starts : {x : Extent} {l : Level} {e : Expr} {ts rest : Tokens} → IsExpr x l e ts rest → Starts (expr_pos e) ts
  expr_starts (a_numeral i) = starts
  expr_starts (a_name o n) = name_starts n
  expr_starts (in_parentheses o i e j) = starts
  expr_starts (a_primary e) = expr_starts e
  expr_starts (an_abs o i e) = starts
  expr_starts (a_not o i e) = starts
  expr_starts (a_factor e) = expr_starts e
  expr_starts (a_product o a i b) = expr_starts a
  expr_starts (a_term e) = expr_starts e
  expr_starts (a_signed_term o i e) = starts
  expr_starts (a_first_term e) = expr_starts e
  expr_starts (a_sum o a i b) = expr_starts a
  expr_starts (a_simple e) = expr_starts e
  expr_starts (a_relation o a i b) = expr_starts a
  expr_starts (a_single e) = expr_starts e
  expr_starts (a_chain c) = chain_starts c

  pub chain_starts : {x : Extent} {op : LogicalOperator} {e : Expr} {ts rest : Tokens} → IsChain x op e ts rest → Starts (expr_pos e) ts
  chain_starts (a_pair a j b) = expr_starts a
  chain_starts (a_longer a j b) = chain_starts a

-- ---- declarations

pub past_identifiers : {is : List Identifier} {ts rest : Tokens} → AreIdentifiers is ts rest → Suffix rest ts
past_identifiers (one_identifier i) = after all
past_identifiers (more_identifiers is i j) = through (past_identifiers is) (after (after all))

pub past_initial : {x : Extent} {i : Initial} {ts rest : Tokens} → IsInitial x i ts rest → Suffix rest ts
past_initial (a_value e) = past_expr e
past_initial (an_aggregate o i j k l m) = after (after (after (through (past_initial l) (after all))))

pub past_bounds : {x : Extent} {b : Bounds} {ts rest : Tokens} → AreBounds x b ts rest → Suffix rest ts
past_bounds (low_and_high a j b) = through (past_expr a) (after (past_expr b))

pub past_range : {x : Extent} {r : DiscreteRange} {ts rest : Tokens} → IsRange x r ts rest → Suffix rest ts
past_range (a_mark o n) = past_name n
past_range (a_range o b) = past_bounds b

past_constraint : {x : Extent} {c : Option Bounds} {ts rest : Tokens} → IsConstraint x c ts rest → Suffix rest ts
past_constraint no_constraint = all
past_constraint (a_constraint o i b) = after (past_bounds b)

pub past_indication : {x : Extent} {s : SubtypeIndication} {ts rest : Tokens} → IsIndication x s ts rest → Suffix rest ts
past_indication (an_indication n c) = through (past_name n) (past_constraint c)

past_component : {x : Extent} {c : Component} {ts rest : Tokens} → IsComponent x c ts rest → Suffix rest ts
past_component (a_component is i s j) = through (past_identifiers is) (after (through (past_indication s) (after all)))

pub past_components : {x : Extent} {cs : List Component} {ts rest : Tokens} → AreComponents x cs ts rest → Suffix rest ts
past_components (one_component c) = past_component c
past_components (more_components cs c) = through (past_components cs) (past_component c)

past_definition : {x : Extent} {d : TypeDefinition} {ts rest : Tokens} → IsDefinition x d ts rest → Suffix rest ts
past_definition (an_integer o i b) = after (past_bounds b)
past_definition (an_enumeration o i is j) = after (through (past_identifiers is) (after all))
past_definition (an_array o i j r k l s) = after (after (through (past_range r) (after (after (past_indication s)))))
past_definition (a_record o i cs j k) = after (through (past_components cs) (after (after all)))

past_exemption : {a : Pragma} {ts rest : Tokens} → IsExemption a ts rest → Suffix rest ts
past_exemption (an_on i j k l m) = after (after (after (after (after all))))
past_exemption (an_off i j k) = after (after (after all))

pub past_pragma : {x : Extent} {a : Pragma} {ts rest : Tokens} → IsPragma x a ts rest → Suffix rest ts
past_pragma (a_pragma o i j k l m a) = after (after (after (after (after (past_exemption a)))))

pub past_constancy : {k : Constancy} {ts rest : Tokens} → IsConstancy k ts rest → Suffix rest ts
past_constancy a_variable = all
past_constancy (a_constant i) = after all

past_initial_part : {x : Extent} {i : Option Initial} {ts rest : Tokens} → HasInitial x i ts rest → Suffix rest ts
past_initial_part no_initial = all
past_initial_part (an_initial b i) = after (past_initial i)

pub past_declaration : {x : Extent} {d : Declaration} {ts rest : Tokens} → IsDeclaration x d ts rest → Suffix rest ts
past_declaration (a_type o i j k d l) = after (after (after (through (past_definition d) (after all))))
past_declaration (a_subtype o i j k s l) = after (after (after (through (past_indication s) (after all))))
past_declaration (an_object o is i k s v j) = through (past_identifiers is) (after (through (past_constancy k) (through (past_indication s) (through (past_initial_part v) (after all)))))
past_declaration (an_exception o is i j k) = through (past_identifiers is) (after (after (after all)))
past_declaration (an_exemption a) = past_pragma a

pub past_declarations : {x : Extent} {ds : List Declaration} {ts rest : Tokens} → AreDeclarations x ds ts rest → Suffix rest ts
past_declarations no_declarations = all
past_declarations (more_declarations ds d) = through (past_declarations ds) (past_declaration d)

past_mode : {k : Mode} {ts rest : Tokens} → IsMode k ts rest → Suffix rest ts
past_mode no_mode = all
past_mode (mode_in i) = after all
past_mode (mode_out i) = after all
past_mode (mode_in_out i j) = after (after all)

past_parameter : {x : Extent} {p : Parameter} {ts rest : Tokens} → IsParameter x p ts rest → Suffix rest ts
past_parameter (a_parameter is i k n) = through (past_identifiers is) (after (through (past_mode k) (past_name n)))

past_parameters : {x : Extent} {ps : List Parameter} {ts rest : Tokens} → AreParameters x ps ts rest → Suffix rest ts
past_parameters (one_parameter p) = past_parameter p
past_parameters (more_parameters ps i p) = through (past_parameters ps) (after (past_parameter p))

past_profile : {x : Extent} {ps : List Parameter} {ts rest : Tokens} → HasParameters x ps ts rest → Suffix rest ts
past_profile no_parameters = all
past_profile (some_parameters o i ps j) = after (through (past_parameters ps) (after all))

pub past_specification : {x : Extent} {s : Specification} {ts rest : Tokens} → IsSpecification x s ts rest → Suffix rest ts
past_specification (a_procedure i j ps) = after (after (past_profile ps))
past_specification (a_function o i j ps k n) = after (after (through (past_profile ps) (after (past_name n))))

past_formal_mode : {k : Mode} {ts rest : Tokens} → IsFormalMode k ts rest → Suffix rest ts
past_formal_mode no_formal_mode = all
past_formal_mode (formal_in i) = after all

past_formal : {x : Extent} {f : Formal} {ts rest : Tokens} → IsFormal x f ts rest → Suffix rest ts
past_formal (a_discrete_type o i j k a b c d) = after (after (after (after (after (after (after all))))))
past_formal (an_integer_type o i j k a b c) = after (after (after (after (after (after all)))))
past_formal (a_formal_object o i j k n l) = after (after (through (past_formal_mode k) (through (past_name n) (after all))))
past_formal (a_formal_subprogram o i s j) = after (through (past_specification s) (after all))

past_formals : {x : Extent} {fs : List Formal} {ts rest : Tokens} → AreFormals x fs ts rest → Suffix rest ts
past_formals no_formals = all
past_formals (more_formals fs f) = through (past_formals fs) (past_formal f)

-- ---- statements

past_choice : {x : Extent} {c : Choice} {ts rest : Tokens} → IsChoice x c ts rest → Suffix rest ts
past_choice (grammar.a_value e) = past_expr e
past_choice (grammar.a_range a w b) = through (past_expr a) (through (past_word w) (past_expr b))
past_choice (other_values i) = after all

pub past_choices : {x : Extent} {cs : List Choice} {ts rest : Tokens} → AreChoices x cs ts rest → Suffix rest ts
past_choices (one_choice c) = past_choice c
past_choices (more_choices cs w c) = through (past_choices cs) (through (past_word w) (past_choice c))

past_exception : {x : Extent} {c : ExceptionChoice} {ts rest : Tokens} → IsException x c ts rest → Suffix rest ts
past_exception (a_named n) = past_name n
past_exception (other_exceptions i) = after all

pub past_exceptions : {x : Extent} {cs : List ExceptionChoice} {ts rest : Tokens} → AreExceptions x cs ts rest → Suffix rest ts
past_exceptions (one_exception c) = past_exception c
past_exceptions (more_exceptions cs w c) = through (past_exceptions cs) (through (past_word w) (past_exception c))

past_condition : {x : Extent} {e : Option Expr} {ts rest : Tokens} → HasCondition x e ts rest → Suffix rest ts
past_condition no_condition = all
past_condition (a_condition w e) = through (past_word w) (past_expr e)

past_result : {x : Extent} {e : Option Expr} {ts rest : Tokens} → HasResult x e ts rest → Suffix rest ts
past_result no_result = all
past_result (a_result o e) = past_expr e

pub past_raised : {x : Extent} {n : Option Name} {ts rest : Tokens} → HasException x n ts rest → Suffix rest ts
past_raised no_exception = all
past_raised (grammar.an_exception n) = past_name n

pub past_direction : {d : Direction} {ts rest : Tokens} → IsDirection d ts rest → Suffix rest ts
past_direction forward = all
past_direction (backward w) = past_word w

mutual
  pub past_statement : {x : Extent} {s : Statement} {ts rest : Tokens} → IsStatement x s ts rest → Suffix rest ts
  past_statement (a_null i w) = after (past_word w)
  past_statement (an_assignment o n a i w) = through (past_name n) (through (past_word a) (through (past_initial i) (past_word w)))
  past_statement (a_call n w) = through (past_name n) (past_word w)
  past_statement (grammar.an_exemption a) = past_pragma a
  past_statement (an_if o i b l e c) = after (through (past_branch b) (through (past_branches l) (through (past_else e) (past_closing c))))
  past_statement (a_case o i e w l c) = after (through (past_expr e) (through (past_word w) (through (past_alternatives l) (past_closing c))))
  past_statement (an_endless_loop o l) = past_loop l
  past_statement (a_while o i e l) = after (through (past_expr e) (past_loop l))
  past_statement (a_for o i n w d r l) = after (through (past_named n) (through (past_word w) (through (past_direction d) (through (past_range r) (past_loop l)))))
  past_statement (an_exit o i e w) = after (through (past_condition e) (past_word w))
  past_statement (a_return i e w) = after (through (past_result e) (past_word w))
  past_statement (a_raise o i n w) = after (through (past_raised n) (past_word w))
  past_statement (a_block o i h v w) = after (through (past_handled h) (through (past_word v) (past_word w)))
  past_statement (a_declaring_block o i d b h v w) = after (through (past_declarations d) (through (past_word b) (through (past_handled h) (through (past_word v) (past_word w)))))

  pub past_statements : {x : Extent} {ss : List Statement} {ts rest : Tokens} → AreStatements x ss ts rest → Suffix rest ts
  past_statements (one_statement s) = past_statement s
  past_statements (more_statements ss s) = through (past_statements ss) (past_statement s)

  pub past_branch : {x : Extent} {e : Expr} {ss : List Statement} {ts rest : Tokens} → IsBranch x e ss ts rest → Suffix rest ts
  past_branch (a_branch e w ss) = through (past_expr e) (through (past_word w) (past_statements ss))

  pub past_branches : {x : Extent} {bs : Branches} {ts rest : Tokens} → AreBranches x bs ts rest → Suffix rest ts
  past_branches no_branches = all
  past_branches (more_branches bs w b) = through (past_branches bs) (through (past_word w) (past_branch b))

  pub past_else : {x : Extent} {ss : List Statement} {ts rest : Tokens} → HasElse x ss ts rest → Suffix rest ts
  past_else no_else = all
  past_else (an_else w ss) = through (past_word w) (past_statements ss)

  pub past_alternative : {x : Extent} {cs : List Choice} {ss : List Statement} {ts rest : Tokens} → IsAlternative x cs ss ts rest → Suffix rest ts
  past_alternative (an_alternative cs w ss) = through (past_choices cs) (through (past_word w) (past_statements ss))

  pub past_alternatives : {x : Extent} {alts : Alternatives} {ts rest : Tokens} → AreAlternatives x alts ts rest → Suffix rest ts
  past_alternatives (one_alternative w a) = through (past_word w) (past_alternative a)
  past_alternatives (more_alternatives l w a) = through (past_alternatives l) (through (past_word w) (past_alternative a))

  pub past_loop : {x : Extent} {ss : List Statement} {ts rest : Tokens} → IsLoop x ss ts rest → Suffix rest ts
  past_loop (a_loop w ss c) = through (past_word w) (through (past_statements ss) (past_closing c))

  pub past_handler : {x : Extent} {cs : List ExceptionChoice} {ss : List Statement} {ts rest : Tokens} → IsHandler x cs ss ts rest → Suffix rest ts
  past_handler (a_handler cs w ss) = through (past_exceptions cs) (through (past_word w) (past_statements ss))

  pub past_handlers : {x : Extent} {hs : Handlers} {ts rest : Tokens} → AreHandlers x hs ts rest → Suffix rest ts
  past_handlers (one_handler w h) = through (past_word w) (past_handler h)
  past_handlers (more_handlers hs w h) = through (past_handlers hs) (through (past_word w) (past_handler h))

  pub past_exception_part : {x : Extent} {hs : Handlers} {ts rest : Tokens} → HasHandlers x hs ts rest → Suffix rest ts
  past_exception_part no_handlers = all
  past_exception_part (some_handlers o w hs) = through (past_word w) (past_handlers hs)

  pub past_handled : {x : Extent} {h : Handled} {ts rest : Tokens} → IsHandled x h ts rest → Suffix rest ts
  past_handled (a_sequence ss hs) = through (past_statements ss) (past_exception_part hs)

-- ---- units

past_with : {w : WithClause} {ts rest : Tokens} → IsWith w ts rest → Suffix rest ts
past_with (a_with v is w) = through (past_word v) (through (past_identifiers is) (past_word w))

pub past_withs : {ws : List WithClause} {ts rest : Tokens} → AreWiths ws ts rest → Suffix rest ts
past_withs no_withs = all
past_withs (more_withs ws w) = through (past_withs ws) (past_with w)

past_end_name : {n : Option Identifier} {ts rest : Tokens} → IsEndName n ts rest → Suffix rest ts
past_end_name no_end_name = all
past_end_name (an_end_name i) = past_named i

pub past_end : {n : Option Identifier} {ts rest : Tokens} → IsEnd n ts rest → Suffix rest ts
past_end (an_end a n b) = through (past_word a) (through (past_end_name n) (past_word b))

pub past_body : {x : Extent} {b : SubprogramBody} {ts rest : Tokens} → IsBody x b ts rest → Suffix rest ts
past_body (a_body s w d v h e) = through (past_specification s) (through (past_word w) (through (past_declarations d) (through (past_word v) (through (past_handled h) (past_end e)))))

pub past_package_item : {x : Extent} {i : PackageItem} {ts rest : Tokens} → IsPackageItem x i ts rest → Suffix rest ts
past_package_item (a_declaration d) = past_declaration d
past_package_item (a_specification s w) = through (past_specification s) (past_word w)

pub past_package_items : {x : Extent} {is : List PackageItem} {ts rest : Tokens} → ArePackageItems x is ts rest → Suffix rest ts
past_package_items no_package_items = all
past_package_items (more_package_items is i) = through (past_package_items is) (past_package_item i)

pub past_body_item : {x : Extent} {i : BodyItem} {ts rest : Tokens} → IsBodyItem x i ts rest → Suffix rest ts
past_body_item (declared_in_body i) = past_package_item i
past_body_item (a_body_in_body b) = past_body b

pub past_body_items : {x : Extent} {is : List BodyItem} {ts rest : Tokens} → AreBodyItems x is ts rest → Suffix rest ts
past_body_items no_body_items = all
past_body_items (more_body_items is i) = through (past_body_items is) (past_body_item i)

past_actuals : {x : Extent} {es : List Expr} {ts rest : Tokens} → HasActuals x es ts rest → Suffix rest ts
past_actuals no_actuals = all
past_actuals (some_actuals v es w) = through (past_word v) (through (past_exprs es) (past_word w))

pub past_package_rest : {x : Extent} {fs : Option (List Formal)} {l : LibraryItem} {ts rest : Tokens} → IsPackageRest x fs l ts rest → Suffix rest ts
past_package_rest (a_package_rest n w is e) = through (past_named n) (through (past_word w) (through (past_package_items is) (past_end e)))

-- before the package of a generic one
pub past_generic : {x : Extent} {fs : List Formal} {ts us rest : Tokens} {s r : Symbol} → Word s ts us → {vs : Tokens} → AreFormals x fs us vs → Word r vs rest → Suffix rest ts
past_generic w fs p = through (past_word w) (through (past_formals fs) (past_word p))

pub past_item : {x : Extent} {l : LibraryItem} {ts rest : Tokens} → IsItem x l ts rest → Suffix rest ts
past_item (a_generic o w fs p d) = through (past_generic w fs p) (past_package_rest d)
past_item (a_package o w d) = through (past_word w) (past_package_rest d)
past_item (a_package_body o p b n w is e) = through (past_word p) (through (past_word b) (through (past_named n) (through (past_word w) (through (past_body_items is) (past_end e)))))
past_item (an_instance o g p n w k j es v) = through (past_word p) (through (past_named n) (through (past_word w) (through (past_word k) (through (past_named j) (through (past_actuals es) (past_word v))))))
past_item (a_subprogram b) = past_body b

past_unit : {x : Extent} {u : LibraryUnit} {ts rest : Tokens} → IsUnit x u ts rest → Suffix rest ts
past_unit (a_unit ws i) = through (past_withs ws) (past_item i)

pub past_units : {x : Extent} {us : List LibraryUnit} {ts rest : Tokens} → AreUnits x us ts rest → Suffix rest ts
past_units (one_unit u) = past_unit u
past_units (more_units o us u) = through (past_units us) (past_unit u)

-- an item has a token at least
first_of_word : {s : Symbol} {t : Token} {ts us rest : Tokens} → Word s (t ∷ ts) us → Suffix rest us → Suffix rest ts
first_of_word (word i) s = s

first_of_specification : {x : Extent} {p : Specification} {t : Token} {ts us rest : Tokens} → IsSpecification x p (t ∷ ts) us → Suffix rest us → Suffix rest ts
first_of_specification (a_procedure i j ps) s = through (after (past_profile ps)) s
first_of_specification (a_function o i j ps k n) s = through (after (through (past_profile ps) (after (past_name n)))) s

first_of_body : {x : Extent} {b : SubprogramBody} {t : Token} {ts rest : Tokens} → IsBody x b (t ∷ ts) rest → Suffix rest ts
first_of_body (a_body s w d v h e) = first_of_specification s (through (past_word w) (through (past_declarations d) (through (past_word v) (through (past_handled h) (past_end e)))))

pub behind_first : {x : Extent} {l : LibraryItem} {t : Token} {ts rest : Tokens} → IsItem x l (t ∷ ts) rest → Suffix rest ts
behind_first (a_generic o w fs p d) = first_of_word w (through (past_formals fs) (through (past_word p) (past_package_rest d)))
behind_first (a_package o w d) = first_of_word w (past_package_rest d)
behind_first (a_package_body o p b n w is e) = first_of_word p (through (past_word b) (through (past_named n) (through (past_word w) (through (past_body_items is) (past_end e)))))
behind_first (an_instance o g p n w k j es v) = first_of_word p (through (past_named n) (through (past_word w) (through (past_word k) (through (past_named j) (through (past_actuals es) (past_word v))))))
behind_first (a_subprogram b) = first_of_body b
