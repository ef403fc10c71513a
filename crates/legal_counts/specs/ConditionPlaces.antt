-- Where the conditions of each decision stand in the text: at the first tokens of the operands that are left without
-- short-circuit control forms, `not` and parentheses. An outer decision comes before those within it, as in
-- `units_decisions`.
use Rattle.std.specs.Prelude.{Bool, true, false, List, [], ◌∷◌, ◌++◌, Option, Some, None, is_some, if◌then◌else◌}
use Rattle.cov_base.specs.declared.position.Pos.{Pos}
use Rattle.ada_syntax.specs.StatementTree as text
use Rattle.ada_syntax.specs.Tree as source
use Rattle.ada_syntax.specs.Tree.{expr_pos}
use Rattle.ada_syntax.specs.declared.declaration.Declaration.{Declaration}
use Rattle.ada_syntax.specs.declared.declaration.DeclarationKind.{DeclarationKind}
use Rattle.ada_syntax.specs.declared.declaration.DeclarationKind.TheVariants as declares
use Rattle.ada_syntax.specs.declared.declaration.DiscreteRange.{DiscreteRange}
use Rattle.ada_syntax.specs.declared.declaration.DiscreteRange.TheVariants as discrete
use Rattle.ada_syntax.specs.declared.declaration.Initial.{Initial}
use Rattle.ada_syntax.specs.declared.expr.UnaryOperator.TheVariants as unary
use Rattle.ada_syntax.specs.declared.statement.LoopScheme.TheVariants as scheme
use Rattle.ada_syntax.specs.declared.unit.BodyItem.{BodyItem}
use Rattle.ada_syntax.specs.declared.unit.BodyItem.TheVariants as item
use Rattle.ada_syntax.specs.declared.unit.LibraryItem.{LibraryItem}
use Rattle.ada_syntax.specs.declared.unit.LibraryItem.TheVariants as library
use Rattle.ada_syntax.specs.declared.unit.SubprogramBody.{SubprogramBody}
use Rattle.ada_syntax.specs.declared.unit.Unit.{Unit as LibraryUnit}
use Rattle.ada_rules.specs.Denoted.{neutral_of}
use Rattle.ada_rules.specs.Expressions.{Role, itself, operand, is_circuit, is_circuit_under, role_under, opens}
use Rattle.ada_rules.specs.Statements.{declarations_in}

-- the conditions of the decision of which this is the expression (RM 4.5.1)
abbrev pub conditions : source.Expr → List Pos
conditions (source.parenthesized p e) = conditions e
conditions (source.unary p unary.Not e) = conditions e
conditions (source.logical p a op b) = if is_some (neutral_of op) then conditions a ++ conditions b else p ∷ []
conditions e = expr_pos e ∷ []

-- those of one decision more, where it opens
abbrev pub opened_with : Bool → List Pos → List (List Pos) → List (List Pos)
opened_with true ps rest = ps ∷ rest
opened_with false ps rest = rest

abbrev mutual
  pub name_conditions : source.Name → List (List Pos)
  name_conditions (source.simple i) = []
  name_conditions (source.selected n i) = name_conditions n
  name_conditions (source.attribute n i) = name_conditions n
  name_conditions (source.applied n es) = name_conditions n ++ exprs_conditions es

  -- an expression by itself, or an operand of a decision
  pub expr_conditions : Role → source.Expr → List (List Pos)
  expr_conditions r (source.numeral p n) = []
  expr_conditions r (source.named p n) = name_conditions n
  expr_conditions r (source.parenthesized p e) =
      opened_with (opens r (is_circuit e)) (conditions e) (expr_conditions operand e)
  expr_conditions r (source.unary p op e) =
      opened_with (opens r (is_circuit_under op e)) (conditions e) (expr_conditions (role_under op) e)
  expr_conditions r (source.binary p a op b) = expr_conditions itself a ++ expr_conditions itself b
  expr_conditions r (source.relation p a op b) = expr_conditions itself a ++ expr_conditions itself b
  expr_conditions r (source.logical p a op b) =
      opened_with (opens r (is_some (neutral_of op))) (conditions a ++ conditions b)
      (expr_conditions operand a ++ expr_conditions operand b)

  pub exprs_conditions : source.Exprs → List (List Pos)
  exprs_conditions source.no_exprs = []
  exprs_conditions (source.also e es) = expr_conditions itself e ++ exprs_conditions es

-- the decision of a statement
abbrev pub test_conditions : source.Expr → List (List Pos)
test_conditions e = conditions e ∷ expr_conditions operand e

abbrev pub initial_conditions : Option Initial → List (List Pos)
initial_conditions None = []
initial_conditions (Some i) = expr_conditions itself i.value

abbrev pub kind_conditions : DeclarationKind → List (List Pos)
kind_conditions (declares.Object is c t i) = initial_conditions i
kind_conditions d = []

abbrev pub declared_conditions : List Declaration → List (List Pos)
declared_conditions [] = []
declared_conditions (d ∷ ds) = kind_conditions d.kind ++ declared_conditions ds

abbrev pub turns_conditions : DiscreteRange → List (List Pos)
turns_conditions (discrete.Mark n) = []
turns_conditions (discrete.Bounds b) = expr_conditions itself b.low ++ expr_conditions itself b.high

abbrev mutual
  pub statement_conditions : text.Statement → List (List Pos)
  statement_conditions (text.null p) = []
  statement_conditions (text.assignment p n i) = name_conditions n ++ expr_conditions itself i.value
  statement_conditions (text.call p n) = name_conditions n
  statement_conditions (text.exemption p a) = []
  statement_conditions (text.conditional p e ss bs es) =
      (test_conditions e ++ all_conditions ss) ++ (branch_conditions bs ++ all_conditions es)
  statement_conditions (text.case_of p e rest) = expr_conditions itself e ++ alternative_conditions rest
  statement_conditions (text.repeat p scheme.Forever ss) = all_conditions ss
  statement_conditions (text.repeat p (scheme.While e) ss) = test_conditions e ++ all_conditions ss
  statement_conditions (text.repeat p (scheme.For i d r) ss) = turns_conditions r ++ all_conditions ss
  statement_conditions (text.exit p None) = []
  statement_conditions (text.exit p (Some e)) = test_conditions e
  statement_conditions (text.returns p None) = []
  statement_conditions (text.returns p (Some e)) = expr_conditions itself e
  statement_conditions (text.raise p n) = []
  statement_conditions (text.block p ds h) = declared_conditions (declarations_in ds) ++ handled_conditions h

  pub all_conditions : text.Statements → List (List Pos)
  all_conditions text.no_statements = []
  all_conditions (text.then_also x xs) = statement_conditions x ++ all_conditions xs

  pub branch_conditions : text.Branches → List (List Pos)
  branch_conditions text.no_branches = []
  branch_conditions (text.branch e ss bs) = (test_conditions e ++ all_conditions ss) ++ branch_conditions bs

  pub alternative_conditions : text.Alternatives → List (List Pos)
  alternative_conditions text.no_alternatives = []
  alternative_conditions (text.alternative cs ss rest) = all_conditions ss ++ alternative_conditions rest

  pub handler_conditions : text.Handlers → List (List Pos)
  handler_conditions text.no_handlers = []
  handler_conditions (text.handler cs ss hs) = all_conditions ss ++ handler_conditions hs

  pub handled_conditions : text.Handled → List (List Pos)
  handled_conditions (text.handled ss hs) = all_conditions ss ++ handler_conditions hs

-- those of bodies, and of units
abbrev pub body_conditions : SubprogramBody → List (List Pos)
body_conditions b = declared_conditions b.declarations ++ handled_conditions b.statements

abbrev pub items_conditions : List BodyItem → List (List Pos)
items_conditions [] = []
items_conditions (item.Body b ∷ rest) = body_conditions b ++ items_conditions rest
items_conditions (item.Declared i ∷ rest) = items_conditions rest

abbrev pub unit_conditions : LibraryItem → List (List Pos)
unit_conditions (library.PackageBody b) = items_conditions b.items
unit_conditions (library.Subprogram b) = body_conditions b
unit_conditions i = []

abbrev pub units_conditions : List LibraryUnit → List (List Pos)
units_conditions [] = []
units_conditions (u ∷ us) = unit_conditions u.item ++ units_conditions us
