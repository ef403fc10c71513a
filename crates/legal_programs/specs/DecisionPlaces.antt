-- Where decisions stand in the text: at the first tokens of the conditions of `if`, `elsif`, `while` and `exit when`, and of
-- maximal expressions with a short-circuit control form, an outer one before those within it.
use Rattle.std.specs.Prelude.{Bool, true, false, List, [], ◌∷◌, ◌++◌, Option, Some, None, is_some}
use Rattle.cov_base.specs.declared.position.Pos.{Pos}
use Rattle.ada_syntax.specs.StatementTree as text
use Rattle.ada_syntax.specs.Tree as source
use Rattle.ada_syntax.specs.Tree.{expr_pos}
use Rattle.ada_syntax.specs.declared.declaration.Declaration.{Declaration}
use Rattle.ada_syntax.specs.declared.declaration.DeclarationKind.{DeclarationKind}
use Rattle.ada_syntax.specs.declared.declaration.DeclarationKind.TheVariants as declares
use Rattle.ada_syntax.specs.declared.declaration.DiscreteRange.{DiscreteRange}
use Rattle.ada_syntax.specs.declared.declaration.DiscreteRange.TheVariants as discrete
use Rattle.ada_syntax.specs.declared.declaration.Initial.{Initial}
use Rattle.ada_syntax.specs.declared.statement.LoopScheme.TheVariants as scheme
use Rattle.ada_syntax.specs.declared.unit.BodyItem.{BodyItem}
use Rattle.ada_syntax.specs.declared.unit.BodyItem.TheVariants as item
use Rattle.ada_syntax.specs.declared.unit.LibraryItem.{LibraryItem}
use Rattle.ada_syntax.specs.declared.unit.LibraryItem.TheVariants as library
use Rattle.ada_syntax.specs.declared.unit.SubprogramBody.{SubprogramBody}
use Rattle.ada_syntax.specs.declared.unit.Unit.{Unit as LibraryUnit}
use Rattle.ada_rules.specs.Denoted.{neutral_of}
use Rattle.ada_rules.specs.Expressions.{Role, itself, operand, is_circuit, is_circuit_under, role_under, opens}
use Rattle.ada_rules.specs.Statements.{declarations_in}

-- at this place, where a decision opens
abbrev pub opened_at : Bool → Pos → List Pos → List Pos
opened_at true p ps = p ∷ ps
opened_at false p ps = ps

abbrev mutual
  pub name_decisions : source.Name → List Pos
  name_decisions (source.simple i) = []
  name_decisions (source.selected n i) = name_decisions n
  name_decisions (source.attribute n i) = name_decisions n
  name_decisions (source.applied n es) = name_decisions n ++ exprs_decisions es

  -- an expression by itself, or an operand of a decision
  pub expr_decisions : Role → source.Expr → List Pos
  expr_decisions r (source.numeral p n) = []
  expr_decisions r (source.named p n) = name_decisions n
  expr_decisions r (source.parenthesized p e) = opened_at (opens r (is_circuit e)) p (expr_decisions operand e)
  expr_decisions r (source.unary p op e) = opened_at (opens r (is_circuit_under op e)) p (expr_decisions (role_under op) e)
  expr_decisions r (source.binary p a op b) = expr_decisions itself a ++ expr_decisions itself b
  expr_decisions r (source.relation p a op b) = expr_decisions itself a ++ expr_decisions itself b
  expr_decisions r (source.logical p a op b) =
      opened_at (opens r (is_some (neutral_of op))) p (expr_decisions operand a ++ expr_decisions operand b)

  pub exprs_decisions : source.Exprs → List Pos
  exprs_decisions source.no_exprs = []
  exprs_decisions (source.also e es) = expr_decisions itself e ++ exprs_decisions es

-- the decision of a statement
abbrev pub test_decisions : source.Expr → List Pos
test_decisions e = expr_pos e ∷ expr_decisions operand e

abbrev pub initial_decisions : Option Initial → List Pos
initial_decisions None = []
initial_decisions (Some i) = expr_decisions itself i.value

abbrev pub kind_decisions : DeclarationKind → List Pos
kind_decisions (declares.Object is c t i) = initial_decisions i
kind_decisions d = []

abbrev pub declared_decisions : List Declaration → List Pos
declared_decisions [] = []
declared_decisions (d ∷ ds) = kind_decisions d.kind ++ declared_decisions ds

abbrev pub turns_decisions : DiscreteRange → List Pos
turns_decisions (discrete.Mark n) = []
turns_decisions (discrete.Bounds b) = expr_decisions itself b.low ++ expr_decisions itself b.high

abbrev mutual
  pub decision_places : text.Statement → List Pos
  decision_places (text.null p) = []
  decision_places (text.assignment p n i) = name_decisions n ++ expr_decisions itself i.value
  decision_places (text.call p n) = name_decisions n
  decision_places (text.exemption p a) = []
  decision_places (text.conditional p e ss bs es) =
      (test_decisions e ++ all_decision_places ss) ++ (branch_decisions bs ++ all_decision_places es)
  decision_places (text.case_of p e rest) = expr_decisions itself e ++ alternative_decisions rest
  decision_places (text.repeat p scheme.Forever ss) = all_decision_places ss
  decision_places (text.repeat p (scheme.While e) ss) = test_decisions e ++ all_decision_places ss
  decision_places (text.repeat p (scheme.For i d r) ss) = turns_decisions r ++ all_decision_places ss
  decision_places (text.exit p None) = []
  decision_places (text.exit p (Some e)) = test_decisions e
  decision_places (text.returns p None) = []
  decision_places (text.returns p (Some e)) = expr_decisions itself e
  decision_places (text.raise p n) = []
  decision_places (text.block p ds h) = declared_decisions (declarations_in ds) ++ handled_decisions h

  pub all_decision_places : text.Statements → List Pos
  all_decision_places text.no_statements = []
  all_decision_places (text.then_also x xs) = decision_places x ++ all_decision_places xs

  pub branch_decisions : text.Branches → List Pos
  branch_decisions text.no_branches = []
  branch_decisions (text.branch e ss bs) = (test_decisions e ++ all_decision_places ss) ++ branch_decisions bs

  pub alternative_decisions : text.Alternatives → List Pos
  alternative_decisions text.no_alternatives = []
  alternative_decisions (text.alternative cs ss rest) = all_decision_places ss ++ alternative_decisions rest

  pub handler_decisions : text.Handlers → List Pos
  handler_decisions text.no_handlers = []
  handler_decisions (text.handler cs ss hs) = all_decision_places ss ++ handler_decisions hs

  pub handled_decisions : text.Handled → List Pos
  handled_decisions (text.handled ss hs) = all_decision_places ss ++ handler_decisions hs

-- those of bodies, and of units
abbrev pub body_decisions : SubprogramBody → List Pos
body_decisions b = declared_decisions b.declarations ++ handled_decisions b.statements

abbrev pub items_decisions : List BodyItem → List Pos
items_decisions [] = []
items_decisions (item.Body b ∷ rest) = body_decisions b ++ items_decisions rest
items_decisions (item.Declared i ∷ rest) = items_decisions rest

abbrev pub unit_decisions : LibraryItem → List Pos
unit_decisions (library.PackageBody b) = items_decisions b.items
unit_decisions (library.Subprogram b) = body_decisions b
unit_decisions i = []

abbrev pub units_decisions : List LibraryUnit → List Pos
units_decisions [] = []
units_decisions (u ∷ us) = unit_decisions u.item ++ units_decisions us
