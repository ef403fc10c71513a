-- The nodes of a part of a unit: its tokens but for ( ) , ; : . ' and =>. So `:=`, `..`, `|` and `<>` count.
use Rattle.std.specs.Prelude.{ℕ, ◌+◌, ◌-◌, ◌^◌, List, length, sum_by, min, Option, Some, None}
use Rattle.ada_syntax.specs.Tree.{Expr, numeral, named, parenthesized, unary, binary, relation, logical, Exprs, no_exprs, also, Name, simple, selected, attribute, applied}
use Rattle.ada_syntax.specs.StatementTree.{Statement, null, assignment, call, exemption, conditional, case_of, repeat, exit, returns, raise, block, Statements, no_statements, then_also, Branches, no_branches, branch, Alternatives, no_alternatives, alternative, Handlers, no_handlers, handler, Handled, handled}
use Rattle.ada_syntax.specs.declared.expr.LogicalOperator.{LogicalOperator}
use Rattle.ada_syntax.specs.declared.expr.LogicalOperator.TheVariants.{And, Or, Xor, AndThen, OrElse}
use Rattle.ada_syntax.specs.declared.expr.Operand.{Operand}
use Rattle.ada_syntax.specs.declared.name.Suffix.{Suffix}
use Rattle.ada_syntax.specs.declared.name.Suffix.TheVariants as suffix
use Rattle.ada_syntax.specs.declared.declaration.Bounds.{Bounds}
use Rattle.ada_syntax.specs.declared.declaration.DiscreteRange.{DiscreteRange}
use Rattle.ada_syntax.specs.declared.declaration.DiscreteRange.TheVariants as range
use Rattle.ada_syntax.specs.declared.declaration.SubtypeIndication.{SubtypeIndication}
use Rattle.ada_syntax.specs.declared.declaration.Initial.{Initial}
use Rattle.ada_syntax.specs.declared.declaration.TypeDefinition.{TypeDefinition}
use Rattle.ada_syntax.specs.declared.declaration.TypeDefinition.TheVariants as definition
use Rattle.ada_syntax.specs.declared.declaration.Component.{Component}
use Rattle.ada_syntax.specs.declared.declaration.Constancy.{Constancy}
use Rattle.ada_syntax.specs.declared.declaration.Constancy.TheVariants.{Variable, Constant}
use Rattle.ada_syntax.specs.declared.declaration.Declaration.{Declaration}
use Rattle.ada_syntax.specs.declared.declaration.DeclarationKind.{DeclarationKind}
use Rattle.ada_syntax.specs.declared.declaration.DeclarationKind.TheVariants as declares
use Rattle.ada_syntax.specs.declared.declaration.Pragma.{Pragma}
use Rattle.ada_syntax.specs.declared.declaration.Pragma.TheVariants.{ExemptOn, ExemptOff}
use Rattle.ada_syntax.specs.StatementView.{statements_of}
use Rattle.ada_syntax.specs.declared.statement.Branch.{Branch}
use Rattle.ada_syntax.specs.declared.statement.Alternative.{Alternative}
use Rattle.ada_syntax.specs.declared.statement.Handler.{Handler}
use Rattle.ada_syntax.specs.declared.statement.Choice.{Choice}
use Rattle.ada_syntax.specs.declared.statement.Choice.TheVariants as choice
use Rattle.ada_syntax.specs.declared.statement.LoopScheme.{LoopScheme}
use Rattle.ada_syntax.specs.declared.statement.LoopScheme.TheVariants.{Forever, While, For}
use Rattle.ada_syntax.specs.declared.statement.Direction.{Direction}
use Rattle.ada_syntax.specs.declared.statement.Direction.TheVariants.{Forward, Reverse}
use Rattle.ada_syntax.specs.declared.statement.ExceptionChoice.{ExceptionChoice}
use Rattle.ada_syntax.specs.declared.statement.ExceptionChoice.TheVariants as taken
use Rattle.ada_syntax.specs.declared.unit.Mode.{Mode}
use Rattle.ada_syntax.specs.declared.unit.Mode.TheVariants.{Default, In, Out, InOut}
use Rattle.ada_syntax.specs.declared.unit.Parameter.{Parameter}
use Rattle.ada_syntax.specs.declared.unit.Specification.{Specification}
use Rattle.ada_syntax.specs.declared.unit.SubprogramBody.{SubprogramBody}
use Rattle.ada_syntax.specs.declared.unit.PackageItem.{PackageItem}
use Rattle.ada_syntax.specs.declared.unit.PackageItem.TheVariants as item
use Rattle.ada_syntax.specs.declared.unit.BodyItem.{BodyItem}
use Rattle.ada_syntax.specs.declared.unit.BodyItem.TheVariants.{Declared, Body}
use Rattle.ada_syntax.specs.declared.unit.Formal.{Formal}
use Rattle.ada_syntax.specs.declared.unit.FormalKind.{FormalKind}
use Rattle.ada_syntax.specs.declared.unit.FormalKind.TheVariants as formal
use Rattle.ada_syntax.specs.declared.unit.LibraryItem.{LibraryItem}
use Rattle.ada_syntax.specs.declared.unit.LibraryItem.TheVariants as library
use Rattle.ada_syntax.specs.declared.unit.WithClause.{WithClause}
use Rattle.ada_syntax.specs.declared.unit.Unit.{Unit as LibraryUnit}

-- a count that stands still at 2^32 - 1
abbrev pub capped : ℕ → ℕ
capped n = min n (2 ^ 32 - 1)

-- what an optional part has
abbrev pub if_present : {A : Type 0} → (A → ℕ) → Option A → ℕ
if_present f None = 0
if_present f (Some x) = f x

abbrev pub one_if_present : {A : Type 0} → Option A → ℕ
one_if_present None = 0
one_if_present (Some x) = 1

-- AND THEN and OR ELSE are two tokens
abbrev pub logical_operator_nodes : LogicalOperator → ℕ
logical_operator_nodes And = 1
logical_operator_nodes Or = 1
logical_operator_nodes Xor = 1
logical_operator_nodes AndThen = 2
logical_operator_nodes OrElse = 2

abbrev mutual
  pub expr_nodes : Expr → ℕ
  expr_nodes (numeral p n) = 1
  expr_nodes (named p n) = name_nodes n
  expr_nodes (parenthesized p e) = expr_nodes e
  expr_nodes (unary p op e) = 1 + expr_nodes e
  expr_nodes (binary p a op b) = expr_nodes a + 1 + expr_nodes b
  expr_nodes (relation p a op b) = expr_nodes a + 1 + expr_nodes b
  expr_nodes (logical p a op b) = expr_nodes a + logical_operator_nodes op + expr_nodes b

  pub exprs_nodes : Exprs → ℕ
  exprs_nodes no_exprs = 0
  exprs_nodes (also e es) = expr_nodes e + exprs_nodes es

  pub name_nodes : Name → ℕ
  name_nodes (simple i) = 1
  name_nodes (selected n i) = name_nodes n + 1
  name_nodes (attribute n i) = name_nodes n + 1
  name_nodes (applied n es) = name_nodes n + exprs_nodes es

-- what stands right of a first operand
abbrev pub operand_nodes : Operand → ℕ
operand_nodes o = 1 + expr_nodes o.operand

abbrev pub joined_nodes : ℕ → Expr → ℕ
joined_nodes operator e = operator + expr_nodes e

abbrev pub suffix_nodes : Suffix → ℕ
suffix_nodes (suffix.Selected i) = 1
suffix_nodes (suffix.Attribute i) = 1
suffix_nodes (suffix.Applied es) = sum_by expr_nodes es.items

abbrev pub bounds_nodes : Bounds → ℕ
bounds_nodes b = expr_nodes b.low + 1 + expr_nodes b.high

abbrev pub range_nodes : DiscreteRange → ℕ
range_nodes (range.Mark n) = name_nodes n
range_nodes (range.Bounds b) = bounds_nodes b

abbrev pub indication_nodes : SubtypeIndication → ℕ
indication_nodes s = name_nodes s.mark + if_present (λ b. 1 + bounds_nodes b) s.constraint

abbrev pub initial_nodes : Initial → ℕ
initial_nodes i = length i.others + expr_nodes i.value

abbrev pub component_nodes : Component → ℕ
component_nodes c = length c.names + indication_nodes c.indication

abbrev pub definition_nodes : TypeDefinition → ℕ
definition_nodes (definition.Integer b) = 1 + bounds_nodes b
definition_nodes (definition.Enumeration names) = length names
definition_nodes (definition.Array r s) = 2 + range_nodes r + indication_nodes s
definition_nodes (definition.Record cs) = 3 + sum_by component_nodes cs

abbrev pub constancy_nodes : Constancy → ℕ
constancy_nodes Variable = 0
constancy_nodes Constant = 1

abbrev pub pragma_nodes : Pragma → ℕ
pragma_nodes (ExemptOn why) = 5
pragma_nodes ExemptOff = 4

abbrev pub kind_nodes : DeclarationKind → ℕ
kind_nodes (declares.Type i d) = 3 + definition_nodes d
kind_nodes (declares.Subtype i s) = 3 + indication_nodes s
kind_nodes (declares.Object is c s v) = length is + constancy_nodes c + indication_nodes s + if_present (λ i. 1 + initial_nodes i) v
kind_nodes (declares.Exception is) = length is + 1
kind_nodes (declares.Pragma a) = pragma_nodes a

abbrev pub declaration_nodes : Declaration → ℕ
declaration_nodes d = kind_nodes d.kind

abbrev pub choice_nodes : Choice → ℕ
choice_nodes (choice.Value e) = expr_nodes e
choice_nodes (choice.Range b) = bounds_nodes b
choice_nodes (choice.Others p) = 1

abbrev pub exception_choice_nodes : ExceptionChoice → ℕ
exception_choice_nodes (taken.Named n) = name_nodes n
exception_choice_nodes (taken.Others p) = 1

abbrev pub direction_nodes : Direction → ℕ
direction_nodes Forward = 0
direction_nodes Reverse = 1

abbrev pub scheme_nodes : LoopScheme → ℕ
scheme_nodes Forever = 0
scheme_nodes (While e) = 1 + expr_nodes e
scheme_nodes (For i d r) = 3 + direction_nodes d + range_nodes r

abbrev mutual
  pub statement_nodes : Statement → ℕ
  statement_nodes (null p) = 1
  statement_nodes (assignment p n i) = name_nodes n + 1 + initial_nodes i
  statement_nodes (call p n) = name_nodes n
  statement_nodes (exemption p a) = pragma_nodes a
  statement_nodes (conditional p e ss bs else_part) = 4 + expr_nodes e + statements_nodes ss + branches_nodes bs + else_nodes else_part
  statement_nodes (case_of p e alternatives) = 4 + expr_nodes e + alternatives_nodes alternatives
  statement_nodes (repeat p s ss) = scheme_nodes s + 3 + statements_nodes ss
  statement_nodes (exit p e) = 1 + if_present (λ x. 1 + expr_nodes x) e
  statement_nodes (returns p e) = 1 + if_present expr_nodes e
  statement_nodes (raise p n) = 1 + if_present name_nodes n
  statement_nodes (block p ds h) = 2 + if_present (λ xs. 1 + sum_by declaration_nodes xs) ds + handled_nodes h

  pub statements_nodes : Statements → ℕ
  statements_nodes no_statements = 0
  statements_nodes (then_also s ss) = statement_nodes s + statements_nodes ss

  -- ELSE, where there is an else part
  pub else_nodes : Statements → ℕ
  else_nodes no_statements = 0
  else_nodes (then_also s ss) = 1 + statement_nodes s + statements_nodes ss

  -- ELSIF, THEN
  pub branches_nodes : Branches → ℕ
  branches_nodes no_branches = 0
  branches_nodes (branch e ss bs) = 2 + expr_nodes e + statements_nodes ss + branches_nodes bs

  -- WHEN before the first choice, and a bar before each other one
  pub alternatives_nodes : Alternatives → ℕ
  alternatives_nodes no_alternatives = 0
  alternatives_nodes (alternative cs ss rest) = length cs + sum_by choice_nodes cs + statements_nodes ss + alternatives_nodes rest

  pub handlers_nodes : Handlers → ℕ
  handlers_nodes no_handlers = 0
  handlers_nodes (handler cs ss hs) = length cs + sum_by exception_choice_nodes cs + statements_nodes ss + handlers_nodes hs

  pub handled_nodes : Handled → ℕ
  handled_nodes (handled ss hs) = statements_nodes ss + exception_part_nodes hs

  -- EXCEPTION, where there is a handler
  pub exception_part_nodes : Handlers → ℕ
  exception_part_nodes no_handlers = 0
  exception_part_nodes (handler cs ss hs) = 1 + length cs + sum_by exception_choice_nodes cs + statements_nodes ss + handlers_nodes hs

abbrev pub declare_nodes : Option (List Declaration) → ℕ
declare_nodes ds = if_present (λ xs. 1 + sum_by declaration_nodes xs) ds

abbrev pub branch_nodes : Branch → ℕ
branch_nodes b = 2 + expr_nodes b.condition + statements_nodes (statements_of b.statements.items)

abbrev pub alternative_nodes : Alternative → ℕ
alternative_nodes a = length a.choices + sum_by choice_nodes a.choices + statements_nodes (statements_of a.statements.items)

abbrev pub handler_nodes : Handler → ℕ
handler_nodes h = length h.choices + sum_by exception_choice_nodes h.choices + statements_nodes (statements_of h.statements.items)

abbrev pub mode_nodes : Mode → ℕ
mode_nodes Default = 0
mode_nodes In = 1
mode_nodes Out = 1
mode_nodes InOut = 2

abbrev pub parameter_nodes : Parameter → ℕ
parameter_nodes p = length p.names + mode_nodes p.mode + name_nodes p.mark

abbrev pub specification_nodes : Specification → ℕ
specification_nodes s = 2 + sum_by parameter_nodes s.parameters + if_present (λ n. 1 + name_nodes n) s.result_mark

abbrev pub body_nodes : SubprogramBody → ℕ
body_nodes b = specification_nodes b.specification + 3 + sum_by declaration_nodes b.declarations + handled_nodes b.statements + one_if_present b.end_name

abbrev pub package_item_nodes : PackageItem → ℕ
package_item_nodes (item.Declaration d) = declaration_nodes d
package_item_nodes (item.Subprogram s) = specification_nodes s

abbrev pub body_item_nodes : BodyItem → ℕ
body_item_nodes (Declared i) = package_item_nodes i
body_item_nodes (Body b) = body_nodes b

abbrev pub formal_kind_nodes : FormalKind → ℕ
formal_kind_nodes (formal.DiscreteType i) = 4
formal_kind_nodes (formal.IntegerType i) = 5
formal_kind_nodes (formal.Object i m n) = 1 + mode_nodes m + name_nodes n
formal_kind_nodes (formal.Subprogram s) = 1 + specification_nodes s

abbrev pub formal_nodes : Formal → ℕ
formal_nodes f = formal_kind_nodes f.kind

abbrev pub generic_nodes : Option (List Formal) → ℕ
generic_nodes fs = if_present (λ xs. 1 + sum_by formal_nodes xs) fs

abbrev pub item_nodes : LibraryItem → ℕ
item_nodes (library.Package p) = if_present (λ fs. 1 + sum_by formal_nodes fs) p.formals + 4 + sum_by package_item_nodes p.items + one_if_present p.end_name
item_nodes (library.PackageBody p) = 5 + sum_by body_item_nodes p.items + one_if_present p.end_name
item_nodes (library.Instance i) = 5 + sum_by expr_nodes i.actuals
item_nodes (library.Subprogram b) = body_nodes b

abbrev pub with_nodes : WithClause → ℕ
with_nodes w = 1 + length w.names

-- the nodes of a unit
abbrev pub unit_nodes : LibraryUnit → ℕ
unit_nodes u = sum_by with_nodes u.withs + item_nodes u.item
