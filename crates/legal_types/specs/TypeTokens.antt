-- How many tokens of a text count as nodes of declarations of types (Ada RM 2012, 3.2.1).
use Rattle.std.specs.Prelude.{ℕ, ◌+◌, List, [], ◌∷◌}
use Rattle.ada_syntax.specs.Nodes.{kind_nodes}
use Rattle.ada_syntax.specs.StatementTree as text
use Rattle.ada_syntax.specs.declared.declaration.Declaration.{Declaration}
use Rattle.ada_syntax.specs.declared.declaration.DeclarationKind.{DeclarationKind}
use Rattle.ada_syntax.specs.declared.declaration.DeclarationKind.TheVariants as declares
use Rattle.ada_syntax.specs.declared.unit.BodyItem.{BodyItem}
use Rattle.ada_syntax.specs.declared.unit.BodyItem.TheVariants as item
use Rattle.ada_syntax.specs.declared.unit.LibraryItem.{LibraryItem}
use Rattle.ada_syntax.specs.declared.unit.LibraryItem.TheVariants as library
use Rattle.ada_syntax.specs.declared.unit.PackageItem.{PackageItem}
use Rattle.ada_syntax.specs.declared.unit.PackageItem.TheVariants as part
use Rattle.ada_syntax.specs.declared.unit.SubprogramBody.{SubprogramBody}
use Rattle.ada_syntax.specs.declared.unit.Unit.{Unit as LibraryUnit}
use Rattle.ada_rules.specs.Statements.{declarations_in}

abbrev pub kind_types : DeclarationKind → ℕ
kind_types (declares.Type i d) = kind_nodes (declares.Type i d)
kind_types d = 0

abbrev pub declared_types : List Declaration → ℕ
declared_types [] = 0
declared_types (d ∷ ds) = kind_types d.kind + declared_types ds

abbrev mutual
  pub statement_types : text.Statement → ℕ
  statement_types (text.conditional p e ss bs es) = statements_types ss + (branches_types bs + statements_types es)
  statement_types (text.case_of p e rest) = alternatives_types rest
  statement_types (text.repeat p scheme ss) = statements_types ss
  statement_types (text.block p ds h) = declared_types (declarations_in ds) + handled_types h
  statement_types s = 0

  pub statements_types : text.Statements → ℕ
  statements_types text.no_statements = 0
  statements_types (text.then_also x xs) = statement_types x + statements_types xs

  pub branches_types : text.Branches → ℕ
  branches_types text.no_branches = 0
  branches_types (text.branch e ss bs) = statements_types ss + branches_types bs

  pub alternatives_types : text.Alternatives → ℕ
  alternatives_types text.no_alternatives = 0
  alternatives_types (text.alternative cs ss rest) = statements_types ss + alternatives_types rest

  pub handlers_types : text.Handlers → ℕ
  handlers_types text.no_handlers = 0
  handlers_types (text.handler cs ss hs) = statements_types ss + handlers_types hs

  pub handled_types : text.Handled → ℕ
  handled_types (text.handled ss hs) = statements_types ss + handlers_types hs

abbrev pub body_types : SubprogramBody → ℕ
body_types b = declared_types b.declarations + handled_types b.statements

abbrev pub package_item_types : PackageItem → ℕ
package_item_types (part.Declaration d) = kind_types d.kind
package_item_types (part.Subprogram x) = 0

abbrev pub package_items_types : List PackageItem → ℕ
package_items_types [] = 0
package_items_types (i ∷ is) = package_item_types i + package_items_types is

abbrev pub body_item_types : BodyItem → ℕ
body_item_types (item.Declared i) = package_item_types i
body_item_types (item.Body b) = body_types b

abbrev pub body_items_types : List BodyItem → ℕ
body_items_types [] = 0
body_items_types (i ∷ is) = body_item_types i + body_items_types is

abbrev pub item_types : LibraryItem → ℕ
item_types (library.Package x) = package_items_types x.items
item_types (library.PackageBody b) = body_items_types b.items
item_types (library.Instance i) = 0
item_types (library.Subprogram b) = body_types b

abbrev pub units_types : List LibraryUnit → ℕ
units_types [] = 0
units_types (u ∷ us) = item_types u.item + units_types us
