-- The nodes of a unit are those of the tokens that it derives.
use Rattle.std.proofs.Common.{◌≡◌, ◌+◌, List, [], ◌∷◌, Option, sum_by, arith}
use Rattle.std.proofs.lemmas.List.Sums.{sum_by_push, sum_by-cons}
use Rattle.ada_syntax.specs.Tree.{Expr}
use Rattle.ada_syntax.specs.TreeView.{exprs_of}
use Rattle.ada_syntax.specs.Nodes.{expr_nodes, exprs_nodes, with_nodes, one_if_present, body_nodes, package_item_nodes, body_item_nodes, item_nodes, unit_nodes, generic_nodes}
use Rattle.ada_syntax.specs.declared.name.Identifier.{Identifier}
use Rattle.ada_syntax.specs.declared.unit.SubprogramBody.{SubprogramBody}
use Rattle.ada_syntax.specs.declared.unit.PackageItem.{PackageItem}
use Rattle.ada_syntax.specs.declared.unit.BodyItem.{BodyItem}
use Rattle.ada_syntax.specs.declared.unit.Formal.{Formal}
use Rattle.ada_syntax.specs.declared.unit.LibraryItem.{LibraryItem}
use Rattle.ada_syntax.specs.declared.unit.WithClause.{WithClause}
use Rattle.ada_syntax.specs.declared.unit.Unit.{Unit as LibraryUnit}
use Rattle.expression_parser.specs.declared.extent.Extent.{Extent}
use Rattle.expression_parser.specs.Reading.{Tokens}
use Rattle.declaration_parser.specs.NodeTokens.{node_tokens}
use Rattle.declaration_parser.proofs.ExpressionNodes.{exprs_nodes_of}
use Rattle.declaration_parser.proofs.NodeLaws.{identifiers_nodes_of, specification_nodes_of, declaration_nodes_of, declarations_nodes_of, formals_nodes_of}
use Rattle.ada_parser.proofs.StatementNodes.{word_nodes, named_nodes, handled_nodes_of}
use Rattle.ada_parser.specs.Grammar.{IsWith, a_with, AreWiths, no_withs, more_withs, IsEndName, no_end_name, an_end_name, IsEnd, an_end, IsBody, a_body, IsPackageItem, a_declaration, a_specification, ArePackageItems, no_package_items, more_package_items, IsBodyItem, declared_in_body, a_body_in_body, AreBodyItems, no_body_items, more_body_items, HasActuals, no_actuals, some_actuals, IsPackageRest, a_package_rest, IsItem, a_generic, a_package, a_package_body, an_instance, a_subprogram, IsUnit, a_unit, AreUnits, one_unit, more_units}

exprs_are : (es : List Expr) → exprs_nodes (exprs_of es) ≡ sum_by expr_nodes es
exprs_are [] = omega arith
exprs_are (e ∷ es) = omega (arith, exprs_are es, sum_by-cons expr_nodes e es)

with_nodes_of : {w : WithClause} {ts rest : Tokens} → IsWith w ts rest → node_tokens ts ≡ with_nodes w + node_tokens rest
with_nodes_of (a_with v l w) = omega (arith, word_nodes v, identifiers_nodes_of l, word_nodes w)

withs_nodes_of : {ws : List WithClause} {ts rest : Tokens} → AreWiths ws ts rest → node_tokens ts ≡ sum_by with_nodes ws + node_tokens rest
withs_nodes_of no_withs = omega arith
withs_nodes_of (more_withs {w = w} {ws = ws} l d) = omega (arith, withs_nodes_of l, with_nodes_of d, sum_by_push with_nodes ws w)

end_name_nodes_of : {n : Option Identifier} {ts rest : Tokens} → IsEndName n ts rest → node_tokens ts ≡ one_if_present n + node_tokens rest
end_name_nodes_of no_end_name = omega arith
end_name_nodes_of (an_end_name i) = omega (arith, named_nodes i)

end_nodes_of : {n : Option Identifier} {ts rest : Tokens} → IsEnd n ts rest → node_tokens ts ≡ 1 + one_if_present n + node_tokens rest
end_nodes_of (an_end a n b) = omega (arith, word_nodes a, end_name_nodes_of n, word_nodes b)

module _ (x : Extent) where
  body_nodes_of : {b : SubprogramBody} {ts rest : Tokens} → IsBody x b ts rest → node_tokens ts ≡ body_nodes b + node_tokens rest
  body_nodes_of (a_body p w d v h e) = omega (arith, specification_nodes_of x p, word_nodes w, declarations_nodes_of x d, word_nodes v, handled_nodes_of x h, end_nodes_of e)

  package_item_nodes_of : {i : PackageItem} {ts rest : Tokens} → IsPackageItem x i ts rest → node_tokens ts ≡ package_item_nodes i + node_tokens rest
  package_item_nodes_of (a_declaration d) = declaration_nodes_of x d
  package_item_nodes_of (a_specification p w) = omega (arith, specification_nodes_of x p, word_nodes w)

  package_items_nodes_of : {is : List PackageItem} {ts rest : Tokens} → ArePackageItems x is ts rest → node_tokens ts ≡ sum_by package_item_nodes is + node_tokens rest
  package_items_nodes_of no_package_items = omega arith
  package_items_nodes_of (more_package_items {i = i} {is = is} l d) = omega (arith, package_items_nodes_of l, package_item_nodes_of d, sum_by_push package_item_nodes is i)

  body_item_nodes_of : {i : BodyItem} {ts rest : Tokens} → IsBodyItem x i ts rest → node_tokens ts ≡ body_item_nodes i + node_tokens rest
  body_item_nodes_of (declared_in_body d) = package_item_nodes_of d
  body_item_nodes_of (a_body_in_body b) = body_nodes_of b

  body_items_nodes_of : {is : List BodyItem} {ts rest : Tokens} → AreBodyItems x is ts rest → node_tokens ts ≡ sum_by body_item_nodes is + node_tokens rest
  body_items_nodes_of no_body_items = omega arith
  body_items_nodes_of (more_body_items {i = i} {is = is} l d) = omega (arith, body_items_nodes_of l, body_item_nodes_of d, sum_by_push body_item_nodes is i)

  actuals_nodes_of : {es : List Expr} {ts rest : Tokens} → HasActuals x es ts rest → node_tokens ts ≡ sum_by expr_nodes es + node_tokens rest
  actuals_nodes_of no_actuals = omega arith
  actuals_nodes_of (some_actuals {es = es} v l w) = omega (arith, word_nodes v, exprs_nodes_of x l, word_nodes w, exprs_are es)

  -- GENERIC and the formals stand before
  package_nodes_of : {fs : Option (List Formal)} {l : LibraryItem} {ts rest : Tokens} → IsPackageRest x fs l ts rest → node_tokens ts + generic_nodes fs + 1 ≡ item_nodes l + node_tokens rest
  package_nodes_of (a_package_rest n w l e) = omega (arith, named_nodes n, word_nodes w, package_items_nodes_of l, end_nodes_of e)

  item_nodes_of : {l : LibraryItem} {ts rest : Tokens} → IsItem x l ts rest → node_tokens ts ≡ item_nodes l + node_tokens rest
  item_nodes_of (a_generic o w l p d) = omega (arith, word_nodes w, formals_nodes_of x l, word_nodes p, package_nodes_of d)
  item_nodes_of (a_package o w d) = omega (arith, word_nodes w, package_nodes_of d)
  item_nodes_of (a_package_body o p b n w l e) = omega (arith, word_nodes p, word_nodes b, named_nodes n, word_nodes w, body_items_nodes_of l, end_nodes_of e)
  item_nodes_of (an_instance o g p n w k j l v) = omega (arith, word_nodes p, named_nodes n, word_nodes w, word_nodes k, named_nodes j, actuals_nodes_of l, word_nodes v)
  item_nodes_of (a_subprogram d) = body_nodes_of d

  unit_nodes_of : {u : LibraryUnit} {ts rest : Tokens} → IsUnit x u ts rest → node_tokens ts ≡ unit_nodes u + node_tokens rest
  unit_nodes_of (a_unit l d) = omega (arith, withs_nodes_of l, item_nodes_of d)

  pub units_nodes_of : {units : List LibraryUnit} {ts rest : Tokens} → AreUnits x units ts rest → node_tokens ts ≡ sum_by unit_nodes units + node_tokens rest
  units_nodes_of (one_unit {u = u} d) = omega (arith, unit_nodes_of d, sum_by-cons unit_nodes u [])
  units_nodes_of (more_units {u = u} {units = units} o l d) = omega (arith, units_nodes_of l, unit_nodes_of d, sum_by_push unit_nodes units u)
