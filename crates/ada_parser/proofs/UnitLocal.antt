-- The reading of library units depends on the tokens up to its place alone.
use Rattle.std.proofs.Common.{ℕ, suc, Bool, true, false, cond, List, [], ◌∷◌, ◌++◌, Option, Some, None}
use Rattle.cov_base.specs.declared.position.Pos.{Pos}
use Rattle.ada_lexer.specs.declared.token.Token.{Token}
use Rattle.ada_syntax.specs.declared.name.Identifier.{Identifier}
use Rattle.ada_syntax.specs.declared.unit.Specification.{Specification}
use Rattle.ada_syntax.specs.declared.unit.PackageItem.TheVariants as package_item
use Rattle.ada_syntax.specs.declared.unit.BodyItem.TheVariants as body_item
use Rattle.ada_syntax.specs.declared.unit.Formal.{Formal}
use Rattle.ada_syntax.specs.declared.unit.LibraryItem.TheVariants as item
use Rattle.ada_syntax.specs.declared.unit.WithClause.{WithClause}
use Rattle.expression_parser.specs.declared.symbol.Symbol.{Symbol}
use Rattle.expression_parser.specs.declared.symbol.Symbol.TheVariants as symbol
use Rattle.expression_parser.specs.declared.extent.Extent.{Extent}
use Rattle.expression_parser.specs.declared.extent.Extent.TheVariants.{Subprograms, Generics}
use Rattle.expression_parser.specs.Symbols.{identifier_of}
use Rattle.expression_parser.specs.Extents.{opens}
use Rattle.expression_parser.specs.Reading.{Reader, Refuse, Leave, Look, got, ◌>>=◌, expect, skip, repeat}
use Rattle.expression_parser.specs.ExpressionReading as expressions
use Rattle.expression_parser.specs.Depth.{at_exprs}
use Rattle.expression_parser.proofs.Agree.{Local, LocalTurn, got_local, on_local, bind_local, expect_local, skip_local, provided_local, repeat_local}
use Rattle.expression_parser.proofs.ExpressionLocal.{exprs_local, expr_local, then_got, then_closed}
use Rattle.declaration_parser.specs.Identifiers.{identifiers_by}
use Rattle.declaration_parser.specs.DeclarationReading.{specification_by, begins_declaration, declaration_by, declarations_by}
use Rattle.declaration_parser.specs.FormalReading.{formals_by}
use Rattle.declaration_parser.proofs.IdentifierLaws.{identifiers_local}
use Rattle.declaration_parser.proofs.DeclarationLocal.{specification_local, declaration_local, declarations_local}
use Rattle.declaration_parser.proofs.FormalLaws.{formals_local}
use Rattle.ada_parser.specs.StatementReading.{pushed}
use Rattle.ada_parser.specs.StatementDepth.{at_handled}
use Rattle.ada_parser.proofs.StatementLocal.{at_handled_local, list_local}
use Rattle.ada_parser.specs.Grammar.{bodied, packaged, package_bodied, instanced}
use Rattle.ada_parser.specs.UnitReading as read

with_local : (m : ℕ) → Local (read.with_by m)
with_local m = then_closed (identifiers_by m) symbol.Semicolon (λ is. record { names = is }) (identifiers_local m)

withs_local : (m : ℕ) → Local (read.withs_by m)
withs_local m = list_local symbol.With (read.with_by m) pushed (suc m) [] (with_local m)

end_name_turn_local : (found : Symbol) (t : Token) → LocalTurn (read.end_name_turn found t)
end_name_turn_local symbol.Identifier t = got_local (Some (identifier_of t))
end_name_turn_local _ t = tt

end_local : Local read.end_by
end_local = skip_local symbol.End (read.end_name_by >>= λ n. skip symbol.Semicolon (got n)) (then_closed read.end_name_by symbol.Semicolon (λ n. n) (on_local (Leave None) read.end_name_turn end_name_turn_local))

-- one of two readers, and a turn of a loop
either_local : {A : Type 0} (b : Bool) (r s : Reader A) → Local r → Local s → LocalTurn (cond b (Look r) (Look s))
either_local true r s l k = l
either_local false r s l k = k

items_turn_local : {A : Type 0} (b : Bool) (r : Reader A) (is : List A) → Local r → LocalTurn (cond b (Look (r >>= λ i. got (is ++ i ∷ []))) (Leave is))
items_turn_local true r is l = then_got r (λ i. is ++ i ∷ []) l
items_turn_local false r is l = tt

module _ (x : Extent) (m : ℕ) where
  body_rest_local : (s : Specification) → Local (read.body_rest x m s)
  body_rest_local s = bind_local (declarations_by x m) _ (declarations_local x m)
      (λ ds. skip_local symbol.Begin (at_handled x m >>= λ h. read.end_by >>= λ n. got (bodied s ds h n))
      (bind_local (at_handled x m) _ (at_handled_local x m) (λ h. then_got read.end_by (λ n. bodied s ds h n) end_local)))

  body_local : Local (read.body_by x m)
  body_local = bind_local (specification_by x m) _ (specification_local x m) (λ s. skip_local symbol.Is (read.body_rest x m s) (body_rest_local s))

  package_item_local : Local (read.package_item_by x m)
  package_item_local = on_local Refuse (read.package_item_turn x m)
      (λ found t. either_local (begins_declaration found) (read.declared_item_by x m) (read.subprogram_item_by x m)
      (then_got (declaration_by x m) (λ d. package_item.Declaration d) (declaration_local x m))
      (then_closed (specification_by x m) symbol.Semicolon (λ s. package_item.Subprogram s) (specification_local x m)))

  package_items_local : Local (read.package_items_by x m)
  package_items_local = repeat_local (read.package_items_turn x m) (λ found t is. items_turn_local (read.begins_item found) (read.package_item_by x m) is package_item_local) (suc m) []

  specified_turn_local : (s : Specification) (found : Symbol) (t : Token) → LocalTurn (read.specified_turn x m s found t)
  specified_turn_local s symbol.Semicolon t = got_local (body_item.Declared (package_item.Subprogram s))
  specified_turn_local s symbol.Is t = then_got (read.body_rest x m s) (λ b. body_item.Body b) (body_rest_local s)
  specified_turn_local s _ t = tt

  body_item_local : Local (read.body_item_by x m)
  body_item_local = on_local Refuse (read.body_item_turn x m)
      (λ found t. either_local (begins_declaration found) (read.declared_in_body_by x m) (read.specified_by x m)
      (then_got (declaration_by x m) (λ d. body_item.Declared (package_item.Declaration d)) (declaration_local x m))
      (bind_local (specification_by x m) (read.specified_rest x m) (specification_local x m) (λ s. on_local Refuse (read.specified_turn x m s) (specified_turn_local s))))

  body_items_local : Local (read.body_items_by x m)
  body_items_local = repeat_local (read.body_items_turn x m) (λ found t is. items_turn_local (read.begins_item found) (read.body_item_by x m) is body_item_local) (suc m) []

  at_exprs_local : Local (at_exprs x m)
  at_exprs_local = exprs_local x (expressions.expr x (suc m)) (suc (suc m)) (expr_local x (suc m))

  actuals_turn_local : (found : Symbol) (t : Token) → LocalTurn (read.actuals_turn x m found t)
  actuals_turn_local symbol.LeftParenthesis t = then_closed (at_exprs x m) symbol.RightParenthesis (λ es. es) at_exprs_local
  actuals_turn_local _ t = tt

  instance_local : (i : Identifier) → Local (read.instance_rest x m i)
  instance_local i = bind_local (expect symbol.Identifier) _ (expect_local symbol.Identifier)
      (λ u. then_closed (read.actuals_by x m) symbol.Semicolon (λ es. instanced i (identifier_of u) es) (on_local (Leave []) (read.actuals_turn x m) actuals_turn_local))

  package_rest_local : (fs : Option (List Formal)) (i : Identifier) → Local (read.package_rest x m fs i)
  package_rest_local fs i = bind_local (read.package_items_by x m) _ package_items_local (λ is. then_got read.end_by (λ n. packaged fs i is n) end_local)

  new_turn_local : (i : Identifier) (found : Symbol) (t : Token) → LocalTurn (read.new_turn x m i found t)
  new_turn_local i symbol.New t = provided_local (opens x Generics) _ (instance_local i)
  new_turn_local i _ t = package_rest_local None i

  package_body_local : Local (read.package_body_by x m)
  package_body_local = bind_local (expect symbol.Identifier) _ (expect_local symbol.Identifier)
      (λ u. skip_local symbol.Is (read.body_items_by x m >>= λ is. read.end_by >>= λ n. got (package_bodied (identifier_of u) is n))
      (bind_local (read.body_items_by x m) _ body_items_local (λ is. then_got read.end_by (λ n. package_bodied (identifier_of u) is n) end_local)))

  package_turn_local : (found : Symbol) (t : Token) → LocalTurn (read.package_turn x m found t)
  package_turn_local symbol.Body t = package_body_local
  package_turn_local _ t = bind_local (expect symbol.Identifier) _ (expect_local symbol.Identifier)
      (λ u. skip_local symbol.Is (read.package_or_instance x m (identifier_of u)) (on_local Refuse (read.new_turn x m (identifier_of u)) (new_turn_local (identifier_of u))))

  generic_local : Local (read.generic_by x m)
  generic_local = bind_local (formals_by x m) _ (formals_local x m)
      (λ fs. skip_local symbol.Package (expect symbol.Identifier >>= λ u. skip symbol.Is (read.package_rest x m (Some fs) (identifier_of u)))
      (bind_local (expect symbol.Identifier) _ (expect_local symbol.Identifier) (λ u. skip_local symbol.Is (read.package_rest x m (Some fs) (identifier_of u)) (package_rest_local (Some fs) (identifier_of u)))))

  item_turn_local : (found : Symbol) (t : Token) → LocalTurn (read.item_turn x m found t)
  item_turn_local symbol.Generic t = provided_local (opens x Generics) _ generic_local
  item_turn_local symbol.Package t = provided_local (opens x Subprograms) _ (on_local Refuse (read.package_turn x m) package_turn_local)
  item_turn_local _ t = then_got (read.body_by x m) (λ b. item.Subprogram b) body_local

  pub item_local : Local (read.item_by x m)
  item_local = on_local Refuse (read.item_turn x m) item_turn_local

  unit_item_local : (p : Pos) (ws : List WithClause) → Local (read.unit_item x m p ws)
  unit_item_local p ws = on_local Refuse (λ found u. Look (read.item_by x m >>= λ l. got (record { pos = p; withs = ws; item_pos = u.pos; item = l }))) (λ found u. then_got (read.item_by x m) _ item_local)

  unit_at_local : (p : Pos) → Local (read.unit_at x m p)
  unit_at_local p = bind_local (read.withs_by m) (read.unit_item x m p) (withs_local m) (unit_item_local p)

  unit_local : Local (read.unit_by x m)
  unit_local = on_local Refuse (λ found t. Look (read.unit_at x m t.pos)) (λ found t. unit_at_local t.pos)

  pub file_local : Local (read.file_by x m)
  file_local = bind_local (read.unit_by x m) (λ u. repeat (read.units_turn x m) (suc m) (u ∷ [])) unit_local
      (λ u. repeat_local (read.units_turn x m) (λ found t units. provided_local (opens x Subprograms) (Look (read.unit_by x m >>= λ v. got (units ++ v ∷ []))) (then_got (read.unit_by x m) (λ v. units ++ v ∷ []) unit_local)) (suc m) (u ∷ []))
